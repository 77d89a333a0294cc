-- What the window's own steps say of its entries.
-- No public clause cites this module.
use Rattle.std.specs.Prelude.{◌≡◌, ◌+◌, ℕ, Bool, not, ◌&&◌, cond, nat_eq, nat_lt, List}
use Rattle.std.specs.Option.{option_eq}
use Rattle.std.specs.Str.{bytes_eq}
use Rattle.std.specs.Map.{lookup}
use Rattle.std.specs.declared.option.Option.{Option}
use Rattle.std.specs.declared.option.Option.TheVariants.{None}
use Rattle.rmt_names.specs.Names.{Name, rank}
use Rattle.rmt_block.specs.declared.block_id.BlockId.{BlockId}
use Rattle.rmt_inserts.specs.declared.kept_block.KeptBlock.{KeptBlock}

-- a part that a drop leaves
abbrev pub spares : Option ℕ → ℕ → Name → Bool
spares p n part = not (nat_eq (rank part.partition) (rank p) && nat_lt part.min n)

-- how many of so many entries were let go, where at most this many are kept and one more came
abbrev pub gone_after : ℕ → ℕ → ℕ → ℕ
gone_after limit gone len = cond (nat_lt (limit + gone) len) (gone + 1) gone

-- two ids are the same
abbrev pub same_id : BlockId → BlockId → Bool
same_id a b = option_eq nat_eq a.partition b.partition && bytes_eq a.digest b.digest

-- no entry has the id
abbrev pub Excludes : BlockId → List (BlockId × KeptBlock) → Type 0
Excludes id es = lookup (same_id id) es ≡ None
