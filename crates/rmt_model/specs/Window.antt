-- The window of block ids.
use Rattle.std.specs.Prelude.{ℕ, not, ◌&&◌, nat_eq, nat_lt, List, [], ◌∷◌, take, filter}
use Rattle.rmt_names.specs.Names.{Name, rank, block_name}
use Rattle.rmt_entries.specs.declared.entry.Entry.{Entry}
use Rattle.rmt_entries.specs.declared.entry.Entry.TheVariants.{Get, Merge, Mutate, Mutation, DropRange}

-- a kept block: its digest and the part it got
pub record Kept : Type 0 where
  pub digest : List ℕ
  pub part : Name

-- the kept blocks, the newest first, at most w of them
abbrev pub kept : ℕ → List Entry → List Kept
kept w [] = []
kept w (Get p n digest source need ∷ log) = take w (record { digest = digest; part = block_name p n } ∷ kept w log)
kept w (Merge new sources count ∷ log) = kept w log
kept w (Mutate old new upto count mcount ∷ log) = kept w log
kept w (Mutation id numbers command ∷ log) = kept w log
kept w (DropRange p n ∷ log) =
    filter (λ k. not (nat_eq (rank k.part.partition) (rank p) && nat_lt k.part.min n)) (kept w log)
