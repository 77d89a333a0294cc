-- The kept blocks, each with the number of its place in the order of acceptance.
-- ClickHouse documentation, Data Replication: the checksums of the blocks inserted last. The numbers of their order are this
-- program's own.
use Rattle.std.specs.Prelude.{◌≡◌, ℕ, ◌<◌, ◌&&◌, Bool, true, false, cond, not, nat_eq, nat_lt, List, [], ◌∷◌, take, filter, count_by}
use Rattle.std.specs.Str.{bytes_eq}
use Rattle.std.specs.declared.option.Option.{Option}
use Rattle.std.specs.declared.option.Option.TheVariants.{Some, None}
use Rattle.rmt_names.specs.Names.{rank, block_name}
use Rattle.rmt_entries.specs.declared.entry.Entry.{Entry}
use Rattle.rmt_entries.specs.declared.entry.Entry.TheVariants.{Get, Merge, Mutate, Mutation, DropRange}
use Rattle.rmt_model.specs.Words.{Each, Pairwise}
use Rattle.rmt_model.specs.Window.{Kept}
use Rattle.rmt_block.specs.Blocks.{IsId}

-- the entry gets a block
abbrev pub is_get : Entry → Bool
is_get (Get p n digest source need) = true
is_get (Merge new sources count) = false
is_get (Mutate old new upto count mcount) = false
is_get (Mutation id numbers command) = false
is_get (DropRange p n) = false

-- how many blocks a log has
abbrev pub get_count : List Entry → ℕ
get_count log = count_by is_get log

-- a kept block and its number in the order
pub record Placed : Type 0 where
  pub number : ℕ
  pub kept : Kept

-- a kept block that a drop leaves
abbrev pub outlives : Option ℕ → ℕ → Placed → Bool
outlives p n k = not (nat_eq (rank k.kept.part.partition) (rank p) && nat_lt k.kept.part.min n)

-- the kept blocks with their numbers, the newest first, at most w of them
abbrev pub in_order : ℕ → List Entry → List Placed
in_order w [] = []
in_order w (Get p n digest source need ∷ log) =
    take w (record { number = get_count log; kept = record { digest = digest; part = block_name p n } } ∷ in_order w log)
in_order w (Merge new sources count ∷ log) = in_order w log
in_order w (Mutate old new upto count mcount ∷ log) = in_order w log
in_order w (Mutation id numbers command ∷ log) = in_order w log
in_order w (DropRange p n ∷ log) = filter (outlives p n) (in_order w log)

-- the id of a kept block
abbrev pub has_id : Option ℕ → List ℕ → Placed → Bool
has_id p digest k = nat_eq (rank p) (rank k.kept.part.partition) && bytes_eq digest k.kept.digest

-- the kept block with this id
abbrev pub with_id : Option ℕ → List ℕ → List Placed → Option Placed
with_id p digest [] = None
with_id p digest (k ∷ ks) = cond (has_id p digest k) (Some k) (with_id p digest ks)

-- the kept block with this number
abbrev pub with_number : ℕ → List Placed → Option Placed
with_number i [] = None
with_number i (k ∷ ks) = cond (nat_eq i k.number) (Some k) (with_number i ks)

-- two kept blocks have neither one id nor one number, and the newer one has the greater number
pub record Differ (newer older : Placed) : Type 0 where
  pub number : older.number < newer.number
  pub id : has_id older.kept.part.partition older.kept.digest newer ≡ false

-- the kept block's id is one that a block may have
abbrev pub IsIdZnode : Placed → Type 0
IsIdZnode k = IsId (record { partition = k.kept.part.partition; digest = k.kept.digest })

-- the kept blocks differ, their numbers are below the count of the log's blocks, and their ids can be nodes
pub record AreKept (w : ℕ) (log : List Entry) : Type 0 where
  pub differ : Pairwise Differ (in_order w log)
  pub below : Each (λ k. k.number < get_count log) (in_order w log)
  pub ids : Each IsIdZnode (in_order w log)
