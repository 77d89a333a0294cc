-- The active parts of a replica, as its changes make them.
-- ClickHouse documentation, MergeTree, "Data storage": parts are active until others replace them; ALTER, "DROP PARTITION".
use Rattle.std.specs.Prelude.{ℕ, ◌&&◌, not, nat_lt, cond, filter, map, List, [], ◌∷◌}
use Rattle.std.specs.declared.option.Option.{Option}
use Rattle.rmt_names.specs.Names.{Name, Covers, covers}
use Rattle.rmt_model.specs.Words.{Has}
use Rattle.rmt_model.specs.Live.{before, in_drop}
use Rattle.rmt_part.specs.Lineages.{PartValue}
use Rattle.rmt_partset.specs.Snapshots.{NamedData}

-- the active parts, in order of partition and number, and how many more there is room for
pub record ActiveParts : Type 0 where
  pub parts : List PartValue
  pub room : ℕ

-- the names of the parts
abbrev pub part_names : List PartValue → List Name
part_names parts = map (λ p. p.name) parts

-- what a query reads of the parts: their names and their data
abbrev pub shown : List PartValue → List NamedData
shown parts = map (λ p. record { name = p.name; rows = p.body }) parts

-- a change of the active parts: a part in place of those that it covers, or a drop of the parts of a partition up to a
-- number, where they were made before a place of the log
pub data Change : Type 0 where
  Replace : PartValue → Change
  Drop : Option ℕ → ℕ → ℕ → Change

-- the part at its place among parts in order
abbrev pub put_in : PartValue → List PartValue → List PartValue
put_in new [] = new ∷ []
put_in new (p ∷ rest) = cond (before p.name new.name) (p ∷ put_in new rest) (new ∷ p ∷ rest)

-- the active parts after one more change
abbrev pub after : Change → List PartValue → List PartValue
after (Replace new) parts = put_in new (filter (λ p. not (covers new.name p.name)) parts)
after (Drop partition number place) parts = filter (λ p. not (in_drop partition number p.name && nat_lt p.made.place place)) parts

-- the active parts that changes make, the newest change first
abbrev pub active : List Change → List PartValue
active [] = []
active (change ∷ changes) = after change (active changes)

-- this active part covers the name
pub record IsCovering (parts : List PartValue) (a : Name) (part : PartValue) : Type 0 where
  pub is_in : Has parts part
  pub covers : Covers part.name a
