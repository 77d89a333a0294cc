-- The active parts of a replica at one moment.
-- ClickHouse documentation, MergeTree, "Data storage": a query reads the parts that are active as it begins; their block
-- ranges don't overlap.
use Rattle.std.specs.Prelude.{List, [], ◌∷◌, ◌++◌, map}
use Rattle.rmt_values.specs.declared.value.Value.{Value}
use Rattle.rmt_names.specs.Names.{Name}
use Rattle.rmt_model.specs.Words.{Pairwise}
use Rattle.rmt_model.specs.Live.{Before}
use Rattle.rmt_granules.specs.Granules.{PartView}

-- a part's name and its data
pub record NamedData : Type 0 where
  pub name : Name
  pub rows : PartView

-- the names of the parts
abbrev pub names_in : List NamedData → List Name
names_in parts = map (λ p. p.name) parts

-- the data of the parts
abbrev pub data_in : List NamedData → List PartView
data_in parts = map (λ p. p.rows) parts

-- the rows of parts, one part after the other
abbrev pub all_rows : List PartView → List (List Value)
all_rows [] = []
all_rows (p ∷ ps) = p.rows ++ all_rows ps

-- the names rise by partition and number, and no two of them share a number
abbrev pub AreInOrder : List NamedData → Type 0
AreInOrder parts = Pairwise Before (names_in parts)
