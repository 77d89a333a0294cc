-- Parts of a schema, and their rows one part after the other.
-- ClickHouse documentation: MergeTree, "Data storage" (merges of sorted parts). That rows of equal keys are in the
-- order of the parts is this program's own.
use Rattle.std.specs.Prelude.{◌≡◌, true, List, [], ◌∷◌, ◌++◌}
use Rattle.std.specs.List.{All}
use Rattle.rmt_values.specs.declared.value.Value.{Value}
use Rattle.rmt_values.specs.Rows.{Shape, fits, in_key_order}
use Rattle.rmt_granules.specs.Granules.{PartView}
use Rattle.rmt_granules.specs.MadePart.{data_of}

-- the rows of parts, one after the other
abbrev pub rows_joined : List PartView → List (List Value)
rows_joined [] = []
rows_joined (part ∷ parts) = part.rows ++ rows_joined parts

-- a part of a schema, whose rows fit it and stand in the order of its key
pub record IsDataOf (shape : Shape) (part : PartView) : Type 0 where
  pub is : part ≡ data_of shape part.rows
  pub fit : All (λ row. fits shape.columns row ≡ true) part.rows
  pub ordered : in_key_order shape part.rows ≡ part.rows

-- each is a part of the schema
abbrev pub AreDataOf : Shape → List PartView → Type 0
AreDataOf shape [] = Unit {0}
AreDataOf shape (part ∷ parts) = IsDataOf shape part × AreDataOf shape parts
