-- The part that rows make.
-- ClickHouse documentation: A practical introduction to primary indexes in ClickHouse.
use Rattle.std.specs.Prelude.{ℕ, List}
use Rattle.rmt_values.specs.declared.value.Value.{Value}
use Rattle.rmt_values.specs.Rows.{Shape}
use Rattle.rmt_columns.specs.RowsByColumn.{RowsView, kinds_in}
use Rattle.rmt_granules.specs.Granules.{PartView, marks_of}

-- the part of these rows
abbrev pub data_of : Shape → List (List Value) → PartView
data_of shape rows = record {
  rows = rows;
  marks = marks_of shape.granularity shape.key rows;
  key = shape.key;
  granularity = shape.granularity;
  kinds = kinds_in shape.columns;
}

-- ---- what only private functions cite

-- the part whose rows, marks and settings these are
abbrev pub stored_part : RowsView → List (List Value) → List ℕ → ℕ → PartView
stored_part held marks key n = record {
  rows = held.rows;
  marks = marks;
  key = key;
  granularity = n;
  kinds = held.kinds;
}
