-- Where rows lie. No public clause cites this module.
use Rattle.std.specs.Prelude.{List, [], get_or}
use Rattle.rmt_values.specs.declared.value.Value.{Value}
use Rattle.rmt_columns.specs.declared.row_ref.Lies.{Lies}
use Rattle.rmt_columns.specs.declared.row_ref.Lies.TheVariants.{Held, Own}

-- the row that lies there
abbrev pub row_of : Lies → List Value
row_of (Held rows i) = get_or rows.now.rows i []
row_of (Own row) = row
