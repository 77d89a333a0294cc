-- Rows held by column after the sets of an UPDATE. No public clause cites this module.
use Rattle.std.specs.Prelude.{ℕ, List, [], get_or}
use Rattle.rmt_values.specs.declared.value.Value.{Value}
use Rattle.rmt_values.specs.declared.checked_right.CheckedRight.{CheckedRight}
use Rattle.rmt_values.specs.Commands.{updated_from}

-- row i after sets
abbrev pub row_with : List (ℕ × CheckedRight) → List (List Value) → ℕ → List Value
row_with sets rows i = updated_from 0 sets (get_or rows i []) (get_or rows i [])
