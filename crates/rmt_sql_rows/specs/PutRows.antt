-- Rows that are put into columns while they are read. No public clause cites this module.
use Rattle.std.specs.Prelude.{◌≡◌, ℕ, Bool, true, false, List, [], ◌∷◌, ◌++◌, length, Option, None, Some}
use Rattle.std.specs.Borrow.{Bor}
use Rattle.csv.specs.Reading.{default_config, strip_bom, source_of, Ready, reader_state, reader_config, reader_trim, is_flexible}
use Rattle.csv.specs.declared.parser.State.TheVariants as st
use Rattle.csv.specs.declared.reader.Trim.TheVariants as trim
use Rattle.csv.specs.declared.reader.Reader.{Reader}
use Rattle.rmt_values.specs.declared.value.Value.{Value}
use Rattle.rmt_columns.specs.RowsByColumn.{BegunView}

-- the values are those of a row that is begun where there are any, and it has all of them
abbrev pub PutsValues : Bool → Option (List Value) → BegunView → BegunView → Type 0
PutsValues true None old new = ⊥
PutsValues true (Some values) old new = (new ≡ record old { begun = values }) × (length values ≡ length old.kinds)
PutsValues false None old new = Unit {0}
PutsValues false (Some values) old new = ⊥

-- the row is put after the others where there is one
abbrev pub PutsRow : Bool → Option (List Value) → BegunView → BegunView → Type 0
PutsRow true None old new = ⊥
PutsRow true (Some row) old new = new ≡ record old { rows = old.rows ++ row ∷ [] }
PutsRow false None old new = Unit {0}
PutsRow false (Some row) old new = ⊥

-- a reader of this text that has read nothing, of fields as they are in records of any length
pub record IsAtStart (text : List ℕ) (reader : Reader (Bor (List ℕ))) : Type 0 where
  pub config : reader_config reader ≡ default_config
  pub source : source_of (λ (r : Bor (List ℕ)). Some r.now) reader ≡ Some (strip_bom text)
  pub state : reader_state reader ≡ st.StartRecord
  pub ready : Ready reader
  pub untrimmed : reader_trim reader ≡ trim.None
  pub flexible : is_flexible reader ≡ true
