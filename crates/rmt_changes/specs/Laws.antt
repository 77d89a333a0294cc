-- What mutations leave of a row.
-- ClickHouse documentation: ALTER TABLE .. UPDATE (columns of the sorting or the partition key aren't updated).
use Rattle.std.specs.Prelude.{◌≡◌, ℕ, Bool, true, List}
use Rattle.std.specs.declared.option.Option.{Option}
use Rattle.std.specs.declared.option.Option.TheVariants.{Some}
use Rattle.rmt_values.specs.Rows.{Shape, fits, key_of}
use Rattle.rmt_values.specs.Commands.{CommandFits}
use Rattle.rmt_entries.specs.declared.entry.Entry.{Entry}
use Rattle.rmt_entries.specs.declared.entry.Entry.TheVariants.{Get, Merge, Mutate, Mutation, DropRange}
use Rattle.rmt_model.specs.Words.{Each}
use Rattle.rmt_model.specs.Content.{Row, changed}

-- the entry's command, where it has one, is of the schema
abbrev pub EntryFits : Shape → Entry → Type 0
EntryFits shape (Mutation id numbers command) = CommandFits shape command
EntryFits shape (Get p n digest source need) = Unit {0}
EntryFits shape (Merge new sources count) = Unit {0}
EntryFits shape (Mutate old new upto count mcount) = Unit {0}
EntryFits shape (DropRange p n) = Unit {0}

-- a row has its key still after entries whose commands are of the schema
abbrev pub KeysStay : Type 0
KeysStay =
    (shape : Shape) (entries : List Entry) (p : Option ℕ) (passes : ℕ → Bool) (row new : Row)
    → Each (EntryFits shape) entries → changed entries p passes row ≡ Some new
    → key_of shape.key new ≡ key_of shape.key row

-- a row that fits the schema does so still after them
abbrev pub RowsStayFit : Type 0
RowsStayFit =
    (shape : Shape) (entries : List Entry) (p : Option ℕ) (passes : ℕ → Bool) (row new : Row)
    → Each (EntryFits shape) entries → fits shape.columns row ≡ true → changed entries p passes row ≡ Some new
    → fits shape.columns new ≡ true
