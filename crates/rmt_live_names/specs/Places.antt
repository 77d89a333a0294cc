-- The place of a mutation in a log.
-- ClickHouse documentation, ALTER, "Mutations": a mutation has an id. That ids are counted is this program's own.
use Rattle.std.specs.Prelude.{◌≡◌, ℕ, List}
use Rattle.std.specs.declared.option.Option.{Option}
use Rattle.std.specs.declared.option.Option.TheVariants.{Some}
use Rattle.rmt_values.specs.declared.checked_mutation.CheckedMutation.{CheckedMutation}
use Rattle.rmt_entries.specs.declared.entry.Entry.{Entry}
use Rattle.rmt_entries.specs.declared.entry.Entry.TheVariants.{Mutation}
use Rattle.rmt_model.specs.Lawful.{entry_at}

-- the mutation of this id is at the place
abbrev pub IsPlaceOf : List Entry → ℕ → ℕ → Type 0
IsPlaceOf log id place = (numbers : List (Option ℕ × ℕ)) × (command : CheckedMutation) × (entry_at log place ≡ Some (Mutation id numbers command))
