-- The entry that brings a part up to a mutation.
-- ClickHouse documentation, ALTER, "Mutations": a mutation applies to the parts that were there before it. What its entry
-- records is this program's own.
use Rattle.std.specs.Prelude.{◌≡◌, ℕ, List}
use Rattle.rmt_names.specs.Names.{Name}
use Rattle.rmt_entries.specs.declared.entry.Entry.{Entry}
use Rattle.rmt_entries.specs.declared.entry.Entry.TheVariants.{Mutate}
use Rattle.rmt_model.specs.Lawful.{IsMutate}

-- the entry mutates the part up to the mutation at a place, and meets its line of a lawful log
pub record IsMutateEntry (log : List Entry) (old : Name) (upto : ℕ) (e : Entry) : Type 0 where
  pub name : Name
  pub count : ℕ
  pub mcount : ℕ
  pub entry : e ≡ Mutate old name upto count mcount
  pub meets : IsMutate log old name upto count mcount
