-- What mutations and drops come to. No public clause but those of `mutate` and `drop_partition` cites this module.
use Rattle.std.specs.Prelude.{◌≡◌, ℕ, List}
use Rattle.std.specs.declared.option.Option.{Option}
use Rattle.std.specs.declared.option.Option.TheVariants.{Some}
use Rattle.std.specs.declared.result.Result.{Result}
use Rattle.std.specs.declared.result.Result.TheVariants.{Ok, Err}
use Rattle.rmt_values.specs.declared.checked_mutation.CheckedMutation.{CheckedMutation}
use Rattle.rmt_entries.specs.declared.entry.Entry.{Entry}
use Rattle.rmt_entries.specs.declared.entry.Entry.TheVariants.{DropRange}
use Rattle.rmt_model.specs.Lawful.{entry_at}
use Rattle.rmt_events.specs.Clusters.{Cluster}
use Rattle.rmt_reply.specs.declared.refusal.Refusal.{Refusal}
use Rattle.rmt_statement_model.specs.TableStates.{TableState, learned}
use Rattle.rmt_statement_model.specs.Mutations.{Mutates, LacksMutation}
use Rattle.rmt_statement_model.specs.Drops.{LacksDrop}
use Rattle.rmt_statement_model.specs.ActOutcomes.{DropsSome}
use Rattle.rmt_statement_model.specs.Shows.{Shows, Leads}

-- what a mutation comes to, whatever state the cluster shows: its id, or a refusal
abbrev pub MutatesTo : Cluster → CheckedMutation → Result ℕ Refusal → Cluster → Type 0
MutatesTo s command (Ok id) u = (t : TableState) → Shows s t → Leads u (Mutates t command id)
MutatesTo s command (Err refusal) u = (t : TableState) → Shows s t → Leads u (LacksMutation t refusal)

-- what a drop comes to, whatever state the cluster shows: the number below which blocks are dropped, or a refusal
abbrev pub DropsTo : Cluster → ℕ → Option ℕ → Result ℕ Refusal → Cluster → Type 0
DropsTo s r p (Ok below) u = (t : TableState) → Shows s t → Leads u (DropsSome t r p below)
DropsTo s r p (Err refusal) u = (t : TableState) → Shows s t → Leads u (LacksDrop t p refusal)

-- ---- what only private functions cite

-- a drop of this number is at the place
abbrev pub IsNumberAt : List Entry → ℕ → ℕ → Type 0
IsNumberAt log place n = (p : Option ℕ) × (entry_at log place ≡ Some (DropRange p n))

-- a drop is at the place
abbrev pub HasDropAt : List Entry → ℕ → Type 0
HasDropAt log place = (n : ℕ) × IsNumberAt log place n

-- the table's log has a drop there
abbrev pub HasDrop : Cluster → ℕ → Type 0
HasDrop s place = HasDropAt s.table.log place

-- the replica has done the drop at the place, which is of this number
pub record DoesDrop (s : Cluster) (r place n : ℕ) (u : Cluster) : Type 0 where
  pub number : IsNumberAt s.table.log place n
  pub does : (t : TableState) → Shows s t → Shows u (record t { known = learned t.known r place })
