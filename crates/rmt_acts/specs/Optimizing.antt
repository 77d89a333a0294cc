-- What one partition of an OPTIMIZE comes to. No public clause cites this module.
use Rattle.std.specs.Prelude.{◌≡◌, ◌⊎◌, ℕ, List}
use Rattle.std.specs.declared.option.Option.{Option}
use Rattle.std.specs.declared.option.Option.TheVariants.{Some}
use Rattle.rmt_names.specs.Names.{Name}
use Rattle.rmt_entries.specs.declared.entry.Entry.{Entry}
use Rattle.rmt_entries.specs.declared.entry.Entry.TheVariants.{Merge}
use Rattle.rmt_model.specs.Lawful.{entry_at}
use Rattle.rmt_events.specs.Clusters.{Cluster}
use Rattle.rmt_events.specs.declared.step_refused.StepRefused.{StepRefused}
use Rattle.rmt_events.specs.declared.step_refused.StepRefused.TheVariants as rf
use Rattle.rmt_reply.specs.declared.refusal.Refusal.{Refusal}
use Rattle.rmt_reply.specs.declared.refusal.Refusal.TheVariants.{Unmergeable, LimitReached}
use Rattle.rmt_statement_model.specs.TableStates.{TableState, synced}
use Rattle.rmt_statement_model.specs.Optimizes.{Optimizes, CantOptimize}
use Rattle.rmt_statement_model.specs.Shows.{Shows, Leads}
use Rattle.rmt_acts.specs.StatementEvents.{MergesOnce}
use Rattle.rmt_live_names.specs.declared.optimized.Optimized.{Optimized}
use Rattle.rmt_live_names.specs.declared.optimized.Optimized.TheVariants as optimized

-- the partition has one part, and the replica is up to date
pub record OptimizesOne (t : TableState) (r : ℕ) (p : Option ℕ) (name : Name) (u : TableState) : Type 0 where
  pub mid : TableState
  pub optimizes : Optimizes t p name mid
  pub syncs : u ≡ synced r mid

-- what a partition comes to at a replica, whatever state the cluster shows
abbrev pub OptimizesTo : Cluster → ℕ → Option ℕ → Optimized → Cluster → Type 0
OptimizesTo s r p (optimized.Name name) u = (t : TableState) → Shows s t → Leads u (OptimizesOne t r p name)
OptimizesTo s r p (optimized.Refused why) u = (t : TableState) → Shows s t → Leads u (λ v. CantOptimize t p why × (v ≡ t))

-- some parts are merged, or none
abbrev pub MergesSome : Cluster → ℕ → Cluster → Type 0
MergesSome s r u = (u ≡ s) ⊎ MergesOnce r s u

-- why names weren't merged, as a statement's reply says it
abbrev pub IsToldAs : StepRefused → Refusal → Type 0
IsToldAs why (Unmergeable left right) = (why ≡ rf.Differ left right) ⊎ ((part : Name) × (why ≡ rf.InQuorum left right part))
IsToldAs why (LimitReached limit value) = why ≡ rf.LimitReached limit value
IsToldAs why refusal = ⊥

-- the entry at the place is a merge
abbrev pub IsMergeAt : List Entry → ℕ → Type 0
IsMergeAt log i = (a : Name) × (sources : List Name) × (count : ℕ) × (entry_at log i ≡ Some (Merge a sources count))
