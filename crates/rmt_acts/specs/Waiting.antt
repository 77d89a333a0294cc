-- What WAIT MUTATION comes to, part by part. No public clause but that of `wait_for` cites this module.
use Rattle.std.specs.Prelude.{◌≡◌, ◌⊎◌, ℕ, ◌+◌, Bool, false, ◌∷◌, MatchOption}
use Rattle.std.specs.declared.option.Option.{Option}
use Rattle.std.specs.declared.option.Option.TheVariants.{Some, None}
use Rattle.rmt_names.specs.Names.{Name}
use Rattle.rmt_entries.specs.declared.entry.Entry.TheVariants.{Mutate}
use Rattle.rmt_model.specs.Lawful.{Lawful}
use Rattle.rmt_model.specs.Choices.{last_pending}
use Rattle.rmt_model.specs.EntryLimits.{worker_limit}
use Rattle.rmt_events.specs.Clusters.{Cluster}
use Rattle.rmt_reply.specs.declared.refusal.Refusal.{Refusal}
use Rattle.rmt_reply.specs.declared.refusal.Refusal.TheVariants.{LimitReached}
use Rattle.rmt_statement_model.specs.TableStates.{TableState, synced}
use Rattle.rmt_statement_model.specs.LostSources.{LacksSource}
use Rattle.rmt_statement_model.specs.Waits.{WaitsFor, LacksEntries}
use Rattle.rmt_statement_model.specs.Shows.{Shows, Leads, IsUpToDate, ups}
use Rattle.rmt_acts.specs.StatementEvents.{MutatesOnce}

-- a wait is refused: the replica lacks a part, or an entry more would pass a limit
abbrev pub RefusesWait : (ℕ → Bool) → TableState → ℕ → ℕ → Refusal → TableState → Type 0
RefusesWait up t r id refusal u = LacksSource up t r refusal u ⊎ LacksEntries false t r id refusal u

-- what waiting for a mutation comes to, whatever state the cluster shows: no part waits for it, or a refusal
abbrev pub WaitsTo : Cluster → ℕ → ℕ → Option Refusal → Cluster → Type 0
WaitsTo s r id None u = (t : TableState) → Shows s t → Leads u (WaitsFor false t r id)
WaitsTo s r id (Some refusal) u = (t : TableState) → Shows s t → Leads u (RefusesWait (ups s) t r id refusal)

-- ---- what only private functions cite

-- a part is mutated up to the mutation at a place, within the limit of worker entries, and the replica is up to date
pub record BecomesMutated (s : Cluster) (r : ℕ) (old : Name) (upto : ℕ) (u : Cluster) : Type 0 where
  pub name : Name
  pub count : ℕ
  pub mcount : ℕ
  pub log : u.table.log ≡ Mutate old name upto count mcount ∷ s.table.log
  pub room : worker_limit s.table.log ≡ None
  pub lawful : Lawful u.table.schema u.table.log
  pub whole : IsUpToDate u r
  pub shows : (t : TableState) → Shows s t → Shows u (synced r (record t { log = Mutate old name upto count mcount ∷ t.log }))

-- one more entry would pass the limit that is told
abbrev pub IsFull : TableState → Refusal → Type 0
IsFull t (LimitReached limit value) = worker_limit t.log ≡ Some (limit, value)
IsFull t refusal = ⊥

-- what the mutate of a part comes to
abbrev pub MutatesOne : Cluster → ℕ → Name → ℕ → Option Refusal → Cluster → Type 0
MutatesOne s r old upto None u = BecomesMutated s r old upto u
MutatesOne s r old upto (Some refusal) u = (t : TableState) → Shows s t → IsFull t refusal × Shows u t

-- a part for which no mutation is pending that isn't past the place stays; another one is mutated up to the last such one
abbrev pub Settles : Cluster → ℕ → Name → ℕ → Option Refusal → Cluster → Type 0
Settles s r part place refused u =
    MatchOption (last_pending s.table.log part (place + 1)) ((refused ≡ None) × (u ≡ s)) (λ last. MutatesOne s r part last refused u)

-- a part is mutated, or none is
abbrev pub MutatesSome : Cluster → ℕ → Cluster → Type 0
MutatesSome s r u = (u ≡ s) ⊎ MutatesOnce r s u
