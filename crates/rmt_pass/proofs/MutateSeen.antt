-- A client's own mutate of a part: what it knows once it has taken it over, or some of it.
use Rattle.std.proofs.Common.{◌≡◌, ℕ, ◌<◌, Bool, false, List, length, sym, subst}
use Rattle.rmt_entries.specs.declared.entry.Entry.{Entry}
use Rattle.rmt_entries.specs.declared.entry.Entry.TheVariants.{Mutate}
use Rattle.rmt_model.specs.Lawful.{Lawful, IsPrefix}
use Rattle.rmt_table_model.specs.Held.{Held}
use Rattle.rmt_known.specs.KnownTables.{Known, client_of}
use Rattle.rmt_shared.specs.SharedTables.{NamedTable, GainsMutate}
use Rattle.rmt_shared.specs.ClientCalls.{HasTable}
use Rattle.rmt_pass.specs.Passes.{PassView, AreKnownOf, IsPass, IsCurrent, TakesOver, TakesSome, known_in, known_at, client_at}
use Rattle.rmt_pass.specs.MutateSteps.{MutatesOneMore, AppendsPending}
use Rattle.rmt_pass.proofs.OwnLemmas.{knowing, before-there}
use Rattle.rmt_pass.proofs.WorkSteps.{work-sees, work-goes-on, work-seen, work-now, work-pass, some-pass}
use Rattle.rmt_pass.proofs.MutateLemmas.{mutates-one-more}

module _ (p : PassView) (k : ℕ) (here : k < length p.tables) (old new : List Held) (now : IsCurrent p k old) (id : ℕ) (a : AppendsPending old k (known_at p k).log id new) where
  abbrev Gains : Held → Held → Type 0
  Gains t u = GainsMutate t a.part a.last u

  abbrev mutate : Entry
  mutate = Mutate a.part a.appends.change.name a.last a.appends.change.count a.appends.change.mcount

  pub mutate-goes-on : HasTable new k (λ h. IsPrefix (known_at p k).log h.log)
  mutate-goes-on = work-goes-on p k here old new now.there now Gains a.appends mutate a.appends.change.assigns.change tt

  module _ (known : List Known) (t : HasTable new k (λ h. TakesOver p.tables k h known)) where
    pub mutate-now : (gave_up : Bool) → gave_up ≡ false → IsCurrent (knowing p known gave_up) k new
    mutate-now = work-now p k here old new now.there now Gains a.appends mutate a.appends.change.assigns.change tt known t

    pub mutate-pass : (names : List NamedTable) (replicas all parts amount : ℕ) → IsPass names replicas all p parts amount → AreKnownOf replicas names known → IsPass names replicas all (record p { tables = known }) parts amount
    mutate-pass = work-pass p k here old new now.there now Gains a.appends mutate a.appends.change.assigns.change tt known t

    pub mutate-done : Lawful now.table.schema now.table.log → MutatesOneMore id (client_at p k) (client_of (known_in known k))
    mutate-done lawful =
        mutates-one-more (client_at p k) (client_of (known_in known k)) a.appends.table a.appends.after id a.place a.part a.last
        (work-sees p k here old new now.there now Gains a.appends mutate a.appends.change.assigns.change tt)
        (subst (λ (h : Held). Lawful h.schema h.log) (sym (before-there old k Gains new a.appends now.table now.there now.is)) lawful)
        a.is_place a.pending a.appends.change
        (work-seen p k here old new now.there now Gains a.appends mutate a.appends.change.assigns.change tt known t)

  module _ (known : List Known) (t : HasTable new k (λ h. TakesSome p.tables k h known)) where
    pub mutate-some-pass : (names : List NamedTable) (replicas all parts amount : ℕ) → IsPass names replicas all p parts amount → AreKnownOf replicas names known → IsPass names replicas all (record p { tables = known }) parts amount
    mutate-some-pass = some-pass p k here old new now.there now Gains a.appends mutate a.appends.change.assigns.change tt known t
