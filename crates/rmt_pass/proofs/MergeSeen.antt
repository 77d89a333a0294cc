-- A client's own merge of all live parts of a partition: what it knows once it has taken it over, or some of it.
use Rattle.std.proofs.Common.{◌≡◌, ℕ, ◌<◌, ◌≤◌, Bool, false, List, [], ◌∷◌, length, sym, ap, subst, ◌∙◌}
use Rattle.std.specs.declared.option.Option.{Option}
use Rattle.std.specs.declared.option.Option.TheVariants.{Some}
use Rattle.rmt_names.specs.Names.{Name}
use Rattle.rmt_entries.specs.declared.entry.Entry.{Entry}
use Rattle.rmt_entries.specs.declared.entry.Entry.TheVariants.{Merge}
use Rattle.rmt_model.specs.Lawful.{Lawful, IsPrefix}
use Rattle.rmt_model.proofs.Drops.{some-same}
use Rattle.rmt_events.specs.Views.{Block}
use Rattle.rmt_table_model.specs.Held.{Held}
use Rattle.rmt_statement_model.specs.Optimizes.{live_of}
use Rattle.rmt_live_names.specs.declared.optimized.Optimized.TheVariants as optimized
use Rattle.rmt_clients.specs.Clients.{Client, seeing}
use Rattle.rmt_known.specs.KnownTables.{Known, client_of}
use Rattle.rmt_shared.specs.SharedTables.{NamedTable, GainsMerge, AppendsMerge}
use Rattle.rmt_shared.specs.ClientCalls.{HasTable}
use Rattle.rmt_pass.specs.Passes.{PassView, AreKnownOf, IsPass, IsCurrent, TakesStep, TakesOver, TakesSome, known_in, known_at, client_at}
use Rattle.rmt_pass.specs.MergeSteps.{OptimizesTo, newest_name}
use Rattle.rmt_pass.proofs.OwnLemmas.{knowing, before-there}
use Rattle.rmt_pass.proofs.WorkSteps.{work-sees, work-goes-on, work-seen, work-keeps, work-now, work-pass, some-pass}
use Rattle.rmt_pass.proofs.MergeLemmas.{merge-steps}

module _ (p : PassView) (k : ℕ) (here : k < length p.tables) (old new : List Held) (now : IsCurrent p k old) (o : Option ℕ) (c : AppendsMerge old k (live_of (known_at p k).log o) new) where
  abbrev Gains : Held → Held → Type 0
  Gains t u = GainsMerge t (live_of (known_at p k).log o) u

  abbrev merge : Entry
  merge = Merge c.change.name (live_of (known_at p k).log o) c.change.count

  pub merge-goes-on : HasTable new k (λ h. IsPrefix (known_at p k).log h.log)
  merge-goes-on = work-goes-on p k here old new now.there now Gains c merge c.change.assigns.change tt

  module _ (known : List Known) (t : HasTable new k (λ h. TakesOver p.tables k h known)) where
    pub merge-now : (gave_up : Bool) → gave_up ≡ false → IsCurrent (knowing p known gave_up) k new
    merge-now = work-now p k here old new now.there now Gains c merge c.change.assigns.change tt known t

    pub merge-pass : (names : List NamedTable) (replicas all parts amount : ℕ) → IsPass names replicas all p parts amount → AreKnownOf replicas names known → IsPass names replicas all (record p { tables = known }) parts amount
    merge-pass = work-pass p k here old new now.there now Gains c merge c.change.assigns.change tt known t

    seen : client_of (known_in known k) ≡ seeing (merge ∷ []) [] (client_at p k)
    seen = work-seen p k here old new now.there now Gains c merge c.change.assigns.change tt known t

    -- the newest entry makes the name
    pub merge-newest : (log : List Entry) → log ≡ (known_in known k).log → newest_name log ≡ Some c.change.name
    merge-newest log e = ap newest_name (e ∙ ap (λ (x : Client). x.log) seen)

    pub merge-done : (Offered : ℕ → Block → Type 0) → Lawful now.table.schema now.table.log → 2 ≤ length (live_of (known_at p k).log o) → (name : Name) → Some name ≡ Some c.change.name → (gave_up : Bool) → gave_up ≡ false → TakesStep Offered p k (OptimizesTo o (optimized.Name name)) (knowing p known gave_up)
    merge-done Offered lawful several name e gave_up goes = record {
      steps = merge-steps (Offered k) (client_at p k) (client_of (known_in known k)) c.table c.after o
          (work-sees p k here old new now.there now Gains c merge c.change.assigns.change tt)
          (subst (λ (h : Held). Lawful h.schema h.log) (sym (before-there old k Gains new c now.table now.there now.is)) lawful)
          name several c.change seen (some-same name c.change.name e);
      keeps = work-keeps p k here old new now.there now Gains c merge c.change.assigns.change tt known t gave_up;
      goes = goes;
    }

  module _ (known : List Known) (t : HasTable new k (λ h. TakesSome p.tables k h known)) where
    pub merge-some-pass : (names : List NamedTable) (replicas all parts amount : ℕ) → IsPass names replicas all p parts amount → AreKnownOf replicas names known → IsPass names replicas all (record p { tables = known }) parts amount
    merge-some-pass = some-pass p k here old new now.there now Gains c merge c.change.assigns.change tt known t
