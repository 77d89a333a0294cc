use Rattle.std.proofs.Common.{◌≡◌, ◌<◌, ◌≤◌, ◌∙◌, false, length, subst, sym, ap}
use Rattle.std.specs.Prelude.{MatchOption}
use Rattle.std.specs.declared.option.Option.TheVariants.{Some}
use Rattle.rmt_model.specs.Lawful.{entry_at, MakesAt}
use Rattle.rmt_replica.specs.declared.entry_state.EntryState.TheVariants as states
use Rattle.rmt_model.specs.Fair.{CoveredBy}
use Rattle.rmt_partset.specs.ActiveParts.{part_names}
use Rattle.rmt_replica.specs.Replicas.{ReplicaView, replica_of}
use Rattle.rmt_replica.specs.Answers.{IsEntryState}
use Rattle.rmt_replica.proofs.StepLemmas.{state-without, state-dropped, state-waits, done-within}
use Rattle.rmt_replica.proofs.replica.Replica.state.Goals as goal

pub returns-in_default : goal.returns-in_default
returns-in_default c =
    let i = c.self.inside in
    let within = subst (λ (r : ReplicaView). c.args.i < length r.log) (sym c.self.view_is) c.requires in
    let at = subst (λ o. MatchOption o (length i.copy.log ≤ c.args.i) (λ token. entry_at i.copy.log c.args.i ≡ Some token.now.value)) c.unwrap.ensures c.entry.ensures.entry ∙ ap Some (sym c.value-entry.ensures) in
    let done = done-within i.copy i.queue c.args.i false within (sym c.done.ensures ∙ c.if-done.false) in
    subst (λ (r : ReplicaView). IsEntryState r c.args.i c.state_without.result) c.self.view_is
    (state-without (replica_of i.number i.up i.fetches i.copy i.queue i.parts.parts i.staged i.noted.items) c.args.i c.value-entry.result.now c.state_without.result done at (sym c.in_default.ensures) c.state_without.ensures)

pub returns-then-dropped_after : goal.returns-then-dropped_after
returns-then-dropped_after c =
    let i = c.self.inside in
    let within = subst (λ (r : ReplicaView). c.args.i < length r.log) (sym c.self.view_is) c.requires in
    let at = subst (λ o. MatchOption o (length i.copy.log ≤ c.args.i) (λ token. entry_at i.copy.log c.args.i ≡ Some token.now.value)) c.unwrap.ensures c.entry.ensures.entry ∙ ap Some (sym c.value-entry.ensures) in
    let makes : MakesAt i.copy.log c.args.i c.in-Some.name = record { entry = c.value-entry.result.now; stands = at; makes = sym c.in-Some.ensures } in
    let done = done-within i.copy i.queue c.args.i false within (sym c.done.ensures ∙ c.if-done.false) in
    subst (λ (r : ReplicaView). IsEntryState r c.args.i states.Dropped) c.self.view_is
    (state-dropped (replica_of i.number i.up i.fetches i.copy i.queue i.parts.parts i.staged i.noted.items) c.args.i c.in-Some.name done makes (λ k. let t = c.is_covered.ensures.no (subst (λ (r : ReplicaView). CoveredBy (part_names r.parts) c.in-Some.name) c.self.view_is k) in let f = c.if-is_covered.false in absurd (cc)) (let t = c.if-dropped_after.true in c.dropped_after.ensures.0 (cc)))

pub returns : goal.returns
returns c =
    let i = c.self.inside in
    let within = subst (λ (r : ReplicaView). c.args.i < length r.log) (sym c.self.view_is) c.requires in
    let at = subst (λ o. MatchOption o (length i.copy.log ≤ c.args.i) (λ token. entry_at i.copy.log c.args.i ≡ Some token.now.value)) c.unwrap.ensures c.entry.ensures.entry ∙ ap Some (sym c.value-entry.ensures) in
    let makes : MakesAt i.copy.log c.args.i c.in-Some.name = record { entry = c.value-entry.result.now; stands = at; makes = sym c.in-Some.ensures } in
    let done = done-within i.copy i.queue c.args.i false within (sym c.done.ensures ∙ c.if-done.false) in
    subst (λ (r : ReplicaView). IsEntryState r c.args.i (states.Waits c.in-Some.name)) c.self.view_is
    (state-waits (replica_of i.number i.up i.fetches i.copy i.queue i.parts.parts i.staged i.noted.items) c.args.i c.in-Some.name c.self.invariant.standing done makes (λ k. let t = c.is_covered.ensures.no (subst (λ (r : ReplicaView). CoveredBy (part_names r.parts) c.in-Some.name) c.self.view_is k) in let f = c.if-is_covered.false in absurd (cc)) (λ k. let t = c.dropped_after.ensures.1 k in let f = c.if-dropped_after.false in absurd (cc)))
