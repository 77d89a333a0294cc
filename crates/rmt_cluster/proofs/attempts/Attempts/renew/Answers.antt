use Rattle.std.proofs.Common.{◌≡◌, ◌∙◌, List, reverse, sym, ap, subst, arith}
use Rattle.std.specs.Prelude.{slice_get, slice_set}
use Rattle.std.specs.declared.option.Option.TheVariants.{Some}
use Rattle.std.proofs.lemmas.Grind.{common_steps}
use Rattle.std.proofs.lemmas.Option.{gets}
use Rattle.rmt_model.specs.Words.{Has}
use Rattle.rmt_events.specs.Clusters.{Attempt}
use Rattle.rmt_events.specs.ClusterChanges.{renumbered}
use Rattle.rmt_cluster.specs.Attempts.{OpenAttempts, StandsAt, HoldsBlock}
use Rattle.rmt_cluster.proofs.AttemptLemmas.{in-order-set, reverse-set, renumbered-none, reverse-has, one-of-id, has-at}
use Rattle.rmt_cluster.proofs.attempts.Attempts.renew.Goals as goal

pub renew-requires-clause-replica : goal.renew-requires-clause-replica
renew-requires-clause-replica c =
    let i = c.self.inside in
    let s : StandsAt c.deref.result.now c.args.id c.in-Some.at = c.in-Some.ensures in
    let there : slice_get i.attempts.items c.in-Some.at ≡ Some c.index_mut.result.now = grind (arith, common_steps, gets) in
    let stands = subst (λ (xs : List Attempt). slice_get xs c.in-Some.at ≡ Some s.attempt) c.deref.ensures.value s.stands in
    let f = c.requires.found in
    let h = reverse-has i.attempts.items f.0 (subst (λ (v : OpenAttempts). Has v.open_ones f.0) (sym c.self.view_is) f.1) in
    let e = one-of-id i.attempts.items c.in-Some.at c.args.id s.attempt c.index_mut.result.now f.0 c.self.invariant.later stands s.same_id there h f.2 in
    f.3 ∙ ap (λ (a : Attempt). a.replica) e

pub renew-requires-clause-holds : goal.renew-requires-clause-holds
renew-requires-clause-holds c =
    let i = c.self.inside in
    let s : StandsAt c.deref.result.now c.args.id c.in-Some.at = c.in-Some.ensures in
    let there : slice_get i.attempts.items c.in-Some.at ≡ Some c.index_mut.result.now = grind (arith, common_steps, gets) in
    let stands = subst (λ (xs : List Attempt). slice_get xs c.in-Some.at ≡ Some s.attempt) c.deref.ensures.value s.stands in
    let f = c.requires.found in
    let h = reverse-has i.attempts.items f.0 (subst (λ (v : OpenAttempts). Has v.open_ones f.0) (sym c.self.view_is) f.1) in
    let e = one-of-id i.attempts.items c.in-Some.at c.args.id s.attempt c.index_mut.result.now f.0 c.self.invariant.later stands s.same_id there h f.2 in
    subst (λ (a : Attempt). HoldsBlock c.args.lock a.block) e f.4

pub invariant_of-self : goal.invariant_of-self
invariant_of-self c =
    let i = c.self.inside in
    let there : slice_get i.attempts.items c.in-Some.at ≡ Some c.index_mut.result.now = grind (arith, common_steps, gets) in
    in-order-set i.made i.attempts.items c.in-Some.at c.args.lock.number c.index_mut.result.now c.renew.new.self there c.renew.ensures c.self.invariant

pub returns-in-Some-clause-renews : goal.returns-in-Some-clause-renews
returns-in-Some-clause-renews c =
    let i = c.self.inside in
    let s : StandsAt c.deref.result.now c.args.id c.in-Some.at = c.in-Some.ensures in
    let there : slice_get i.attempts.items c.in-Some.at ≡ Some c.index_mut.result.now = grind (arith, common_steps, gets) in
    let stands = subst (λ (xs : List Attempt). slice_get xs c.in-Some.at ≡ Some s.attempt) c.deref.ensures.value s.stands in
    let e = one-of-id i.attempts.items c.in-Some.at c.args.id s.attempt c.index_mut.result.now s.attempt c.self.invariant.later stands s.same_id there (has-at i.attempts.items c.in-Some.at s.attempt stands) s.same_id in
    ap (λ (a : Attempt). reverse (slice_set i.attempts.items c.in-Some.at a)) c.renew.ensures
    ∙ (reverse-set i.attempts.items c.in-Some.at c.args.id c.args.lock.number c.index_mut.result.now c.self.invariant.later there (sym (ap (λ (a : Attempt). a.id) e) ∙ s.same_id)
    ∙ ap (λ (v : OpenAttempts). renumbered v.open_ones c.args.id c.args.lock.number) c.self.view_is)

pub returns-in_default-clause-renews : goal.returns-in_default-clause-renews
returns-in_default-clause-renews c =
    let i = c.self.inside in
    let none : (a : Attempt) → Has i.attempts.items a → a.id ≡ c.args.id → ⊥ = λ a h. c.in_default.ensures a (subst (λ (xs : List Attempt). Has xs a) (sym c.deref.ensures.value) h) in
    subst (λ (v : OpenAttempts). v.open_ones ≡ renumbered v.open_ones c.args.id c.args.lock.number) c.self.view_is (sym (renumbered-none (reverse i.attempts.items) c.args.id c.args.lock.number (λ a h. none a (reverse-has i.attempts.items a h))))
