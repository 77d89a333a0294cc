use Rattle.std.proofs.Common.{◌≡◌, ◌∙◌, List, reverse, sym, ap, subst}
use Rattle.std.specs.Prelude.{slice_get}
use Rattle.std.specs.declared.option.Option.TheVariants.{Some}
use Rattle.rmt_model.specs.Words.{Has}
use Rattle.rmt_events.specs.Clusters.{Attempt}
use Rattle.rmt_events.specs.ClusterChanges.{attempts_without}
use Rattle.rmt_cluster.specs.Attempts.{OpenAttempts, AreInOrder, StandsAt}
use Rattle.rmt_cluster.proofs.AttemptLemmas.{in-order-less, reverse-less, ends-none}
use Rattle.rmt_cluster.proofs.attempts.Attempts.end.Goals as goal

pub invariant_of-self : goal.invariant_of-self
invariant_of-self c =
    subst (λ (xs : List Attempt). AreInOrder c.self.inside.made xs) (sym c.remove.ensures.items) (in-order-less c.self.inside.made c.self.inside.attempts.items c.in-Some.at c.self.invariant)

pub returns-in-Some-clause-ends : goal.returns-in-Some-clause-ends
returns-in-Some-clause-ends c =
    let i = c.self.inside in
    let s : StandsAt c.deref.result.now c.args.id c.in-Some.at = c.in-Some.ensures in
    let stands = subst (λ (xs : List Attempt). slice_get xs c.in-Some.at ≡ Some s.attempt) c.deref.ensures.value s.stands in
    ap reverse c.remove.ensures.items ∙ (reverse-less i.attempts.items c.in-Some.at c.args.id s.attempt c.self.invariant.later stands s.same_id ∙ ap (λ (v : OpenAttempts). attempts_without v.open_ones c.args.id) c.self.view_is)

pub returns-in_default-clause-ends : goal.returns-in_default-clause-ends
returns-in_default-clause-ends c =
    let i = c.self.inside in
    let none : (a : Attempt) → Has i.attempts.items a → a.id ≡ c.args.id → ⊥ = λ a h. c.in_default.ensures a (subst (λ (xs : List Attempt). Has xs a) (sym c.deref.ensures.value) h) in
    subst (λ (v : OpenAttempts). v.open_ones ≡ attempts_without v.open_ones c.args.id) c.self.view_is (ends-none i.attempts.items c.args.id none)
