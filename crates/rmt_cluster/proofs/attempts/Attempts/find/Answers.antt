use Rattle.std.proofs.Common.{◌≡◌, ◌∙◌, List, sym, ap, subst, arith}
use Rattle.std.specs.Prelude.{slice_get}
use Rattle.std.specs.declared.option.Option.TheVariants.{Some}
use Rattle.std.proofs.lemmas.Grind.{common_steps}
use Rattle.std.proofs.lemmas.Option.{gets}
use Rattle.rmt_model.specs.Words.{Has}
use Rattle.rmt_events.specs.Clusters.{Attempt}
use Rattle.rmt_cluster.specs.Attempts.{OpenAttempts, StandsAt}
use Rattle.rmt_cluster.proofs.AttemptLemmas.{has-reverse, reverse-has, has-at, some-same}
use Rattle.rmt_cluster.proofs.attempts.Attempts.find.Goals as goal

pub returns-in-Some : goal.returns-in-Some
returns-in-Some c =
    let i = c.self.inside in
    let s : StandsAt c.deref.result.now c.args.id c.in-Some.at = c.in-Some.ensures in
    let here : slice_get c.deref.result.now c.in-Some.at ≡ Some c.index.result.now = grind (arith, common_steps, gets) in
    let e = some-same s.attempt c.index.result.now (sym s.stands ∙ here) in (
      subst (λ (a : OpenAttempts). Has a.open_ones c.index.result.now) c.self.view_is (has-reverse i.attempts.items c.index.result.now (subst (λ (xs : List Attempt). Has xs c.index.result.now) c.deref.ensures.value (has-at c.deref.result.now c.in-Some.at c.index.result.now here))),
      sym (ap (λ (a : Attempt). a.id) e) ∙ s.same_id,
    )

pub returns-in-None : goal.returns-in-None
returns-in-None c = λ a h.
    let i = c.self.inside in
    c.in-None.ensures a (subst (λ (xs : List Attempt). Has xs a) (sym c.deref.ensures.value) (reverse-has i.attempts.items a (subst (λ (v : OpenAttempts). Has v.open_ones a) (sym c.self.view_is) h)))
