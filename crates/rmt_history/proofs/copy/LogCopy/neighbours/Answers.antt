use Rattle.std.proofs.Common.{refl, sym, subst}
use Rattle.rmt_model.specs.Lawful.{AreNeighbours}
use Rattle.rmt_history.specs.Copies.{History, entries}
use Rattle.rmt_history.proofs.NeighbourLemmas.{answer-empty, answer-absent, answer-within, answer-stand, answer-side}
use Rattle.rmt_history.proofs.copy.LogCopy.neighbours.Goals as goal

pub returns-in_default : goal.returns-in_default
returns-in_default c = (λ t. answer-empty c.args.self.now.log c.args.names.now (sym c.in_default.ensures.value), λ n. refl)

pub returns-in_default-covering : goal.returns-in_default-covering
returns-in_default-covering c = (
  λ t. absurd (cc),
  λ n. absurd (
      answer-absent (entries c.self.inside.seen.items) c.self.inside.live.names c.args.names.now c.in-Some.first.now c.self.invariant.living (sym c.in-Some.ensures.value) c.in_default-covering.ensures
      (subst (λ (h : History). AreNeighbours h.log c.args.names.now) (sym c.self.view_is) n)),
)

pub stand_at-requires : goal.stand_at-requires
stand_at-requires c = answer-within c.self.inside.live.names c.as_slice.result.now c.in-Some.first.now c.in-Some-covering.at c.as_slice.ensures.names c.in-Some-covering.ensures

pub returns : goal.returns
returns c = (
  λ t. subst (λ (h : History). AreNeighbours h.log c.args.names.now) c.self.view_is
      (answer-side (entries c.self.inside.seen.items) c.self.inside.live.names c.as_slice.result.now c.args.names.now c.in-Some-covering.at c.self.invariant.living c.as_slice.ensures.names (c.stand_at.ensures.0 t)),
  λ n. c.stand_at.ensures.1 (answer-stand (entries c.self.inside.seen.items) c.self.inside.live.names c.as_slice.result.now c.args.names.now c.in-Some.first.now c.in-Some-covering.at c.self.invariant.living c.as_slice.ensures.apart c.as_slice.ensures.names (sym c.in-Some.ensures.value) c.in-Some-covering.ensures
      (subst (λ (h : History). AreNeighbours h.log c.args.names.now) (sym c.self.view_is) n)),
)
