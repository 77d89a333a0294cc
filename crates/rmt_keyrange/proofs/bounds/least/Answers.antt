use Rattle.std.proofs.Common.{sym, ◌∙◌, ap, subst}
use Rattle.std.specs.Ordering.{is_gt}
use Rattle.std.specs.declared.option.Option.{Option}
use Rattle.rmt_values.specs.declared.value.Value.{Value}
use Rattle.rmt_keyrange.specs.Ranges.{IsLeast}
use Rattle.rmt_keyrange.proofs.GivenBounds.{least-first, least-second}
use Rattle.rmt_keyrange.proofs.bounds.least.Goals as goal

pub returns-then-is_gt : goal.returns-then-is_gt
returns-then-is_gt c = λ xs ys h k.
    least-second c.in-Some-Some.a c.in-Some-Some.b xs ys (ap is_gt (sym c.compare.ensures) ∙ sym c.if-is_gt.ensures) (subst (λ (o : Option Value). IsLeast o xs) c.in-Some-Some.is-0 h) (subst (λ (o : Option Value). IsLeast o ys) c.in-Some-Some.is-1 k)

pub returns-else-is_gt : goal.returns-else-is_gt
returns-else-is_gt c = λ xs ys h k.
    least-first c.in-Some-Some.a c.in-Some-Some.b xs ys (ap is_gt (sym c.compare.ensures) ∙ sym c.if-is_gt.ensures) (subst (λ (o : Option Value). IsLeast o xs) c.in-Some-Some.is-0 h) (subst (λ (o : Option Value). IsLeast o ys) c.in-Some-Some.is-1 k)
