use Rattle.std.proofs.Common.{sym, ◌∙◌, ap, subst}
use Rattle.std.specs.Ordering.{is_lt}
use Rattle.std.specs.declared.option.Option.{Option}
use Rattle.rmt_values.specs.declared.value.Value.{Value}
use Rattle.rmt_keyrange.specs.Ranges.{IsGreatest}
use Rattle.rmt_keyrange.proofs.GivenBounds.{greatest-first, greatest-second}
use Rattle.rmt_keyrange.proofs.bounds.greatest.Goals as goal

pub returns-then-is_lt : goal.returns-then-is_lt
returns-then-is_lt c = λ xs ys h k.
    greatest-second c.in-Some-Some.a c.in-Some-Some.b xs ys (ap is_lt (sym c.compare.ensures) ∙ sym c.if-is_lt.ensures) (subst (λ (o : Option Value). IsGreatest o xs) c.in-Some-Some.is-0 h) (subst (λ (o : Option Value). IsGreatest o ys) c.in-Some-Some.is-1 k)

pub returns-else-is_lt : goal.returns-else-is_lt
returns-else-is_lt c = λ xs ys h k.
    greatest-first c.in-Some-Some.a c.in-Some-Some.b xs ys (ap is_lt (sym c.compare.ensures) ∙ sym c.if-is_lt.ensures) (subst (λ (o : Option Value). IsGreatest o xs) c.in-Some-Some.is-0 h) (subst (λ (o : Option Value). IsGreatest o ys) c.in-Some-Some.is-1 k)
