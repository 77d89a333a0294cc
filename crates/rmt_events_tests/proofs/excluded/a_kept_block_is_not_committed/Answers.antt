use Rattle.std.proofs.Common.{◌≡◌, sym, ◌∙◌}
use Rattle.std.specs.declared.option.Option.TheVariants.{Some, None}
use Rattle.rmt_events_tests.proofs.excluded.a_kept_block_is_not_committed.Goals as goal

apart : {A : Type 0} (a : A) → Some a ≡ None → ⊥
apart a e = absurd (cc)

pub returns : goal.returns
returns c = λ old new p n digest r need values a e k. apart a (sym e ∙ k.unkept)
