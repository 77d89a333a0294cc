use Rattle.std.proofs.Common.{◌≡◌, sym, subst, ◌∙◌}
use Rattle.std.specs.declared.option.Option.{Option}
use Rattle.std.specs.declared.option.Option.TheVariants.{Some}
use Rattle.rmt_model.specs.Fair.{CoveredBy}
use Rattle.rmt_model.specs.CopiedParts.{names_of}
use Rattle.rmt_model.specs.Quorum.{Pending}
use Rattle.rmt_events.specs.Views.{Replica}
use Rattle.rmt_events.proofs.WholeTries.{one-replica}
use Rattle.rmt_events_tests.proofs.excluded.a_note_is_of_a_covering_part.Goals as goal

one-pending : (p q : Pending) → Some p ≡ Some q → p ≡ q
one-pending p q e = cc

pub returns-clause-none : goal.returns-clause-none
returns-clause-none c = λ s t k q reply e none d.
    none d.old d.is (subst (λ (p : Pending). CoveredBy (names_of d.old.parts) p.part) (one-pending d.waiting q (sym d.waits ∙ e)) d.notes.covered)

pub returns-clause-due : goal.returns-clause-due
returns-clause-due c = λ s t k q reply x w u e h d.
    d.none q e (subst (λ (z : Replica). CoveredBy (names_of z.parts) q.part) (one-replica s x d.replica w u.at.is_in d.is.at.is_in (u.at.number ∙ sym d.is.at.number)) h)
