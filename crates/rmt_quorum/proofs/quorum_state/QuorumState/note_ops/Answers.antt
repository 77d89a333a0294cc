use Rattle.std.proofs.Common.{◌≡◌, ap, ◌∙◌}
use Rattle.rmt_model.specs.Quorum.{Pending, Quorum}
use Rattle.rmt_quorum.specs.contracts.pending_part.PendingPart.{the_view}
use Rattle.rmt_quorum.proofs.StateLemmas.{noted-waits, noted-met, same-pending, none-pending}
use Rattle.rmt_quorum.proofs.quorum_state.QuorumState.note_ops.Goals as goal

pub returns-in_default-clause-waits : goal.returns-in_default-clause-waits
returns-in_default-clause-waits c = λ q e. absurd (none-pending c.self.inside.pending q c.in_default.is (ap (λ (s : Quorum). s.pending) c.self.view_is ∙ e))

pub returns-then-noted-pending-clause-waits : goal.returns-then-noted-pending-clause-waits
returns-then-noted-pending-clause-waits c = λ q e.
    let v : the_view c.pending.inside ≡ q = c.pending.view_is ∙ same-pending c.self.inside.pending c.in-Some.pending q c.in-Some.is (ap (λ (s : Quorum). s.pending) c.self.view_is ∙ e) in
    c.in_ok-vec.ensures.items
    ∙ noted-waits q c.args.noted.now c.args.self.now.last c.pending.inside.part c.pending.inside.need c.in_ok-text.text c.in_ok-op.op (ap (λ (p : Pending). p.part) v) (ap (λ (p : Pending). p.need) v) c.if-noted-pending.true c.in_ok-text.ensures c.in_ok-op.ensures

pub returns-clause-waits : goal.returns-clause-waits
returns-clause-waits c = λ q e.
    let v : the_view c.pending.inside ≡ q = c.pending.view_is ∙ same-pending c.self.inside.pending c.in-Some.pending q c.in-Some.is (ap (λ (s : Quorum). s.pending) c.self.view_is ∙ e) in
    c.in_ok-vec-2.ensures.items
    ∙ noted-met q c.args.noted.now c.args.self.now.last c.self.inside.last c.pending.inside.part c.pending.inside.need c.in_ok-gone.gone c.in_ok-last.last (ap (λ (p : Pending). p.part) v) (ap (λ (p : Pending). p.need) v) (ap (λ (s : Quorum). s.last) c.self.view_is)
    c.if-noted-pending.false c.in_ok-gone.ensures c.in_ok-last.ensures
