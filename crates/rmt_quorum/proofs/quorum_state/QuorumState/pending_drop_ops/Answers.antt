use Rattle.std.proofs.Common.{◌≡◌, Some, true, sym, ap, ◌∙◌}
use Rattle.std.proofs.lemmas.Grind.{common_steps}
use Rattle.std.proofs.Common.{arith}
use Rattle.rmt_model.specs.Quorum.{Pending, Quorum, is_dropped_by}
use Rattle.rmt_quorum.proofs.StateLemmas.{pending-dropped}
use Rattle.rmt_quorum.proofs.quorum_state.QuorumState.pending_drop_ops.Goals as goal

pub returns : goal.returns
returns c =
    let w : c.args.self.now.pending ≡ Some c.in-Some.pending = ap (λ (s : Quorum). s.pending) (sym c.self.view_is) ∙ c.in-Some.is in
    let r : c.is_dropped.result ≡ true = grind (arith, common_steps) in
    let d : is_dropped_by c.args.partition c.args.below c.in-Some.pending.part ≡ true = ap (λ (p : Pending). is_dropped_by c.args.partition c.args.below p.part) (sym c.pending.view_is) ∙ sym c.is_dropped.ensures ∙ r in
    c.in_ok-vec.ensures.items ∙ pending-dropped c.args.partition c.args.below c.args.self.now.pending c.in-Some.pending c.in_ok-gone.gone w d c.in_ok-gone.ensures
