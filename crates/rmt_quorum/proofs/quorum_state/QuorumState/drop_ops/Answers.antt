use Rattle.std.proofs.Common.{◌≡◌, ◌++◌, ◌∷◌, [], List, Some, true, sym, ap, arith, ◌∙◌}
use Rattle.std.proofs.lemmas.Grind.{common_steps}
use Rattle.rmt_tree.specs.declared.op.Op.{Op}
use Rattle.rmt_model.specs.Quorum.{Quorum, is_dropped_by}
use Rattle.rmt_table_model.specs.Nodes.{pending_drop_ops}
use Rattle.rmt_quorum.proofs.StateLemmas.{last-dropped}
use Rattle.rmt_quorum.proofs.quorum_state.QuorumState.drop_ops.Goals as goal

pub returns : goal.returns
returns c =
    let w : c.args.self.now.last ≡ Some c.in-Some.last = ap (λ (s : Quorum). s.last) (sym c.self.view_is) ∙ c.in-Some.is in
    let r : c.is_dropped.result ≡ true = grind (arith, common_steps) in
    let d : is_dropped_by c.args.partition c.args.below c.in-Some.last ≡ true = sym c.is_dropped.ensures ∙ r in
    c.in_ok-push.ensures.items ∙ ap (λ (os : List Op). os ++ c.in_ok-gone.gone ∷ []) c.in_ok-ops.ensures
    ∙ ap (λ (os : List Op). pending_drop_ops c.args.partition c.args.below c.args.self.now.pending ++ os) (last-dropped c.args.partition c.args.below c.args.self.now.last c.in-Some.last c.in_ok-gone.gone w d c.in_ok-gone.ensures)
