use Rattle.std.proofs.Common.{◌≡◌, Some, sym, ap, ◌∙◌}
use Rattle.rmt_model.specs.Quorum.{Pending, Quorum}
use Rattle.rmt_quorum.proofs.StateLemmas.{note-met}
use Rattle.rmt_quorum.proofs.quorum_state.QuorumState.note.Goals as goal

pub returns : goal.returns
returns c =
    let w : c.args.self.now.pending ≡ Some c.in-Some.pending = ap (λ (s : Quorum). s.pending) (sym c.self.view_is) ∙ c.in-Some.is in
    note-met c.args.replica c.args.self.now c.in-Some.pending c.pending.inside.part c.pending.inside.need c.args.noted.items c.len.result w (ap (λ (p : Pending). p.part) c.pending.view_is) (ap (λ (p : Pending). p.need) c.pending.view_is)
    (c.requires.are c.in-Some.pending w) (c.len.ensures ∙ c.args.noted.ok.0) c.if-pending-len.false
