use Rattle.std.proofs.Common.{◌+◌, ◌∙◌, sym, subst, arith}
use Rattle.rmt_table_model.specs.Held.{Held}
use Rattle.rmt_state.proofs.NewLemmas.{OpensFirst, session-next, no-session-next}
use Rattle.rmt_state.proofs.state.new.open_sessions.Goals as goal
use Rattle.rmt_state.proofs.state.new.open_sessions.Goals.{then-is_up+in_ok-open, else-is_up}

pub sessions-preserved : goal.sessions-preserved
sessions-preserved c =
    let i = c.sessions.invariant in
    let number = i.counted in
    let schema = c.args.tree.schema in
    let up = c.args.up.now in
    let place = c.sessions.is_up-index in
    elim c.if-is_up.branch [
      | then-is_up+in_ok-open w ↦ subst (λ (tree : Held). OpensFirst schema up (place + 1) (c.sessions.number + 1) tree) (sym w.tree-is) (record {
        counted = omega (arith, number);
        sessions = session-next schema up place (c.sessions.number + 1) c.sessions.tree w.open.new.self c.sessions-test.true (omega (arith, number)) w.if-is_up.true i.sessions w.in_ok-open.ensures.opens;
        replicas = w.open.ensures.replicas ∙ i.replicas;
      })
      | else-is_up w ↦ subst (λ (tree : Held). OpensFirst schema up (place + 1) (c.sessions.number + 1) tree) (sym w.tree-is) (record {
        counted = omega (arith, number);
        sessions = no-session-next schema up place c.sessions.tree c.sessions-test.true w.if-is_up.false i.sessions;
        replicas = i.replicas;
      })
    ]
