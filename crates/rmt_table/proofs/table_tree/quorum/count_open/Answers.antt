use Rattle.std.proofs.Common.{◌≡◌, ◌+◌, ◌∷◌, [], get_or, None, sym, ap, arith, ◌∙◌}
use Rattle.std.proofs.lemmas.Grind.{common_steps}
use Rattle.std.proofs.lemmas.List.{take_all}
use Rattle.rmt_table.proofs.OpenLemmas.{opens, opened-opens, opens-next}
use Rattle.rmt_table.proofs.table_tree.quorum.count_open.Goals as goal

pub sessions-preserved : goal.sessions-preserved
sessions-preserved c =
    let i = c.sessions.invariant in
    let m = c.count_one-count.ensures.most in
    let s = i.1 in
    let f : c.count_one-count.result + 0 ≡ opens (get_or c.args.sessions.now c.sessions.session-index None ∷ []) = grind (arith, common_steps) in
    (opens-next c.args.sessions.now c.sessions.session-index c.sessions.count c.count_one-count.result c.sessions-test.true i.0 f, omega (arith, m, s))

pub returns : goal.returns
returns c = c.sessions.invariant.0 ∙ ap opens (take_all c.sessions.session-index c.args.sessions.now c.sessions-test.false) ∙ sym (opened-opens 1 c.args.sessions.now)
