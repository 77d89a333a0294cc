use Rattle.std.proofs.Common.{◌∙◌, sym}
use Rattle.rmt_play.proofs.CommandLemmas.{on-line}
use Rattle.rmt_play.proofs.RefusedActs.{held-none}
use Rattle.rmt_play.proofs.SendLemmas.{there-up}
use Rattle.rmt_play.proofs.act.act_at.Goals as goal

pub refuse_in-requires : goal.refuse_in-requires
refuse_in-requires g c = record { held = sym c.held_refusal.ensures ∙ c.in-Some.is }

pub act_in-requires-clause-idle : goal.act_in-requires-clause-idle
act_in-requires-clause-idle g c = record { up = (held-none (g.E.Acting.seen c.args.engine.now) c.args.replica c.args.act.now (sym c.held_refusal.ensures ∙ c.in-None.is)).up; free = c.requires.free }

pub act_in-requires-clause-fetches : goal.act_in-requires-clause-fetches
act_in-requires-clause-fetches g c = (held-none (g.E.Acting.seen c.args.engine.now) c.args.replica c.args.act.now (sym c.held_refusal.ensures ∙ c.in-None.is)).fetches

pub returns-in-None-clause-executes : goal.returns-in-None-clause-executes
returns-in-None-clause-executes g c =
    let s = g.E.Acting.seen c.args.engine.now in
    let u = g.E.Acting.seen c.act_in.new.engine in
    on-line c.act_in.result _ _ (λ line f. there-up s u c.args.replica c.args.act.now line (sym c.held_refusal.ensures ∙ c.in-None.is) f) c.act_in.ensures.executes
