use Rattle.std.proofs.Common.{List, take, sym, subst, ap, ◌++◌, ◌∷◌, [], ◌∙◌, arith}
use Rattle.std.proofs.lemmas.List.{take_more, take_all}
use Rattle.rmt_statements.specs.declared.sent.Sent.{Sent}
use Rattle.rmt_sql_acts.specs.Acts.{HasSmallCommand}
use Rattle.rmt_play.specs.Offered.{OffersAct}
use Rattle.rmt_play.specs.PlayerSteps.{AddsLane, view_of}
use Rattle.rmt_play.proofs.LaneLemmas.{lane-none, lane-on}
use Rattle.rmt_play.proofs.player.Player.lane.Goals as goal

pub statements-init : goal.statements-init
statements-init g c = record {
  sound = c.requires.sound;
  adds = lane-none (view_of g.E.Engine.sights g.E.Engine.tables c.args.self.now) c.args.reply.now.items;
}

pub send-requires-clause-small : goal.send-requires-clause-small
send-requires-clause-small g c = subst (λ (s : Sent). HasSmallCommand s.act) (sym c.sent-item.is) (c.requires.small c.statements.sent-index c.sent-item.result c.statements-test.true)

pub send-requires-clause-offered : goal.send-requires-clause-offered
send-requires-clause-offered g c = subst (λ (s : Sent). OffersAct g.E.Engine.sights.offers s.act) (sym c.sent-item.is) (c.requires.offered c.statements.sent-index c.sent-item.result c.statements-test.true)

pub statements-preserved : goal.statements-preserved
statements-preserved g c = record {
  sound = c.in_ok-line.ensures.sound;
  adds = subst (λ (l : List Sent). AddsLane (view_of g.E.Engine.sights g.E.Engine.tables c.args.self.now) l c.args.reply.now.items c.push.new.self.items (view_of g.E.Engine.sights g.E.Engine.tables c.send.new.self))
      (ap (λ (s : Sent). take c.statements.sent-index c.args.lane.now ++ s ∷ []) c.sent-item.is ∙ sym (take_more c.args.lane.now c.statements.sent-index c.sent-item.result c.statements-test.true))
      (lane-on (view_of g.E.Engine.sights g.E.Engine.tables c.args.self.now) (view_of g.E.Engine.sights g.E.Engine.tables c.statements.self) (view_of g.E.Engine.sights g.E.Engine.tables c.send.new.self)
      (take c.statements.sent-index c.args.lane.now) c.args.reply.now.items c.statements.reply.items c.push.new.self.items c.sent-item.result c.in_ok-line.line c.statements.invariant.adds c.in_ok-line.ensures.moves c.in_ok-push.ensures.items);
}

pub returns-clause-adds : goal.returns-clause-adds
returns-clause-adds g c =
    subst (λ (l : List Sent). AddsLane (view_of g.E.Engine.sights g.E.Engine.tables c.args.self.now) l c.args.reply.now.items c.statements.reply.items (view_of g.E.Engine.sights g.E.Engine.tables c.statements.self))
    (take_all c.statements.sent-index c.args.lane.now (omega (arith, c.statements-test.false))) c.statements.invariant.adds
