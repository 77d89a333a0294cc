use Rattle.std.proofs.Common.{◌+◌, ◌∙◌, ◌∷◌, ◌++◌, [], List, take, refl, sym, ap, subst, arith}
use Rattle.std.proofs.lemmas.List.{length-take-le, take_more, take_all}
use Rattle.rmt_statements.specs.declared.sent.Sent.{Sent}
use Rattle.rmt_reply.specs.declared.line.Line.{Line}
use Rattle.rmt_play.specs.PlayerSteps.{view_of}
use Rattle.rmt_play.proofs.LaneLemmas.{AddsLanes, lanes-none, lanes-on, lanes-ended, lanes-few}
use Rattle.rmt_play.proofs.player.Player.lanes.Goals as goal

pub lanes-init : goal.lanes-init
lanes-init g c = record {
  sound = c.requires.sound;
  numbered = refl;
  adds = subst (λ (l : List Line). AddsLanes (view_of g.E.Engine.sights g.E.Engine.tables c.args.self.now) [] l (view_of g.E.Engine.sights g.E.Engine.tables c.args.self.now)) (sym c.new-reply.ensures.items)
      (lanes-none (view_of g.E.Engine.sights g.E.Engine.tables c.args.self.now));
}

pub lanes-preserved : goal.lanes-preserved
lanes-preserved g c =
    let index = c.lanes.invariant.numbered in
    let long = length-take-le c.lanes.lane-index c.args.lanes.now (omega (arith, c.lanes-test.true)) in
    record {
      sound = c.in_ok-lane.ensures.sound;
      numbered = omega (arith, index);
      adds = subst (λ (l : List (List Sent)). AddsLanes (view_of g.E.Engine.sights g.E.Engine.tables c.args.self.now) l c.lane.new.reply.items (view_of g.E.Engine.sights g.E.Engine.tables c.lane.new.self))
          (ap (λ (s : List Sent). take c.lanes.lane-index c.args.lanes.now ++ s ∷ []) (c.as_slice.ensures ∙ c.lane-item.is) ∙ sym (take_more c.args.lanes.now c.lanes.lane-index c.lane-item.result c.lanes-test.true))
          (lanes-on (view_of g.E.Engine.sights g.E.Engine.tables c.args.self.now) (view_of g.E.Engine.sights g.E.Engine.tables c.lanes.self) (view_of g.E.Engine.sights g.E.Engine.tables c.lane.new.self)
          (take c.lanes.lane-index c.args.lanes.now) c.lanes.reply.items c.push.new.self.items c.lane.new.reply.items c.as_slice.result.now (c.lanes.number + 1) c.lanes.invariant.adds c.in_ok-push.ensures.items (omega (arith, index, long)) c.in_ok-lane.ensures.adds);
    }

pub returns-clause-plays : goal.returns-clause-plays
returns-clause-plays g c =
    lanes-ended (view_of g.E.Engine.sights g.E.Engine.tables c.args.self.now) (view_of g.E.Engine.sights g.E.Engine.tables c.lanes.self) c.args.lanes.now c.lanes.reply.items c.new.result
    (subst (λ (l : List (List Sent)). AddsLanes (view_of g.E.Engine.sights g.E.Engine.tables c.args.self.now) l c.lanes.reply.items (view_of g.E.Engine.sights g.E.Engine.tables c.lanes.self))
    (take_all c.lanes.lane-index c.args.lanes.now (omega (arith, c.lanes-test.false))) c.lanes.invariant.adds)
    (c.new.ensures ∙ c.in_ok-push-2.ensures.items)

pub returns-clause-few_refused : goal.returns-clause-few_refused
returns-clause-few_refused g c =
    lanes-few (view_of g.E.Engine.sights g.E.Engine.tables c.args.self.now) (view_of g.E.Engine.sights g.E.Engine.tables c.lanes.self) c.args.lanes.now c.lanes.reply.items c.new.result
    (subst (λ (l : List (List Sent)). AddsLanes (view_of g.E.Engine.sights g.E.Engine.tables c.args.self.now) l c.lanes.reply.items (view_of g.E.Engine.sights g.E.Engine.tables c.lanes.self))
    (take_all c.lanes.lane-index c.args.lanes.now (omega (arith, c.lanes-test.false))) c.lanes.invariant.adds)
    (c.new.ensures ∙ c.in_ok-push-2.ensures.items)
