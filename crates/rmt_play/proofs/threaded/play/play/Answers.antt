use Rattle.std.proofs.Common.{◌∙◌, List, arith, refl, subst, sym}
use Rattle.rmt_state.specs.States.{StateView}
use Rattle.rmt_play.specs.Outlets.{Told}
use Rattle.rmt_play.specs.Threads.{AreClearIn, PlayedAmong}
use Rattle.rmt_play.specs.Offered.{IsOfferedBy}
use Rattle.rmt_play.specs.Seats.{ground_view}
use Rattle.rmt_play.proofs.GroundLemmas.{first-empty, first-ground}
use Rattle.rmt_play.proofs.ScriptLemmas.{so_far_start}
use Rattle.rmt_play.proofs.ThreadLemmas.{span-further, span-in-part, span-made, span-made-none, span-made-short, span-next, span-short, span-whole}
use Rattle.rmt_play.proofs.threaded.play.play.Goals as goal

pub rounds-init : goal.rounds-init
rounds-init g c = record {
  within = omega arith;
  few = omega arith;
  quiet = refl;
  ground = first-ground (IsOfferedBy c.args.script.now) c.in-Ok.first c.in-Ok.ensures;
  so_far = λ clear. so_far_start c.args.script.now (ground_view (IsOfferedBy c.args.script.now) c.in-Ok.first) (g.T.Teller.told c.args.teller.now) (first-empty (IsOfferedBy c.args.script.now) c.in-Ok.first c.in-Ok.ensures);
}

pub returns-in-AtEnd-clause-end : goal.returns-in-AtEnd-clause-end
returns-in-AtEnd-clause-end g c =
    subst (λ (ss : List StateView). AreClearIn c.args.script.now → PlayedAmong c.args.script.now (Told g.T.Teller.outlet (g.T.Teller.told c.args.teller.now) (g.T.Teller.told c.play_span.new.teller)) c.in-AtEnd.refused ss) (sym c.new-states.ensures)
    (span-whole g.T.Teller.outlet c.args.script.now c.rounds.at c.rounds.refused c.rounds.ground _ _ _ c.rounds.invariant.so_far c.in-AtEnd.refused c.in-AtEnd.ground c.in-AtEnd.ensures.span)

pub rounds-preserved : goal.rounds-preserved
rounds-preserved g c =
    let further = span-further g.T.Teller.outlet c.args.script.now c.rounds.at c.rounds.refused c.rounds.ground _ _ _ c.rounds.invariant.so_far c.in-Creates.table c.in-Creates.schema c.in-Creates.end c.in-Creates.count c.in-Creates.left c.in-Creates.ensures.span in
    let few = further.few in
    record {
      within = further.within;
      few = omega (arith, few);
      quiet = c.in-On.ensures.quiet (λ e. cc) ∙ (c.in-Creates.ensures.quiet (λ e. cc) ∙ c.rounds.invariant.quiet);
      ground = span-next g.T.Teller.outlet c.args.script.now c.rounds.at c.rounds.refused c.rounds.ground _ _ _ c.rounds.invariant.so_far c.in-Creates.table c.in-Creates.schema c.in-Creates.end c.in-Creates.count c.in-Creates.left c.in-Creates.ensures.span c.in-On.next c.in-On.ensures.made.0;
      so_far = span-made g.T.Teller.outlet c.args.script.now c.rounds.at c.rounds.refused c.rounds.ground _ _ _ c.rounds.invariant.so_far c.in-Creates.table c.in-Creates.schema c.in-Creates.end c.in-Creates.count c.in-Creates.left c.in-Creates.ensures.span c.in-On.next _ c.in-On.ensures.made.0 c.in-On.ensures.made.1;
    }

pub returns-in-WriteFault-make_table-clause-end : goal.returns-in-WriteFault-make_table-clause-end
returns-in-WriteFault-make_table-clause-end g c =
    span-made-short g.T.Teller.outlet c.args.script.now c.rounds.at c.rounds.refused c.rounds.ground _ _ _ c.rounds.invariant.so_far c.in-Creates.table c.in-Creates.schema c.in-Creates.end c.in-Creates.count c.in-Creates.left c.in-Creates.ensures.span _ c.in-WriteFault-make_table.ensures.made

pub returns-in-Memory-make_table-clause-end : goal.returns-in-Memory-make_table-clause-end
returns-in-Memory-make_table-clause-end g c =
    span-made-none g.T.Teller.outlet c.args.script.now c.rounds.at c.rounds.refused c.rounds.ground _ _ _ c.rounds.invariant.so_far c.in-Creates.table c.in-Creates.schema c.in-Creates.end c.in-Creates.count c.in-Creates.left c.in-Creates.ensures.span _ c.in-Memory-make_table.ensures.made

pub returns-in-WriteFault-clause-end : goal.returns-in-WriteFault-clause-end
returns-in-WriteFault-clause-end g c = span-short g.T.Teller.outlet c.args.script.now c.rounds.at c.rounds.refused c.rounds.ground _ _ _ c.rounds.invariant.so_far c.in-WriteFault.ensures.span

pub returns-in-Memory-clause-end : goal.returns-in-Memory-clause-end
returns-in-Memory-clause-end g c = span-in-part g.T.Teller.outlet c.args.script.now c.rounds.at c.rounds.refused c.rounds.ground _ _ _ c.rounds.invariant.so_far c.in-Memory.ensures.span
