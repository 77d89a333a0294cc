use Rattle.rmt_play.specs.PlayerSteps.{clusters_in}
use Rattle.std.proofs.Common.{◌∙◌, arith, refl}
use Rattle.rmt_play.proofs.ScriptLemmas.{so_far_start, so_far_made, round-ends, round-short, round-in-part, made-short, made-in-part}
use Rattle.rmt_play.proofs.script.play.Goals as goal

pub rounds-init : goal.rounds-init
rounds-init g c = record {
  within = omega arith;
  few = omega arith;
  quiet = refl;
  sound = c.new-player.ensures.sound;
  so_far = so_far_start c.args.script.now (clusters_in c.new-player.result) (g.T.Teller.told c.args.teller.now) c.new-player.ensures.empty;
}

pub rounds-preserved : goal.rounds-preserved
rounds-preserved g c =
    let on = so_far_made c.args.script.now c.rounds.at c.rounds.refused (clusters_in c.rounds.player) (clusters_in c.play_round.new.player) (clusters_in c.make_table.new.player) _ _ _ _ c.in-Creates.table c.in-Creates.schema c.in-Creates.end c.in-Creates.count c.in-On.end c.in-On.more
    c.rounds.invariant.so_far c.in-Creates.ensures.round c.in-On.ensures.made in
    record {
      within = on.3;
      few = on.1;
      quiet = c.in-On.ensures.quiet (λ e. cc) ∙ (c.in-Creates.ensures.quiet (λ e. cc) ∙ c.rounds.invariant.quiet);
      sound = c.in-On.ensures.sound;
      so_far = on.0;
    }

pub rounds-smaller : goal.rounds-smaller
rounds-smaller g c =
    let on = so_far_made c.args.script.now c.rounds.at c.rounds.refused (clusters_in c.rounds.player) (clusters_in c.play_round.new.player) (clusters_in c.make_table.new.player) _ _ _ _ c.in-Creates.table c.in-Creates.schema c.in-Creates.end c.in-Creates.count c.in-On.end c.in-On.more
    c.rounds.invariant.so_far c.in-Creates.ensures.round c.in-On.ensures.made in
    let further = on.2 in
    let within = on.3 in
    omega (arith, further, within)

pub returns-in-AtEnd-clause-end : goal.returns-in-AtEnd-clause-end
returns-in-AtEnd-clause-end g c =
    round-ends c.args.script.now c.rounds.at c.rounds.refused (clusters_in c.rounds.player) (clusters_in c.play_round.new.player) _ _ _ c.in-AtEnd.refused c.end_of.result c.rounds.invariant.so_far c.in-AtEnd.ensures.round c.end_of.ensures

pub returns-in-WriteFault-clause-end : goal.returns-in-WriteFault-clause-end
returns-in-WriteFault-clause-end g c =
    round-short c.args.script.now c.rounds.at c.rounds.refused (clusters_in c.rounds.player) (clusters_in c.play_round.new.player) _ _ _ c.rounds.invariant.so_far c.in-WriteFault.ensures.round

pub returns-in-Memory-clause-end : goal.returns-in-Memory-clause-end
returns-in-Memory-clause-end g c =
    round-in-part c.args.script.now c.rounds.at c.rounds.refused (clusters_in c.rounds.player) (clusters_in c.play_round.new.player) _ _ _ c.rounds.invariant.so_far c.in-Memory.ensures.round

pub returns-in-WriteFault-make_table-clause-end : goal.returns-in-WriteFault-make_table-clause-end
returns-in-WriteFault-make_table-clause-end g c =
    made-short c.args.script.now c.rounds.at c.rounds.refused (clusters_in c.rounds.player) (clusters_in c.play_round.new.player) (clusters_in c.make_table.new.player) _ _ _ _ c.in-Creates.table c.in-Creates.schema c.in-Creates.end c.in-Creates.count
    c.rounds.invariant.so_far c.in-Creates.ensures.round c.in-WriteFault-make_table.ensures.made

pub returns-in-Memory-make_table-clause-end : goal.returns-in-Memory-make_table-clause-end
returns-in-Memory-make_table-clause-end g c =
    made-in-part c.args.script.now c.rounds.at c.rounds.refused (clusters_in c.rounds.player) (clusters_in c.play_round.new.player) _ _ _ _ c.in-Creates.table c.in-Creates.schema c.in-Creates.end c.in-Creates.count
    c.rounds.invariant.so_far c.in-Creates.ensures.round c.in-Memory-make_table.ensures.made
