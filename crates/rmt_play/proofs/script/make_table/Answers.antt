use Rattle.rmt_play.specs.PlayerSteps.{clusters_in}
use Rattle.rmt_play.proofs.ScriptLemmas.{made-told}
use Rattle.rmt_play.proofs.script.make_table.Goals as goal

pub returns-in-Ok-clause-made : goal.returns-in-Ok-clause-made
returns-in-Ok-clause-made g c =
    made-told g.T.Teller.outlet c.args.table c.args.schema c.args.end c.in-Ok.line (clusters_in c.args.player.now) (clusters_in c.add.new.self) _ _ c.tell_line.result c.in-Ok.ensures.adds c.tell_line.ensures.reply
