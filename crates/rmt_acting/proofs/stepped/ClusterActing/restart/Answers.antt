use Rattle.std.proofs.Common.{true}
use Rattle.rmt_acting.proofs.Bringing.{turns, keeps}
use Rattle.rmt_acting.proofs.stepped.ClusterActing.restart.Goals as goal

pub returns-clause-turns : goal.returns-clause-turns
returns-clause-turns c = turns c.restart.result c.args.self.now c.restart.new.cluster c.args.replica true c.restart.ensures.up c.restart.ensures.free

pub returns-clause-keeps : goal.returns-clause-keeps
returns-clause-keeps c = keeps c.args.self.now c.restart.new.cluster c.restart.ensures.keeps
