use Rattle.std.proofs.Common.{false}
use Rattle.rmt_acting.proofs.Bringing.{turns, keeps}
use Rattle.rmt_acting.proofs.stepped.ClusterActing.kill.Goals as goal

pub returns-clause-turns : goal.returns-clause-turns
returns-clause-turns c = turns c.kill.result c.args.self.now c.kill.new.cluster c.args.replica false c.kill.ensures.up c.kill.ensures.free

pub returns-clause-keeps : goal.returns-clause-keeps
returns-clause-keeps c = keeps c.args.self.now c.kill.new.cluster c.kill.ensures.keeps
