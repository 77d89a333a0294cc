use Rattle.std.proofs.lemmas.Result.{IfOk-weaker}
use Rattle.rmt_acting.proofs.Bringing.{mutates, goes, keeps}
use Rattle.rmt_acting.proofs.stepped.ClusterActing.mutate.Goals as goal

pub returns-clause-mutates : goal.returns-clause-mutates
returns-clause-mutates c = IfOk-weaker c.mutate.result _ _ (λ made f. mutates c.args.self.now c.mutate.new.cluster c.args.command made f) c.mutate.ensures.mutates

pub returns-clause-goes_on : goal.returns-clause-goes_on
returns-clause-goes_on c = goes c.mutate.result c.args.self.now c.mutate.new.cluster c.mutate.ensures.free c.mutate.ensures.keeps

pub returns-clause-keeps : goal.returns-clause-keeps
returns-clause-keeps c = keeps c.args.self.now c.mutate.new.cluster c.mutate.ensures.keeps.table
