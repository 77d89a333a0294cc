use Rattle.std.proofs.Common.{◌∙◌, sym}
use Rattle.rmt_cluster.proofs.SyncLemmas.{pulled-told, down-told}
use Rattle.rmt_cluster.proofs.cluster.Cluster.pull_all.Goals as goal

pub returns-then-not-was_pulled-clause-pulls : goal.returns-then-not-was_pulled-clause-pulls
returns-then-not-was_pulled-clause-pulls c = down-told c.args.self.now c.step-reply.new.self c.args.replica c.step-reply.result c.was_pulled.result (sym c.is_err.ensures.value ∙ c.if-is_err.false) c.step-reply.ensures.ok c.was_pulled.ensures c.if-not-was_pulled.true

pub returns-clause-pulls : goal.returns-clause-pulls
returns-clause-pulls c = pulled-told c.args.self.now c.step-reply.new.self c.args.replica c.step-reply.result c.was_pulled.result c.step-reply.ensures.whole c.requires.allowed (sym c.is_err.ensures.value ∙ c.if-is_err.false) c.step-reply.ensures.ok c.was_pulled.ensures c.if-not-was_pulled.false
