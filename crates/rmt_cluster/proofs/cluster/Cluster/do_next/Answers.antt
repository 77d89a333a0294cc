use Rattle.std.proofs.Common.{◌∙◌, sym, subst}
use Rattle.rmt_replica.specs.SeenReplica.{shown}
use Rattle.rmt_events.specs.Clusters.{Cluster}
use Rattle.rmt_events.specs.ClusterChanges.{IsNumbered}
use Rattle.rmt_state.proofs.StateLemmas.{worker-shown}
use Rattle.rmt_cluster.proofs.SyncLemmas.{done-told, lacks-told, log-told}
use Rattle.rmt_cluster.proofs.cluster.Cluster.do_next.Goals as goal

pub returns-in-None-clause-does : goal.returns-in-None-clause-does
returns-in-None-clause-does c =
    let i = c.self.inside in
    let x = shown c.worker.result.now in
    let n = subst (λ (v : Cluster). IsNumbered v c.args.replica x) c.self.view_is (worker-shown i.state c.args.replica c.worker.result.now _ _ _ c.worker.ensures.at) in
    done-told c.args.self.now c.step-reply.new.self c.args.replica c.args.i x c.step-reply.result c.missing_part.result (sym c.is_err.ensures.value ∙ c.if-is_err.false) c.step-reply.ensures.ok c.missing_part.ensures c.in-None.is
    c.step-reply.ensures.whole n c.requires.ready c.requires.place

pub returns-in-Some-clause-does : goal.returns-in-Some-clause-does
returns-in-Some-clause-does c =
    let i = c.self.inside in
    let x = shown c.worker.result.now in
    let n = subst (λ (v : Cluster). IsNumbered v c.args.replica x) c.self.view_is (worker-shown i.state c.args.replica c.worker.result.now _ _ _ c.worker.ensures.at) in
    lacks-told c.args.self.now c.step-reply.new.self c.args.replica c.args.i c.source_of-source.result x c.step-reply.result c.missing_part.result c.in-Some.part (sym c.is_err.ensures.value ∙ c.if-is_err.false) c.step-reply.ensures.ok c.missing_part.ensures c.in-Some.is
    c.step-reply.ensures.whole n c.requires.ready c.requires.place c.source_of-source.ensures

pub returns-then-is_err-clause-log : goal.returns-then-is_err-clause-log
returns-then-is_err-clause-log c = log-told c.args.self.now c.step-reply.new.self c.args.replica c.args.i c.step-reply.result c.step-reply.ensures.ok c.step-reply.ensures.log

pub returns-in-None-clause-log : goal.returns-in-None-clause-log
returns-in-None-clause-log c = log-told c.args.self.now c.step-reply.new.self c.args.replica c.args.i c.step-reply.result c.step-reply.ensures.ok c.step-reply.ensures.log

pub returns-in-Some-clause-log : goal.returns-in-Some-clause-log
returns-in-Some-clause-log c = log-told c.args.self.now c.step-reply.new.self c.args.replica c.args.i c.step-reply.result c.step-reply.ensures.ok c.step-reply.ensures.log
