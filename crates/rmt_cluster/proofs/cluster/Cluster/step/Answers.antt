use Rattle.std.proofs.Common.{◌∙◌, inl, List, length, sym, ap, subst}
use Rattle.rmt_events.specs.Clusters.{Cluster}
use Rattle.rmt_events.specs.Steps.{Step}
use Rattle.rmt_events.specs.declared.event.Event.{Event}
use Rattle.rmt_events.specs.declared.reply.Reply.{Reply}
use Rattle.rmt_state.specs.States.{cluster_of}
use Rattle.rmt_cluster.specs.Clusters.{IsCluster, MayStep, Stops}
use Rattle.rmt_state.proofs.StateLemmas.{at-err}
use Rattle.rmt_cluster.proofs.AcceptedLemmas.{keeps-accepted}
use Rattle.rmt_cluster.proofs.PartSizes.{are-small}
use Rattle.rmt_cluster.proofs.ClusterLemmas.{may-act, suits, stepped, stopped, stops, rests, as-many, schema-stays, stored-next}
use Rattle.rmt_cluster.proofs.cluster.Cluster.step.Goals as goal

pub act-requires-clause-may : goal.act-requires-clause-may
act-requires-clause-may c =
    let i = c.self.inside in
    may-act i.state i.attempts.made i.attempts.open_ones i.events.events c.args.event c.sound.ensures.state (subst (λ (v : Cluster). MayStep v c.args.event) (sym c.self.view_is) c.requires.may)

pub act-requires-clause-suit : goal.act-requires-clause-suit
act-requires-clause-suit c =
    let i = c.self.inside in
    suits i.state i.attempts i.events.events c.sound.ensures.state c.self.invariant

pub act-requires-clause-accepted : goal.act-requires-clause-accepted
act-requires-clause-accepted c =
    let i = c.self.inside in
    keeps-accepted i.state i.attempts i.events.events c.self.invariant

pub act-requires-clause-small : goal.act-requires-clause-small
act-requires-clause-small c =
    let i = c.self.inside in
    are-small i.state i.attempts i.events.events c.self.invariant c.sound.ensures.schema

pub invariant_of-self-in_err-reply : goal.invariant_of-self-in_err-reply
invariant_of-self-in_err-reply c =
    let i = c.self.inside in
    let m = subst (λ (v : Cluster). MayStep v c.args.event) (sym c.self.view_is) c.requires.may in
    subst (λ (es : List (Event × Reply)). IsCluster c.act.new.state c.act.new.attempts es) (sym c.reserve.ensures.events)
    (stopped i.state c.act.new.state i.attempts c.act.new.attempts i.events.events c.args.event m c.self.invariant c.in_err-reply.ensures.err)

pub returns-in_err-reply-clause-err : goal.returns-in_err-reply-clause-err
returns-in_err-reply-clause-err c =
    let i = c.self.inside in
    let t = c.act.new.state in
    let b = c.act.new.attempts in
    at-err c.from_residual-in_err-reply.result _
    (subst (λ (v : Cluster). Stops v c.args.event (cluster_of t b.made b.open_ones c.reserve.new.self.events)) c.self.view_is
    (subst (λ (es : List (Event × Reply)). Stops (cluster_of i.state i.attempts.made i.attempts.open_ones i.events.events) c.args.event (cluster_of t b.made b.open_ones es)) (sym c.reserve.ensures.events)
    (stops i.state t i.attempts b i.events.events c.args.event c.in_err-reply.ensures.err)))

pub returns-in_err-reserve-clause-err : goal.returns-in_err-reserve-clause-err
returns-in_err-reserve-clause-err c =
    let i = c.self.inside in
    at-err c.from_residual.result _ (inl (ap (λ (es : List (Event × Reply)). cluster_of i.state i.attempts.made i.attempts.open_ones es) c.reserve.ensures.events ∙ c.self.view_is))

pub returns-in_err-reply-clause-log : goal.returns-in_err-reply-clause-log
returns-in_err-reply-clause-log c =
    let i = c.self.inside in
    let s = cluster_of i.state i.attempts.made i.attempts.open_ones i.events.events in
    let t = cluster_of c.act.new.state c.act.new.attempts.made c.act.new.attempts.open_ones i.events.events in
    let r = rests s t c.args.event (stops i.state c.act.new.state i.attempts c.act.new.attempts i.events.events c.args.event c.in_err-reply.ensures.err) in
    at-err c.from_residual-in_err-reply.result _ (r.log ∙ ap (λ (v : Cluster). v.table.log) c.self.view_is)

pub returns-in_err-reply-clause-keeps : goal.returns-in_err-reply-clause-keeps
returns-in_err-reply-clause-keeps c =
    let i = c.self.inside in
    let s = cluster_of i.state i.attempts.made i.attempts.open_ones i.events.events in
    let t = cluster_of c.act.new.state c.act.new.attempts.made c.act.new.attempts.open_ones i.events.events in
    let r = rests s t c.args.event (stops i.state c.act.new.state i.attempts c.act.new.attempts i.events.events c.args.event c.in_err-reply.ensures.err) in
    record { schema = r.schema ∙ ap (λ (v : Cluster). v.table.schema) c.self.view_is; replicas = r.replicas ∙ ap (λ (v : Cluster). length v.replicas) c.self.view_is }

pub invariant_of-self-2 : goal.invariant_of-self-2
invariant_of-self-2 c =
    let i = c.self.inside in
    let m = subst (λ (v : Cluster). MayStep v c.args.event) (sym c.self.view_is) c.requires.may in
    subst (λ (es : List (Event × Reply)). IsCluster c.act.new.state c.act.new.attempts es) (sym (stored-next i.events.events c.reserve.new.self.events c.push.new.self.events c.args.event c.in_ok-reply.reply c.reserve.ensures.events c.push.ensures.events))
    (stepped i.state c.act.new.state i.attempts c.act.new.attempts i.events.events c.args.event c.in_ok-reply.reply m c.self.invariant c.in_ok-reply.ensures.ok)

pub returns-clause-ok : goal.returns-clause-ok
returns-clause-ok c =
    let i = c.self.inside in
    let t = c.act.new.state in
    let b = c.act.new.attempts in
    subst (λ (v : Cluster). Step v c.args.event c.in_ok-reply.reply (cluster_of t b.made b.open_ones c.push.new.self.events)) c.self.view_is (record {
      after = cluster_of t b.made b.open_ones i.events.events;
      does = c.in_ok-reply.ensures.ok i.events.events;
      stored = ap (λ (es : List (Event × Reply)). cluster_of t b.made b.open_ones es) (stored-next i.events.events c.reserve.new.self.events c.push.new.self.events c.args.event c.in_ok-reply.reply c.reserve.ensures.events c.push.ensures.events);
    })

pub returns-clause-keeps : goal.returns-clause-keeps
returns-clause-keeps c =
    let i = c.self.inside in
    let m = subst (λ (v : Cluster). MayStep v c.args.event) (sym c.self.view_is) c.requires.may in
    record {
      schema = schema-stays i.state c.act.new.state i.attempts c.act.new.attempts i.events.events c.args.event c.in_ok-reply.reply m c.in_ok-reply.ensures.ok ∙ ap (λ (v : Cluster). v.table.schema) c.self.view_is;
      replicas = as-many i.state c.act.new.state i.attempts c.act.new.attempts i.events.events c.args.event c.in_ok-reply.reply m c.in_ok-reply.ensures.ok ∙ ap (λ (v : Cluster). length v.replicas) c.self.view_is;
    }
