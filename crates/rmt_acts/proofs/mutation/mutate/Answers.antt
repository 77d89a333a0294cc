use Rattle.std.proofs.Common.{◌∙◌, ℕ, ap, subst, sym}
use Rattle.rmt_events.specs.Steps.{Step}
use Rattle.rmt_events.specs.declared.event.Event.TheVariants as ev
use Rattle.rmt_events.specs.declared.reply.Reply.{Reply}
use Rattle.rmt_events.specs.declared.reply.Reply.TheVariants as rp
use Rattle.rmt_statement_model.specs.Mutations.{Mutates}
use Rattle.rmt_statement_model.specs.Shows.{Leads}
use Rattle.rmt_statement_model.proofs.MutationRows.{mutation-row, mutation-refused}
use Rattle.rmt_acts.proofs.mutation.mutate.Goals as goal

pub returns-in-Entry-clause-mutates : goal.returns-in-Entry-clause-mutates
returns-in-Entry-clause-mutates c = λ t h.
    let s = c.args.cluster.now in
    let u = c.step.new.self in
    let k = subst (λ (y : Reply). Step s (ev.CreateMutation c.args.command) y u) c.in-Entry.is c.in_ok-reply.ensures.ok in
    subst (λ (i : ℕ). Leads u (Mutates t c.args.command i)) (sym c.mutations_made-id.ensures) (mutation-row s u c.args.command c.in-Entry.field-0 c.step.ensures.whole k t h)

pub returns-in-LimitReached-clause-mutates : goal.returns-in-LimitReached-clause-mutates
returns-in-LimitReached-clause-mutates c =
    let s = c.args.cluster.now in
    let u = c.step.new.self in
    let r = c.in-LimitReached in
    let k = subst (λ (y : Reply). Step s (ev.CreateMutation c.args.command) y u) (c.in-Refused.is ∙ ap rp.Refused r.is) c.in_ok-reply.ensures.ok in
    mutation-refused s u c.args.command r.limit r.value c.step.ensures.whole k
