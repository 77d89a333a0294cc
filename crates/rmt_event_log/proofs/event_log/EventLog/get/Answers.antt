use Rattle.std.proofs.Common.{◌≡◌, List, subst, arith}
use Rattle.std.specs.Prelude.{slice_get}
use Rattle.std.specs.declared.option.Option.TheVariants.{Some}
use Rattle.std.proofs.lemmas.Grind.{common_steps}
use Rattle.std.proofs.lemmas.Option.{gets}
use Rattle.rmt_events.specs.declared.event.Event.{Event}
use Rattle.rmt_events.specs.declared.reply.Reply.{Reply}
use Rattle.rmt_event_log.specs.declared.stored.Stored.{Stored}
use Rattle.rmt_event_log.specs.EventLogs.{LoggedEvents, IsSamePair, IsPairAt}
use Rattle.rmt_event_log.specs.Inside.{pair_of}
use Rattle.rmt_event_log.proofs.LogLemmas.{read-at}
use Rattle.rmt_event_log.proofs.event_log.EventLog.get.Goals as goal

pub returns : goal.returns
returns c =
    let i = c.self.inside in
    let s = c.in-Some.stored.now in
    let read = c.in_ok-pair.field-0 in
    let here : slice_get c.deref.result.now c.args.i ≡ Some s = grind (arith, common_steps, gets) in
    let stands = subst (λ (xs : List Stored). slice_get xs c.args.i ≡ Some s) c.deref.ensures.value here in
    subst (λ (v : LoggedEvents). IsPairAt v.events c.args.i read) c.self.view_is
    (read-at i.rare.items i.stored.items c.args.i s read stands (subst (λ (xs : List (Event × Reply)). IsSamePair (pair_of xs s) read) c.deref-2.ensures.value c.in_ok-pair.ensures))
