use Rattle.std.proofs.Common.{rules, ◌≡◌, ◌∷◌, ◌++◌, [], ◌∙◌, List, length, ap, if◌then◌else◌}
use Rattle.std.specs.Result.{is_ok}
use Rattle.rmt_events.specs.declared.event.Event.{Event}
use Rattle.rmt_events.specs.declared.reply.Reply.{Reply}
use Rattle.rmt_event_log.specs.declared.stored.Stored.{Stored}
use Rattle.rmt_event_log.specs.declared.stored.Stored.TheVariants as st
use Rattle.rmt_event_log.specs.EventLogs.{LoggedEvents}
use Rattle.rmt_event_log.proofs.LogLemmas.{frequent-sound, rare-last, rare-sound}
use Rattle.rmt_event_log.proofs.event_log.EventLog.push.Goals as goal

pub invariant_of-self : goal.invariant_of-self
invariant_of-self c =
    let i = c.self.inside in
    frequent-sound (length i.rare.items) i.stored.items c.push.new.self.items c.in-Ok.stored c.args.event c.args.reply c.in-Ok.ensures
    (c.push.ensures.items ∙ ap (λ r. if is_ok r then i.stored.items ++ c.in-Ok.stored ∷ [] else i.stored.items) c.unwrap.ensures) c.self.invariant

-- a rare pair goes last among the rare ones, and its place last among the stored
stored-is : (c : goal.After-unwrap-in-Err-2) → c.push-in-Err.new.self.items ≡ c.self.inside.stored.items ++ st.Rare c.len.result ∷ []
stored-is c =
    let olds = c.self.inside.stored.items in
    ◌∙◌ {A = List Stored} c.push-in-Err.ensures.items (ap (λ r. if is_ok r then olds ++ st.Rare c.len.result ∷ [] else olds) c.unwrap-in-Err.ensures)

rare-is : (c : goal.After-unwrap-in-Err-2) → c.push-in-Err-2.new.self.items ≡ c.self.inside.rare.items ++ (c.args.event, c.args.reply) ∷ []
rare-is c =
    let olds = c.self.inside.rare.items in
    c.push-in-Err-2.ensures.items
    ∙ (ap (λ r. if is_ok r then olds ++ c.in-Err.pair ∷ [] else olds) c.unwrap-in-Err-2.ensures
    ∙ ap (λ (x : Event × Reply). olds ++ x ∷ []) c.in-Err.ensures.is_pair)

place-is : (c : goal.After-unwrap-in-Err-2) → c.len.result ≡ length c.self.inside.rare.items
place-is c = search rules

pub invariant_of-self-in-Err : goal.invariant_of-self-in-Err
invariant_of-self-in-Err c =
    let i = c.self.inside in
    rare-sound i.rare.items c.push-in-Err-2.new.self.items i.stored.items c.push-in-Err.new.self.items c.len.result (c.args.event, c.args.reply) (place-is c) (rare-is c) (stored-is c) c.self.invariant

pub returns-in-Err-clause-events : goal.returns-in-Err-clause-events
returns-in-Err-clause-events c =
    let i = c.self.inside in
    rare-last i.rare.items c.push-in-Err-2.new.self.items i.stored.items c.push-in-Err.new.self.items c.len.result (c.args.event, c.args.reply) (place-is c) (rare-is c) (stored-is c) c.self.invariant
    ∙ ap (λ (v : LoggedEvents). (c.args.event, c.args.reply) ∷ v.events) c.self.view_is
