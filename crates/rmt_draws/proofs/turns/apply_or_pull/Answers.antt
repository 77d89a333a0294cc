use Rattle.std.proofs.Common.{◌≡◌, ℕ, ◌%◌, ◌<◌, ◌∙◌, length, sym, ap, subst, arith}
use Rattle.std.specs.Prelude.{slice_get, IfSome}
use Rattle.std.specs.declared.option.Option.{Option}
use Rattle.std.specs.declared.option.Option.TheVariants.{Some}
use Rattle.rmt_events.specs.declared.event.Event.TheVariants as ev
use Rattle.rmt_replica.specs.SeenReplica.{shown}
use Rattle.rmt_events.specs.Draws.{Turn, stepped, drawn, pending}
use Rattle.rmt_draws.proofs.TurnLemmas.{some-applies}
use Rattle.rmt_draws.proofs.turns.apply_or_pull.Goals as goal

pub overflow_cast-entry : goal.overflow_cast-entry
overflow_cast-entry c =
    let within = λ (o : Option ℕ). IfSome o (λ i. i < length c.args.worker.now.log) in
    let w = subst within c.unwrap-entry.ensures c.nth_pending.ensures.within in
    omega (arith, w)

pub returns-clause-event : goal.returns-clause-event
returns-clause-event c =
    let x = c.args.x in
    let k = c.args.worker.now.number in
    let places = pending (shown c.args.worker.now) in
    let count = c.count_pending-count.result in
    let entry = c.unwrap-entry.result in
    let at : c.drawn.result ≡ drawn (stepped x) = c.drawn.ensures.is ∙ ap drawn c.stepped-next.ensures.is in
    let got : slice_get places (drawn (stepped x) % count) ≡ Some entry =
    ap (λ (n : ℕ). slice_get places (n % count)) (sym at) ∙ (sym c.nth_pending.ensures.place ∙ c.unwrap-entry.ensures) in
    let told = some-applies x k count entry places c.count_pending-count.ensures got in
    ap (λ (n : ℕ). ev.Apply n entry) c.number-replica.ensures ∙ sym (ap (λ (t : Turn). t.event) told)
