use Rattle.std.proofs.Common.{◌≡◌, ℕ, ◌%◌, ◌∙◌, length, refl, sym, ap, arith}
use Rattle.std.specs.Prelude.{slice_get}
use Rattle.std.proofs.lemmas.Option.{slice_get_read}
use Rattle.std.specs.declared.option.Option.TheVariants.{Some}
use Rattle.rmt_history.proofs.ListLemmas.{get-has}
use Rattle.rmt_events.specs.Draws.{stepped, drawn}
use Rattle.rmt_draws.proofs.TurnLemmas.{turn-told}
use Rattle.rmt_draws.proofs.turns.turn.Goals as goal

pub turn_at-requires-clause-few : goal.turn_at-requires-clause-few
turn_at-requires-clause-few c =
    let all = c.args.replicas.now in
    let i = c.drawn.result % length all in
    let r = c.index-replicas-drawn in
    let here : slice_get all i ≡ Some r.result =
    slice_get_read all (length all) i r.result refl (omega (arith, c.requires.some)) r.is in
    c.requires.few r.result (get-has all i r.result here)

pub returns-clause-turn : goal.returns-clause-turn
returns-clause-turn c =
    let x = c.args.x in
    let all = c.args.replicas.now in
    let i = c.drawn.result % length all in
    let r = c.index-replicas-drawn in
    let told = c.turn_at.ensures in
    let first : c.stepped-first.result ≡ stepped x = c.stepped-first.ensures.is in
    let second : c.stepped-second.result ≡ stepped (stepped x) = c.stepped-second.ensures.is ∙ ap stepped first in
    let kind : c.drawn-2.result ≡ drawn (stepped x) = c.drawn-2.ensures.is ∙ ap drawn first in
    let at : c.drawn.result ≡ drawn (stepped (stepped x)) = c.drawn.ensures.is ∙ ap drawn second in
    let here : slice_get all i ≡ Some r.result =
    slice_get_read all (length all) i r.result refl (omega (arith, c.requires.some)) r.is in
    let there = ap (λ (n : ℕ). slice_get all (n % length all)) (sym at) ∙ here in
    turn-told c.turn_at.result all x c.drawn-2.result c.stepped-second.result r.result kind second (record { there = there })
    told.event told.state
