use Rattle.std.proofs.Common.{◌≡◌, ◌∙◌, ℕ, length, ap, subst, sym, arith}
use Rattle.std.specs.declared.option.Option.{Option}
use Rattle.std.specs.declared.option.Option.TheVariants.{Some, None}
use Rattle.rmt_state.specs.States.{IsNumber as IsNumberOf}
use Rattle.rmt_model.specs.Words.{Each}
use Rattle.rmt_shared.specs.SharedReplicas.{IsNumber}
use Rattle.rmt_pass.specs.Passes.{PassView}
use Rattle.rmt_play.specs.Seats.{Seat, seats_in}
use Rattle.rmt_play.proofs.SeatLemmas.{number-first, seats-length, turned-seats, unturned-seats}
use Rattle.rmt_play.proofs.threaded.among.AmongEngine.turn.Goals as goal
use Rattle.rmt_play.proofs.threaded.among.AmongEngine.turn.Goals.{in-Some, in_default-2, in_default}

pub turn_in-requires : goal.turn_in-requires
turn_in-requires g c =
    let e : c.args.self.now ≡ Some c.in-Some.pass = cc in
    subst (λ (n : ℕ). IsNumber c.args.replica n) c.len.ensures.ups
    (number-first g.O.Offers.blocks c.in-Some.pass.up c.in-Some.pass.tables c.args.replica
    (let a = c.if-len-gt0.true in let b = c.len.ensures.len in omega (arith, a, b))
    (subst (λ (o : Option PassView). Each (λ (t : Seat). IsNumberOf c.args.replica t.count) (seats_in o)) e c.requires))

pub returns : goal.returns
returns g c = elim c.match-self.branch [
  | in-Some w ↦
      let e : c.args.self.now ≡ Some w.in-Some.pass = cc in
      turned-seats g.O.Offers.blocks c.args.self.now c.match-self.self-inside.pass w.in-Some.pass w.turn_in.new.pass c.args.replica c.args.is_up c.match-self.result w.turn_in.result e (ap (λ i. i.pass) w.self-inside-is) w.result-is w.turn_in.ensures
  | in_default-2 w ↦
      let e : c.args.self.now ≡ Some w.in-Some.pass = cc in
      let n = seats-length w.in-Some.pass.up w.in-Some.pass.tables in
      let l = w.if-len-gt0.false in
      let m = w.len.ensures.len in
      unturned-seats g.O.Offers.blocks c.args.self.now c.match-self.self-inside.pass c.args.replica c.args.is_up c.match-self.result (ap (λ i. i.pass) w.self-inside-is ∙ sym e)
      (subst (λ (o : Option PassView). length (seats_in o) ≡ 0) (sym e) (omega (arith, n, l, m)))
  | in_default w ↦
      let e : c.args.self.now ≡ None = cc in
      unturned-seats g.O.Offers.blocks c.args.self.now c.match-self.self-inside.pass c.args.replica c.args.is_up c.match-self.result (let f : c.self.inside.pass ≡ c.args.self.now = cc in ap (λ i. i.pass) w.self-inside-is ∙ f)
      (ap (λ (o : Option PassView). length (seats_in o)) e)
]
