use Rattle.std.proofs.Common.{ℕ, subst}
use Rattle.std.specs.Prelude.{length}
use Rattle.rmt_state.specs.States.{IsNumber}
use Rattle.rmt_pass.specs.Passes.{known_in}
use Rattle.rmt_play.specs.Seats.{seat_of}
use Rattle.rmt_play.proofs.SeatLemmas.{acts-lent, lent-there}
use Rattle.rmt_play.proofs.threaded.among.AmongEngine.act.Goals as goal

pub act_at-done-requires-clause-here : goal.act_at-done-requires-clause-here
act_at-done-requires-clause-here g c =
    let v = c.in_ok-table.table in
    subst (λ (n : ℕ). IsNumber c.args.replica n) c.in_ok-table.ensures.sized.ups
    (c.requires.ready.here (seat_of v.pass.up (known_in v.pass.tables v.table)) (lent-there g.O.Offers.blocks (length g.N.Naming.tables) g.N.Naming.replicas c.args.self.now c.args.place v c.in_ok-table.ensures))

pub act_at-done-requires-clause-up : goal.act_at-done-requires-clause-up
act_at-done-requires-clause-up g c =
    let v = c.in_ok-table.table in
    c.requires.ready.ups_are (seat_of v.pass.up (known_in v.pass.tables v.table)) (lent-there g.O.Offers.blocks (length g.N.Naming.tables) g.N.Naming.replicas c.args.self.now c.args.place v c.in_ok-table.ensures)

pub returns : goal.returns
returns g c =
    acts-lent g.O.Offers.blocks (length g.N.Naming.tables) g.N.Naming.replicas c.args.self.now c.take_back.new.self c.args.place c.args.replica c.args.act.now c.in_ok-table.table c.act_at-done.new.engine c.act_at-done.result c.in_ok-table.ensures
    c.take_back.ensures.back c.take_back.ensures.sized c.act_at-done.ensures.executes c.act_at-done.ensures.goes_on c.act_at-done.ensures.keeps
