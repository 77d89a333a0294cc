use Rattle.std.proofs.Common.{subst, sym}
use Rattle.std.specs.Prelude.{IfSome}
use Rattle.std.specs.declared.option.Option.{Option}
use Rattle.rmt_pass.specs.Passes.{PassView}
use Rattle.rmt_play.specs.Seats.{IsCast, IsKnownAmong, cast_view, seats_in}
use Rattle.rmt_play.specs.ThreadedRounds.{LeavesGround}
use Rattle.rmt_play.proofs.GroundLemmas.{leaves-ground}
use Rattle.rmt_play.proofs.threaded.round.leave.Goals as goal

pub returns : goal.returns
returns g c =
    let O = g.O.Offers.blocks in
    subst (λ (o : Option PassView). LeavesGround O (cast_view O c.args.cast (seats_in o)) (record { cast = c.args.cast; carried = c.in_ok-carried.carried })) (sym c.in-Some.is)
    (leaves-ground O g.N.Naming.tables g.N.Naming.replicas g.N.Naming.offered c.args.cast c.in-Some.pass c.in_ok-closed.closed c.in_ok-carried.carried c.requires.same
    (subst (λ (o : Option PassView). IsCast O c.args.cast (seats_in o)) c.in-Some.is c.requires.cast)
    (subst (λ (o : Option PassView). IfSome o (IsKnownAmong g.N.Naming.replicas g.N.Naming.tables)) c.in-Some.is c.requires.known)
    c.requires.few c.in_ok-closed.ensures.named c.in_ok-closed.ensures.rest c.in_ok-closed.ensures.ups c.in_ok-closed.ensures.seen c.in_ok-carried.ensures.some c.in_ok-carried.ensures.none)
