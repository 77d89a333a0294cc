use Rattle.std.proofs.Common.{◌≡◌, ◌∙◌, ◌<◌, length, subst, arith}
use Rattle.std.specs.declared.option.Option.{Option}
use Rattle.std.specs.declared.option.Option.TheVariants.{Some}
use Rattle.std.specs.Arc.{arc_value}
use Rattle.rmt_known.specs.KnownTables.{new_known}
use Rattle.rmt_pass.specs.Passes.{PassView, no_schema}
use Rattle.rmt_play.specs.Seats.{seats_in}
use Rattle.rmt_play.proofs.SeatLemmas.{schema-lent, seats-length}
use Rattle.rmt_play.proofs.threaded.among.Among.lend.Goals as goal

pub new-requires-clause-schema : goal.new-requires-clause-schema
new-requires-clause-schema g c =
    let e : c.args.self.now ≡ Some c.in-Some.pass = cc in
    let h : c.args.place < length (seats_in (Some c.in-Some.pass)) = subst (λ (o : Option PassView). c.args.place < length (seats_in o)) e c.requires in
    let n = seats-length c.in-Some.pass.up c.in-Some.pass.tables in
    c.in_ok-schema.ensures ∙ schema-lent arc_value c.self.inside.schemas.items c.index.result.now g.N.Naming.replicas g.N.Naming.tables c.in-Some.pass.tables c.args.place (new_known no_schema 0) c.self.invariant.have c.len.ensures.known (omega (arith, h, n)) c.index.ensures
