use Rattle.std.proofs.Common.{◌∙◌, length, map, ap, sym, arith}
use Rattle.rmt_play.proofs.OutletLemmas.{keeps-same}
use Rattle.rmt_state.specs.States.{StateView}
use Rattle.rmt_shared.specs.SharedTables.{named}
use Rattle.rmt_play.specs.Seats.{ground_view, schemas_named}
use Rattle.rmt_play.proofs.AtRestLemmas.{rest-length}
use Rattle.rmt_play.proofs.MakingLemmas.{length-mapped}
use Rattle.rmt_play.proofs.SeatLemmas.{schemas-named, seats-length}
use Rattle.rmt_play.proofs.ThreadLemmas.{no-round}
use Rattle.rmt_play.proofs.threaded.round.play_among.Goals as goal

pub returns-in_default-clause-span : goal.returns-in_default-clause-span
returns-in_default-clause-span g c = no-round g.O.Offers.blocks c.args.script.now c.args.from c.args.count (ground_view g.O.Offers.blocks c.args.ground) _ _ c.requires.few c.requires.within (keeps-same _)

pub new-requires-clause-few : goal.new-requires-clause-few
new-requires-clause-few g c =
    let a = rest-length g.N.Naming.offered c.args.ground.carried.up.items c.args.ground.carried.known.items c.args.ground.carried.states.items c.requires.rest in
    let b = seats-length c.args.ground.carried.up.items c.args.ground.carried.known.items in
    let d = c.requires.ground.cast.lengths in
    let e = c.requires.ground.few in
    omega (arith, a, b, d, e)

pub returns-in_default-new-clause-span : goal.returns-in_default-new-clause-span
returns-in_default-new-clause-span g c = no-round g.O.Offers.blocks c.args.script.now c.args.from c.args.count (ground_view g.O.Offers.blocks c.args.ground) _ _ c.requires.few c.requires.within (keeps-same _)

pub returns-in_default-deal-clause-span : goal.returns-in_default-deal-clause-span
returns-in_default-deal-clause-span g c = no-round g.O.Offers.blocks c.args.script.now c.args.from c.args.count (ground_view g.O.Offers.blocks c.args.ground) _ _ c.requires.few c.requires.within (keeps-same _)

pub play_beside-paused-requires-clause-schemas : goal.play_beside-paused-requires-clause-schemas
play_beside-paused-requires-clause-schemas g c κs within = c.in-Ok.ensures ∙ (ap (map (λ (s : StateView). s.tree.schema)) c.deref.ensures.value ∙ (sym (schemas-named c.args.ground.carried.states.items) ∙ ap schemas_named c.requires.named))

pub span_of-requires-clause-few : goal.span_of-requires-clause-few
span_of-requires-clause-few g c =
    let a = rest-length g.N.Naming.offered c.args.ground.carried.up.items c.args.ground.carried.known.items c.args.ground.carried.states.items c.requires.rest in
    let b = seats-length c.args.ground.carried.up.items c.args.ground.carried.known.items in
    let d = c.requires.ground.cast.lengths in
    let e = c.requires.ground.few in
    let m = length-mapped (λ (s : StateView). named s.tree) c.args.ground.carried.states.items in
    let n = ap length c.requires.named in
    omega (arith, a, b, d, e, m, n)
