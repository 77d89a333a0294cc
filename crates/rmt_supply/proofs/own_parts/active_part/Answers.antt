use Rattle.std.proofs.Common.{sym, subst}
use Rattle.std.specs.Arc.{arc_value}
use Rattle.rmt_partset.specs.ActiveParts.{IsCovering}
use Rattle.rmt_supply.proofs.OwnParts.{is-covering, covering-named}
use Rattle.rmt_supply.proofs.own_parts.active_part.Goals as goal

pub returns-clause-named : goal.returns-clause-named
returns-clause-named c =
    let r = c.args.replica.now in
    let a = c.args.name.now in
    let covering = subst (IsCovering r.parts a) (sym c.in_ok-part.ensures) (is-covering c.covering.result (λ part. arc_value part.now) r.parts a c.unwrap.result c.covering.ensures c.unwrap.ensures) in
    covering-named r a (arc_value c.in_ok-part.part) c.copy-standing.ensures.standing c.requires covering
