use Rattle.std.specs.Arc.{arc_value}
use Rattle.rmt_model.specs.Words.{Has}
use Rattle.rmt_model.proofs.Lists.{Each-at}
use Rattle.rmt_partset.specs.ActiveParts.{part_names}
use Rattle.rmt_supply.proofs.OwnParts.{Has-at, none-active, active-next, all-active}
use Rattle.rmt_supply.proofs.own_parts.active_parts.Goals as goal

pub names-init : goal.names-init
names-init c = none-active arc_value c.args.replica.now c.args.names.now c.in_ok-parts.parts.items c.in_ok-parts.ensures.items

pub active_part-requires : goal.active_part-requires
active_part-requires c =
    Each-at (Has (part_names c.args.replica.now.parts)) c.args.names.now c.name-item.result c.requires.active (Has-at c.args.names.now c.names.name-index c.name-item.result c.name-item.is c.names-test.true)

pub names-preserved : goal.names-preserved
names-preserved c =
    active-next arc_value c.args.replica.now c.args.names.now c.names.name-index c.name-item.result c.names.parts.items c.push.new.self.items c.in_ok-part.part c.names.invariant c.name-item.is c.names-test.true c.in_ok-part.ensures.active
    c.in_ok-part.ensures.named c.in_ok-push.ensures.items

pub returns : goal.returns
returns c = all-active arc_value c.args.replica.now c.args.names.now c.names.name-index c.names.parts.items c.names.invariant c.names.auto.name-index-end c.names-test.false
