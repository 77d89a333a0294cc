use Rattle.std.proofs.Common.{subst}
use Rattle.std.specs.Arc.{arc_value}
use Rattle.rmt_supply.specs.TakenParts.{IsHeld}
use Rattle.rmt_supply.proofs.BlockHolders.{can-send}
use Rattle.rmt_supply.proofs.holders.held.Goals as goal

pub send-requires : goal.send-requires
send-requires c =
    can-send (arc_value c.args.schema.now) c.args.holder.now c.args.get.now c.args.name.now c.args.len c.in-Some.held c.requires.small c.requires.accepted
    (subst (IsHeld c.args.holder.now c.args.get.now c.args.name.now c.args.len) c.in-Some.is c.in_ok-held.ensures)
