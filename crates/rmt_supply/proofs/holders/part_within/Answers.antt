use Rattle.std.proofs.Common.{◌∙◌, ap, arith}
use Rattle.std.specs.Arc.{arc_value}
use Rattle.rmt_entries.specs.declared.entry.Entry.{Entry}
use Rattle.rmt_row.specs.Token.{Token}
use Rattle.rmt_part.specs.Lineages.{PartValue}
use Rattle.rmt_supply.proofs.BlockHolders.{none-within, later-covers}
use Rattle.rmt_supply.proofs.holders.part_within.Goals as goal

pub returns-in_default : goal.returns-in_default
returns-in_default c = none-within c.args.holder.now c.args.name.now c.args.len c.in_default.ensures

pub returns-then-place-len : goal.returns-then-place-len
returns-then-place-len c =
    let part = arc_value c.in-Some.part.now in
    let place = c.place.ensures ∙ ap (λ (t : Token Entry). t.place) (c.made.ensures ∙ ap (λ (p : PartValue). p.made) c.deref.ensures) in
    let late = c.if-place-len.true in
    later-covers c.args.holder.now c.args.name.now c.args.len part c.copy-standing.ensures.standing c.requires c.in-Some.ensures (omega (arith, place, late))
