use Rattle.std.proofs.Common.{inl, inr, sym, ◌∙◌}
use Rattle.std.specs.Arc.{arc_value}
use Rattle.rmt_supply.specs.PartSources.{staged_for}
use Rattle.rmt_supply.proofs.BlockHolders.{sized, no-block}
use Rattle.rmt_supply.proofs.holders.holds.Goals as goal

pub part_within-requires : goal.part_within-requires
part_within-requires c = sized c.args.get.now c.args.name.now c.requires.get

pub returns-in-Some-clause-some : goal.returns-in-Some-clause-some
returns-in-Some-clause-some c = λ _. inl (arc_value c.in-Some.field-0.now, c.in-Some.ensures)

pub returns-in-None-clause-some : goal.returns-in-None-clause-some
returns-in-None-clause-some c = λ t. inr (sym c.is_staged.ensures ∙ t)

pub returns-in-None-clause-nothing : goal.returns-in-None-clause-nothing
returns-in-None-clause-nothing c = λ e. record {
  no_part = c.in-None.ensures;
  no_block = no-block (staged_for c.args.holder.now c.args.get.now.value) (sym c.is_staged.ensures ∙ e);
}
