use Rattle.std.proofs.Common.{rules, arith, subst}
use Rattle.std.proofs.lemmas.Grind.{common_steps}
use Rattle.std.specs.BTreeMap.{Updates}
use Rattle.std.specs.declared.option.Option.TheVariants.{Some}
use Rattle.rmt_block.specs.Groups.{partition_cmp}
use Rattle.rmt_block.proofs.GroupLemmas.{add-new}
use Rattle.rmt_block.proofs.groups.add.Goals as goal

pub returns-clause-ok : goal.returns-clause-ok
returns-clause-ok c =
    add-new c.args.groups.now c.insert.new.self c.args.partition c.args.place c.push-2.new.self
    (grind (arith, common_steps))
    (subst (λ m. Updates partition_cmp m c.insert.new.self c.args.partition (Some c.push-2.new.self)) c.get_mut.follows.holds-at-none c.in_ok-insert.ensures.updates)
    (search rules)
