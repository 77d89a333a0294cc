use Rattle.std.proofs.Common.{◌≡◌, ◌<◌, [], List, length, take, get_or, refl, subst, sym, arith}
use Rattle.std.proofs.lemmas.List.{take_more, take_all, length-take-le}
use Rattle.rmt_values.specs.declared.value.Value.{Value}
use Rattle.rmt_block.specs.Groups.{AreGroups}
use Rattle.rmt_block.proofs.GroupLemmas.{AreGroups-more}
use Rattle.rmt_block.proofs.groups.collect.Goals as goal

pub rows-init : goal.rows-init
rows-init c = record { ordered = c.new-groups.ensures.ordered; each = λ p. rw c.new-groups.ensures.empty refl }

pub rows-preserved : goal.rows-preserved
rows-preserved c =
    let rows = c.args.rows.now.rows in
    let inside : c.rows.i < length rows = omega (arith, c.rows-test.true, c.len-i-end.ensures) in
    let last : length (take c.rows.i rows) ≡ c.rows.i = length-take-le c.rows.i rows (omega (arith, inside)) in
    subst (λ (some : List (List Value)). AreGroups c.args.schema.now.partition some c.add.new.groups) (sym (take_more rows c.rows.i [] inside))
    (AreGroups-more c.args.schema.now.partition (take c.rows.i rows) (get_or rows c.rows.i []) c.partition_at-partition.result c.rows.i c.rows.groups c.add.new.groups
    c.partition_at-partition.ensures (sym last) c.rows.invariant c.in_ok-add.ensures.ordered c.in_ok-add.ensures.ok)

pub returns : goal.returns
returns c =
    subst (λ (some : List (List Value)). AreGroups c.args.schema.now.partition some c.rows.groups)
    (take_all c.rows.i c.args.rows.now.rows (omega (arith, c.rows-test.false, c.len-i-end.ensures))) c.rows.invariant
