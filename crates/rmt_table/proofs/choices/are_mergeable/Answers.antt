use Rattle.std.proofs.Common.{◌≡◌, ◌-◌, ◌∷◌, arith, drop, take, length}
use Rattle.std.proofs.lemmas.Grind.{common_steps}
use Rattle.rmt_table.proofs.ChoiceLemmas.{not-choice}
use Rattle.rmt_table.proofs.choices.are_mergeable.Goals as goal

pub returns-else-are_of : goal.returns-else-are_of
returns-else-are_of c =
    let rest = take (length c.args.names.now - 1) (drop 1 c.args.names.now) in
    let whole : c.first-item.result ∷ rest ≡ c.args.names.now = grind (arith, common_steps) in
    not-choice c.args.copy.now.log c.args.names.now c.first-item.result rest c.partition.result c.are_of.result whole c.partition.ensures c.if-are_of.false c.are_of.ensures
