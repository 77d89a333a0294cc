use Rattle.std.proofs.Common.{◌≡◌, ◌<◌, [], length, subst, sym, ◌∙◌, arith}
use Rattle.std.proofs.lemmas.Grind.{common_steps}
use Rattle.std.proofs.lemmas.List.{take_all}
use Rattle.std.proofs.lemmas.List.Elements.{All-more}
use Rattle.std.specs.List.{All}
use Rattle.rmt_values.specs.Partitions.{partition_of}
use Rattle.rmt_block.proofs.groups.are_all_of.Goals as goal

pub rows-preserved : goal.rows-preserved
rows-preserved c =
    let inside : c.rows.i < length c.args.rows.now.rows = omega (arith, c.rows-test.true, c.len-i-end.ensures) in
    let of : c.partition_at.result ≡ c.args.partition = grind (arith, common_steps) in
    All-more (λ row. partition_of c.args.schema.now.partition row ≡ c.args.partition) c.args.rows.now.rows c.rows.i [] inside
    c.rows.invariant (sym c.partition_at.ensures ∙ of)

pub returns : goal.returns
returns c =
    λ _. subst (All (λ row. partition_of c.args.schema.now.partition row ≡ c.args.partition))
    (take_all c.rows.i c.args.rows.now.rows (omega (arith, c.rows-test.false, c.len-i-end.ensures))) c.rows.invariant
