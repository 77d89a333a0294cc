use Rattle.std.proofs.Common.{◌≡◌, ◌<◌, ◌∷◌, [], List, length, rules, subst, sym, ap, ◌∙◌, arith}
use Rattle.rmt_columns.specs.RowsByColumn.{kinds_in}
use Rattle.rmt_block.specs.Blocks.{BlockView, block_of}
use Rattle.rmt_block.specs.Splits.{IsSplit}
use Rattle.rmt_block.proofs.BlockLemmas.{RowsFit-kinds_in}
use Rattle.rmt_block.proofs.SplitLemmas.{IsSplit-none, IsSplit-whole}
use Rattle.rmt_block.proofs.groups.whole.Goals as goal

pub returns-then-len-eq0 : goal.returns-then-len-eq0
returns-then-len-eq0 c =
    subst (λ (blocks : List BlockView). IsSplit c.args.schema.now c.args.rows.rows blocks) (sym c.new-blocks.ensures.items)
    (IsSplit-none c.args.schema.now c.args.rows.rows (omega (arith, c.if-len-eq0.true, c.len.ensures)))

pub of_kinds-requires-clause-partition : goal.of_kinds-requires-clause-partition
of_kinds-requires-clause-partition c = record { rule = c.args.schema.now.partition; partition = c.requires.partition }

pub of_kinds-requires-clause-fit : goal.of_kinds-requires-clause-fit
of_kinds-requires-clause-fit c =
    RowsFit-kinds_in c.args.schema.now.columns c.in_ok-kinds.kinds.items c.args.rows.rows (c.in_ok-kinds.ensures ∙ ap kinds_in c.columns.ensures.value) c.requires.fit

pub returns : goal.returns
returns c =
    let some : 0 < length c.args.rows.rows = omega (arith, c.if-len-eq0.false, c.len.ensures) in
    let kinds = c.in_ok-kinds.ensures ∙ ap kinds_in c.columns.ensures.value in
    let one = c.in_ok-block.ensures ∙ ap (λ ks. block_of c.args.partition ks c.args.rows.rows) kinds in
    let pushed : c.push.new.self.items ≡ c.in_ok-block.block ∷ [] = search rules in
    subst (λ (blocks : List BlockView). IsSplit c.args.schema.now c.args.rows.rows blocks) (sym (pushed ∙ ap (λ (b : BlockView). b ∷ []) one))
    (IsSplit-whole c.args.schema.now c.args.rows.rows c.args.partition c.requires.partition some)
