use Rattle.std.proofs.Common.{◌≡◌, ◌∙◌, arith}
use Rattle.std.specs.declared.option.Option.{Option}
use Rattle.rmt_values.specs.declared.value.Value.{Value}
use Rattle.rmt_values.specs.Rows.{cell_cmp}
use Rattle.rmt_columns.proofs.RowsLemmas.{kinds-at, length-kinds, cell-at}
use Rattle.rmt_columns.proofs.cell_order.order_of_cells.Goals as goal

pub order-requires : goal.order-requires
order-requires c = kinds-at c.args.left.now c.args.right.now c.args.at _ _ c.requires c.index-left-at.is c.index-right-at.is c.if-at-left.false

both : (a b a' b' : Option Value) → a ≡ a' → b ≡ b' → cell_cmp a b ≡ cell_cmp a' b'
both a b a' b' e f = cc

pub returns : goal.returns
returns c =
    let n = length-kinds c.args.left.now c.args.right.now c.requires in
    let h = c.if-at-left.false in
    c.order.ensures
    ∙ both _ _ _ _ (cell-at c.args.left.now c.args.i c.args.at _ c.index-left-at.is h) (cell-at c.args.right.now c.args.j c.args.at _ c.index-right-at.is (omega (arith, n, h)))
