use Rattle.std.proofs.Common.{◌≡◌, true}
use Rattle.rmt_values.specs.Rows.{is_value}
use Rattle.rmt_columns.specs.Columns.{value_of}
use Rattle.rmt_block.proofs.BytesLemmas.{value-there, written-more, written-same}
use Rattle.rmt_block.proofs.spelling.push_row.Goals.{in-Some+in_ok-push_value, in_default}
use Rattle.rmt_block.proofs.spelling.push_row.Goals as goal

pub push_value-requires : goal.push_value-requires
push_value-requires c =
    value-there (λ v. is_value v ≡ true) c.args.i c.args.columns.now c.values.column-index c.column-item.result (value_of c.in-Some.value)
    c.values-test.true c.column-item.is c.in-Some.ensures c.requires

pub values-preserved : goal.values-preserved
values-preserved c = elim c.match-get.branch [
  | in-Some+in_ok-push_value w ↦
      rw w.out-is (written-more c.args.out.now.items c.values.out.items w.push_value.new.out.items c.args.i c.args.columns.now c.values.column-index c.column-item.result (value_of w.in-Some.value)
      c.values-test.true c.column-item.is w.in-Some.ensures w.in_ok-push_value.ensures.ok w.in_ok-push_value.ensures.in_range c.values.invariant)
  | in_default w ↦
      rw w.out-is (written-same c.args.out.now.items c.values.out.items c.args.i c.args.columns.now c.values.column-index c.column-item.result
      c.values-test.true c.column-item.is w.in_default.ensures c.values.invariant)
]
