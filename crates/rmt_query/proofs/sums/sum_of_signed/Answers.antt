use Rattle.std.proofs.Common.{◌≡◌, ◌∙◌, ◌<◌, length, [], get_or, slice_get, sym, ap, arith}
use mir.Val.{to_z}
use mir.Syntax.{w128}
use Rattle.std.proofs.lemmas.Int.{ints}
use Rattle.rmt_query.specs.Cells.{number_of}
use Rattle.rmt_query.proofs.SumLemmas.{none-unsigned, one-more}
use Rattle.rmt_query.proofs.sums.sum_of_signed.Goals as goal

pub signed-sum-requires : goal.signed-sum-requires
signed-sum-requires c = λ n e. none-unsigned c.args.rows.now.kinds c.args.rows.now.rows c.rows.i c.args.column n c.len-i-end.ensures.typed c.requires (sym c.value.ensures ∙ e)

pub rows-preserved : goal.rows-preserved
rows-preserved c =
    let rows = c.args.rows.now.rows in
    let (all, low, high) = c.rows.invariant in
    let here : c.rows.i < length c.args.rows.now.rows = omega (arith, c.len-i-end.ensures.count, c.rows-test.true) in
    let number : c.signed-sum.result ≡ number_of (slice_get (get_or rows c.rows.i []) c.args.column) = c.signed-sum.ensures.value ∙ ap number_of c.value.ensures in
    let next = one-more c.args.column rows c.rows.i (to_z w128 c.rows.sum-bits) c.signed-sum.result here number all in
    let least = c.signed-sum.ensures.least in
    let greatest = c.signed-sum.ensures.greatest in
    let few = c.len-i-end.type_inv in (
      omega (arith, ints, next, low, high, least, greatest, few, c.rows-test.true),
      omega (arith, ints, low, high, least, greatest, few, c.rows-test.true),
      omega (arith, ints, low, high, least, greatest, few, c.rows-test.true),
    )
