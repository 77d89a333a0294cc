use Rattle.std.proofs.Common.{rules, ◌≤◌, ◌∙◌, ◌++◌, ◌∷◌, [], List, ap, length, drop, arith}
use Rattle.rmt_values.specs.declared.value.Value.{Value}
use Rattle.rmt_granules.specs.Granules.{marks_of}
use Rattle.rmt_granules.proofs.Marks.{mark-next}
use Rattle.rmt_granules.proofs.index.marks_in.Goals as goal

pub granules-preserved : goal.granules-preserved
granules-preserved c =
    let few : length c.args.rows.now.rows ≤ 18446744073709551615 = search rules in
    ap (λ (l : List (List Value)). l ++ marks_of c.args.granularity c.args.key.now (drop c.saturating_add-first.result c.args.rows.now.rows)) c.in_ok-push.ensures.items
    ∙ (ap (λ (m : List Value). (c.granules.marks.items ++ m ∷ []) ++ marks_of c.args.granularity c.args.key.now (drop c.saturating_add-first.result c.args.rows.now.rows)) c.in_ok-mark.ensures
    ∙ mark-next c.granules.marks.items _ c.args.rows.now.rows c.args.key.now c.args.granularity c.granules.first c.saturating_add-first.result 18446744073709551615
    c.requires (omega (arith, c.granules-test.true, c.len.ensures.count)) few c.saturating_add-first.ensures c.granules.invariant)
