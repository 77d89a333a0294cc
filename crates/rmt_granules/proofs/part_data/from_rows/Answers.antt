use Rattle.std.proofs.Common.{◌≡◌, ℕ, List, ap, ◌∙◌, subst}
use Rattle.rmt_granules.specs.Granules.{IsPart, marks_of}
use Rattle.rmt_granules.proofs.Made.{part-made, same-data}
use Rattle.rmt_granules.proofs.part_data.from_rows.Goals as goal

pub invariant_of-result : goal.invariant_of-result
invariant_of-result c =
    let shape = c.args.schema.now in
    let key : c.in_ok-key.key.items ≡ shape.key = c.in_ok-key.ensures.items ∙ c.key.ensures.value in
    let marks : c.in_ok-marks.marks.items ≡ marks_of c.granularity-granularity.result c.in_ok-key.key.items c.args.rows.rows =
    c.in_ok-marks.ensures ∙ ap (λ (k : List ℕ). marks_of c.granularity-granularity.result k c.args.rows.rows) c.deref.ensures.value in
    subst IsPart (same-data shape c.args.rows _ _ _ marks key c.granularity-granularity.ensures c.requires.kinds)
    (part-made shape c.args.rows.rows c.key.ensures.schema c.requires.fit c.requires.sorted)
