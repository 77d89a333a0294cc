use Rattle.std.proofs.Common.{ℕ, ap, sym, ◌∙◌, ◌≡◌, ◌*◌, ◌≤◌, length, subst, Vec, Global, arith}
use Rattle.rmt_format.proofs.GranuleLemmas.{LieIn, granule-next, granule-there}
use Rattle.rmt_format.proofs.RangeLemmas.{held-granule, held-all}
use Rattle.rmt_format.proofs.granules.put_granules.Goals as goal
use Rattle.rmt_format.proofs.granules.put_granules.Goals.{in-Some+in_ok-put_granule, in_default}

pub granules-preserved : goal.granules-preserved
granules-preserved c =
    let lie : LieIn c.args.part.now c.columns-columns.result.now = record { rows = c.columns-columns.ensures.rows; kinds = c.columns-columns.ensures.kinds; long = c.columns-columns.ensures.long } in
    elim c.match-granule.branch [
      | in-Some+in_ok-put_granule w ↦ record {
        bytes = granule-next c.args.part.now c.columns-columns.result.now c.granules.g c.granules-count.result w.in-Some.first w.in-Some.past c.granules.out.items c.match-granule.out.items _
            lie c.granules-count.ensures.marks c.granules-test.true (sym w.in-Some.is ∙ c.granule.ensures)
            (ap (λ (v : Vec ℕ Global). v.items) w.out-is ∙ w.in_ok-put_granule.ensures.ok) c.granules.invariant.bytes;
        held = held-granule c.args.part.now c.columns-columns.result.now c.granules.g c.granules-count.result w.in-Some.first w.in-Some.past
            lie c.granules-count.ensures.marks c.granules-test.true (sym w.in-Some.is ∙ c.granule.ensures) w.in_ok-put_granule.ensures.in_range c.granules.invariant.held;
      }
      | in_default w ↦ absurd (granule-there c.args.part.now c.granules.g c.granules-count.result c.granules-count.ensures.marks c.granules-test.true (sym w.in_default.is ∙ c.granule.ensures))
    ]

pub returns-clause-in_range : goal.returns-clause-in_range
returns-clause-in_range c =
    let all : c.granules.g ≡ c.granules-count.result = omega arith in
    held-all (c.granules.g * c.args.part.now.granularity) c.args.part.now.rows
    (subst (λ k. length c.args.part.now.rows ≤ k * c.args.part.now.granularity) (sym all) c.granules-count.ensures.enough) c.granules.invariant.held
