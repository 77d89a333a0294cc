use Rattle.std.proofs.Common.{rules, ◌≡◌, ℕ, ◌+◌, ◌*◌, ◌<◌, ◌≤◌, length, subst}
use Rattle.rmt_granules.specs.Granules.{PartView}
use Rattle.rmt_granules.proofs.Marks.{enough-granules, no-granules-more}
use Rattle.rmt_granules.proofs.part_data.PartData.granules.Goals as goal

pub returns-clause-enough : goal.returns-clause-enough
returns-clause-enough c =
    let e : length c.self.inside.marks.items ≡ c.len.result = search rules in
    subst (λ (v : PartView). length v.rows ≤ c.len.result * v.granularity) c.self.view_is
    (subst (λ (k : ℕ). length c.self.inside.rows.rows ≤ k * c.self.inside.granularity) e (enough-granules _ c.self.invariant))

pub returns-clause-no_more : goal.returns-clause-no_more
returns-clause-no_more c =
    let e : length c.self.inside.marks.items ≡ c.len.result = search rules in
    subst (λ (v : PartView). c.len.result * v.granularity < length v.rows + v.granularity) c.self.view_is
    (subst (λ (k : ℕ). k * c.self.inside.granularity < length c.self.inside.rows.rows + c.self.inside.granularity) e (no-granules-more _ c.self.invariant))
