use Rattle.std.proofs.Common.{◌≡◌, ℕ, ◌+◌, ◌-◌, ◌<◌, ◌≤◌, subst, arith}
use Rattle.std.specs.Prelude.{◌*◌}
use Rattle.rmt_query.proofs.MatchLemmas.{begins-before, rows-inside}
use Rattle.rmt_query.proofs.matches.rows_of_granules.Goals as goal

pub returns-in-Some-Some-clause-order : goal.returns-in-Some-Some-clause-order
returns-in-Some-Some-clause-order c =
    let le : c.args.first ≤ c.args.past - 1 = omega arith in
    begins-before c.args.part.now c.marks-marks.ensures.part c.args.first (c.args.past - 1) c.in-Some-Some.begin c.in-Some-Some.end le c.in-Some-Some.ensures c.in-Some-Some.ensures'

pub returns-in-Some-Some-clause-only : goal.returns-in-Some-Some-clause-only
returns-in-Some-Some-clause-only c = λ i le lt.
    let g = c.args.part.now.granularity in
    let last : c.args.past - 1 + 1 ≡ c.args.past = omega arith in
    let w = rows-inside c.args.part.now c.args.first (c.args.past - 1) i c.in-Some-Some.begin c.in-Some-Some.end c.in-Some-Some.ensures c.in-Some-Some.ensures' le lt in
    (w.0, subst (λ (n : ℕ). i < n * g) last w.1)
