use Rattle.std.proofs.Common.{◌≡◌, ◌*◌, ◌^◌, drop}
use Rattle.std.specs.Prelude.{pos, ◌+ℤ◌, ◌≤ℤ◌}
use Rattle.rmt_query.specs.OverRows.{total}
use Rattle.rmt_query.proofs.sums.sum_of_listed.Given as goal

abbrev pub invariant-rows : goal.invariant-rows
invariant-rows l =
    (l.sum +ℤ total l.column (drop l.row-index l.rows) ≡ total l.column l.rows)
    × (pos 0 ≤ℤ (l.sum +ℤ pos (l.row-index * 2 ^ 64)))
    × (l.sum ≤ℤ pos (l.row-index * 2 ^ 64))
