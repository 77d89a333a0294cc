use Rattle.std.proofs.Common.{◌≡◌, ◌*◌, ◌^◌, drop}
use Rattle.std.specs.Prelude.{pos, ◌+ℤ◌, ◌≤ℤ◌}
use Rattle.rmt_query.specs.OverRows.{total}
use Rattle.rmt_query.proofs.sums.sum_of_signed.Given as goal

abbrev pub invariant-rows : goal.invariant-rows
invariant-rows l =
    (l.sum +ℤ total l.column (drop l.i l.rows.rows) ≡ total l.column l.rows.rows)
    × (pos 0 ≤ℤ (l.sum +ℤ pos (l.i * 2 ^ 63)))
    × (l.sum ≤ℤ pos (l.i * 2 ^ 63))
