use Rattle.std.proofs.Common.{◌≡◌, ◌++◌, length}
use Rattle.rmt_plain.specs.PlainRows.{rows_from}
use Rattle.rmt_plain.proofs.plain_table.PlainTable.rows.Given as goal

abbrev pub invariant-accepted : goal.invariant-accepted
invariant-accepted l = rows_from l.all l.all ≡ l.rows.items ++ rows_from l.all l.rest

abbrev pub decreases-accepted : goal.decreases-accepted
decreases-accepted l = length l.rest
