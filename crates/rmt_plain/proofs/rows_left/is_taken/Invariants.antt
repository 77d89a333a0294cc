use Rattle.std.proofs.Common.{◌≡◌, drop}
use Rattle.rmt_plain.specs.PlainRows.{is_taken}
use Rattle.rmt_plain.proofs.rows_left.is_taken.Given as goal

abbrev pub invariant-later : goal.invariant-later
invariant-later l = is_taken l.later l.partition l.number ≡ is_taken (drop l.next-index l.later) l.partition l.number
