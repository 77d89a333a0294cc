use Rattle.std.proofs.Common.{◌≡◌, drop}
use Rattle.rmt_plain.specs.PlainRows.{is_above}
use Rattle.rmt_plain.proofs.rows_left.is_above.Given as goal

abbrev pub invariant-numbers : goal.invariant-numbers
invariant-numbers l = is_above l.numbers l.partition l.number ≡ is_above (drop l.pair-index l.numbers) l.partition l.number
