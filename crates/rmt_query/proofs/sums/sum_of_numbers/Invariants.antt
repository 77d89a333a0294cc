use Rattle.std.proofs.Common.{◌≡◌, ◌*◌, ◌^◌, ◌≤◌, take, sum}
use Rattle.std.specs.Prelude.{pos}
use Rattle.rmt_query.proofs.sums.sum_of_numbers.Given as goal

abbrev pub invariant-numbers : goal.invariant-numbers
invariant-numbers l =
    (l.total ≡ pos (sum (take l.number-index l.numbers)))
    × (sum (take l.number-index l.numbers) ≤ l.number-index * 2 ^ 64)
