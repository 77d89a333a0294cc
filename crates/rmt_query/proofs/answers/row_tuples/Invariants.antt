use Rattle.std.proofs.Common.{◌≡◌, map, take}
use Rattle.rmt_query.specs.Answers.{tuple_of}
use Rattle.rmt_query.proofs.answers.row_tuples.Given as goal

abbrev pub invariant-rows : goal.invariant-rows
invariant-rows l = l.tuples.items ≡ map (tuple_of l.items) (take l.row-index l.rows)
