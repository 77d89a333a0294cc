use Rattle.std.proofs.Common.{◌≡◌, drop}
use Rattle.rmt_plain.specs.PlainRows.{changed}
use Rattle.rmt_plain.proofs.rows_left.changed.Given as goal

abbrev pub invariant-accepted : goal.invariant-accepted
invariant-accepted l = changed l.all l.partition l.number l.initial.row ≡ changed (drop l.next-index l.all) l.partition l.number l.row
