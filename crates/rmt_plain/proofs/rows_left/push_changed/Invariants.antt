use Rattle.std.proofs.Common.{◌≡◌, ◌++◌, drop, filter_map}
use Rattle.rmt_plain.specs.PlainRows.{changed}
use Rattle.rmt_plain.proofs.rows_left.push_changed.Given as goal

abbrev pub invariant-rows : goal.invariant-rows
invariant-rows l = l.initial.rows.items ++ filter_map (changed l.all l.partition l.number) l.block ≡ l.rows.items ++ filter_map (changed l.all l.partition l.number) (drop l.row-index l.block)
