use Rattle.std.proofs.Common.{◌≡◌, ◌-◌, ◌++◌}
use Rattle.rmt_storm.specs.Storms.{more_rows}
use Rattle.rmt_storm.proofs.inserts.push_further.Given as goal

abbrev pub invariant-rows : goal.invariant-rows
invariant-rows l =
    let rest = more_rows (l.count - l.counter) l.partition l.draws.state in
    let all = more_rows l.count l.partition l.fn.draws.state in
    (l.out.items ++ rest.text ≡ l.fn.out.items ++ all.text) × (rest.state ≡ all.state)
