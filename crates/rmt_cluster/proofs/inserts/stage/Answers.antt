use Rattle.std.proofs.Common.{rules, ◌≡◌}
use Rattle.std.specs.Arc.{arc_value}
use Rattle.rmt_events.specs.Clusters.{without_kinds}
use Rattle.rmt_cluster.proofs.InsertActs.{stages-acts}
use Rattle.rmt_cluster.proofs.inserts.stage.Goals as goal

pub returns-in-Ok-clause-ok : goal.returns-in-Ok-clause-ok
returns-in-Ok-clause-ok c =
    let f = c.in-Some.ensures in
    let b : without_kinds (arc_value c.in_ok-block.block) ≡ c.in-Some.found.now.block = search rules in
    stages-acts c.args.state.now c.stage.new.self c.args.attempts.now c.args.attempt c.lock-lock.result.now.replica c.lock-lock.result.now.number _ c.in-Some.found.now f.0 f.1 c.lock-lock.ensures.replica c.lock-lock.ensures.number b c.in-Ok.ensures.ok
