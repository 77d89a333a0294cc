use Rattle.std.proofs.Common.{◌≡◌, ◌<◌, arith}
use Rattle.rmt_workers.proofs.CloseLemmas.{settles-more, starts}
use Rattle.rmt_workers.proofs.crew.close.settle_all.Goals as goal

pub tables-init : goal.tables-init
tables-init g c = starts g.N.Naming.tables g.N.Naming.replicas g.N.Naming.offered c.args.pass.now c.args.tables.now

pub tables-preserved : goal.tables-preserved
tables-preserved g c =
    settles-more g.N.Naming.tables g.N.Naming.replicas g.N.Naming.offered c.args.pass.now c.tables.pass c.settle.new.pass c.tables.table c.tables.tables c.settle.new.tables c.tables.invariant c.in_ok-settle.ensures
