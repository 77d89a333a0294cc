use Rattle.rmt_workers.specs.Settled.{SettlesTo}
use Rattle.rmt_workers.proofs.crew.close.settle_all.Given as goal

abbrev pub invariant-tables : goal.invariant-tables
invariant-tables g l = SettlesTo g.N.Naming.tables g.N.Naming.replicas g.N.Naming.offered l.initial.pass l.table l.pass l.tables
