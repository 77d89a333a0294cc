use Rattle.rmt_pass.specs.Passes.{KeepsPass}
use Rattle.rmt_pass.proofs.KnownLemmas.{on-err}
use Rattle.rmt_workers.proofs.StepLemmas.{keeps-both}
use Rattle.rmt_workers.proofs.OptimizeLemmas.{one-part, no-part}
use Rattle.rmt_workers.proofs.crew.Crew.optimize_partition.Goals as goal

pub returns-in_err-bring_up-in-Name-clause-err : goal.returns-in_err-bring_up-in-Name-clause-err
returns-in_err-bring_up-in-Name-clause-err g c =
    on-err c.from_residual-in_err-bring_up-in-Name.result (KeepsPass c.args.pass.now c.args.table c.bring_up.new.pass)
    (keeps-both c.args.pass.now c.merge.new.pass c.bring_up.new.pass c.args.table c.in_ok-name.ensures.merges.keeps c.in_err-bring_up-in-Name.ensures.err)

pub returns-in_ok-bring_up-in-Name-clause-ok : goal.returns-in_ok-bring_up-in-Name-clause-ok
returns-in_ok-bring_up-in-Name-clause-ok g c =
    one-part g.N.Naming.offered c.args.pass.now c.args.table c.args.replica c.args.partition c.merge.new.pass c.bring_up.new.pass c.in-Name.name c.in_ok-name.field-0 c.in-Name.is c.in_ok-name.ensures.merges
    c.in_ok-bring_up-in-Name.ensures.ok

pub returns-in-Refused-clause-ok : goal.returns-in-Refused-clause-ok
returns-in-Refused-clause-ok g c = no-part g.N.Naming.offered c.args.pass.now c.args.table c.args.replica c.args.partition c.merge.new.pass c.in-Refused.refusal c.in_ok-name.field-0 c.in-Refused.is c.in_ok-name.ensures.merges
