use Rattle.rmt_pass.specs.Passes.{KeepsPass}
use Rattle.rmt_pass.proofs.KnownLemmas.{on-err}
use Rattle.rmt_workers.proofs.StepLemmas.{keeps-there}
use Rattle.rmt_workers.proofs.crew.Crew.drop_partition.Goals as goal

pub known-requires : goal.known-requires
known-requires g c = keeps-there c.args.pass.now c.args.table c.append_drop.new.pass c.in_ok-below.ensures.done.keeps c.requires.table

pub complete-requires : goal.complete-requires
complete-requires g c = keeps-there c.args.pass.now c.args.table c.append_drop.new.pass c.in_ok-below.ensures.done.keeps c.requires.table

pub returns-in_err-complete-clause-err : goal.returns-in_err-complete-clause-err
returns-in_err-complete-clause-err g c = on-err c.from_residual-in_err-complete.result (KeepsPass c.args.pass.now c.args.table c.append_drop.new.pass) c.in_ok-below.ensures.done.keeps
