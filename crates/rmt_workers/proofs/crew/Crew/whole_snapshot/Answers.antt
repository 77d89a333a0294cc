use Rattle.std.proofs.Common.{inr}
use Rattle.rmt_pass.specs.Passes.{KeepsPass, client_at}
use Rattle.rmt_pass.proofs.KnownLemmas.{on-err}
use Rattle.rmt_workers.specs.Crews.{MayRead}
use Rattle.rmt_workers.proofs.StepLemmas.{if-some, keeps-both, looked-keeps, looked-saw, saw-rests}
use Rattle.rmt_workers.proofs.ReadLemmas.{looked-may-read, read-answers, saw-lawful}
use Rattle.rmt_workers.proofs.crew.Crew.whole_snapshot.Goals as goal

pub returns-in_err-parts-clause-err : goal.returns-in_err-parts-clause-err
returns-in_err-parts-clause-err g c =
    on-err c.from_residual.result (KeepsPass c.args.pass.now c.args.table c.try_whole_snapshot.new.pass)
    (keeps-both c.args.pass.now c.tries.pass c.try_whole_snapshot.new.pass c.args.table (looked-keeps c.args.pass.now c.tries.pass c.args.table c.tries.invariant.2) c.in_err-parts.ensures.err)

pub returns-in-Some-2-clause-rests : goal.returns-in-Some-2-clause-rests
returns-in-Some-2-clause-rests g c =
    saw-rests g.N.Naming.offered c.args.pass.now c.try_whole_snapshot.new.pass c.args.table
    (looked-saw c.args.pass.now c.tries.pass c.try_whole_snapshot.new.pass c.args.table c.tries.invariant.2 c.in_ok-parts.ensures.saw)

pub returns-in-Some-2-clause-answers : goal.returns-in-Some-2-clause-answers
returns-in-Some-2-clause-answers g c =
    let O = g.N.Naming.offered in
    let old = c.args.pass.now in
    let new = c.try_whole_snapshot.new.pass in
    let k = c.args.table in
    read-answers (O k) (client_at old k) c.args.replica c.in-Some-2.parts (saw-lawful old new k (looked-saw old c.tries.pass new k c.tries.invariant.2 c.in_ok-parts.ensures.saw))
    (looked-may-read O old c.tries.pass k c.args.replica c.in-Some-2.parts c.tries.invariant.2
    (if-some c.in_ok-parts.field-0 c.in-Some-2.parts (MayRead (O k) (client_at c.tries.pass k) c.args.replica) c.in-Some-2.is c.in_ok-parts.ensures.reads))

pub tries-preserved : goal.tries-preserved
tries-preserved g c = (
  tt,
  tt,
  inr (looked-saw c.args.pass.now c.tries.pass c.try_whole_snapshot.new.pass c.args.table c.tries.invariant.2 c.in_ok-parts.ensures.saw),
)

pub returns-in_err-help-clause-err : goal.returns-in_err-help-clause-err
returns-in_err-help-clause-err g c =
    on-err c.from_residual-in_err-help.result (KeepsPass c.args.pass.now c.args.table c.try_whole_snapshot.new.pass)
    (looked-saw c.args.pass.now c.tries.pass c.try_whole_snapshot.new.pass c.args.table c.tries.invariant.2 c.in_ok-parts.ensures.saw).keeps
