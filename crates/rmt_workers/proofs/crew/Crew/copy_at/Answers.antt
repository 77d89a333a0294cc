use Rattle.std.proofs.Common.{true}
use Rattle.rmt_statement_model.specs.QuorumCopies.{CopiesLater}
use Rattle.rmt_pass.specs.Passes.{KeepsPass, up_in}
use Rattle.rmt_workers.specs.CrewInserts.{TakesInto}
use Rattle.rmt_workers.proofs.StepLemmas.{err-as, keeps-both, ok-as}
use Rattle.rmt_workers.proofs.InsertLemmas.{later-copies}
use Rattle.rmt_workers.proofs.crew.Crew.copy_at.Goals as goal

pub returns-clause-ok : goal.returns-clause-ok
returns-clause-ok g c =
    ok-as c.note_copy.result
    (TakesInto g.N.Naming.offered c.is_asked.new.pass c.args.table (λ t u. CopiesLater true (up_in c.is_asked.new.pass.up) c.args.writer c.args.place c.args.replica t u) c.note_copy.new.pass)
    (TakesInto g.N.Naming.offered c.args.pass.now c.args.table (λ t u. CopiesLater true (up_in c.args.pass.now.up) c.args.writer c.args.place c.args.replica t u) c.note_copy.new.pass)
    (later-copies g.N.Naming.offered c.args.pass.now c.is_asked.new.pass c.note_copy.new.pass c.args.table c.args.writer c.args.place c.args.replica c.in_ok-is_asked.ensures.ok)
    c.note_copy.ensures.ok

pub returns-clause-err : goal.returns-clause-err
returns-clause-err g c =
    err-as c.note_copy.result
    (KeepsPass c.is_asked.new.pass c.args.table c.note_copy.new.pass)
    (KeepsPass c.args.pass.now c.args.table c.note_copy.new.pass)
    (keeps-both c.args.pass.now c.is_asked.new.pass c.note_copy.new.pass c.args.table c.in_ok-is_asked.ensures.ok.keeps)
    c.note_copy.ensures.err
