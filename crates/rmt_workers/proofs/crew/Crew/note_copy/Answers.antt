use Rattle.std.proofs.Common.{List, sym, subst}
use Rattle.rmt_table_model.specs.Held.{Held}
use Rattle.rmt_pass.specs.Passes.{IsCurrent, KeepsPass}
use Rattle.rmt_pass.proofs.KnownLemmas.{on-err}
use Rattle.rmt_workers.proofs.StepLemmas.{keeps-both, saw-of, sees-current}
use Rattle.rmt_workers.proofs.InsertLemmas.{copy-into}
use Rattle.rmt_workers.proofs.crew.Crew.note_copy.Goals as goal

pub copy_block-requires-clause-current : goal.copy_block-requires-clause-current
copy_block-requires-clause-current g c =
    subst (λ (ts : List Held). IsCurrent c.see.new.pass c.args.table ts) (sym c.deref_mut-tables.ensures.value)
    (sees-current c.args.pass.now c.args.table c.in_ok-guard.guard.value c.see.new.pass c.in_ok-guard.ensures.ok)

pub returns-in_err-copy_block-clause-err : goal.returns-in_err-copy_block-clause-err
returns-in_err-copy_block-clause-err g c =
    on-err c.from_residual-in_err-copy_block.result (KeepsPass c.args.pass.now c.args.table c.copy_block.new.self)
    (keeps-both c.args.pass.now c.see.new.pass c.copy_block.new.self c.args.table c.in_ok-guard.ensures.ok.all.keeps c.in_err-copy_block.ensures.err)

pub returns-clause-ok : goal.returns-clause-ok
returns-clause-ok g c =
    copy-into g.N.Naming.offered c.args.pass.now c.see.new.pass c.copy_block.new.self c.args.table c.args.writer c.args.place c.args.replica
    (saw-of c.args.pass.now c.args.table c.in_ok-guard.guard.value c.see.new.pass c.in_ok-guard.ensures.ok) c.in_ok-copy_block.ensures.ok
