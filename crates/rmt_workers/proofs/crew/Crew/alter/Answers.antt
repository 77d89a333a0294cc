use Rattle.std.proofs.Common.{List, sym, subst}
use Rattle.rmt_table_model.specs.Held.{Held}
use Rattle.rmt_statement_model.specs.ActOutcomes.{MutatesOr}
use Rattle.rmt_pass.specs.Passes.{IsCurrent, KeepsPass}
use Rattle.rmt_pass.proofs.KnownLemmas.{on-err}
use Rattle.rmt_workers.proofs.StepLemmas.{keeps-both, sees-current, sees-then-takes}
use Rattle.rmt_workers.proofs.crew.Crew.alter.Goals as goal

pub alter-requires-clause-current : goal.alter-requires-clause-current
alter-requires-clause-current g c =
    subst (λ (ts : List Held). IsCurrent c.see.new.pass c.args.table ts) (sym c.deref_mut-tables.ensures.value)
    (sees-current c.args.pass.now c.args.table c.in_ok-guard.guard.value c.see.new.pass c.in_ok-guard.ensures.ok)

pub returns-in_err-made-clause-err : goal.returns-in_err-made-clause-err
returns-in_err-made-clause-err g c =
    on-err c.from_residual-in_err-made.result (KeepsPass c.args.pass.now c.args.table c.alter.new.self)
    (keeps-both c.args.pass.now c.see.new.pass c.alter.new.self c.args.table c.in_ok-guard.ensures.ok.all.keeps c.in_err-made.ensures.err)

pub returns-clause-done : goal.returns-clause-done
returns-clause-done g c =
    sees-then-takes g.N.Naming.offered c.args.pass.now c.see.new.pass c.alter.new.self c.args.table c.in_ok-guard.guard.value (MutatesOr c.args.command c.in_ok-made.made) c.in_ok-guard.ensures.ok c.in_ok-made.ensures.done
