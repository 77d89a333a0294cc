use Rattle.std.proofs.Common.{◌≡◌, List, sym, subst}
use Rattle.rmt_table_model.specs.Held.{Held}
use Rattle.rmt_statement_model.specs.TableStates.{synced}
use Rattle.rmt_pass.specs.Passes.{IsCurrent, KeepsPass}
use Rattle.rmt_pass.proofs.KnownLemmas.{on-err}
use Rattle.rmt_workers.proofs.StepLemmas.{keeps-both, saw-of, sees-current, sees-then-takes}
use Rattle.rmt_workers.proofs.DrainLemmas.{current-as}
use Rattle.rmt_workers.proofs.crew.Crew.look.Goals as goal

pub returns-then-not-branch-clause-looks : goal.returns-then-not-branch-clause-looks
returns-then-not-branch-clause-looks g c = saw-of c.args.pass.now c.args.table c.in_ok-tables_guard.tables_guard.value c.see.new.pass c.in_ok-tables_guard.ensures.ok

pub catch_up-requires-clause-current : goal.catch_up-requires-clause-current
catch_up-requires-clause-current g c =
    current-as c.see.new.pass c.args.table c.has_done_all.new.tables c.deref_mut-tables.result.now c.in_ok-has_done_all.ensures.seen
    (subst (λ (ts : List Held). IsCurrent c.see.new.pass c.args.table ts) (sym c.deref_mut-tables.ensures.value)
    (sees-current c.args.pass.now c.args.table c.in_ok-tables_guard.tables_guard.value c.see.new.pass c.in_ok-tables_guard.ensures.ok))

pub returns-in_err-catch_up-clause-err : goal.returns-in_err-catch_up-clause-err
returns-in_err-catch_up-clause-err g c =
    on-err c.from_residual-in_err-catch_up.result (KeepsPass c.args.pass.now c.args.table c.catch_up.new.self)
    (keeps-both c.args.pass.now c.see.new.pass c.catch_up.new.self c.args.table c.in_ok-tables_guard.ensures.ok.all.keeps c.in_err-catch_up.ensures.err)

pub returns-clause-looks : goal.returns-clause-looks
returns-clause-looks g c =
    sees-then-takes g.N.Naming.offered c.args.pass.now c.see.new.pass c.catch_up.new.self c.args.table c.in_ok-tables_guard.tables_guard.value (λ t u. u ≡ synced c.args.replica t) c.in_ok-tables_guard.ensures.ok c.in_ok-catch_up.ensures.ok
