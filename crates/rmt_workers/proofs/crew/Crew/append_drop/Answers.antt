use Rattle.std.proofs.Common.{List, sym, subst}
use Rattle.rmt_table_model.specs.Held.{Held}
use Rattle.rmt_statement_model.specs.ActOutcomes.{DropsOr}
use Rattle.rmt_pass.specs.Passes.{IsCurrent, KeepsPass}
use Rattle.rmt_pass.proofs.KnownLemmas.{on-err}
use Rattle.rmt_workers.proofs.StepLemmas.{keeps-both, sees-current, sees-then-takes}
use Rattle.rmt_workers.proofs.crew.Crew.append_drop.Goals as goal

pub drop_partition-requires-clause-current : goal.drop_partition-requires-clause-current
drop_partition-requires-clause-current g c =
    subst (λ (ts : List Held). IsCurrent c.see.new.pass c.args.table ts) (sym c.deref_mut-tables.ensures.value)
    (sees-current c.args.pass.now c.args.table c.in_ok-guard.guard.value c.see.new.pass c.in_ok-guard.ensures.ok)

pub returns-in_err-below-clause-err : goal.returns-in_err-below-clause-err
returns-in_err-below-clause-err g c =
    on-err c.from_residual-in_err-below.result (KeepsPass c.args.pass.now c.args.table c.drop_partition.new.self)
    (keeps-both c.args.pass.now c.see.new.pass c.drop_partition.new.self c.args.table c.in_ok-guard.ensures.ok.all.keeps c.in_err-below.ensures.err)

pub returns-clause-done : goal.returns-clause-done
returns-clause-done g c =
    sees-then-takes g.N.Naming.offered c.args.pass.now c.see.new.pass c.drop_partition.new.self c.args.table c.in_ok-guard.guard.value (DropsOr c.args.replica c.args.partition c.in_ok-below.below) c.in_ok-guard.ensures.ok c.in_ok-below.ensures.done
