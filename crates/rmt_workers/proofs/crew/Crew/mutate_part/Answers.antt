use Rattle.std.proofs.Common.{List, sym, subst}
use Rattle.rmt_table_model.specs.Held.{Held}
use Rattle.rmt_pass.specs.Passes.{IsCurrent}
use Rattle.rmt_workers.proofs.StepLemmas.{keeps-both, saw-of, sees-current}
use Rattle.rmt_workers.proofs.WaitLemmas.{saw-known}
use Rattle.rmt_workers.proofs.crew.Crew.mutate_part.Goals as goal

pub mutate_next-requires-clause-current : goal.mutate_next-requires-clause-current
mutate_next-requires-clause-current g c =
    subst (λ (ts : List Held). IsCurrent c.see.new.pass c.args.table ts) (sym c.deref_mut-tables.ensures.value)
    (sees-current c.args.pass.now c.args.table c.in_ok-guard.guard.value c.see.new.pass c.in_ok-guard.ensures.ok)

pub mutate_next-requires-clause-known : goal.mutate_next-requires-clause-known
mutate_next-requires-clause-known g c =
    saw-known c.args.id c.args.pass.now c.see.new.pass c.args.table (saw-of c.args.pass.now c.args.table c.in_ok-guard.guard.value c.see.new.pass c.in_ok-guard.ensures.ok) c.requires.known

pub returns-in_err-mutated-clause-keeps : goal.returns-in_err-mutated-clause-keeps
returns-in_err-mutated-clause-keeps g c = keeps-both c.args.pass.now c.see.new.pass c.mutate_next.new.self c.args.table c.in_ok-guard.ensures.ok.all.keeps c.in_err-mutated.ensures.keeps

pub returns-clause-mutates : goal.returns-clause-mutates
returns-clause-mutates g c = record {
  mid = c.see.new.pass;
  saw = saw-of c.args.pass.now c.args.table c.in_ok-guard.guard.value c.see.new.pass c.in_ok-guard.ensures.ok;
  mutates = c.in_ok-mutated.ensures.ok;
}

pub returns-clause-keeps : goal.returns-clause-keeps
returns-clause-keeps g c = keeps-both c.args.pass.now c.see.new.pass c.mutate_next.new.self c.args.table c.in_ok-guard.ensures.ok.all.keeps c.in_ok-mutated.ensures.keeps
