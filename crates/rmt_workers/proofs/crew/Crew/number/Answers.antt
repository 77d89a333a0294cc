use Rattle.std.proofs.Common.{Bool, List, sym, ap, subst, ◌∙◌}
use Rattle.rmt_table_model.specs.Held.{Held}
use Rattle.rmt_shared.specs.ClientCalls.{HasTable}
use Rattle.rmt_pass.specs.Passes.{IsCurrent, KeepsPass, up_in}
use Rattle.rmt_pass.specs.InsertSteps.{AreOpen}
use Rattle.rmt_pass.proofs.KnownLemmas.{on-err}
use Rattle.rmt_workers.proofs.StepLemmas.{keeps-both, keeps-up}
use Rattle.rmt_workers.proofs.crew.Crew.number.Goals as goal

pub allocate-requires-clause-current : goal.allocate-requires-clause-current
allocate-requires-clause-current g c = subst (λ (ts : List Held). IsCurrent c.see_open.new.pass c.args.table ts) (sym c.deref_mut-tables.ensures.value) c.in_ok-guard.ensures.ok.current

pub allocate-requires-clause-open : goal.allocate-requires-clause-open
allocate-requires-clause-open g c = subst (λ (ts : List Held). HasTable ts c.args.table (AreOpen (up_in c.see_open.new.pass.up))) (sym c.deref_mut-tables.ensures.value) c.in_ok-guard.ensures.ok.has_open

pub allocate-requires-clause-up : goal.allocate-requires-clause-up
allocate-requires-clause-up g c = ap (λ (ups : List Bool). up_in ups c.args.replica) (keeps-up c.args.pass.now c.args.table c.see_open.new.pass c.in_ok-guard.ensures.ok.saw.keeps) ∙ c.requires.up

pub returns-in_err-numbered-clause-err : goal.returns-in_err-numbered-clause-err
returns-in_err-numbered-clause-err g c =
    on-err c.from_residual-in_err-numbered.result (KeepsPass c.args.pass.now c.args.table c.allocate.new.self)
    (keeps-both c.args.pass.now c.see_open.new.pass c.allocate.new.self c.args.table c.in_ok-guard.ensures.ok.saw.keeps c.in_err-numbered.ensures.err)

pub returns-clause-done : goal.returns-clause-done
returns-clause-done g c = λ b i. record {
  mid = c.see_open.new.pass;
  saw = c.in_ok-guard.ensures.ok.saw;
  numbers = c.in_ok-numbered.ensures.done b i;
  goes = c.in_ok-numbered.ensures.current.goes;
}
