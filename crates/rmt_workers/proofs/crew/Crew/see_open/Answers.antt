use Rattle.std.proofs.Common.{List, sym, subst}
use Rattle.rmt_table_model.specs.Held.{Held}
use Rattle.rmt_pass.specs.Passes.{IsCurrent}
use Rattle.rmt_workers.proofs.StepLemmas.{saw-of, sees-current}
use Rattle.rmt_workers.proofs.crew.Crew.see_open.Goals as goal

pub open_sessions-requires-clause-current : goal.open_sessions-requires-clause-current
open_sessions-requires-clause-current g c =
    subst (λ (ts : List Held). IsCurrent c.see.new.pass c.args.table ts) (sym c.deref_mut-tables.ensures.value)
    (sees-current c.args.pass.now c.args.table c.in_ok-guard.guard.value c.see.new.pass c.in_ok-guard.ensures.ok)

pub returns-clause-ok : goal.returns-clause-ok
returns-clause-ok g c = record {
  saw = saw-of c.args.pass.now c.args.table c.in_ok-guard.guard.value c.see.new.pass c.in_ok-guard.ensures.ok;
  current = c.open_sessions.ensures.current;
  has_open = c.in_ok-open_sessions.ensures.ok;
}
