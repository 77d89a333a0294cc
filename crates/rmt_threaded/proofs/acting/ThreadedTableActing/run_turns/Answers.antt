use Rattle.std.proofs.Common.{true}
use Rattle.std.specs.Arc.{arc_value}
use Rattle.rmt_statement_model.specs.Rests.{Runs}
use Rattle.rmt_pass.specs.Passes.{up_in}
use Rattle.rmt_threaded.proofs.ThreadedLemmas.{takes-brings-ok}
use Rattle.rmt_threaded.proofs.acting.ThreadedTableActing.run_turns.Goals as goal

pub returns-clause-runs : goal.returns-clause-runs
returns-clause-runs g c =
    takes-brings-ok c.run_turns.result g.O.Offers.blocks g.N.Naming.tables g.N.Naming.offered (arc_value c.self.inside.schema) g.N.Naming.replicas c.self.inside.table c.self.inside.pass c.run_turns.new.pass c.args.self.now
    (λ v t u. Runs true (up_in v.pass.up) c.args.turns t u) c.self.view_is c.self.invariant c.run_turns.ensures.runs
