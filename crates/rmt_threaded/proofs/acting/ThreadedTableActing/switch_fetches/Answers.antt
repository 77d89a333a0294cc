use Rattle.std.proofs.Common.{◌≡◌}
use Rattle.std.specs.Arc.{arc_value}
use Rattle.rmt_statement_model.specs.TableStates.{with_switch}
use Rattle.rmt_threaded.proofs.ThreadedLemmas.{takes-brings-ok}
use Rattle.rmt_threaded.proofs.acting.ThreadedTableActing.switch_fetches.Goals as goal

pub returns-clause-switches : goal.returns-clause-switches
returns-clause-switches g c =
    takes-brings-ok c.switch.result g.O.Offers.blocks g.N.Naming.tables g.N.Naming.offered (arc_value c.self.inside.schema) g.N.Naming.replicas c.self.inside.table c.self.inside.pass c.switch.new.pass c.args.self.now
    (λ v t u. u ≡ with_switch t c.args.replica c.args.allowed) c.self.view_is c.self.invariant c.switch.ensures.ok
