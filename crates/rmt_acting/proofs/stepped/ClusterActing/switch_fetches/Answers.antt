use Rattle.std.proofs.lemmas.Result.{on_ok_weaker}
use Rattle.rmt_statement_model.specs.TableStates.{with_switch}
use Rattle.rmt_acting.proofs.Bringing.{brings-to, goes-done, keeps}
use Rattle.rmt_acting.proofs.stepped.ClusterActing.switch_fetches.Goals as goal

pub returns-clause-switches : goal.returns-clause-switches
returns-clause-switches c = on_ok_weaker c.switch_fetches.result (λ f. brings-to c.args.self.now c.switch_fetches.new.cluster (λ t. with_switch t c.args.replica c.args.allowed) f) c.switch_fetches.ensures.shows

pub returns-clause-goes_on : goal.returns-clause-goes_on
returns-clause-goes_on c = goes-done c.switch_fetches.result c.args.self.now c.switch_fetches.new.cluster (on_ok_weaker c.switch_fetches.result (λ i. i.free) c.switch_fetches.ensures.idle) c.switch_fetches.ensures.keeps

pub returns-clause-keeps : goal.returns-clause-keeps
returns-clause-keeps c = keeps c.args.self.now c.switch_fetches.new.cluster c.switch_fetches.ensures.keeps.table
