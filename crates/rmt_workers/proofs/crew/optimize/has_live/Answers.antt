use Rattle.rmt_statement_model.specs.Optimizes.{live_of}
use Rattle.rmt_workers.proofs.OptimizeLemmas.{has-some}
use Rattle.rmt_workers.proofs.crew.optimize.has_live.Goals as goal

pub returns : goal.returns
returns c = has-some c.in_ok-names.names (live_of c.args.copy.now.log c.args.partition) c.len.result c.in_ok-names.ensures c.len.ensures
