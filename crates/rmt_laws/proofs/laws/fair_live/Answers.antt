use Rattle.rmt_model.proofs.Drained.{fair-live}
use Rattle.rmt_laws.proofs.laws.fair_live.Goals as goal

pub returns : goal.returns
returns c = fair-live
