use Rattle.rmt_model.proofs.VersionLaws.{pending-above-max}
use Rattle.rmt_laws.proofs.laws.pending_above.Goals as goal

pub returns : goal.returns
returns c = pending-above-max
