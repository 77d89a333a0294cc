use Rattle.rmt_model.proofs.LiveLaws.{later-covers}
use Rattle.rmt_laws.proofs.laws.later_covers.Goals as goal

pub returns : goal.returns
returns c = later-covers
