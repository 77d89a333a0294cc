use Rattle.rmt_model.proofs.LiveLaws.{covers-none-but-itself}
use Rattle.rmt_laws.proofs.laws.covers_none_but_itself.Goals as goal

pub returns : goal.returns
returns c = covers-none-but-itself
