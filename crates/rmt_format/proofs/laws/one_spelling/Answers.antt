use Rattle.rmt_format.proofs.PartLemmas.{same-part}
use Rattle.rmt_format.proofs.laws.one_spelling.Goals as goal

pub returns : goal.returns
returns c = same-part
