use Rattle.rmt_names.proofs.TextLemmas.{one_name}
use Rattle.rmt_names.proofs.laws.one_spelling.Goals as goal

pub returns : goal.returns
returns c = one_name
