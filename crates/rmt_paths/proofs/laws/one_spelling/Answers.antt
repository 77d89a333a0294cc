use Rattle.rmt_paths.proofs.TextLemmas.{one_path}
use Rattle.rmt_paths.proofs.laws.one_spelling.Goals as goal

pub returns : goal.returns
returns c = λ p q is other e. one_path p q is.names other.names e
