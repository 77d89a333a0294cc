use Rattle.rmt_znodes.proofs.ZnodeLemmas.{znode_path-injective}
use Rattle.rmt_znodes.proofs.laws.one_path.Goals as goal

pub returns : goal.returns
returns c = λ x y h k e. znode_path-injective x y h k e
