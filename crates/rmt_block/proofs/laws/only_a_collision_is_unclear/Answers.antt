use Rattle.rmt_block.proofs.SpellingLemmas.{block-inj}
use Rattle.rmt_block.proofs.laws.only_a_collision_is_unclear.Goals as goal

pub returns : goal.returns
returns c = block-inj
