use Rattle.rmt_block.proofs.SpellingLemmas.{block_bytes-inj}
use Rattle.rmt_block.proofs.laws.one_spelling.Goals as goal

pub returns : goal.returns
returns c = block_bytes-inj
