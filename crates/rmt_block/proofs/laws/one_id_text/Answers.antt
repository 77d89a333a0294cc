use Rattle.rmt_block.proofs.IdLemmas.{id_text_of-inj}
use Rattle.rmt_block.proofs.laws.one_id_text.Goals as goal

pub returns : goal.returns
returns c = id_text_of-inj
