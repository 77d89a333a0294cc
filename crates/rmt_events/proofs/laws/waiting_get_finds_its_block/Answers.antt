use Rattle.rmt_events.proofs.Drains.{get-ready}
use Rattle.rmt_events.proofs.laws.waiting_get_finds_its_block.Goals as goal

pub returns : goal.returns
returns c = λ s w x h e i v p n source need digest q up. get-ready s x i p n source need digest w h e v q up
