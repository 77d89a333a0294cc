use Rattle.rmt_model.proofs.LiveLaws.{tight, blocks-live-once}
use Rattle.rmt_laws.proofs.laws.blocks_live_once.Goals as goal

pub returns-clause-apart : goal.returns-clause-apart
returns-clause-apart c schema log lawful = (tight schema log lawful).apart

pub returns-clause-once : goal.returns-clause-once
returns-clause-once c = blocks-live-once
