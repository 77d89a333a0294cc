use Rattle.rmt_laws.proofs.ContentLaws.{content-stays}
use Rattle.rmt_laws.proofs.laws.content_stays.Goals as goal

pub returns : goal.returns
returns c = content-stays
