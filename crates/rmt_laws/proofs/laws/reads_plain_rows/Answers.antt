use Rattle.rmt_laws.proofs.Headline.{reads-plain-rows}
use Rattle.rmt_laws.proofs.laws.reads_plain_rows.Goals as goal

pub returns : goal.returns
returns c = reads-plain-rows
