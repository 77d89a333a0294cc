use Rattle.rmt_part.proofs.PartLaws.{rows-content}
use Rattle.rmt_part.proofs.laws.rows_are_content.Goals as goal

pub returns : goal.returns
returns c = rows-content
