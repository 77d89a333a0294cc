use Rattle.rmt_part.proofs.CopiedLaws.{part-copied}
use Rattle.rmt_part.proofs.laws.a_part_is_seen_as_its_log_says.Goals as goal

pub returns : goal.returns
returns c = part-copied
