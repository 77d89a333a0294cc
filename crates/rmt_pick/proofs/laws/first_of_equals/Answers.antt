use Rattle.rmt_pick.proofs.ChoiceLaws.{best-is-first}
use Rattle.rmt_pick.proofs.laws.first_of_equals.Goals as goal

pub returns : goal.returns
returns c = best-is-first
