use Rattle.rmt_query.proofs.BagLaws.{one-answer}
use Rattle.rmt_query.proofs.laws.same_bags_have_one_answer.Goals as goal

pub returns : goal.returns
returns c = one-answer
