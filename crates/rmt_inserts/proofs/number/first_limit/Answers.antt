use Rattle.std.proofs.Common.{◌∙◌, sym}
use Rattle.rmt_inserts.proofs.LimitLemmas.{limit-none, limit-some, ok-is}
use Rattle.rmt_inserts.proofs.number.first_limit.Goals as goal

pub returns-in-None : goal.returns-in-None
returns-in-None c = λ numbers holders p has e. ok-is c.partition_limit.result _ _ (c.partition_limit.ensures numbers holders has) (limit-none numbers p (sym e ∙ c.in-None.is))

pub returns-in-Some : goal.returns-in-Some
returns-in-Some c = λ numbers holders p has e. c.numbers_limit.ensures ∙ limit-some numbers p c.in-Some.number has.nexts (sym e ∙ c.in-Some.is)
