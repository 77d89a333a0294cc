use Rattle.std.proofs.Common.{◌∙◌}
use Rattle.rmt_inserts.proofs.ReadLemmas.{counter-is, counter-none}
use Rattle.rmt_inserts.proofs.number.next_number.Goals as goal

pub returns-in-Some : goal.returns-in-Some
returns-in-Some c = λ next holders has.
    c.ok.ensures.value
    ∙ counter-is c.args.tree.now next holders has c.args.partition c.in_ok-path.ensures.in_range c.in_ok-path.path c.in_ok-path.ensures.path c.in-Some.counter c.in-Some.ensures c.try_from.result c.try_from.ensures

pub returns : goal.returns
returns c = λ next holders has.
    counter-none c.args.tree.now next holders has c.args.partition c.in_ok-path.ensures.in_range c.in_ok-path.path c.in_ok-path.ensures.path c.in-None.ensures
