use Rattle.std.proofs.Common.{◌∙◌, codes}
use Rattle.std.specs.Fmt.{decimal}
use Rattle.rmt_reply.specs.Printed.{limit_text}
use Rattle.rmt_reply.proofs.TextLemmas.{two_later}
use Rattle.rmt_reply.proofs.refusals.push_limit_reached.Goals as goal

pub returns : goal.returns
returns c =
    let both = rw (c.in_ok-push_with_text.ensures, c.word_of.ensures, c.from.ensures) at c.in_ok-push_with_number.ensures in
    both ∙ two_later c.args.out.now.items (codes "18 LimitReached ") (limit_text c.args.limit) (decimal c.args.value)
