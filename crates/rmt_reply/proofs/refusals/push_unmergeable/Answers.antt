use Rattle.std.proofs.Common.{◌∙◌, codes}
use Rattle.rmt_names.specs.Texts.{text_of}
use Rattle.rmt_reply.proofs.TextLemmas.{two_later}
use Rattle.rmt_reply.proofs.refusals.push_unmergeable.Goals as goal

pub returns : goal.returns
returns c =
    let both = rw c.in_ok-push_with_part.ensures at c.in_ok-push_with_part-2.ensures in
    both ∙ two_later c.args.out.now.items (codes "16 Unmergeable ") (text_of c.args.left.now) (text_of c.args.right.now)
