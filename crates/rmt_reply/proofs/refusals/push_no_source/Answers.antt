use Rattle.std.proofs.Common.{◌∙◌, codes}
use Rattle.rmt_names.specs.Texts.{text_of}
use Rattle.rmt_reply.specs.Printed.{replica_text}
use Rattle.rmt_reply.proofs.TextLemmas.{two_later}
use Rattle.rmt_reply.proofs.refusals.push_no_source.Goals as goal

pub returns : goal.returns
returns c =
    let both = rw c.in_ok-push_with_part.ensures at c.in_ok-push_with_replica.ensures in
    both ∙ two_later c.args.out.now.items (codes "19 NoSource ") (text_of c.args.name.now) (replica_text c.args.id)
