use Rattle.std.proofs.Common.{◌≡◌, ◌∙◌, ◌++◌, [], ap, sym}
use Rattle.rmt_reply.proofs.TextLemmas.{checked-some}
use Rattle.rmt_reply.proofs.checks.push_digests.Goals as goal

pub returns : goal.returns
returns c =
    let each = rw (c.as_slice-all.ensures) at c.in_ok-push_each_digest.ensures in
    let some : c.args.digests.now ≡ [] → ⊥ = λ empty. cc (sym c.if-is_empty.false ∙ rw (c.as_slice-all.ensures, empty) at c.is_empty.ensures) in
    each ∙ ap (λ l. c.args.out.now.items ++ l) (sym (checked-some c.args.digests.now some))
