use Rattle.std.proofs.Common.{◌≡◌, ◌∙◌, ◌++◌, [], None, ap, append_assoc, sym}
use Rattle.rmt_reply.proofs.TextLemmas.{optimized-some}
use Rattle.rmt_reply.proofs.commands.push_optimized.Goals.{else-is_empty-via-then-is_empty+else-is_none, else-is_empty-via-else-is_empty}
use Rattle.rmt_reply.proofs.commands.push_optimized.Goals as goal

pub returns : goal.returns
returns c =
    let both = rw (c.in_ok-push_optimized_parts.ensures, c.as_slice-all.ensures) at c.in_ok-push_cut.ensures in
    let some : c.args.names.now ≡ [] → c.args.cause.now ≡ None → ⊥ = λ empty none. elim c.else-is_empty.branch [
      | else-is_empty-via-then-is_empty+else-is_none w ↦ cc (rw (none, w.if-is_none.false) at w.is_none.ensures)
      | else-is_empty-via-else-is_empty w ↦ cc (sym w.if-is_empty.false ∙ rw (c.as_slice-all.ensures, empty) at c.is_empty.ensures)
    ] in
    both ∙ append_assoc c.args.out.now.items _ _ ∙ ap (λ l. c.args.out.now.items ++ l) (sym (optimized-some c.args.names.now c.args.cause.now some))
