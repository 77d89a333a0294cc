use Rattle.std.proofs.Common.{◌∙◌, length, sym, ap, arith}
use Rattle.rmt_jobs.proofs.next.first_to_apply.Goals as goal

pub places-init : goal.places-init
places-init c =
    let l = ap length c.copy-copy.ensures.log in
    record {
      none = λ k h t. let e = sym (c.first_pending-i.ensures.below k h) ∙ t.pending in absurd (cc);
      within = let b = c.first_pending-i.ensures.bound in omega (arith, l, b);
    }

pub returns-then-can_apply : goal.returns-then-can_apply
returns-then-can_apply c =
    let l = ap length c.copy-copy.ensures.log in
    record {
      applies = record {
        within = omega (arith, l);
        pending = sym c.done.ensures.done ∙ c.if-done.false;
        can = c.can_apply.ensures.0 c.if-can_apply.true;
      };
      lowest = c.places.invariant.none;
    }
