use Rattle.std.proofs.Common.{◌≡◌, ◌+◌, ◌<◌, ◌∙◌, length, sym, ap, arith}
use Rattle.rmt_events.specs.Draws.{pending_from}
use Rattle.rmt_draws.proofs.PendingLemmas.{pending_after, pending-start, pending-end, pending-few, count-next, count-passed}
use Rattle.rmt_draws.proofs.turns.count_pending.Goals as goal
use Rattle.rmt_draws.proofs.turns.count_pending.Goals.{then-not-done, else-not-done}

pub places-init : goal.places-init
places-init c =
    let m = c.copy-copy.ensures.standing.marks in
    let l = ap length c.copy-copy.ensures.log in
    let first = c.first_pending-i in
    let s = ap length (pending-start c.args.worker.now.done first.result (omega (arith, m)) first.ensures.below) in
    record { counted = omega (arith, s); within = omega (arith, l) }

pub overflow_add-count : goal.overflow_add-count
overflow_add-count c =
    let m = c.copy-copy.ensures.standing.marks in
    let l = ap length c.copy-copy.ensures.log in
    let f = pending-few c.args.worker.now.done 0 in
    omega (arith, m, l, f)

pub places-preserved : goal.places-preserved
places-preserved c =
    let m = c.copy-copy.ensures.standing.marks in
    let l = ap length c.copy-copy.ensures.log in
    let done = c.args.worker.now.done in
    let i = c.places.i in
    let all = length (pending_from done 0) in
    let so_far = c.places.invariant.counted in
    let h : i < length done = omega (arith, m, l) in
    record {
      counted = elim c.if-not-done.branch as (λ _. c.if-not-done.count + length (pending_after done (i + 1)) ≡ all) [
        | then-not-done w ↦
            let s = count-next done i c.places.count all h (sym c.done.ensures.done ∙ w.if-not-done.true) so_far in
            let e = w.count-is in omega (arith, s, e)
        | else-not-done w ↦
            let s = count-passed done i c.places.count all h (sym c.done.ensures.done ∙ w.if-not-done.false) so_far in
            let e = w.count-is in omega (arith, s, e)
      ];
      within = omega arith;
    }

pub returns : goal.returns
returns c =
    let m = c.copy-copy.ensures.standing.marks in
    let l = ap length c.copy-copy.ensures.log in
    let s = ap length (pending-end c.args.worker.now.done c.places.i (omega (arith, m, l))) in
    omega (arith, s)
