use Rattle.std.proofs.Common.{ℕ, List, length, ap, arith}
use Rattle.std.specs.Prelude.{slice_get}
use Rattle.rmt_draws.proofs.PendingLemmas.{pending-start}
use Rattle.rmt_draws.proofs.turns.nth_pending.Goals as goal

pub places-init : goal.places-init
places-init c =
    let m = c.copy-copy.ensures.standing.marks in
    let l = ap length c.copy-copy.ensures.log in
    let first = c.first_pending-i in
    let s = pending-start c.args.worker.now.done first.result (omega (arith, m)) first.ensures.below in
    record { left = ap (λ (places : List ℕ). slice_get places c.args.n) s; within = omega (arith, l) }
