use Rattle.std.proofs.Common.{arith}
use Rattle.std.proofs.lemmas.Grind.{common_steps}
use Rattle.std.proofs.KnownBytes.{Appends-trans}
use Rattle.rmt_outside.proofs.write.write_all_of.Goals as goal

-- The prefix grew by the piece that was taken.
pub pieces-preserved : goal.pieces-preserved
pieces-preserved g c =
    let (prefix, whole, got) = c.pieces.invariant.0 in
    ((_, grind (arith, common_steps), Appends-trans _ _ _ _ _ got c.in_ok-count.ensures.bytes), grind (arith, common_steps))
