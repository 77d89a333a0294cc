use Rattle.std.proofs.Common.{arith}
use Rattle.std.proofs.lemmas.Grind.{common_steps}
use Rattle.std.proofs.KnownBytes.{Consumes-trans}
use Rattle.rmt_outside.proofs.read.read_all.Goals as goal

-- What was read before, and the piece with the byte that is too much, were taken.
pub returns-then-count-room-clause-too_long : goal.returns-then-count-room-clause-too_long
returns-then-count-room-clause-too_long g c = λ _. (_, Consumes-trans _ _ _ _ _ c.pieces.invariant.1 c.in_ok-count.ensures.bytes.0, grind (arith, common_steps))

-- What was read before, and the piece for which no memory is left, were taken.
pub returns-in_err-extend_from_slice-clause-memory : goal.returns-in_err-extend_from_slice-clause-memory
returns-in_err-extend_from_slice-clause-memory g c = λ _. (_, Consumes-trans _ _ _ _ _ c.pieces.invariant.1 c.in_ok-count.ensures.bytes.0, grind (arith, common_steps))
