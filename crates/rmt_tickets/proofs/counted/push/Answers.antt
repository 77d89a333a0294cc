use Rattle.std.proofs.Common.{ap, arith}
use Rattle.rmt_tickets.specs.declared.rule.PassMoves.{PassMoves}
use Rattle.rmt_tickets.proofs.Moves.{puts}
use Rattle.rmt_tickets.proofs.counted.push.Goals as goal

pub try_push_as-requires-clause-rule : goal.try_push_as-requires-clause-rule
try_push_as-requires-clause-rule g c = let e = ap (λ (v : PassMoves). v.parts) c.loop.invariant.1 in puts _ _ _ _ (omega (arith, e, c.requires.part)) c.requires.range
