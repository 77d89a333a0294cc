use Rattle.std.proofs.Common.{◌<◌, sym, subst}
use Rattle.rmt_tickets.specs.declared.rule.PassMoves.{PassMoves}
use Rattle.rmt_tickets.proofs.Moves.{forks}
use Rattle.rmt_tickets.proofs.counted.CountedPass.cut.Goals as goal

pub another-pass-requires-clause-rule : goal.another-pass-requires-clause-rule
another-pass-requires-clause-rule g c = forks _ _ (subst (λ (v : PassMoves). 1 < v.parts) (sym c.self.view_is) c.requires)
