use Rattle.std.proofs.Common.{sym, subst}
use Rattle.rmt_supply.specs.TakenParts.{CanBuild}
use Rattle.rmt_supply.proofs.TakenLemmas.{can-build}
use Rattle.rmt_supply.proofs.own_parts.take.Goals as goal
use Rattle.rmt_supply.proofs.own_parts.take.Goals.{in-Covered, in-Ready+in_ok-taken-in-Ready, in-NeedsPart}

pub returns-clause-can_build : goal.returns-clause-can_build
returns-clause-can_build c = elim c.match-why.branch [
  | in-Covered w ↦ subst CanBuild (sym w.taken-is) tt
  | in-Ready+in_ok-taken-in-Ready w ↦ subst CanBuild (sym w.taken-is) (can-build c.args.replica.now c.args.i w.in_ok-taken-in-Ready.taken c.copy-standing.ensures.standing w.in_ok-taken-in-Ready.ensures)
  | in-NeedsPart w ↦ subst CanBuild (sym w.taken-is) tt
]
