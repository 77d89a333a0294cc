use Rattle.std.proofs.Common.{rules, codes, refl, arith}
use Rattle.rmt_znodes.proofs.leaves.status_path.Goals as goal

pub returns : goal.returns
returns c = let a = c.in_ok-top_path.ensures (codes "quorum") (record { some = omega arith; whole = refl }) refl in search rules
