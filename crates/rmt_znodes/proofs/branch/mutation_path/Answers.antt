use Rattle.std.proofs.Common.{rules, codes, refl}
use Rattle.rmt_znodes.proofs.branch.mutation_path.Goals as goal

pub returns : goal.returns
returns c = let a = c.in_ok-top_path.ensures (codes "mutations") (record { some = search rules; whole = refl }) refl in search rules
