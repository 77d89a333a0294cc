use Rattle.std.proofs.Common.{rules, codes, refl}
use Rattle.rmt_znodes.proofs.sequence.entry_path.Goals as goal

pub returns : goal.returns
returns c = let a = c.in_ok-top_path.ensures (codes "log") (record { some = search rules; whole = refl }) refl in search rules
