use Rattle.std.proofs.Common.{sym}
use Rattle.rmt_partset.specs.Snapshots.{names_in}
use Rattle.rmt_known.proofs.MarkLemmas.{past-shown}
use Rattle.rmt_known.proofs.covering.is_shown.Goals as goal

pub returns-in_default : goal.returns-in_default
returns-in_default c = sym (past-shown c.args.copy.now.log (names_in c.args.parts.now) c.args.i c.in_default.ensures.entry)
