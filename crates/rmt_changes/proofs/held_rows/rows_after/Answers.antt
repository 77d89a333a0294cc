use Rattle.std.proofs.Common.{refl}
use Rattle.rmt_changes.proofs.PassLaws.{pass-other}
use Rattle.rmt_changes.proofs.held_rows.rows_after.Goals as goal

pub returns-in_default : goal.returns-in_default
returns-in_default c = record { rows = pass-other c.args.entry.now c.args.rows.rows c.in_default.not-Mutation; kinds = refl }
