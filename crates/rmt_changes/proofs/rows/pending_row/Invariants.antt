use Rattle.std.proofs.Common.{◌≡◌, drop}
use Rattle.rmt_changes.proofs.TokenOrder.{forward}
use Rattle.rmt_changes.proofs.rows.pending_row.Given as goal

abbrev pub invariant-tokens : goal.invariant-tokens
invariant-tokens l = forward l.due l.fn.row ≡ forward (drop l.token-index l.due) l.row
