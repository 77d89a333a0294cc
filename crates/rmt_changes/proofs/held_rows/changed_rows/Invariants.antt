use Rattle.std.proofs.Common.{◌≡◌, drop}
use Rattle.std.specs.List.{filter_map}
use Rattle.rmt_changes.proofs.TokenOrder.{forward}
use Rattle.rmt_changes.proofs.held_rows.changed_rows.Given as goal

abbrev pub invariant-tokens : goal.invariant-tokens
invariant-tokens l =
    (filter_map (forward l.due) l.fn.rows.rows ≡ filter_map (forward (drop l.token-index l.due)) l.rows.rows)
    × (l.rows.kinds ≡ l.fn.rows.kinds)
