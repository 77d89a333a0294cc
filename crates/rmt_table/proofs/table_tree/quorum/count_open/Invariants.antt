use Rattle.std.proofs.Common.{◌≡◌, ◌≤◌, take}
use Rattle.rmt_table.proofs.OpenLemmas.{opens}
use Rattle.rmt_table.proofs.table_tree.quorum.count_open.Given as goal

abbrev pub invariant-sessions : goal.invariant-sessions
invariant-sessions l = (l.count ≡ opens (take l.session-index l.sessions)) × (l.count ≤ l.session-index)
