use Rattle.std.proofs.Common.{◌-◌, length}
use Rattle.rmt_history.specs.Copies.{entries}
use Rattle.rmt_table.proofs.Pulls.{IsBetween}
use Rattle.rmt_table.proofs.table_tree.pull.extend.Given as goal

abbrev pub invariant-entries : goal.invariant-entries
invariant-entries l = IsBetween l.log.row l.initial.copy l.copy (entries l.log.tokens)

abbrev pub decreases-entries : goal.decreases-entries
decreases-entries l = length l.log.tokens - length l.copy.log
