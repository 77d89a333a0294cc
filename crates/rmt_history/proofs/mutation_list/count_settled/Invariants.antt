use Rattle.std.proofs.Common.{◌-◌, ◌≤◌, length}
use Rattle.std.specs.List.{prefix_len}
use Rattle.rmt_history.specs.Mutations.{is_settled}
use Rattle.rmt_history.proofs.mutation_list.count_settled.Given as goal

abbrev pub invariant-halves : goal.invariant-halves
invariant-halves l = record {
  low : l.low ≤ prefix_len (is_settled l.name) l.tokens;
  high : prefix_len (is_settled l.name) l.tokens ≤ l.high;
  within : l.high ≤ length l.tokens;
}

abbrev pub decreases-halves : goal.decreases-halves
decreases-halves l = l.high - l.low
