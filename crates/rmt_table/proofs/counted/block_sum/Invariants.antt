use Rattle.std.proofs.Common.{◌≡◌, ◌+◌, drop}
use Rattle.rmt_values.specs.Order.{tally}
use Rattle.rmt_model.specs.Words.{Has, Each}
use Rattle.rmt_model.specs.Live.{live}
use Rattle.rmt_model.specs.Lawful.{block_count}
use Rattle.rmt_table.proofs.counted.block_sum.Given as goal

abbrev pub invariant-names : goal.invariant-names
invariant-names l =
    (l.count + tally (block_count l.copy.log) (drop l.name-index l.names) ≡ tally (block_count l.copy.log) l.names)
    × Each (Has (live l.copy.log)) (drop l.name-index l.names)
