use Rattle.std.proofs.Common.{◌≡◌, take}
use Rattle.std.specs.List.{All}
use Rattle.rmt_values.specs.Partitions.{partition_of}
use Rattle.rmt_block.proofs.groups.are_all_of.Given as goal

abbrev pub invariant-rows : goal.invariant-rows
invariant-rows l = All (λ row. partition_of l.schema.partition row ≡ l.partition) (take l.i l.rows.rows)
