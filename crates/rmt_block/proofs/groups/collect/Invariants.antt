use Rattle.std.proofs.Common.{take}
use Rattle.rmt_block.specs.Groups.{AreGroups}
use Rattle.rmt_block.proofs.groups.collect.Given as goal

abbrev pub invariant-rows : goal.invariant-rows
invariant-rows l = AreGroups l.schema.partition (take l.i l.rows.rows) l.groups
