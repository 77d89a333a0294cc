use Rattle.std.proofs.Common.{◌≡◌, ◌++◌, take}
use Rattle.std.specs.List.{flat_map}
use Rattle.rmt_reply.specs.Printed.{granules_line}
use Rattle.rmt_reply.proofs.counts.push_each_count.Given as goal

abbrev pub invariant-parts : goal.invariant-parts
invariant-parts l = l.out.items ≡ l.fn.out.items ++ flat_map granules_line (take l.one-index l.parts)
