use Rattle.std.proofs.Common.{◌≡◌, ◌++◌, take}
use Rattle.std.specs.List.{flat_map}
use Rattle.rmt_reply.specs.Printed.{optimized_line}
use Rattle.rmt_reply.proofs.commands.push_optimized_parts.Given as goal

abbrev pub invariant-names : goal.invariant-names
invariant-names l = l.out.items ≡ l.fn.out.items ++ flat_map optimized_line (take l.name-index l.names)
