use Rattle.std.proofs.Common.{◌≡◌, ◌++◌, take}
use Rattle.std.specs.List.{flat_map}
use Rattle.rmt_reply.specs.Printed.{check_line}
use Rattle.rmt_reply.proofs.checks.push_each_digest.Given as goal

abbrev pub invariant-parts : goal.invariant-parts
invariant-parts l = l.out.items ≡ l.fn.out.items ++ flat_map check_line (take l.one-index l.digests)
