use Rattle.std.proofs.Common.{◌≡◌, take}
use Rattle.rmt_reply.specs.Printed.{printed_all}
use Rattle.rmt_reply.proofs.replies.print.Given as goal

abbrev pub invariant-lines : goal.invariant-lines
invariant-lines l = l.out.items ≡ printed_all (take l.line-index l.lines)
