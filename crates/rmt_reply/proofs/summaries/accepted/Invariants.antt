use Rattle.std.proofs.Common.{◌≡◌, ◌≤◌, ◌*◌, ◌^◌, map, take}
use Rattle.std.specs.Prelude.{count_by}
use Rattle.rmt_reply.specs.Printed.{sum_of}
use Rattle.rmt_reply.specs.Summaries.{is_part, pieces_of}
use Rattle.rmt_reply.proofs.summaries.accepted.Given as goal

abbrev pub invariant-lines : goal.invariant-lines
invariant-lines l = (l.count ≡ sum_of (map (λ line. count_by is_part (pieces_of line)) (take l.line-index l.lines))) × (l.count ≤ l.line-index * 2 ^ 64)
