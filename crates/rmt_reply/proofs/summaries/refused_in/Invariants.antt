use Rattle.std.proofs.Common.{◌≡◌, ◌≤◌, take}
use Rattle.std.specs.Prelude.{count_by}
use Rattle.rmt_reply.specs.Summaries.{is_refused}
use Rattle.rmt_reply.proofs.summaries.refused_in.Given as goal

abbrev pub invariant-lines : goal.invariant-lines
invariant-lines l = (l.count ≡ count_by is_refused (take l.line-index l.lines)) × (l.count ≤ l.line-index)
