use Rattle.std.proofs.Common.{◌≡◌, ◌≤◌, take}
use Rattle.std.specs.Prelude.{count_by}
use Rattle.rmt_reply.specs.Summaries.{is_part}
use Rattle.rmt_reply.proofs.summaries.written_in.Given as goal

abbrev pub invariant-pieces : goal.invariant-pieces
invariant-pieces l = (l.count ≡ count_by is_part (take l.piece-index l.pieces)) × (l.count ≤ l.piece-index)
