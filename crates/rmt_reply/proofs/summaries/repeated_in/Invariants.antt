use Rattle.std.proofs.Common.{◌≡◌, ◌≤◌, take}
use Rattle.std.specs.Prelude.{not, count_by}
use Rattle.rmt_reply.specs.Summaries.{is_part}
use Rattle.rmt_reply.proofs.summaries.repeated_in.Given as goal

abbrev pub invariant-pieces : goal.invariant-pieces
invariant-pieces l = (l.count ≡ count_by (λ piece. not (is_part piece)) (take l.piece-index l.pieces)) × (l.count ≤ l.piece-index)
