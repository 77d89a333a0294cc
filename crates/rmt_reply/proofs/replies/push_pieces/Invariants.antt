use Rattle.std.proofs.Common.{◌≡◌, ◌++◌, take}
use Rattle.std.specs.List.{flat_map}
use Rattle.rmt_reply.specs.Printed.{piece_text}
use Rattle.rmt_reply.proofs.replies.push_pieces.Given as goal

abbrev pub invariant-pieces : goal.invariant-pieces
invariant-pieces l = l.out.items ≡ l.fn.out.items ++ flat_map piece_text (take l.one-index l.pieces)
