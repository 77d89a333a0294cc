use Rattle.std.proofs.Common.{◌++◌, take, length}
use Rattle.std.specs.List.{All, flat_map}
use Rattle.rmt_bytes.specs.Encoding.{IsInRange}
use Rattle.rmt_block.specs.Blocks.{head_bytes, row_bytes}
use Rattle.rmt_block.proofs.BytesLemmas.{Hashed}
use Rattle.rmt_block.proofs.spelling.digest_of.Given as goal

abbrev pub invariant-rows : goal.invariant-rows
invariant-rows l =
    Hashed l.hasher l.buffer.items (head_bytes l.kinds (length l.rows.rows) ++ flat_map row_bytes (take l.i l.rows.rows))
    × All (λ row. All IsInRange row) (take l.i l.rows.rows)
