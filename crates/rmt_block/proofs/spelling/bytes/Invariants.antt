use Rattle.std.proofs.Common.{◌≡◌, ◌++◌, take, length}
use Rattle.std.specs.List.{flat_map}
use Rattle.rmt_block.specs.Blocks.{head_bytes, row_bytes}
use Rattle.rmt_block.proofs.spelling.bytes.Given as goal

abbrev pub invariant-written : goal.invariant-written
invariant-written l = l.out.items ≡ head_bytes l.fn.block.kinds (length l.fn.block.rows) ++ flat_map row_bytes (take l.i l.fn.block.rows)
