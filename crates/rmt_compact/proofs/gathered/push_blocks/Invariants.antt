use Rattle.std.proofs.Common.{◌≡◌, ◌++◌, take}
use Rattle.rmt_compact.proofs.gathered.push_blocks.Given as goal

abbrev pub invariant-copies : goal.invariant-copies
invariant-copies l = l.all.items ≡ l.fn.all.items ++ take l.block-index l.blocks
