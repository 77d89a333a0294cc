use Rattle.std.proofs.Common.{◌≡◌, ◌++◌, take, map}
use Rattle.rmt_bytes.specs.Encoding.{kind_byte}
use Rattle.rmt_block.proofs.spelling.push_kinds.Given as goal

abbrev pub invariant-kinds : goal.invariant-kinds
invariant-kinds l = l.out.items ≡ l.fn.out.items ++ map kind_byte (take l.kind-index l.kinds)
