use Rattle.std.proofs.Common.{◌≡◌, ◌++◌, take}
use Rattle.rmt_format.specs.PartBytes.{row_bytes}
use Rattle.rmt_format.proofs.part_bytes.put_row.Given as goal

abbrev pub invariant-values : goal.invariant-values
invariant-values l = l.out.items ≡ l.fn.out.items ++ row_bytes (take l.value-index l.values)
