use Rattle.std.proofs.Common.{◌≡◌, ◌++◌, length, take}
use Rattle.std.specs.Int.{w16, to_be_bytes}
use Rattle.std.specs.List.{flat_map}
use Rattle.rmt_format.specs.PartBytes.{column_bytes}
use Rattle.rmt_format.proofs.head.put_columns.Given as goal

abbrev pub invariant-columns : goal.invariant-columns
invariant-columns l = l.out.items ≡ l.fn.out.items ++ (to_be_bytes w16 (length l.columns) ++ flat_map column_bytes (take l.column-index l.columns))
