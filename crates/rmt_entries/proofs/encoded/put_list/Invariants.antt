use Rattle.std.proofs.Common.{◌≡◌, ◌++◌, length, take}
use Rattle.std.specs.Int.{w16, to_be_bytes}
use Rattle.std.specs.List.{flat_map}
use Rattle.rmt_entries.proofs.encoded.put_list.Given as goal

abbrev pub invariant-items : goal.invariant-items
invariant-items g l = l.out.items ≡ l.fn.out.items ++ (to_be_bytes w16 (length l.list) ++ flat_map g.T.Encoded.encoding (take l.item-index l.list))
