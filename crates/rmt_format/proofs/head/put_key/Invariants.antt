use Rattle.std.proofs.Common.{◌≡◌, ◌++◌, length, take}
use Rattle.std.specs.Int.{w16, to_be_bytes}
use Rattle.std.specs.List.{flat_map}
use Rattle.rmt_format.proofs.head.put_key.Given as goal

abbrev pub invariant-places : goal.invariant-places
invariant-places l = l.out.items ≡ l.fn.out.items ++ (to_be_bytes w16 (length l.key) ++ flat_map (to_be_bytes w16) (take l.place-index l.key))
