use Rattle.std.proofs.Common.{◌≡◌, take}
use Rattle.rmt_list.proofs.list.ListCopies.copy.Given as goal

abbrev pub invariant-items : goal.invariant-items
invariant-items g l = l.items.items ≡ take l.item-index l.all
