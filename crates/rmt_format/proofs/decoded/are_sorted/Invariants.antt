use Rattle.std.proofs.Common.{is_lt}
use Rattle.std.specs.List.Sorted.{IsSortedWithin}
use Rattle.rmt_values.specs.Rows.{key_cmp}
use Rattle.rmt_format.proofs.decoded.are_sorted.Given as goal

abbrev pub invariant-rows : goal.invariant-rows
invariant-rows l = IsSortedWithin (λ x y. is_lt (key_cmp l.key x y)) l.rows.rows 0 l.i
