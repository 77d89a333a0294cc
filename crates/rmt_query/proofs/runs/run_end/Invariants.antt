use Rattle.std.proofs.Common.{◌≡◌, get_or, []}
use Rattle.std.specs.List.{AllWithin}
use Rattle.std.specs.declared.cmp.Ordering.TheVariants.{Equal}
use Rattle.rmt_values.specs.Rows.{key_cmp}
use Rattle.rmt_query.proofs.runs.run_end.Given as goal

abbrev pub invariant-rows : goal.invariant-rows
invariant-rows l = AllWithin (λ row. key_cmp l.group (get_or l.rows 0 []) row ≡ Equal) l.rows 0 l.i
