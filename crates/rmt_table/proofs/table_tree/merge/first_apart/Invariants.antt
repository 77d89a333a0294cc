use Rattle.std.proofs.Common.{drop}
use Rattle.std.specs.declared.option.Option.{Option}
use Rattle.rmt_model.specs.Quorum.{Pending}
use Rattle.rmt_table.specs.Neighbours.{IsPartOf}
use Rattle.rmt_table.proofs.Differing.{ApartAlike}
use Rattle.rmt_table.proofs.table_tree.merge.first_apart.Given as goal

abbrev pub invariant-names : goal.invariant-names
invariant-names l = (pending : Option Pending) → IsPartOf pending l.pending → ApartAlike l.copy.log pending l.initial.left l.rest l.left (drop l.right-index l.rest)
