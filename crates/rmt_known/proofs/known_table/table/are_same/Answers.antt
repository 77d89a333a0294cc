use Rattle.std.proofs.lemmas.Slice.Eq.{slice_eq-Decides}
use Rattle.rmt_known.proofs.NumberLemmas.{pair-decides}
use Rattle.rmt_known.proofs.known_table.table.are_same.Goals as goal

pub returns : goal.returns
returns c = slice_eq-Decides pair-decides c.args.known.now c.args.found.now c.eq.result c.eq.ensures
