use Rattle.std.proofs.Common.{◌≡◌, ◌++◌, [], drop, get_or}
use Rattle.rmt_granules.specs.Granules.{key_values}
use Rattle.rmt_granules.proofs.index.mark_of.Given as goal

abbrev pub invariant-columns : goal.invariant-columns
invariant-columns l = l.mark.items ++ key_values (drop l.column-index l.key) (get_or l.rows.rows l.i []) ≡ key_values l.key (get_or l.rows.rows l.i [])
