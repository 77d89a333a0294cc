use Rattle.rmt_columns.specs.RowsByColumn.{no_values}
use Rattle.rmt_format.proofs.ReadLemmas.{Reads}
use Rattle.rmt_format.proofs.rows.read_granules.Given as goal

abbrev pub invariant-granules : goal.invariant-granules
invariant-granules l = Reads (no_values l.columns) l.size l.granules l.count l.bytes l.counter l.left l.made.items l.rest
