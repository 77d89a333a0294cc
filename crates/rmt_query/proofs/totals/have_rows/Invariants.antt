use Rattle.std.proofs.Common.{◌≡◌, drop}
use Rattle.rmt_partset.specs.Snapshots.{all_rows, data_in}
use Rattle.rmt_query.proofs.totals.have_rows.Given as goal

abbrev pub invariant-parts : goal.invariant-parts
invariant-parts l = all_rows (data_in l.parts) ≡ all_rows (data_in (drop l.part-index l.parts))
