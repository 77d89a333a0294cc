use Rattle.std.proofs.Common.{◌≡◌, drop}
use Rattle.rmt_values.specs.Rows.{place_from}
use Rattle.rmt_values.proofs.refusals.place_in.Given as goal

abbrev pub invariant-columns : goal.invariant-columns
invariant-columns l = place_from 0 l.columns l.name ≡ place_from l.i (drop l.i l.columns) l.name
