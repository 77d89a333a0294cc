use Rattle.std.proofs.Common.{◌≡◌, drop}
use Rattle.rmt_values.specs.Rows.{fits}
use Rattle.rmt_values.proofs.schema.Schema.fits.Given as goal

abbrev pub invariant-columns : goal.invariant-columns
invariant-columns l = fits l.self.columns l.values ≡ fits (drop l.i l.self.columns) (drop l.i l.values)
