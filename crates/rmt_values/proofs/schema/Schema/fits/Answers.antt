use Rattle.std.proofs.Common.{rules, refl}
use Rattle.rmt_values.specs.Rows.{fits}
use Rattle.rmt_values.proofs.Fitting.{unfit-length}
use Rattle.rmt_values.proofs.schema.Schema.fits.Goals as goal

pub returns-then-values-len : goal.returns-then-values-len
returns-then-values-len c =
    unfit-length c.args.self.now.columns c.args.row.now (fits c.args.self.now.columns c.args.row.now) refl (λ e. c.if-values-len.true (search rules))
