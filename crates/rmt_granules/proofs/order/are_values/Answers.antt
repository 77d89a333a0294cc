use Rattle.std.proofs.Common.{refl, ◌∙◌}
use Rattle.rmt_granules.proofs.FitLemmas.{numbers-values, number-kind}
use Rattle.rmt_granules.proofs.order.are_values.Goals as goal

pub returns-in-UInt64 : goal.returns-in-UInt64
returns-in-UInt64 c = (λ t. numbers-values c.args.column.now.kind c.args.column.now.values c.requires (λ e. number-kind c.kind.result c.in-UInt64.is (c.kind.ensures ∙ e)), λ h. refl)
