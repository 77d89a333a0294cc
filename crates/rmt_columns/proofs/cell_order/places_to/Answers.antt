use Rattle.std.proofs.Common.{◌-◌, ◌+◌, ◌++◌, ℕ, List, ap, ◌∙◌}
use Rattle.rmt_columns.specs.Places.{numbers_from}
use Rattle.rmt_columns.proofs.OrderLemmas.{numbers-step}
use Rattle.rmt_columns.proofs.cell_order.places_to.Goals as goal

pub places-preserved : goal.places-preserved
places-preserved c =
    ap (λ (l : List ℕ). l ++ numbers_from (c.places.place + 1) (c.args.count - (c.places.place + 1))) c.in_ok-push.ensures.items
    ∙ numbers-step c.places.places.items (numbers_from 0 c.args.count) c.places.place c.args.count c.places-test.true c.places.invariant
