use Rattle.std.proofs.Common.{◌-◌, ◌+◌, ◌++◌, List, ap, ◌∙◌}
use Rattle.rmt_granules.specs.declared.place.Place.{Place}
use Rattle.rmt_granules.specs.Places.{places_from}
use Rattle.rmt_granules.proofs.MergeLemmas.{places-step}
use Rattle.rmt_granules.proofs.places.places_of.Goals as goal

pub rows-preserved : goal.rows-preserved
rows-preserved c =
    ap (λ (l : List Place). l ++ places_from c.args.part (c.rows.row + 1) (c.args.rows - (c.rows.row + 1))) c.in_ok-push.ensures.items
    ∙ places-step c.rows.places.items (places_from c.args.part 0 c.args.rows) c.args.part c.rows.row c.args.rows c.rows-test.true c.rows.invariant
