use Rattle.std.proofs.Common.{◌∙◌, ap, slice_get, ℕ, List}
use Rattle.rmt_granules.proofs.LeadingLemmas.{numbers-there}
use Rattle.rmt_granules.proofs.places.leading_number.Goals as goal

pub returns : goal.returns
returns c = c.number_at.ensures ∙ ap (λ (l : List ℕ). slice_get l c.args.place.row) (numbers-there c.args.leading.now c.args.place.part _ c.requires)
