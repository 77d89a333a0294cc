use Rattle.rmt_granules.proofs.places.+merged_places.Given as goal

abbrev pub decreases-merged_places : goal.decreases-merged_places
decreases-merged_places l = l.count
