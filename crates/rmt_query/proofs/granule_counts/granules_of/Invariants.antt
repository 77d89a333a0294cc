use Rattle.rmt_query.proofs.Counting.{FirstExplained}
use Rattle.rmt_query.proofs.granule_counts.granules_of.Given as goal

abbrev pub invariant-parts : goal.invariant-parts
invariant-parts l = FirstExplained l.filter l.parts l.part-index l.all.items
