use Rattle.std.proofs.Common.{map, drop}
use Rattle.rmt_values.proofs.NameSets.{HasEarlier}
use Rattle.rmt_values.proofs.name_sets.set_of.Given as goal

abbrev pub invariant-names : goal.invariant-names
invariant-names l = HasEarlier (map (λ n. n.now) l.names) (map (λ n. n.now) (drop l.name-index l.names)) l.set
