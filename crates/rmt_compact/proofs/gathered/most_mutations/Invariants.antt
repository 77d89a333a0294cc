use Rattle.std.proofs.Common.{◌≡◌, ◌<◌, map, drop, length}
use Rattle.std.specs.Arc.{arc_value}
use Rattle.std.specs.Prelude.{slice_get}
use Rattle.std.specs.Option.{option_map}
use Rattle.std.specs.declared.option.Option.TheVariants.{Some}
use Rattle.rmt_compact.specs.NewParts.{most_tokens}
use Rattle.rmt_compact.proofs.gathered.most_mutations.Given as goal

abbrev pub invariant-parts : goal.invariant-parts
invariant-parts l =
    (option_map (λ p. p.mutations) (slice_get (map arc_value l.parts) l.best) ≡ Some (most_tokens (drop l.i (map arc_value l.parts))))
    × (l.i < length l.parts) × (l.best < length l.parts)

abbrev pub decreases-parts : goal.decreases-parts
decreases-parts l = l.i
