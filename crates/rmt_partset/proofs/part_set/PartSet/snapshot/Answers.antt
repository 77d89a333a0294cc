use Rattle.std.proofs.Common.{◌∙◌, List, map, sym, ap, subst}
use Rattle.std.specs.Arc.{arc_value}
use Rattle.std.specs.declared.sync.Arc.{Arc}
use Rattle.std.specs.declared.alloc.Global.{Global}
use Rattle.rmt_model.specs.Words.{Pairwise}
use Rattle.rmt_model.specs.Live.{Before}
use Rattle.rmt_part.specs.Lineages.{PartValue}
use Rattle.rmt_partset.specs.Snapshots.{names_in}
use Rattle.rmt_partset.specs.ActiveParts.{shown}
use Rattle.rmt_partset.proofs.PartLists.{names-shown}
use Rattle.rmt_partset.proofs.part_set.PartSet.snapshot.Goals as goal

pub of-requires : goal.of-requires
of-requires c =
    let names = ap names_in (c.in_ok-parts.ensures ∙ ap (λ (ps : List (Arc PartValue Global)). shown (map (arc_value {X = PartValue}) ps)) c.deref.ensures.value)
    ∙ names-shown (map (arc_value {X = PartValue}) c.self.inside.parts.items) in
    subst (Pairwise Before) (sym names) c.self.invariant.apart
