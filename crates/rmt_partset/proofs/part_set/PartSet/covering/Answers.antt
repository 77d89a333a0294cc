use Rattle.std.proofs.Common.{◌≡◌, ◌-◌, arith, ap, sym, subst, ◌∙◌, slice_get, map}
use Rattle.std.proofs.lemmas.Grind.{common_steps}
use Rattle.std.proofs.lemmas.Option.{gets}
use Rattle.std.specs.Arc.{arc_value}
use Rattle.std.specs.Prelude.{List}
use Rattle.std.specs.declared.option.Option.TheVariants.{Some}
use Rattle.std.specs.declared.sync.Arc.{Arc}
use Rattle.std.specs.declared.alloc.Global.{Global}
use Rattle.std.specs.List.{prefix_len}
use Rattle.rmt_names.specs.Names.{Name, Covers}
use Rattle.rmt_model.specs.Words.{Has}
use Rattle.rmt_nameset.proofs.Placing.{none-covers, is_not_behind}
use Rattle.rmt_part.specs.Lineages.{PartValue}
use Rattle.rmt_partset.specs.ActiveParts.{ActiveParts, part_names, IsCovering}
use Rattle.rmt_partset.proofs.PartLists.{covering-at, name-at}
use Rattle.rmt_partset.proofs.part_set.PartSet.covering.Goals as goal

pub returns-clause-found : goal.returns-clause-found
returns-clause-found c =
    let there : slice_get c.self.inside.parts.items (c.count_not_behind-up_to.result - 1) ≡ Some c.index-part.result.now = grind (arith, common_steps, gets) in
    let name = c.name.ensures.name ∙ ap (λ (p : PartValue). p.name) c.deref-2.ensures in
    let over = let t = c.if-not-covers.false in c.covers.ensures.fact.0 (cc) in
    subst (λ (v : ActiveParts). IsCovering v.parts c.args.name.now (arc_value c.index-part.result.now)) c.self.view_is
    (covering-at arc_value c.self.inside.parts.items c.args.name.now (c.count_not_behind-up_to.result - 1) c.index-part.result.now there (subst (λ (n : Name). Covers n c.args.name.now) name over))

pub returns-then-up_to-eq0-clause-found : goal.returns-then-up_to-eq0-clause-found
returns-then-up_to-eq0-clause-found c =
    subst (λ (v : ActiveParts). (x : Name) → Has (part_names v.parts) x → Covers x c.args.name.now → ⊥) c.self.view_is
    (none-covers c.args.name.now (part_names (map arc_value c.self.inside.parts.items)) c.count_not_behind-up_to.result c.count_not_behind-up_to.ensures.ordered c.self.invariant
    (c.count_not_behind-up_to.ensures.count ∙ ap (λ (ps : List (Arc PartValue Global)). prefix_len (is_not_behind c.args.name.now) (part_names (map (arc_value {X = PartValue}) ps))) c.deref.ensures.value)
    (λ x l g k. let z = c.if-up_to-eq0.true in absurd (omega (arith, l, z))))

pub returns-then-not-covers-clause-found : goal.returns-then-not-covers-clause-found
returns-then-not-covers-clause-found c =
    let there : slice_get c.self.inside.parts.items (c.count_not_behind-up_to.result - 1) ≡ Some c.index-part.result.now = grind (arith, common_steps, gets) in
    let at = name-at arc_value c.self.inside.parts.items (c.count_not_behind-up_to.result - 1) c.index-part.result.now there in
    let name = c.name.ensures.name ∙ ap (λ (p : PartValue). p.name) c.deref-2.ensures in
    subst (λ (v : ActiveParts). (x : Name) → Has (part_names v.parts) x → Covers x c.args.name.now → ⊥) c.self.view_is
    (none-covers c.args.name.now (part_names (map arc_value c.self.inside.parts.items)) c.count_not_behind-up_to.result c.count_not_behind-up_to.ensures.ordered c.self.invariant
    (c.count_not_behind-up_to.ensures.count ∙ ap (λ (ps : List (Arc PartValue Global)). prefix_len (is_not_behind c.args.name.now) (part_names (map (arc_value {X = PartValue}) ps))) c.deref.ensures.value)
    (λ x l g k.
    let same : (arc_value c.index-part.result.now).name ≡ x = cc in
    let is = c.covers.ensures.fact.1 (subst (λ (y : Name). Covers y c.args.name.now) (sym same ∙ sym name) k) in
    let f = c.if-not-covers.true in absurd (cc)))
