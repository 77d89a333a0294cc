use Rattle.std.proofs.Common.{◌≡◌, ◌≤◌, ◌∙◌, subst, sym, ap, map}
use Rattle.std.specs.Arc.{arc_value}
use Rattle.std.specs.Prelude.{List}
use Rattle.std.specs.List.{prefix_len}
use Rattle.std.specs.declared.sync.Arc.{Arc}
use Rattle.std.specs.declared.alloc.Global.{Global}
use Rattle.rmt_names.specs.Names.{Name, Overlap, Covers}
use Rattle.rmt_model.specs.Words.{Each}
use Rattle.rmt_nameset.specs.NameSets.{AreApart}
use Rattle.rmt_nameset.proofs.Placing.{is_before, is_not_behind}
use Rattle.rmt_part.specs.Lineages.{PartValue}
use Rattle.rmt_partset.specs.ActiveParts.{ActiveParts, Replace, after, part_names}
use Rattle.rmt_partset.proofs.PartLists.{map-put}
use Rattle.rmt_partset.proofs.Replacing.{replaced, replaced-apart}
use Rattle.rmt_partset.proofs.part_set.PartSet.replace.Goals as goal

module _ (c : goal.After-put_part) where
  abbrev new : PartValue
  new = arc_value c.args.part

  abbrev old : List PartValue
  old = map arc_value c.self.inside.parts.items

  name : c.name.result.now ≡ new.name
  name = c.name.ensures.name ∙ ap (λ (p : PartValue). p.name) c.deref-2.ensures

  over : Each (λ a. Overlap new.name a → Covers new.name a) (part_names old)
  over = subst (λ (v : ActiveParts). Each (λ a. Overlap new.name a → Covers new.name a) (part_names v.parts)) (sym c.self.view_is) c.requires.over

  sized : new.name.min ≤ new.name.max
  sized = subst (λ (n : Name). n.min ≤ n.max) name c.covered_range-range.ensures.ordered

  items : map arc_value c.put_part.new.parts.items ≡ after (Replace new) old
  items =
      ap (map (arc_value {X = PartValue})) c.put_part.ensures.items
      ∙ (map-put arc_value c.self.inside.parts.items c.covered_range-range.result c.args.part
      ∙ replaced new old c.covered_range-range.result sized c.self.invariant over
      (c.covered_range-range.ensures.from ∙ ap (λ (ps : List (Arc PartValue Global)). prefix_len (is_before c.name.result.now) (part_names (map (arc_value {X = PartValue}) ps))) c.deref.ensures.value ∙ ap (λ (n : Name). prefix_len (is_before n) (part_names old)) name)
      (c.covered_range-range.ensures.to ∙ ap (λ (ps : List (Arc PartValue Global)). prefix_len (is_not_behind c.name.result.now) (part_names (map (arc_value {X = PartValue}) ps))) c.deref.ensures.value ∙ ap (λ (n : Name). prefix_len (is_not_behind n) (part_names old)) name))

pub invariant_of-self : goal.invariant_of-self
invariant_of-self c = subst (λ (ps : List PartValue). AreApart (part_names ps)) (sym (items c)) (replaced-apart (new c) (old c) (sized c) c.self.invariant (over c))

pub returns-clause-parts : goal.returns-clause-parts
returns-clause-parts c = items c ∙ ap (λ (v : ActiveParts). after (Replace (new c)) v.parts) c.self.view_is
