use Rattle.std.proofs.Common.{◌≡◌, ◌∙◌, ◌&&◌, not, nat_lt, Bool, subst, sym, ap, map, filter, rules}
use Rattle.std.proofs.lemmas.Fn.{filter_same}
use Rattle.std.specs.Arc.{arc_value}
use Rattle.std.specs.Prelude.{List}
use Rattle.std.specs.declared.sync.Arc.{Arc}
use Rattle.std.specs.declared.alloc.Global.{Global}
use Rattle.rmt_model.specs.Live.{in_drop}
use Rattle.rmt_nameset.specs.NameSets.{AreApart}
use Rattle.rmt_part.specs.Lineages.{PartValue}
use Rattle.rmt_partset.specs.ActiveParts.{ActiveParts, Drop, after, part_names}
use Rattle.rmt_partset.proofs.PartLists.{filter-by, left-apart}
use Rattle.rmt_partset.proofs.part_set.PartSet.drop_range.Goals as goal

module _ (c : goal.After-retain) where
  abbrev left : PartValue → Bool
  left p = not (in_drop c.args.partition c.args.number p.name && nat_lt p.made.place c.args.before)

  items : map arc_value c.retain.new.self.items ≡ filter left (map arc_value c.self.inside.parts.items)
  items =
      ap (map (arc_value {X = PartValue})) (filter_same _ (λ (x : Arc PartValue Global). left (arc_value x)) _ (λ x b f' k. search rules) _ _ c.retain.ensures.filtered)
      ∙ filter-by arc_value left c.self.inside.parts.items

pub invariant_of-self : goal.invariant_of-self
invariant_of-self c = subst (λ (ps : List PartValue). AreApart (part_names ps)) (sym (items c)) (left-apart (left c) (map arc_value c.self.inside.parts.items) c.self.invariant)

pub returns : goal.returns
returns c = items c ∙ ap (λ (v : ActiveParts). after (Drop c.args.partition c.args.number c.args.before) v.parts) c.self.view_is
