use Rattle.std.proofs.Common.{subst, sym, ap, ◌∙◌}
use Rattle.std.specs.Prelude.{List}
use Rattle.rmt_names.specs.Names.{Name, Overlap, Covers}
use Rattle.rmt_model.specs.Words.{Each}
use Rattle.rmt_nameset.specs.NameSets.{NamesInOrder, AreApart, put}
use Rattle.rmt_nameset.proofs.Placing.{placed-apart}
use Rattle.rmt_nameset.proofs.name_set.NameSet.place.Goals as goal

pub invariant_of-self : goal.invariant_of-self
invariant_of-self c =
    let e = c.replace.ensures.items ∙ (ap (λ (xs : List Name). put xs c.covered_range-range.result c.args.new) (sym c.deref.ensures.value) ∙ c.covered_range-range.ensures.covered) in
    let over = subst (λ (v : NamesInOrder). Each (λ a. Overlap c.args.new a → Covers c.args.new a) v.names) (sym c.self.view_is) c.requires.over in
    let names = sym c.deref.ensures.value in
    subst AreApart (sym e) (placed-apart c.args.new c.deref.result.now c.covered_range-range.ensures.ordered (subst AreApart names c.self.invariant) (subst (Each (λ a. Overlap c.args.new a → Covers c.args.new a)) names over))
