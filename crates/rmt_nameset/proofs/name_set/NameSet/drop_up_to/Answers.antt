use Rattle.std.proofs.Common.{subst, sym, ap, ◌∙◌}
use Rattle.rmt_names.specs.Names.{Name}
use Rattle.std.specs.Prelude.{List}
use Rattle.rmt_nameset.specs.NameSets.{AreApart, cut}
use Rattle.rmt_nameset.proofs.Placing.{dropped-apart}
use Rattle.rmt_nameset.proofs.name_set.NameSet.drop_up_to.Goals as goal

pub invariant_of-self : goal.invariant_of-self
invariant_of-self c =
    let e = c.remove.ensures.items ∙ (ap (λ (xs : List Name). cut xs c.dropped_range-range.result) (sym c.deref.ensures.value) ∙ c.dropped_range-range.ensures.dropped) in
    subst AreApart (sym e) (dropped-apart c.args.partition c.args.number c.deref.result.now (subst AreApart (sym c.deref.ensures.value) c.self.invariant))
