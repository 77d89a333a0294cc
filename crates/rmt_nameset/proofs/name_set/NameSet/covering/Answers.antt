use Rattle.std.proofs.Common.{◌≡◌, ◌-◌, arith, ap, sym, subst, ◌∙◌, slice_get}
use Rattle.std.proofs.lemmas.Grind.{common_steps}
use Rattle.std.proofs.lemmas.Option.{gets}
use Rattle.std.specs.declared.option.Option.TheVariants.{Some}
use Rattle.std.specs.List.{prefix_len}
use Rattle.rmt_names.specs.Names.{Name, Covers}
use Rattle.rmt_model.specs.Words.{Has}
use Rattle.rmt_nameset.specs.NameSets.{NamesInOrder, CoversAt}
use Rattle.rmt_nameset.proofs.Placing.{none-covers, is_not_behind}
use Rattle.rmt_nameset.proofs.name_set.NameSet.covering.Goals as goal

pub returns : goal.returns
returns c =
    let there : slice_get c.self.inside.names.items (c.count_not_behind-up_to.result - 1) ≡ Some c.index.result.now = grind (arith, common_steps, gets) in
    subst (λ (v : NamesInOrder). CoversAt v.names c.args.name.now (c.count_not_behind-up_to.result - 1)) c.self.view_is
    (record { name = c.index.result.now; stands = there; covers = c.covers.ensures.fact.0 (cc) })

pub returns-then-up_to-eq0 : goal.returns-then-up_to-eq0
returns-then-up_to-eq0 c =
    subst (λ (v : NamesInOrder). (x : Name) → Has v.names x → Covers x c.args.name.now → ⊥) c.self.view_is
    (none-covers c.args.name.now c.self.inside.names.items c.count_not_behind-up_to.result c.count_not_behind-up_to.ensures.ordered c.self.invariant
    (c.count_not_behind-up_to.ensures.count ∙ ap (prefix_len (is_not_behind c.args.name.now)) c.deref.ensures.value)
    (λ x l g k. let z = c.if-up_to-eq0.true in absurd (omega (arith, l, z))))

pub returns-then-not-covers : goal.returns-then-not-covers
returns-then-not-covers c =
    let there : slice_get c.self.inside.names.items (c.count_not_behind-up_to.result - 1) ≡ Some c.index.result.now = grind (arith, common_steps, gets) in
    subst (λ (v : NamesInOrder). (x : Name) → Has v.names x → Covers x c.args.name.now → ⊥) c.self.view_is
    (none-covers c.args.name.now c.self.inside.names.items c.count_not_behind-up_to.result c.count_not_behind-up_to.ensures.ordered c.self.invariant
    (c.count_not_behind-up_to.ensures.count ∙ ap (prefix_len (is_not_behind c.args.name.now)) c.deref.ensures.value)
    (λ x l g k.
    let same : c.index.result.now ≡ x = cc in
    let is = c.covers.ensures.fact.1 (subst (λ (y : Name). Covers y c.args.name.now) (sym same) k) in
    let f = c.if-not-covers.true in absurd (cc)))
