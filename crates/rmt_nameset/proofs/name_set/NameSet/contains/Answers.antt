use Rattle.std.proofs.Common.{◌≡◌, arith, subst, sym, slice_get}
use Rattle.std.proofs.lemmas.Grind.{common_steps}
use Rattle.std.proofs.lemmas.Option.{gets}
use Rattle.std.specs.declared.option.Option.TheVariants.{Some}
use Rattle.rmt_model.specs.Words.{Has}
use Rattle.rmt_model.proofs.LiveLaws.{Covers-refl}
use Rattle.rmt_nameset.specs.NameSets.{NamesInOrder, CoversAt}
use Rattle.rmt_nameset.proofs.Placing.{contained}
use Rattle.rmt_nameset.proofs.name_set.NameSet.contains.Goals as goal

pub returns : goal.returns
returns c =
    let there : slice_get c.self.inside.names.items c.in-Some.at ≡ Some c.index.result.now = grind (arith, common_steps, gets) in
    let at = c.in-Some.ensures in
    let k = contained c.self.inside.names.items c.args.name.now c.in-Some.at c.index.result.now c.self.invariant there (subst (λ (v : NamesInOrder). CoversAt v.names c.args.name.now c.in-Some.at) (sym c.self.view_is) at) in
    (λ t. subst (λ (v : NamesInOrder). Has v.names c.args.name.now) c.self.view_is (k.0 (c.covers.ensures.fact.0 t)), λ h. c.covers.ensures.fact.1 (k.1 (subst (λ (v : NamesInOrder). Has v.names c.args.name.now) (sym c.self.view_is) h)))

pub returns-in_default : goal.returns-in_default
returns-in_default c = (λ t. absurd (cc), λ h. absurd (c.in_default.ensures c.args.name.now h (Covers-refl c.args.name.now)))
