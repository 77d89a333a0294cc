use Rattle.std.proofs.Common.{◌≡◌, ◌∙◌, refl, sym, ap, arith, slice_get, below_more}
use Rattle.std.proofs.lemmas.Grind.{common_steps}
use Rattle.std.proofs.lemmas.Option.{gets}
use Rattle.std.specs.declared.option.Option.TheVariants.{Some}
use Rattle.rmt_names.specs.Names.{Name}
use Rattle.rmt_model.proofs.Drops.{some-same}
use Rattle.rmt_replica.proofs.NoteLemmas.{at-has, none-at}
use Rattle.rmt_replica.proofs.replica.note.is_listed.Goals as goal

pub returns-then-equals : goal.returns-then-equals
returns-then-equals c =
    let there : slice_get c.args.names.now c.names.other-index ≡ Some c.other-item.result = grind (arith, common_steps, gets) in
    (λ _. at-has c.args.names.now c.names.other-index c.args.name.now (there ∙ ap (λ (a : Name). Some a) (c.equals.ensures.fact.0 c.if-equals.true)), λ _. refl)

pub names-preserved : goal.names-preserved
names-preserved c =
    let there : slice_get c.args.names.now c.names.other-index ≡ Some c.other-item.result = grind (arith, common_steps, gets) in
    below_more (λ i. slice_get c.args.names.now i ≡ Some c.args.name.now → ⊥) c.names.other-index c.names.invariant
    (λ e. let t = c.equals.ensures.fact.1 (some-same c.other-item.result c.args.name.now (sym there ∙ e)) in let f = c.if-equals.false in absurd (cc))

pub returns : goal.returns
returns c = (λ t. absurd (cc), λ h. absurd (none-at c.args.names.now c.args.name.now (λ i l. c.names.invariant i (grind (arith, common_steps))) h))
