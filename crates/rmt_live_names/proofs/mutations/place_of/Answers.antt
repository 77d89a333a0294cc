use Rattle.std.proofs.Common.{◌≡◌, arith, sym, subst}
use Rattle.std.proofs.lemmas.Grind.{common_steps}
use Rattle.std.proofs.lemmas.Option.{gets}
use Rattle.std.specs.Prelude.{slice_get}
use Rattle.std.specs.declared.option.Option.TheVariants.{Some}
use Rattle.rmt_live_names.specs.Places.{IsPlaceOf}
use Rattle.rmt_live_names.proofs.mutations.place_of.Goals as goal

pub returns : goal.returns
returns c =
    let there : slice_get c.all_mutations.result.now c.args.id ≡ Some c.in-Some.token.now = grind (arith, common_steps, gets) in
    subst (IsPlaceOf c.args.copy.now.log c.args.id) (sym c.place.ensures) (c.all_mutations.ensures.places c.args.id c.in-Some.token.now there)
