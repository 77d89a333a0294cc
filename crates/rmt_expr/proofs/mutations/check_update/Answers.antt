use Rattle.std.proofs.Common.{rules, ◌≡◌}
use Rattle.std.specs.declared.option.Option.TheVariants.{None}
use Rattle.rmt_values.specs.Schemas.{first_double}
use Rattle.rmt_expr.specs.Mutations.{fixed_in_sets, lefts}
use Rattle.rmt_expr.specs.Placed.{ArePlaced}
use Rattle.rmt_expr.proofs.SetLemmas.{are_sets, sets_fit}
use Rattle.rmt_expr.proofs.mutations.check_update.Goals as goal

pub returns-clause-ok : goal.returns-clause-ok
returns-clause-ok c =
    let placed : ArePlaced c.args.schema.now c.args.sets.now c.new.result = search rules in
    (are_sets _ _ _ placed, search rules)

pub returns-clause-fits : goal.returns-clause-fits
returns-clause-fits c =
    let placed : ArePlaced c.args.schema.now c.args.sets.now c.new.result = search rules in
    let once : first_double (lefts c.args.sets.now) ≡ None = search rules in
    let free : fixed_in_sets c.args.schema.now c.args.sets.now ≡ None = search rules in
    (sets_fit _ _ _ placed once free, search rules)
