use Rattle.std.proofs.Common.{◌∙◌, sym, ap, nat_lt}
use Rattle.rmt_names.specs.Names.{data_version}
use Rattle.rmt_history.specs.Mutations.{number_in}
use Rattle.rmt_history.proofs.NumberLemmas.{pending-number, passes}
use Rattle.rmt_history.proofs.number.is_pending.Goals as goal

pub returns-in_default : goal.returns-in_default
returns-in_default c =
    let n = sym c.in_default.is ∙ (c.number_in.ensures ∙ ap (number_in c.args.entry.now) c.partition.ensures) in
    sym (pending-number c.args.name.now c.args.entry.now c.requires ∙ ap (passes (λ k. nat_lt (data_version c.args.name.now) k)) (sym n))

pub returns : goal.returns
returns c =
    let n = sym c.in-Some.is ∙ (c.number_in.ensures ∙ ap (number_in c.args.entry.now) c.partition.ensures) in
    ap (λ d. nat_lt d c.in-Some.number) c.data_version.ensures
    ∙ sym (pending-number c.args.name.now c.args.entry.now c.requires ∙ ap (passes (λ k. nat_lt (data_version c.args.name.now) k)) (sym n))
