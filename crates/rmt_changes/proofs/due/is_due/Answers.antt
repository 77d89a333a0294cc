use Rattle.std.proofs.Common.{◌∙◌, sym, ap}
use Rattle.rmt_changes.specs.Changes.{in_range}
use Rattle.rmt_history.proofs.NumberLemmas.{passes}
use Rattle.rmt_changes.proofs.DueLemmas.{mutates-number}
use Rattle.rmt_changes.proofs.due.is_due.Goals as goal

pub returns-in-Some : goal.returns-in-Some
returns-in-Some c =
    let t = in_range c.args.low c.args.high in
    c.in_range.ensures ∙ sym (mutates-number c.args.entry.now c.args.partition t c.requires ∙ ap (passes t) (sym c.number_in.ensures ∙ c.in-Some.is))

pub returns-in-None : goal.returns-in-None
returns-in-None c =
    let t = in_range c.args.low c.args.high in
    sym (mutates-number c.args.entry.now c.args.partition t c.requires ∙ ap (passes t) (sym c.number_in.ensures ∙ c.in-None.is))
