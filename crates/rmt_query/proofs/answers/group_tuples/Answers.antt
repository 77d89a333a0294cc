use Rattle.std.proofs.Common.{ℕ, List, map, sym, ap, subst, ◌∙◌}
use Rattle.rmt_values.specs.declared.cell.Cell.{Cell}
use Rattle.rmt_query.specs.Cells.{zero_of}
use Rattle.rmt_query.specs.Answers.{or_zeros}
use Rattle.rmt_query.specs.Distinct.{OrderAlike}
use Rattle.rmt_query.proofs.DistinctLemmas.{tuples-alike}
use Rattle.rmt_query.proofs.answers.group_tuples.Goals as goal

pub returns : goal.returns
returns c =
    let group = c.args.group.now in
    let items = c.args.items.now in
    let alike = subst (λ (columns : List ℕ). OrderAlike columns group) (sym c.deref.ensures.value) c.in_ok-columns.ensures in
    c.in_ok-tuples-2.ensures
    ∙ ap (λ (l : List (List Cell)). or_zeros group (map (λ i. zero_of c.args.schema.now i) items) l)
    (c.in_ok-tuples.ensures ∙ tuples-alike items c.deref.result.now group alike c.args.rows.items)
