use Rattle.std.proofs.Common.{rules, ◌≡◌, List, Bool, is_lt}
use Rattle.std.proofs.lemmas.Fn.{always_returns_same}
use Rattle.std.proofs.lemmas.List.Sorted.{ranks_by}
use Rattle.rmt_values.specs.declared.cell.Cell.{Cell}
use Rattle.rmt_values.proofs.Sorting.{in_order-from_sort}
use Rattle.rmt_query.specs.Distinct.{tuple_cmp_at}
use Rattle.rmt_query.proofs.PlaceLemmas.{tuple_cmp_at_total}
use Rattle.rmt_query.proofs.answers.tuples_sorted.Goals as goal

pub returns : goal.returns
returns c =
    let places = c.args.places.now in
    let ranks = ranks_by (tuple_cmp_at_total places) (λ (x : List Cell). x) in
    let lt : List Cell → List Cell → Bool = λ x y. is_lt (tuple_cmp_at places x y) in
    let by = always_returns_same _ (λ a r. is_lt r ≡ lt a.0.now a.1.0.now) _ (λ a r f' k. search rules) in
    in_order-from_sort (tuple_cmp_at places) (tuple_cmp_at_total places) _ _ (c.in_ok-sort_by.ensures.sorted lt ranks by) (c.sort_by.ensures.stable lt ranks by)
