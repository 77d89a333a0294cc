use Rattle.std.proofs.Common.{rules, ◌≡◌, ℕ, List, [], ◌∷◌, length, Bool, is_lt, sym, arith}
use Rattle.std.proofs.lemmas.Fn.{always_returns_same}
use Rattle.std.proofs.lemmas.List.Sorted.{ranks_by}
use Rattle.rmt_values.specs.declared.value.Value.{Value}
use Rattle.rmt_values.specs.Rows.{key_cmp}
use Rattle.rmt_values.specs.Order.{in_order}
use Rattle.rmt_values.proofs.Sorting.{in_order-from_sort}
use Rattle.rmt_values.proofs.Totals.{key_cmp_total}
use Rattle.rmt_granules.proofs.StableOrder.{order-ordered}
use Rattle.rmt_query.proofs.TotalLemmas.{in-no-order}
use Rattle.rmt_query.proofs.answers.group_sorted.Goals as goal

no-columns : (group : List ℕ) (rows : List (List Value)) → length group ≡ 0 → rows ≡ in_order (key_cmp group) rows
no-columns [] rows h = sym (order-ordered (key_cmp []) (key_cmp_total []) rows (in-no-order rows))
no-columns (c ∷ cs) rows h = absurd (omega (arith, h))

pub returns-then-is_empty-clause-order : goal.returns-then-is_empty-clause-order
returns-then-is_empty-clause-order c = no-columns c.args.group.now c.args.rows.items (search rules)

pub returns-clause-order : goal.returns-clause-order
returns-clause-order c =
    let group = c.args.group.now in
    let ranks = ranks_by (key_cmp_total group) (λ (x : List Value). x) in
    let lt : List Value → List Value → Bool = λ x y. is_lt (key_cmp group x y) in
    let by = always_returns_same _ (λ a r. is_lt r ≡ lt a.0.now a.1.0.now) _ (λ a r f' k. search rules) in
    in_order-from_sort (key_cmp group) (key_cmp_total group) _ _ (c.in_ok-sort_by.ensures.sorted lt ranks by) (c.sort_by.ensures.stable lt ranks by)

pub returns-clause-sorted : goal.returns-clause-sorted
returns-clause-sorted c =
    let group = c.args.group.now in
    let ranks = ranks_by (key_cmp_total group) (λ (x : List Value). x) in
    let lt : List Value → List Value → Bool = λ x y. is_lt (key_cmp group x y) in
    let by = always_returns_same _ (λ a r. is_lt r ≡ lt a.0.now a.1.0.now) _ (λ a r f' k. search rules) in
    c.in_ok-sort_by.ensures.sorted lt ranks by
