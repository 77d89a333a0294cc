use Rattle.std.proofs.Common.{rules, ◌≡◌, ℕ, [], Bool, is_lt, get_or, slice_get, sym}
use Rattle.std.proofs.lemmas.Fn.{always_returns_same}
use Rattle.std.proofs.lemmas.List.Sorted.{ranks_by}
use Rattle.rmt_values.specs.Rows.{key_cmp}
use Rattle.rmt_values.proofs.Sorting.{in_order-from_sort}
use Rattle.rmt_values.proofs.Totals.{key_cmp_total}
use Rattle.rmt_columns.specs.Leading.{led, pulled}
use Rattle.rmt_columns.proofs.LeadLemmas.{led-order}
use Rattle.rmt_columns.proofs.OrderLemmas.{pulled-total}
use Rattle.rmt_columns.proofs.rows.Rows.sorted_by_numbers.Goals as goal

pub returns : goal.returns
returns c =
    let rows = c.args.self.now.rows in
    let ns = c.args.numbers.now in
    let total = pulled-total (λ (i : ℕ). get_or rows i []) (key_cmp c.args.key.now) (key_cmp_total c.args.key.now) in
    let cmp = pulled (λ (i : ℕ). get_or rows i []) (key_cmp c.args.key.now) in
    let ranks = ranks_by total (λ (x : ℕ). x) in
    let lt : ℕ → ℕ → Bool = λ x y. is_lt (cmp x y) in
    let same : (x y : ℕ) → led (slice_get ns x) (slice_get ns y) (cmp x y) ≡ cmp x y = λ x y. led-order c.args.key.now rows rows ns ns x y c.requires c.requires in
    let by = always_returns_same _ (λ a r. is_lt r ≡ lt a.0.now a.1.0.now) _ (λ a r f' k. rw (sym (same a.0.now a.1.0.now)) (search rules)) in
    in_order-from_sort cmp total _ _ (c.in_ok-sort_by.ensures.sorted lt ranks by) (c.sort_by.ensures.stable lt ranks by)
