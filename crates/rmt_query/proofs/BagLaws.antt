-- Rows of one bag have one answer.
use Rattle.std.proofs.Common.{◌≡◌, ℕ, ◌+◌, Bool, true, false, cond, List, [], ◌∷◌, filter, map, refl, sym, ap, ◌∙◌, arith}
use Rattle.std.specs.declared.option.Option.{Option}
use Rattle.std.specs.Cmp.Lexicographic.{slice_cmp}
use Rattle.rmt_values.specs.declared.value.Value.{Value}
use Rattle.rmt_values.specs.declared.checked.Checked.{Checked}
use Rattle.rmt_values.specs.declared.checked_item.CheckedItem.{CheckedItem}
use Rattle.rmt_values.specs.declared.checked_query.CheckedQuery.{CheckedQuery}
use Rattle.rmt_values.specs.Rows.{Shape, value_cmp}
use Rattle.rmt_values.specs.Order.{in_order, tally, SameBag}
use Rattle.rmt_values.proofs.Totals.{row_cmp_total, row_cmp_exact}
use Rattle.rmt_query.specs.Cells.{zero_of, tuple_cmp}
use Rattle.rmt_query.specs.Answers.{matches, matching, tuple_of, groups_of, group_tuples, or_zeros, tuples_of, answer_of}
use Rattle.rmt_values.specs.Aggregates.{is_checked_aggregate, is_grouping}
use Rattle.rmt_query.specs.Laws.{OneAnswer}
use Rattle.rmt_query.proofs.Bags.{bag-order, folded-bag}
use Rattle.rmt_query.proofs.CellOrder.{tuple_cmp_total, tuple_cmp_exact}
use Rattle.rmt_query.proofs.RunLemmas.{put, put-may-change}

tally-filter : {X : Type 0} (p : X → Bool) (f : X → ℕ) (xs : List X) → tally f (filter p xs) ≡ tally (λ x. cond (p x) (f x) 0) xs
tally-filter p f [] = refl
tally-filter {X} p f (x ∷ xs) = go (p x) (tally-filter p f xs) where
  go : (b : Bool) → tally f (filter p xs) ≡ tally (λ y. cond (p y) (f y) 0) xs → tally f (cond {A = List X} b (x ∷ filter p xs) (filter p xs)) ≡ cond b (f x) 0 + tally (λ y. cond (p y) (f y) 0) xs
  go true r = omega (arith, r)
  go false r = omega (arith, r)

tally-map : {X Y : Type 0} (g : X → Y) (f : Y → ℕ) (xs : List X) → tally f (map g xs) ≡ tally (λ x. f (g x)) xs
tally-map g f [] = refl
tally-map g f (x ∷ xs) = let r = tally-map g f xs in omega (arith, r)

matching-bag : (c : Option Checked) (xs ys : List (List Value)) → SameBag xs ys → SameBag (matching c xs) (matching c ys)
matching-bag c xs ys b = λ f. tally-filter (matches c) f xs ∙ (b (λ x. cond (matches c x) (f x) 0) ∙ sym (tally-filter (matches c) f ys))

map-bag : {X Y : Type 0} (g : X → Y) (xs ys : List X) → SameBag xs ys → SameBag (map g xs) (map g ys)
map-bag g xs ys b = λ f. tally-map g f xs ∙ (b (λ x. f (g x)) ∙ sym (tally-map g f ys))

groups-alike : (items : List CheckedItem) (group : List ℕ) (xs ys : List (List Value)) → SameBag xs ys → groups_of items group xs ≡ groups_of items group ys
groups-alike items group xs ys b = folded-bag (slice_cmp value_cmp) row_cmp_total row_cmp_exact (put items group) [] (put-may-change items group) xs ys b

group_tuples-alike : (shape : Shape) (items : List CheckedItem) (group : List ℕ) (xs ys : List (List Value)) → SameBag xs ys → group_tuples shape items group xs ≡ group_tuples shape items group ys
group_tuples-alike shape items group xs ys b = ap (λ gs. or_zeros group (map (λ i. zero_of shape i) items) (map (λ g. g.1) gs)) (groups-alike items group xs ys b)

tuples-alike : (shape : Shape) (query : CheckedQuery) (xs ys : List (List Value)) → SameBag xs ys → in_order tuple_cmp (tuples_of shape query xs) ≡ in_order tuple_cmp (tuples_of shape query ys)
tuples-alike shape query xs ys b = go (is_grouping is_checked_aggregate query.items query.group) where
  go : (t : Bool) → in_order tuple_cmp (cond t (group_tuples shape query.items query.group xs) (map (tuple_of query.items) xs)) ≡ in_order tuple_cmp (cond t (group_tuples shape query.items query.group ys) (map (tuple_of query.items) ys))
  go true = ap (in_order tuple_cmp) (group_tuples-alike shape query.items query.group xs ys b)
  go false = bag-order tuple_cmp tuple_cmp_total tuple_cmp_exact _ _ (map-bag (tuple_of query.items) xs ys b)

pub one-answer : OneAnswer
unfolding answer_of
one-answer shape query xs ys b = tuples-alike shape query (matching query.filter xs) (matching query.filter ys) (matching-bag query.filter xs ys b)
