-- What items are over several rows.
use Rattle.std.proofs.Common.{◌≡◌, ℕ, zero, suc, ◌+◌, ◌<◌, Bool, true, false, cond, List, [], ◌∷◌, map, length, drop, get_or, slice_get, refl, sym, ap, ap₂, ◌∙◌, arith, inl}
use Rattle.std.specs.Prelude.{ℤ}
use Rattle.std.proofs.lemmas.Int.{ints}
use Rattle.std.specs.declared.option.Option.TheVariants.{Some}
use Rattle.std.specs.declared.cmp.Ordering.{Ordering}
use Rattle.std.specs.declared.cmp.Ordering.TheVariants.{Less, Equal, Greater}
use Rattle.std.specs.Ordering.{is_gt}
use Rattle.rmt_values.specs.declared.value.Value.{Value}
use Rattle.rmt_values.specs.declared.value.Value.TheVariants.{UInt, Int, Text}
use Rattle.rmt_values.specs.declared.cell.Cell.{Cell}
use Rattle.rmt_values.specs.declared.cell.Cell.TheVariants as cells
use Rattle.rmt_values.specs.declared.checked_item.CheckedItem.{CheckedItem}
use Rattle.rmt_values.specs.declared.checked_item.CheckedItem.TheVariants as item
use Rattle.rmt_values.specs.Rows.{value_cmp}
use Rattle.rmt_values.specs.Order.{folded}
use Rattle.rmt_query.specs.Cells.{value_or_sum, value_or_sum_cmp, cell_order, cell_of, number_of, one, joined, lesser, greater}
use Rattle.rmt_query.specs.Answers.{add_row}
use Rattle.rmt_query.specs.OverRows.{over, total}
use Rattle.rmt_query.proofs.Combining.{lesser-assoc, greater-assoc}

add-first : (items : List CheckedItem) (x : List Value) → add_row items x [] ≡ map (λ i. over i (x ∷ [])) items
add-first [] x = refl
add-first (i ∷ is) x = ap (λ (l : List Cell). one i x ∷ l) (add-first is x)

add-more : (items : List CheckedItem) (x y : List Value) (ys : List (List Value)) → add_row items x (map (λ i. over i (y ∷ ys)) items) ≡ map (λ i. over i (x ∷ y ∷ ys)) items
add-more [] x y ys = refl
add-more (i ∷ is) x y ys = ap (λ (l : List Cell). joined i (one i x) (over i (y ∷ ys)) ∷ l) (add-more is x y ys)

-- the tuple of a group is what its items are over its rows
pub folded-over : (items : List CheckedItem) (x : List Value) (xs : List (List Value)) → folded (add_row items) [] (x ∷ xs) ≡ map (λ i. over i (x ∷ xs)) items
folded-over items x [] = add-first items x
folded-over items x (y ∷ ys) = ap (add_row items x) (folded-over items y ys) ∙ add-more items x y ys

-- ---- counts and sums

pub over-count : (x : List Value) (xs : List (List Value)) → over item.Count (x ∷ xs) ≡ cells.UInt (length (x ∷ xs))
over-count x [] = refl
over-count x (y ∷ ys) = ap (λ (c : Cell). joined item.Count (cells.UInt 1) c) (over-count y ys) ∙ ap (λ (n : ℕ). cells.UInt n) (omega arith)

pub over-sum : (k : ℕ) (x : List Value) (xs : List (List Value)) → over (item.Sum k) (x ∷ xs) ≡ cells.Sum (total k (x ∷ xs))
over-sum k x [] = ap (λ (z : ℤ). cells.Sum z) (omega (arith, ints))
over-sum k x (y ∷ ys) = ap (λ (c : Cell). joined (item.Sum k) (cells.Sum (number_of (slice_get x k))) c) (over-sum k y ys)

-- ---- the least and the greatest

not-greater : (o : Ordering) → (o ≡ Greater → ⊥) → is_gt o ≡ false
not-greater Less h = refl
not-greater Equal h = refl
not-greater Greater h = absurd (h refl)

-- the lesser of two rows is taken for both
pub less-step : (k : ℕ) (b x : List Value) (xs : List (List Value)) → is_gt (cell_order (cell_of (slice_get b k)) (cell_of (slice_get x k))) ≡ false → over (item.Min k) (b ∷ x ∷ xs) ≡ over (item.Min k) (b ∷ xs)
less-step k b x [] h = ap (λ (t : Bool). cond t (cell_of (slice_get x k)) (cell_of (slice_get b k))) h
less-step k b x (y ∷ ys) h =
    lesser-assoc (cell_of (slice_get b k)) (cell_of (slice_get x k)) (over (item.Min k) (y ∷ ys))
    ∙ ap (λ (t : Bool). lesser (cond t (cell_of (slice_get x k)) (cell_of (slice_get b k))) (over (item.Min k) (y ∷ ys))) h

pub less-turn : (k : ℕ) (b x : List Value) (xs : List (List Value)) → is_gt (cell_order (cell_of (slice_get b k)) (cell_of (slice_get x k))) ≡ true → over (item.Min k) (b ∷ x ∷ xs) ≡ over (item.Min k) (x ∷ xs)
less-turn k b x [] h = ap (λ (t : Bool). cond t (cell_of (slice_get x k)) (cell_of (slice_get b k))) h
less-turn k b x (y ∷ ys) h =
    lesser-assoc (cell_of (slice_get b k)) (cell_of (slice_get x k)) (over (item.Min k) (y ∷ ys))
    ∙ ap (λ (t : Bool). lesser (cond t (cell_of (slice_get x k)) (cell_of (slice_get b k))) (over (item.Min k) (y ∷ ys))) h

pub great-step : (k : ℕ) (b x : List Value) (xs : List (List Value)) → is_gt (cell_order (cell_of (slice_get x k)) (cell_of (slice_get b k))) ≡ false → over (item.Max k) (b ∷ x ∷ xs) ≡ over (item.Max k) (b ∷ xs)
great-step k b x [] h = ap (λ (t : Bool). cond t (cell_of (slice_get x k)) (cell_of (slice_get b k))) h
great-step k b x (y ∷ ys) h =
    greater-assoc (cell_of (slice_get b k)) (cell_of (slice_get x k)) (over (item.Max k) (y ∷ ys))
    ∙ ap (λ (t : Bool). greater (cond t (cell_of (slice_get x k)) (cell_of (slice_get b k))) (over (item.Max k) (y ∷ ys))) h

pub great-turn : (k : ℕ) (b x : List Value) (xs : List (List Value)) → is_gt (cell_order (cell_of (slice_get x k)) (cell_of (slice_get b k))) ≡ true → over (item.Max k) (b ∷ x ∷ xs) ≡ over (item.Max k) (x ∷ xs)
great-turn k b x [] h = ap (λ (t : Bool). cond t (cell_of (slice_get x k)) (cell_of (slice_get b k))) h
great-turn k b x (y ∷ ys) h =
    greater-assoc (cell_of (slice_get b k)) (cell_of (slice_get x k)) (over (item.Max k) (y ∷ ys))
    ∙ ap (λ (t : Bool). greater (cond t (cell_of (slice_get x k)) (cell_of (slice_get b k))) (over (item.Max k) (y ∷ ys))) h

drop-suc : (rows : List (List Value)) (i : ℕ) → i < length rows → drop i rows ≡ get_or rows i [] ∷ drop (suc i) rows
drop-suc [] i h = absurd (omega (arith, h))
drop-suc (r ∷ rs) zero h = refl
drop-suc (r ∷ rs) (suc i) h = drop-suc rs i (omega (arith, h))

pub drop-here : (rows : List (List Value)) (i : ℕ) → i < length rows → drop i rows ≡ get_or rows i [] ∷ drop (i + 1) rows
drop-here rows i h =
    let n : suc i ≡ i + 1 = omega arith in drop-suc rows i h ∙ ap (λ (k : ℕ). get_or rows i [] ∷ drop k rows) n

-- a column shows its group's least cell
pub over-column : (k : ℕ) (x : List Value) (xs : List (List Value)) → over (item.Min k) (x ∷ xs) ≡ over (item.Column k) (x ∷ xs)
over-column k x [] = refl
over-column k x (y ∷ ys) = ap (lesser (cell_of (slice_get x k))) (over-column k y ys)

shown : (a : Value) → value_or_sum (cell_of (Some a)) ≡ inl a
shown (UInt a) = refl
shown (Int a) = refl
shown (Text a) = refl

-- cells are in the order of the values that they show
pub shown-order : (a b : Value) → cell_order (cell_of (Some a)) (cell_of (Some b)) ≡ value_cmp a b
shown-order a b = ap₂ value_or_sum_cmp (shown a) (shown b)

pub over-count-of : (rows : List (List Value)) → 0 < length rows → over item.Count rows ≡ cells.UInt (length rows)
over-count-of [] h = absurd (omega (arith, h))
over-count-of (x ∷ xs) h = over-count x xs

pub over-sum-of : (k : ℕ) (rows : List (List Value)) → 0 < length rows → over (item.Sum k) rows ≡ cells.Sum (total k rows)
over-sum-of k [] h = absurd (omega (arith, h))
over-sum-of k (x ∷ xs) h = over-sum k x xs

pub over-column-of : (k : ℕ) (rows : List (List Value)) → 0 < length rows → over (item.Min k) rows ≡ over (item.Column k) rows
over-column-of k [] h = absurd (omega (arith, h))
over-column-of k (x ∷ xs) h = over-column k x xs

-- an element within a list, whatever the default
pub within-any : (rows : List (List Value)) (i : ℕ) (d e : List Value) → i < length rows → get_or rows i d ≡ get_or rows i e
within-any [] i d e h = absurd (omega (arith, h))
within-any (r ∷ rs) zero d e h = refl
within-any (r ∷ rs) (suc i) d e h = within-any rs i d e (omega (arith, h))

-- the search for the least goes on, with a lesser row or with the same
pub least-turns : (k : ℕ) (rows : List (List Value)) (best i : ℕ) (c : Cell) → i < length rows → cell_order (cell_of (slice_get (get_or rows best []) k)) (cell_of (slice_get (get_or rows i []) k)) ≡ Greater
    → over (item.Min k) (get_or rows best [] ∷ drop i rows) ≡ c → over (item.Min k) (get_or rows i [] ∷ drop (i + 1) rows) ≡ c
least-turns k rows best i c h o e =
    sym (less-turn k (get_or rows best []) (get_or rows i []) (drop (i + 1) rows) (ap is_gt o)) ∙ (ap (λ (l : List (List Value)). over (item.Min k) (get_or rows best [] ∷ l)) (sym (drop-here rows i h)) ∙ e)

pub least-stays : (k : ℕ) (rows : List (List Value)) (best i : ℕ) (c : Cell) → i < length rows → (cell_order (cell_of (slice_get (get_or rows best []) k)) (cell_of (slice_get (get_or rows i []) k)) ≡ Greater → ⊥)
    → over (item.Min k) (get_or rows best [] ∷ drop i rows) ≡ c → over (item.Min k) (get_or rows best [] ∷ drop (i + 1) rows) ≡ c
least-stays k rows best i c h o e =
    sym (less-step k (get_or rows best []) (get_or rows i []) (drop (i + 1) rows) (not-greater _ o)) ∙ (ap (λ (l : List (List Value)). over (item.Min k) (get_or rows best [] ∷ l)) (sym (drop-here rows i h)) ∙ e)

pub greatest-turns : (k : ℕ) (rows : List (List Value)) (best i : ℕ) (c : Cell) → i < length rows → cell_order (cell_of (slice_get (get_or rows i []) k)) (cell_of (slice_get (get_or rows best []) k)) ≡ Greater
    → over (item.Max k) (get_or rows best [] ∷ drop i rows) ≡ c → over (item.Max k) (get_or rows i [] ∷ drop (i + 1) rows) ≡ c
greatest-turns k rows best i c h o e =
    sym (great-turn k (get_or rows best []) (get_or rows i []) (drop (i + 1) rows) (ap is_gt o)) ∙ (ap (λ (l : List (List Value)). over (item.Max k) (get_or rows best [] ∷ l)) (sym (drop-here rows i h)) ∙ e)

pub greatest-stays : (k : ℕ) (rows : List (List Value)) (best i : ℕ) (c : Cell) → i < length rows → (cell_order (cell_of (slice_get (get_or rows i []) k)) (cell_of (slice_get (get_or rows best []) k)) ≡ Greater → ⊥)
    → over (item.Max k) (get_or rows best [] ∷ drop i rows) ≡ c → over (item.Max k) (get_or rows best [] ∷ drop (i + 1) rows) ≡ c
greatest-stays k rows best i c h o e =
    sym (great-step k (get_or rows best []) (get_or rows i []) (drop (i + 1) rows) (not-greater _ o)) ∙ (ap (λ (l : List (List Value)). over (item.Max k) (get_or rows best [] ∷ l)) (sym (drop-here rows i h)) ∙ e)
