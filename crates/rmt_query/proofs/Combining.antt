-- Rows may be put together in any order.
use Rattle.std.proofs.Common.{◌≡◌, Bool, true, false, cond, List, [], ◌∷◌, slice_get, refl, sym, ap, ◌∙◌, arith}
use Rattle.std.specs.Prelude.{ℤ}
use Rattle.std.specs.declared.cmp.Ordering.{Ordering}
use Rattle.std.specs.declared.cmp.Ordering.TheVariants.{Equal}
use Rattle.std.specs.Ordering.{is_gt, flip_args}
use Rattle.std.specs.Cmp.{IsTotalOrder}
use Rattle.std.proofs.lemmas.Cmp.{back_total}
use Rattle.std.proofs.lemmas.Int.{ints}
use Rattle.rmt_values.specs.declared.value.Value.{Value}
use Rattle.rmt_values.specs.declared.cell.Cell.{Cell}
use Rattle.rmt_values.specs.declared.cell.Cell.TheVariants.{UInt, Int, Text, Sum}
use Rattle.rmt_values.specs.declared.checked_item.CheckedItem.{CheckedItem}
use Rattle.rmt_values.specs.declared.checked_item.CheckedItem.TheVariants as item
use Rattle.rmt_values.specs.Order.{sink, in_order, SameBag}
use Rattle.rmt_query.specs.Cells.{cell_order, number_of, one, joined, added, lesser, greater}
use Rattle.rmt_query.specs.Answers.{add_row}
use Rattle.rmt_query.proofs.Bags.{bag-order, IsExact, Commutes}
use Rattle.rmt_query.proofs.CellOrder.{cell_order_total, cell_order_exact}

-- ---- the lesser of two, by an order

module _ {X : Type 0} (cmp : X → X → Ordering) (o : IsTotalOrder cmp) (exact : IsExact cmp) where
  abbrev low : X → X → X
  low a b = cond (is_gt (cmp a b)) b a

  abbrev first : X → List X → X
  first d [] = d
  first d (x ∷ xs) = x

  first-sink : (d x y : X) (ys : List X) → first d (sink cmp x (y ∷ ys)) ≡ low x y
  first-sink d x y ys = go (is_gt (cmp x y)) where
    go : (b : Bool) → first d (cond b (y ∷ sink cmp x ys) (x ∷ y ∷ ys)) ≡ cond b y x
    go true = refl
    go false = refl

  -- the least of two comes first, and then the other
  abbrev rest : X → X → X
  rest a b = cond (is_gt (cmp a b)) a b

  sink-two : (x y : X) → sink cmp x (y ∷ []) ≡ low x y ∷ rest x y ∷ []
  sink-two x y = go (is_gt (cmp x y)) where
    go : (b : Bool) → cond b (y ∷ x ∷ []) (x ∷ y ∷ []) ≡ cond b y x ∷ cond b x y ∷ []
    go true = refl
    go false = refl

  least-two : (x y : X) → first x (in_order cmp (x ∷ y ∷ [])) ≡ low x y
  least-two x y = first-sink x x y []

  least-three : (d x y z : X) → first d (in_order cmp (x ∷ y ∷ z ∷ [])) ≡ low x (low y z)
  least-three d x y z = ap (λ (l : List X). first d (sink cmp x l)) (sink-two y z) ∙ first-sink d x (low y z) (rest y z ∷ [])

  swapped-two : (x y : X) → SameBag (x ∷ y ∷ []) (y ∷ x ∷ [])
  swapped-two x y f = omega arith

  swapped-three : (x y z : X) → SameBag (x ∷ y ∷ z ∷ []) (y ∷ x ∷ z ∷ [])
  swapped-three x y z f = omega arith

  pub low-comm : (x y : X) → low x y ≡ low y x
  low-comm x y =
      sym (least-two x y) ∙ (ap (first x) (bag-order cmp o exact (x ∷ y ∷ []) (y ∷ x ∷ []) (swapped-two x y)) ∙ first-sink x y x [])

  pub low-left : (x y z : X) → low x (low y z) ≡ low y (low x z)
  low-left x y z =
      sym (least-three x x y z) ∙ (ap (first x) (bag-order cmp o exact (x ∷ y ∷ z ∷ []) (y ∷ x ∷ z ∷ []) (swapped-three x y z)) ∙ least-three x y x z)

flipped-exact : (a b : Cell) → flip_args cell_order a b ≡ Equal → a ≡ b
flipped-exact a b h = sym (cell_order_exact b a h)

lesser-comm : (x y : Cell) → lesser x y ≡ lesser y x
lesser-comm = low-comm cell_order cell_order_total cell_order_exact

lesser-left : (x y z : Cell) → lesser x (lesser y z) ≡ lesser y (lesser x z)
lesser-left = low-left cell_order cell_order_total cell_order_exact

greater-comm : (x y : Cell) → greater x y ≡ greater y x
greater-comm = low-comm (flip_args cell_order) (back_total cell_order_total) flipped-exact

greater-left : (x y z : Cell) → greater x (greater y z) ≡ greater y (greater x z)
greater-left = low-left (flip_args cell_order) (back_total cell_order_total) flipped-exact

-- ---- items

sum-comm : (a b : ℤ) → added (Sum a) (Sum b) ≡ added (Sum b) (Sum a)
sum-comm a b = ap (λ (z : ℤ). Sum z) (omega (arith, ints))

sum-left : (a b : ℤ) (c : Cell) → added (Sum a) (added (Sum b) c) ≡ added (Sum b) (added (Sum a) c)
sum-left a b (UInt n) = refl
sum-left a b (Int z) = refl
sum-left a b (Text t) = refl
sum-left a b (Sum z) = ap (λ (w : ℤ). Sum w) (omega (arith, ints))

one-comm : (i : CheckedItem) (x y : List Value) → joined i (one i x) (one i y) ≡ joined i (one i y) (one i x)
one-comm (item.Column c) x y = lesser-comm (one (item.Column c) x) (one (item.Column c) y)
one-comm item.Count x y = refl
one-comm (item.Sum c) x y = sum-comm (number_of (slice_get x c)) (number_of (slice_get y c))
one-comm (item.Min c) x y = lesser-comm (one (item.Min c) x) (one (item.Min c) y)
one-comm (item.Max c) x y = greater-comm (one (item.Max c) x) (one (item.Max c) y)

one-left : (i : CheckedItem) (x y : List Value) (c : Cell) → joined i (one i x) (joined i (one i y) c) ≡ joined i (one i y) (joined i (one i x) c)
one-left (item.Column k) x y c = lesser-left (one (item.Column k) x) (one (item.Column k) y) c
one-left item.Count x y c = refl
one-left (item.Sum k) x y c = sum-left (number_of (slice_get x k)) (number_of (slice_get y k)) c
one-left (item.Min k) x y c = lesser-left (one (item.Min k) x) (one (item.Min k) y) c
one-left (item.Max k) x y c = greater-left (one (item.Max k) x) (one (item.Max k) y) c

-- two rows may enter a group's tuple in either order
pub add_row-commutes : (items : List CheckedItem) → Commutes (add_row items)
add_row-commutes [] x y s = refl
add_row-commutes (i ∷ is) x y [] =
    ap (λ (c : Cell). c ∷ add_row is x (add_row is y [])) (one-comm i x y) ∙ ap (λ (l : List Cell). joined i (one i y) (one i x) ∷ l) (add_row-commutes is x y [])
add_row-commutes (i ∷ is) x y (c ∷ cs) =
    ap (λ (d : Cell). d ∷ add_row is x (add_row is y cs)) (one-left i x y c) ∙ ap (λ (l : List Cell). joined i (one i y) (joined i (one i x) c) ∷ l) (add_row-commutes is x y cs)

-- ---- the least of several rows, from the first on

-- a least with the lesser of two is one with both
pub lesser-assoc : (a b c : Cell) → lesser a (lesser b c) ≡ lesser (lesser a b) c
lesser-assoc a b c = ap (lesser a) (lesser-comm b c) ∙ (lesser-left a c b ∙ lesser-comm c (lesser a b))

pub greater-assoc : (a b c : Cell) → greater a (greater b c) ≡ greater (greater a b) c
greater-assoc a b c = ap (greater a) (greater-comm b c) ∙ (greater-left a c b ∙ greater-comm c (greater a b))
