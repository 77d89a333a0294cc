-- The order of cells is total, and what ties is the same.
use Rattle.std.proofs.Common.{◌≡◌, List, [], ◌∷◌, refl, sym, ap, ◌∙◌, inl, inr}
use Rattle.std.specs.Prelude.{ℤ, ◌⊎◌}
use Rattle.std.specs.declared.cmp.Ordering.{Ordering}
use Rattle.std.specs.declared.cmp.Ordering.TheVariants.{Less, Equal, Greater}
use Rattle.std.specs.Ordering.{ordering_reverse, ordering_then}
use Rattle.std.specs.Cmp.{IsTotalOrder}
use Rattle.std.proofs.lemmas.Cmp.{int_cmp_total, lists_total, on_total}
use Rattle.rmt_values.specs.declared.cell.Cell.{Cell}
use Rattle.rmt_values.specs.declared.cell.Cell.TheVariants.{UInt, Int, Text, Sum}
use Rattle.rmt_values.specs.declared.value.Value.{Value}
use Rattle.rmt_values.specs.declared.value.Value.TheVariants as value
use Rattle.rmt_values.proofs.Totals.{value_cmp_total, value_cmp_exact}
use Rattle.rmt_query.specs.Cells.{value_or_sum, value_or_sum_cmp, cell_order, tuple_cmp}

antisymm : (x y : Value ⊎ ℤ) → value_or_sum_cmp x y ≡ ordering_reverse (value_or_sum_cmp y x)
antisymm (inl a) (inl b) = value_cmp_total.antisymm a b
antisymm (inl a) (inr b) = refl
antisymm (inr a) (inl b) = refl
antisymm (inr a) (inr b) = int_cmp_total.antisymm a b

trans : (x y z : Value ⊎ ℤ) → value_or_sum_cmp x y ≡ Less → value_or_sum_cmp y z ≡ Less → value_or_sum_cmp x z ≡ Less
trans (inl a) (inl b) (inl c) p q = value_cmp_total.trans a b c p q
trans (inl a) (inl b) (inr c) p q = refl
trans (inl a) (inr b) (inl c) p q = absurd (cc)
trans (inl a) (inr b) (inr c) p q = refl
trans (inr a) (inl b) z p q = absurd (cc)
trans (inr a) (inr b) (inl c) p q = absurd (cc)
trans (inr a) (inr b) (inr c) p q = int_cmp_total.trans a b c p q

congr : (x y z : Value ⊎ ℤ) → value_or_sum_cmp x y ≡ Equal → value_or_sum_cmp x z ≡ value_or_sum_cmp y z
congr (inl a) (inl b) (inl c) p = value_cmp_total.congr a b c p
congr (inl a) (inl b) (inr c) p = refl
congr (inl a) (inr b) z p = absurd (cc)
congr (inr a) (inl b) z p = absurd (cc)
congr (inr a) (inr b) (inl c) p = refl
congr (inr a) (inr b) (inr c) p = int_cmp_total.congr a b c p

value_or_sum_cmp_total : IsTotalOrder value_or_sum_cmp
value_or_sum_cmp_total = record { antisymm = antisymm; trans = trans; congr = congr }

pub cell_order_total : IsTotalOrder cell_order
cell_order_total = on_total value_or_sum value_or_sum_cmp_total

exact : (x y : Value ⊎ ℤ) → value_or_sum_cmp x y ≡ Equal → x ≡ y
exact (inl a) (inl b) h = ap (λ (v : Value). inl v) (value_cmp_exact a b h)
exact (inl a) (inr b) h = absurd (cc)
exact (inr a) (inl b) h = absurd (cc)
exact (inr a) (inr b) h = let e = value_cmp_exact (value.Int a) (value.Int b) h in cc

-- the cell of a value or a sum
abbrev cell : Value ⊎ ℤ → Cell
cell (inl (value.UInt a)) = UInt a
cell (inl (value.Int a)) = Int a
cell (inl (value.Text a)) = Text a
cell (inr a) = Sum a

cell-is : (c : Cell) → cell (value_or_sum c) ≡ c
cell-is (UInt a) = refl
cell-is (Int a) = refl
cell-is (Text a) = refl
cell-is (Sum a) = refl

pub cell_order_exact : (a b : Cell) → cell_order a b ≡ Equal → a ≡ b
cell_order_exact a b h = sym (cell-is a) ∙ (ap cell (exact (value_or_sum a) (value_or_sum b) h) ∙ cell-is b)

pub tuple_cmp_total : IsTotalOrder tuple_cmp
tuple_cmp_total = lists_total cell_order_total

pub tuple_cmp_exact : (a b : List Cell) → tuple_cmp a b ≡ Equal → a ≡ b
tuple_cmp_exact [] [] h = refl
tuple_cmp_exact [] (y ∷ ys) h = absurd (cc)
tuple_cmp_exact (x ∷ xs) [] h = absurd (cc)
tuple_cmp_exact (x ∷ xs) (y ∷ ys) h =
    let p = both (cell_order x y) (tuple_cmp xs ys) h in
    ap (λ (c : Cell). c ∷ xs) (cell_order_exact x y p.0) ∙ ap (λ (l : List Cell). y ∷ l) (tuple_cmp_exact xs ys p.1)
  where
    both : (o r : Ordering) → ordering_then o r ≡ Equal → (o ≡ Equal) × (r ≡ Equal)
    both Less r h = absurd (cc)
    both Equal r h = (refl, h)
    both Greater r h = absurd (cc)
