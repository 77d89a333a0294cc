-- Sums of the numbers of a column.
use Rattle.std.proofs.Common.{◌≡◌, ◌∙◌, ℕ, zero, suc, ◌+◌, ◌<◌, List, [], ◌∷◌, map, length, drop, sum, get_or, slice_get, refl, sym, ap, ap₂, subst, arith}
use Rattle.std.specs.Prelude.{ℤ, pos, ◌+ℤ◌}
use Rattle.std.proofs.lemmas.Int.{ints}
use Rattle.std.proofs.lemmas.List.Sums.{sum_by-cons}
use Rattle.std.specs.Option.{option_map}
use Rattle.std.specs.declared.option.Option.TheVariants.{Some}
use Rattle.rmt_values.specs.declared.kind.Kind.{Kind}
use Rattle.rmt_values.specs.declared.kind.Kind.TheVariants.{UInt64}
use Rattle.rmt_values.specs.declared.value.Value.{Value}
use Rattle.rmt_values.specs.declared.value.Value.TheVariants.{UInt}
use Rattle.rmt_values.specs.Rows.{kind_of}
use Rattle.rmt_columns.specs.Leading.{AreLeading}
use Rattle.rmt_columns.specs.RowsByColumn.{HaveKinds}
use Rattle.rmt_query.specs.Cells.{number_of}
use Rattle.rmt_query.specs.OverRows.{total}
use Rattle.rmt_query.proofs.Over.{drop-here}

-- ---- a column of UInt64

from-cells : (c : ℕ) (rows : List (List Value)) (ns : List ℕ) → ((i : ℕ) → slice_get (get_or rows i []) c ≡ option_map (λ n. UInt n) (slice_get ns i)) → total c rows ≡ pos (sum ns)
from-cells c [] [] f = refl
from-cells c [] (n ∷ ns) f = let e = f 0 in absurd (cc)
from-cells c (r ∷ rs) [] f = ap₂ (λ (a b : ℤ). a +ℤ b) (ap number_of (f 0)) (from-cells c rs [] (λ i. f (suc i)))
from-cells c (r ∷ rs) (n ∷ ns) f =
    let sums : pos (n + sum ns) ≡ pos (sum (n ∷ ns)) = ap (λ (k : ℕ). pos k) (sym (sum_by-cons (λ x. x) n ns)) in
    ap₂ (λ (a b : ℤ). a +ℤ b) (ap number_of (f 0)) (from-cells c rs ns (λ i. f (suc i))) ∙ sums

-- the numbers of the rows in a column are those that lead it
pub total-leading : (c : ℕ) (rows : List (List Value)) (ns : List ℕ) → AreLeading (c ∷ []) rows ns → total c rows ≡ pos (sum ns)
total-leading c rows ns a = from-cells c rows ns a.cells

-- ---- another column

kind-there : (row : List Value) (c n : ℕ) → slice_get row c ≡ Some (UInt n) → slice_get (map kind_of row) c ≡ Some UInt64
kind-there [] c n e = absurd (cc)
kind-there (v ∷ vs) zero n e = ap (option_map kind_of) e
kind-there (v ∷ vs) (suc c) n e = kind-there vs c n e

-- where a column's type isn't UInt64, no row has such a value there
pub none-unsigned : (kinds : List Kind) (rows : List (List Value)) (i c n : ℕ) → HaveKinds kinds rows → (slice_get kinds c ≡ Some UInt64 → ⊥) → slice_get (get_or rows i []) c ≡ Some (UInt n) → ⊥
none-unsigned kinds [] i c n h none e = absurd (cc)
none-unsigned kinds (r ∷ rs) zero c n h none e = none (subst (λ (ks : List Kind). slice_get ks c ≡ Some UInt64) h.0 (kind-there r c n e))
none-unsigned kinds (r ∷ rs) (suc i) c n h none e = none-unsigned kinds rs i c n h.1 none e

-- ---- one row after the other

-- the numbers up to a place, and the one there
pub one-more : (c : ℕ) (rows : List (List Value)) (i : ℕ) (sum number : ℤ) → i < length rows → number ≡ number_of (slice_get (get_or rows i []) c) → sum +ℤ total c (drop i rows) ≡ total c rows → (sum +ℤ number) +ℤ total c (drop (i + 1) rows) ≡ total c rows
one-more c rows i sum number here is all =
    let next : total c (drop i rows) ≡ number_of (slice_get (get_or rows i []) c) +ℤ total c (drop (i + 1) rows) = ap (total c) (drop-here rows i here) in
    omega (arith, ints, next, is, all)
