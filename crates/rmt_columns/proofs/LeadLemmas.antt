-- Rows in the order of the numbers of their first key column.
use Rattle.std.proofs.Common.{◌≡◌, ℕ, zero, suc, ◌<◌, List, [], ◌∷◌, map, length, slice_get, get_or, refl, sym, ap, subst, ◌∙◌, Bor, arith}
use Rattle.std.specs.Prelude.{IfSome, Option, Some, None}
use Rattle.std.specs.Option.{option_map}
use Rattle.std.specs.Ordering.{nat_cmp, ordering_then}
use Rattle.std.specs.declared.cmp.Ordering.{Ordering}
use Rattle.std.specs.declared.cmp.Ordering.TheVariants.{Less, Equal, Greater}
use Rattle.rmt_values.specs.declared.value.Value.{Value}
use Rattle.rmt_values.specs.declared.value.Value.TheVariants.{UInt}
use Rattle.rmt_values.specs.Rows.{cell_cmp, key_cmp}
use Rattle.rmt_columns.specs.Columns.{ColumnView}
use Rattle.rmt_columns.specs.Leading.{AreLeading, led}
use Rattle.rmt_columns.specs.RowsByColumn.{rows_of, rows_held, AreLong, RowsView}
use Rattle.rmt_columns.proofs.RowsLemmas.{row-cell, cell-at}

twice : (o rest : Ordering) → ordering_then o (ordering_then o rest) ≡ ordering_then o rest
twice Less rest = refl
twice Equal rest = refl
twice Greater rest = refl

mapped-get : (ns : List ℕ) (i : ℕ) → slice_get (map (λ n. UInt n) ns) i ≡ option_map (λ n. UInt n) (slice_get ns i)
mapped-get [] i = refl
mapped-get (n ∷ ns) zero = refl
mapped-get (n ∷ ns) (suc i) = mapped-get ns i

led-is : (o p : Option ℕ) (a b : Option Value) (rest : Ordering) → a ≡ option_map (λ n. UInt n) o → b ≡ option_map (λ n. UInt n) p
    → led o p (ordering_then (cell_cmp a b) rest) ≡ ordering_then (cell_cmp a b) rest
led-is None p a b rest e f = refl
led-is (Some m) None a b rest e f = refl
led-is (Some m) (Some n) a b rest e f = rw e (rw f (twice (nat_cmp m n) rest))

-- the numbers of a key's first column lead
pub numbers-lead : (key : List ℕ) (n : ℕ) (cs : List ColumnView) (x : ColumnView) (ns : List ℕ) → AreLong n cs → 0 < length key
    → get_or key 0 0 < length cs → x ≡ get_or cs (get_or key 0 0) x → x.values ≡ map (λ m. UInt m) ns → AreLeading key (rows_of n cs) ns
numbers-lead key n cs x ns l h p f v = record {
  some = h;
  cells = λ i.
      row-cell n cs i (get_or key 0 0) l
      ∙ (sym (cell-at cs i (get_or key 0 0) x f p) ∙ (ap (λ (vs : List Value). slice_get vs i) v ∙ mapped-get ns i));
}

pub if-lead : (o : Option (Bor (List ℕ))) (key : List ℕ) (n : ℕ) (cs : List ColumnView) (x : ColumnView) (view : RowsView) → rows_held n cs ≡ view → AreLong n cs → 0 < length key
    → get_or key 0 0 < length cs → x ≡ get_or cs (get_or key 0 0) x → IfSome o (λ b. x.values ≡ map (λ m. UInt m) b.now) → IfSome o (λ b. AreLeading key view.rows b.now)
if-lead None key n cs x view e l h p f v = tt
if-lead (Some b) key n cs x view e l h p f v = subst (λ (w : RowsView). AreLeading key w.rows b.now) e (numbers-lead key n cs x b.now l h p f v)

-- the order that numbers lead is that of the rows
pub led-order : (key : List ℕ) (rows others : List (List Value)) (ns ms : List ℕ) (i j : ℕ) → AreLeading key rows ns → AreLeading key others ms
    → led (slice_get ns i) (slice_get ms j) (key_cmp key (get_or rows i []) (get_or others j [])) ≡ key_cmp key (get_or rows i []) (get_or others j [])
led-order [] rows others ns ms i j a b = absurd (let h = a.some in omega (arith, h))
led-order (c ∷ key) rows others ns ms i j a b = led-is (slice_get ns i) (slice_get ms j) _ _ _ (a.cells i) (b.cells j)
