-- The numbers that lead the rows of parts.
use Rattle.std.proofs.Common.{◌≡◌, ℕ, zero, suc, ◌+◌, ◌<◌, List, [], ◌∷◌, ◌++◌, length, slice_get, get_or, take, refl, sym, ap, subst, arith, ◌∙◌, inl, inr}
use Rattle.std.specs.Prelude.{Option, Some}
use Rattle.std.specs.Borrow.{Bor}
use Rattle.std.specs.Ordering.{nat_cmp, ordering_then}
use Rattle.std.specs.declared.cmp.Ordering.{Ordering}
use Rattle.std.specs.declared.cmp.Ordering.TheVariants.{Less, Equal, Greater}
use Rattle.rmt_values.specs.declared.value.Value.{Value}
use Rattle.rmt_values.specs.Rows.{Shape, key_cmp}
use Rattle.rmt_columns.specs.Leading.{led}
use Rattle.rmt_columns.proofs.LeadLemmas.{led-order}
use Rattle.rmt_granules.specs.Granules.{PartView}
use Rattle.rmt_granules.specs.declared.place.Place.{Place}
use Rattle.rmt_granules.specs.MergedData.{IsDataOf, AreDataOf}
use Rattle.rmt_granules.specs.Places.{rows_at, place_cmp, numbers_at, Lead, LeadAll}
use Rattle.rmt_granules.proofs.MergeLemmas.{data-at}

-- each part has numbers, which may be none
pub lead-length : (key : List ℕ) (parts : List PartView) (ns : List (Bor (List ℕ))) → LeadAll key parts ns → length ns ≡ length parts
lead-length key [] [] h = refl
lead-length key [] (n ∷ ns) h = absurd h
lead-length key (x ∷ parts) [] h = absurd h
lead-length key (x ∷ parts) (n ∷ ns) h = ap suc (lead-length key parts ns h.1)

lead-at : (key : List ℕ) (parts : List PartView) (ns : List (Bor (List ℕ))) (i : ℕ) → LeadAll key parts ns → i < length parts → Lead key (rows_at (slice_get parts i)) (numbers_at ns i)
lead-at key [] ns i h l = absurd (omega (arith, l))
lead-at key (x ∷ parts) [] i h l = absurd h
lead-at key (x ∷ parts) (m ∷ ns) zero h l = h.0
lead-at key (x ∷ parts) (m ∷ ns) (suc i) h l = lead-at key parts ns i h.1 (omega (arith, l))

lead-rows : (key : List ℕ) (rows others : List (List Value)) (ns ms : List ℕ) (i j m n : ℕ) → Lead key rows ns → Lead key others ms
    → slice_get ns i ≡ Some m → slice_get ms j ≡ Some n
    → ordering_then (nat_cmp m n) (key_cmp key (get_or rows i []) (get_or others j [])) ≡ key_cmp key (get_or rows i []) (get_or others j [])
lead-rows key rows others ns ms i j m n (inl a) b e f = absurd (let z : slice_get [] i ≡ Some m = ap (λ (l : List ℕ). slice_get l i) (sym a) ∙ e in cc)
lead-rows key rows others ns ms i j m n (inr a) (inl b) e f = absurd (let z : slice_get [] j ≡ Some n = ap (λ (l : List ℕ). slice_get l j) (sym b) ∙ f in cc)
lead-rows key rows others ns ms i j m n (inr a) (inr b) e f =
    sym (ap (λ (o : Option ℕ). led o (slice_get ms j) (key_cmp key (get_or rows i []) (get_or others j []))) e
    ∙ ap (λ (o : Option ℕ). led (Some m) o (key_cmp key (get_or rows i []) (get_or others j []))) f)
    ∙ led-order key rows others ns ms i j a b

apart : (m n : ℕ) (rest : Ordering) → ordering_then (nat_cmp m n) rest ≡ rest → (nat_cmp m n ≡ Equal → ⊥) → nat_cmp m n ≡ rest
apart m n rest h d = go (nat_cmp m n) h d
  where
    go : (o : Ordering) → ordering_then o rest ≡ rest → (o ≡ Equal → ⊥) → o ≡ rest
    go Less h d = h
    go Equal h d = absurd (d refl)
    go Greater h d = h

-- rows at places are in the order of the numbers that lead them, where these differ
pub lead-places : (key : List ℕ) (parts : List PartView) (ns : List (Bor (List ℕ))) (a b : Place) (m n : ℕ) → LeadAll key parts ns
    → a.part < length parts → b.part < length parts → slice_get (numbers_at ns a.part) a.row ≡ Some m → slice_get (numbers_at ns b.part) b.row ≡ Some n
    → (nat_cmp m n ≡ Equal → ⊥) → nat_cmp m n ≡ place_cmp key parts a b
lead-places key parts ns a b m n h p q f g d =
    apart m n (place_cmp key parts a b)
    (lead-rows key (rows_at (slice_get parts a.part)) (rows_at (slice_get parts b.part)) (numbers_at ns a.part) (numbers_at ns b.part) a.row b.row m n (lead-at key parts ns a.part h p) (lead-at key parts ns b.part h q) f g)
    d

-- one more part with its numbers
pub lead-more : (key : List ℕ) (parts : List PartView) (ns : List (Bor (List ℕ))) (i : ℕ) (x : PartView) (n : Bor (List ℕ)) → slice_get parts i ≡ Some x
    → LeadAll key (take i parts) ns → Lead key x.rows n.now → LeadAll key (take (i + 1) parts) (ns ++ n ∷ [])
lead-more key [] ns i x n e h l = absurd (cc)
lead-more key (y ∷ parts) [] zero x n e h l = (subst (λ (p : PartView). Lead key p.rows n.now) (let s : x ≡ y = cc in s) l, tt)
lead-more key (y ∷ parts) (m ∷ ns) zero x n e h l = absurd h
lead-more key (y ∷ parts) [] (suc i) x n e h l = absurd h
lead-more key (y ∷ parts) (m ∷ ns) (suc i) x n e h l = let k : suc i + 1 ≡ suc (i + 1) = omega arith in rw k (h.0, lead-more key parts ns i x n e h.1 l)

-- numbers that lead the rows of a part of a schema, by the key of either
pub lead-key : (shape : Shape) (parts : List PartView) (i : ℕ) (x : PartView) (n : List ℕ) → AreDataOf shape parts → slice_get parts i ≡ Some x → Lead x.key x.rows n → Lead shape.key x.rows n
lead-key shape parts i x n h e l = subst (λ (k : List ℕ). Lead k x.rows n) (ap (λ (p : PartView). p.key) (IsDataOf.is (data-at shape parts i x h e))) l

-- the numbers of a list that is there
pub numbers-there : (ns : List (Bor (List ℕ))) (i : ℕ) (d : Bor (List ℕ)) → i < length ns → (get_or ns i d).now ≡ numbers_at ns i
numbers-there [] i d h = absurd (omega (arith, h))
numbers-there (m ∷ ns) zero d h = refl
numbers-there (m ∷ ns) (suc i) d h = numbers-there ns i d (omega (arith, h))
