-- The order of values, cells and keys is total.
use Rattle.std.proofs.Common.{◌≡◌, ℕ, List, [], ◌∷◌, refl, ap, ◌∙◌, subst}
use Rattle.std.specs.declared.option.Option.{Option}
use Rattle.std.specs.declared.option.Option.TheVariants.{Some, None}
use Rattle.std.specs.declared.cmp.Ordering.{Ordering}
use Rattle.std.specs.declared.cmp.Ordering.TheVariants.{Less, Equal, Greater}
use Rattle.std.specs.Ordering.{MatchOrdering, ordering_reverse, ordering_then, nat_cmp, int_cmp}
use Rattle.std.specs.Cmp.Lexicographic.{slice_cmp}
use Rattle.std.specs.Prelude.{ℤ, ◌<◌, ◌<ℤ◌}
use Rattle.std.proofs.lemmas.Cmp.{ranked, int_ranked}
use Rattle.std.specs.Cmp.{IsTotalOrder}
use Rattle.std.proofs.lemmas.Cmp.{nat_cmp_total, int_cmp_total, nat_list_cmp_total, lists_total, on_total}
use Rattle.rmt_values.specs.declared.value.Value.{Value}
use Rattle.rmt_values.specs.declared.value.Value.TheVariants.{UInt, Int, Text}
use Rattle.rmt_values.specs.Rows.{value_cmp, cell_cmp, key_of, key_cmp}

antisymm : (x y : Value) → value_cmp x y ≡ ordering_reverse (value_cmp y x)
antisymm (UInt a) (UInt b) = nat_cmp_total.antisymm a b
antisymm (UInt a) (Int b) = refl
antisymm (UInt a) (Text b) = refl
antisymm (Int a) (UInt b) = refl
antisymm (Int a) (Int b) = int_cmp_total.antisymm a b
antisymm (Int a) (Text b) = refl
antisymm (Text a) (UInt b) = refl
antisymm (Text a) (Int b) = refl
antisymm (Text a) (Text b) = nat_list_cmp_total.antisymm a b

trans : (x y z : Value) → value_cmp x y ≡ Less → value_cmp y z ≡ Less → value_cmp x z ≡ Less
trans (UInt a) (UInt b) (UInt c) p q = nat_cmp_total.trans a b c p q
trans (UInt a) (UInt b) (Int c) p q = refl
trans (UInt a) (UInt b) (Text c) p q = refl
trans (UInt a) (Int b) (UInt c) p q = absurd (cc)
trans (UInt a) (Int b) (Int c) p q = refl
trans (UInt a) (Int b) (Text c) p q = refl
trans (UInt a) (Text b) (UInt c) p q = absurd (cc)
trans (UInt a) (Text b) (Int c) p q = absurd (cc)
trans (UInt a) (Text b) (Text c) p q = refl
trans (Int a) (UInt b) z p q = absurd (cc)
trans (Int a) (Int b) (UInt c) p q = absurd (cc)
trans (Int a) (Int b) (Int c) p q = int_cmp_total.trans a b c p q
trans (Int a) (Int b) (Text c) p q = refl
trans (Int a) (Text b) (UInt c) p q = absurd (cc)
trans (Int a) (Text b) (Int c) p q = absurd (cc)
trans (Int a) (Text b) (Text c) p q = refl
trans (Text a) (UInt b) z p q = absurd (cc)
trans (Text a) (Int b) z p q = absurd (cc)
trans (Text a) (Text b) (UInt c) p q = absurd (cc)
trans (Text a) (Text b) (Int c) p q = absurd (cc)
trans (Text a) (Text b) (Text c) p q = nat_list_cmp_total.trans a b c p q

congr : (x y z : Value) → value_cmp x y ≡ Equal → value_cmp x z ≡ value_cmp y z
congr (UInt a) (UInt b) (UInt c) p = nat_cmp_total.congr a b c p
congr (UInt a) (UInt b) (Int c) p = refl
congr (UInt a) (UInt b) (Text c) p = refl
congr (UInt a) (Int b) z p = absurd (cc)
congr (UInt a) (Text b) z p = absurd (cc)
congr (Int a) (UInt b) z p = absurd (cc)
congr (Int a) (Int b) (UInt c) p = refl
congr (Int a) (Int b) (Int c) p = int_cmp_total.congr a b c p
congr (Int a) (Int b) (Text c) p = refl
congr (Int a) (Text b) z p = absurd (cc)
congr (Text a) (UInt b) z p = absurd (cc)
congr (Text a) (Int b) z p = absurd (cc)
congr (Text a) (Text b) (UInt c) p = refl
congr (Text a) (Text b) (Int c) p = refl
congr (Text a) (Text b) (Text c) p = nat_list_cmp_total.congr a b c p

pub value_cmp_total : IsTotalOrder value_cmp
value_cmp_total = record { antisymm = antisymm; trans = trans; congr = congr }

antisymm' : (x y : Option Value) → cell_cmp x y ≡ ordering_reverse (cell_cmp y x)
antisymm' None None = refl
antisymm' None (Some b) = refl
antisymm' (Some a) None = refl
antisymm' (Some a) (Some b) = antisymm a b

trans' : (x y z : Option Value) → cell_cmp x y ≡ Less → cell_cmp y z ≡ Less → cell_cmp x z ≡ Less
trans' None None z p q = absurd (cc)
trans' None (Some b) None p q = absurd (cc)
trans' None (Some b) (Some c) p q = refl
trans' (Some a) None z p q = absurd (cc)
trans' (Some a) (Some b) None p q = absurd (cc)
trans' (Some a) (Some b) (Some c) p q = trans a b c p q

congr' : (x y z : Option Value) → cell_cmp x y ≡ Equal → cell_cmp x z ≡ cell_cmp y z
congr' None None z p = refl
congr' None (Some b) z p = absurd (cc)
congr' (Some a) None z p = absurd (cc)
congr' (Some a) (Some b) None p = refl
congr' (Some a) (Some b) (Some c) p = congr a b c p

pub cell_cmp_total : IsTotalOrder cell_cmp
cell_cmp_total = record { antisymm = antisymm'; trans = trans'; congr = congr' }

pub key_cmp_total : (key : List ℕ) → IsTotalOrder (key_cmp key)
key_cmp_total key = on_total (key_of key) (lists_total cell_cmp_total)

nat-exact : (a b : ℕ) → nat_cmp a b ≡ Equal → a ≡ b
nat-exact a b h = subst (λ o. MatchOrdering o (a < b) (a ≡ b) (b < a)) h (ranked a b (nat_cmp a b) refl)

int-exact : (a b : ℤ) → int_cmp a b ≡ Equal → a ≡ b
int-exact a b h = subst (λ o. MatchOrdering o (a <ℤ b) (a ≡ b) (b <ℤ a)) h (int_ranked a b (int_cmp a b) refl)

list-exact : {X : Type 0} (cmp : X → X → Ordering) → ((x y : X) → cmp x y ≡ Equal → x ≡ y) → (xs ys : List X) → slice_cmp cmp xs ys ≡ Equal → xs ≡ ys
list-exact cmp exact [] [] h = refl
list-exact cmp exact [] (y ∷ ys) h = absurd (cc)
list-exact cmp exact (x ∷ xs) [] h = absurd (cc)
list-exact {X} cmp exact (x ∷ xs) (y ∷ ys) h =
    let p = both (cmp x y) (slice_cmp cmp xs ys) h in
    ap (λ (z : X). z ∷ xs) (exact x y p.0) ∙ ap (λ (l : List X). y ∷ l) (list-exact cmp exact xs ys p.1)
  where
    both : (o r : Ordering) → ordering_then o r ≡ Equal → (o ≡ Equal) × (r ≡ Equal)
    both Less r h = absurd (cc)
    both Equal r h = (refl, h)
    both Greater r h = absurd (cc)

pub value_cmp_exact : (a b : Value) → value_cmp a b ≡ Equal → a ≡ b
value_cmp_exact (UInt a) (UInt b) h = ap (λ n. UInt n) (nat-exact a b h)
value_cmp_exact (UInt a) (Int b) h = absurd (cc)
value_cmp_exact (UInt a) (Text b) h = absurd (cc)
value_cmp_exact (Int a) (UInt b) h = absurd (cc)
value_cmp_exact (Int a) (Int b) h = ap (λ n. Int n) (int-exact a b h)
value_cmp_exact (Int a) (Text b) h = absurd (cc)
value_cmp_exact (Text a) (UInt b) h = absurd (cc)
value_cmp_exact (Text a) (Int b) h = absurd (cc)
value_cmp_exact (Text a) (Text b) h = ap (λ n. Text n) (list-exact nat_cmp nat-exact a b h)

pub row_cmp_total : IsTotalOrder (slice_cmp value_cmp)
row_cmp_total = lists_total value_cmp_total

pub row_cmp_exact : (a b : List Value) → slice_cmp value_cmp a b ≡ Equal → a ≡ b
row_cmp_exact = list-exact value_cmp value_cmp_exact
