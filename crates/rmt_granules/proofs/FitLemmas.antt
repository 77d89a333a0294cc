-- Rows fit where no String of their columns is too long.
use Rattle.std.proofs.Common.{◌⊎◌, inl, inr, ◌≡◌, ℕ, zero, suc, ◌<◌, true, List, [], ◌∷◌, length, get_or, refl, sym, ◌∙◌, subst, arith}
use Rattle.std.proofs.lemmas.Bool.{and_parts}
use Rattle.std.proofs.lemmas.List.Elements.{recursion_from_All, All-from_recursion}
use Rattle.std.specs.List.{All, AllByRecursion}
use Rattle.rmt_values.specs.declared.value.Value.{Value}
use Rattle.rmt_values.specs.declared.value.Value.TheVariants.{UInt, Int, Text}
use Rattle.rmt_values.specs.declared.column.Column.{Column}
use Rattle.rmt_values.specs.declared.kind.Kind.{Kind}
use Rattle.rmt_values.specs.declared.kind.Kind.TheVariants as kinds
use Rattle.rmt_values.specs.Rows.{fits, is_of, same_kind, is_value, kind_of}
use Rattle.rmt_columns.specs.Columns.{ColumnView}
use Rattle.rmt_columns.specs.RowsByColumn.{beside, blank_rows, rows_of, kinds_of, kinds_in, AreLong, AreOfKind, AreTyped}
use Rattle.rmt_columns.proofs.RowsLemmas.{length-rows_of}

-- each value of the column is one
abbrev pub AreValues : ColumnView → Type 0
AreValues c = AllByRecursion (λ value. is_value value ≡ true) c.values

of-kind : (k : Kind) (v : Value) → kind_of v ≡ k → is_value v ≡ true → is_of k v ≡ true
of-kind kinds.UInt64 (UInt n) e h = refl
of-kind kinds.UInt64 (Int z) e h = absurd (cc)
of-kind kinds.UInt64 (Text t) e h = absurd (cc)
of-kind kinds.Int64 (UInt n) e h = absurd (cc)
of-kind kinds.Int64 (Int z) e h = refl
of-kind kinds.Int64 (Text t) e h = absurd (cc)
of-kind kinds.Text (UInt n) e h = absurd (cc)
of-kind kinds.Text (Int z) e h = absurd (cc)
of-kind kinds.Text (Text t) e h = h

beside-fit : (k : Column) (ks : List Column) (vs : List Value) (rs : List (List Value)) → AreOfKind k.kind vs → AllByRecursion (λ v. is_value v ≡ true) vs
    → AllByRecursion (λ row. fits ks row ≡ true) rs → AllByRecursion (λ row. fits (k ∷ ks) row ≡ true) (beside vs rs)
beside-fit k ks [] rs t h f = tt
beside-fit k ks (v ∷ vs) [] t h f = tt
beside-fit k ks (v ∷ vs) (r ∷ rs) t h f = (rw (of-kind k.kind v t.0 h.0) f.0, beside-fit k ks vs rs t.1 h.1 f.1)

blank-fit : (n : ℕ) → AllByRecursion (λ row. fits [] row ≡ true) (blank_rows n)
blank-fit zero = tt
blank-fit (suc n) = (refl, blank-fit n)

columns-fit : (ks : List Column) (n : ℕ) (cs : List ColumnView) → kinds_of cs ≡ kinds_in ks → AreTyped cs → AllByRecursion AreValues cs → AllByRecursion (λ row. fits ks row ≡ true) (rows_of n cs)
columns-fit [] n [] e t h = blank-fit n
columns-fit [] n (c ∷ cs) e t h = absurd (cc)
columns-fit (k ∷ ks) n [] e t h = absurd (cc)
columns-fit (k ∷ ks) n (c ∷ cs) e t h =
    let here : c.kind ≡ k.kind = cc in
    beside-fit k ks c.values (rows_of n cs) (subst (λ (x : Kind). AreOfKind x c.values) here t.0) h.0 (columns-fit ks n cs (cc) t.1 h.1)

-- the rows fit, where each value of their columns is one
pub rows-fit : (ks : List Column) (n : ℕ) (cs : List ColumnView) (rows : List (List Value)) → rows_of n cs ≡ rows → kinds_of cs ≡ kinds_in ks → AreTyped cs → AllByRecursion AreValues cs → All (λ row. fits ks row ≡ true) rows
rows-fit ks n cs rows is e t h = subst (All (λ row. fits ks row ≡ true)) is (All-from_recursion (λ row. fits ks row ≡ true) (rows_of n cs) (columns-fit ks n cs e t h))

-- ---- the other way

beside-values : (k : Column) (ks : List Column) (vs : List Value) (rs : List (List Value)) → length vs ≡ length rs → AllByRecursion (λ row. fits (k ∷ ks) row ≡ true) (beside vs rs)
    → AllByRecursion (λ v. is_value v ≡ true) vs × AllByRecursion (λ row. fits ks row ≡ true) rs
beside-values k ks [] [] e h = (tt, tt)
beside-values k ks [] (r ∷ rs) e h = absurd (omega (arith, e))
beside-values k ks (v ∷ vs) [] e h = absurd (omega (arith, e))
beside-values k ks (v ∷ vs) (r ∷ rs) e h =
    let both = and_parts (is_of k.kind v) (fits ks r) h.0 in
    let more = beside-values k ks vs rs (omega (arith, e)) h.1 in
    (((and_parts (same_kind (kind_of v) k.kind) (is_value v) both.0).1, more.0), (both.1, more.1))

columns-values : (ks : List Column) (n : ℕ) (cs : List ColumnView) → kinds_of cs ≡ kinds_in ks → AreLong n cs → AllByRecursion (λ row. fits ks row ≡ true) (rows_of n cs) → AllByRecursion AreValues cs
columns-values [] n [] e l h = tt
columns-values [] n (c ∷ cs) e l h = absurd (cc)
columns-values (k ∷ ks) n [] e l h = absurd (cc)
columns-values (k ∷ ks) n (c ∷ cs) e l h =
    let both = beside-values k ks c.values (rows_of n cs) (l.0 ∙ sym (length-rows_of n cs l.1)) h in
    (both.0, columns-values ks n cs (cc) l.1 both.1)

element : {X : Type 0} (P : X → Type 0) (xs : List X) (i : ℕ) (x : X) → i < length xs → x ≡ get_or xs i x → AllByRecursion P xs → P x
element P [] i x h e a = absurd (omega (arith, h))
element P (y ∷ ys) zero x h e a = subst P (sym e) a.0
element P (y ∷ ys) (suc i) x h e a = element P ys i x (omega (arith, h)) e a.1

-- each value of a column is one, where the rows fit
pub fit-values : (ks : List Column) (n : ℕ) (cs : List ColumnView) (rows : List (List Value)) (i : ℕ) (c : ColumnView) → rows_of n cs ≡ rows → kinds_of cs ≡ kinds_in ks → AreLong n cs
    → All (λ row. fits ks row ≡ true) rows → i < length cs → c ≡ get_or cs i c → AreValues c
fit-values ks n cs rows i c is e l h p q =
    element AreValues cs i c p q (columns-values ks n cs e l (recursion_from_All (λ row. fits ks row ≡ true) (rows_of n cs) (subst (All (λ row. fits ks row ≡ true)) (sym is) h)))

-- numbers are values
pub numbers-values : (k : Kind) (vs : List Value) → AreOfKind k vs → (k ≡ kinds.Text → ⊥) → AllByRecursion (λ v. is_value v ≡ true) vs
numbers-values k [] a h = tt
numbers-values k (UInt n ∷ vs) a h = (refl, numbers-values k vs a.1 h)
numbers-values k (Int z ∷ vs) a h = (refl, numbers-values k vs a.1 h)
numbers-values k (Text t ∷ vs) a h = absurd (h (sym a.0))

pub number-kind : (k : Kind) → (k ≡ kinds.UInt64) ⊎ (k ≡ kinds.Int64) → k ≡ kinds.Text → ⊥
number-kind k (inl e) t = cc
number-kind k (inr e) t = cc

-- the values of a column are of its type
pub typed-at : (cs : List ColumnView) (i : ℕ) (c : ColumnView) → AreTyped cs → i < length cs → c ≡ get_or cs i c → AreOfKind c.kind c.values
typed-at [] i c t h e = absurd (omega (arith, h))
typed-at (x ∷ xs) zero c t h e = subst (λ (d : ColumnView). AreOfKind d.kind d.values) (sym e) t.0
typed-at (x ∷ xs) (suc i) c t h e = typed-at xs i c t.1 (omega (arith, h)) e
