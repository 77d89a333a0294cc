-- A row that is put into columns, value by value.
use Rattle.std.proofs.Common.{◌≡◌, ℕ, zero, suc, ◌+◌, ◌<◌, ◌≤◌, List, [], ◌∷◌, ◌++◌, length, slice_get, get_or, refl, sym, ap, ◌∙◌, subst, arith}
use Rattle.std.proofs.Math.ListN.{set}
use Rattle.std.proofs.lemmas.List.{length-append}
use Rattle.std.specs.Option.{option_to_list}
use Rattle.std.specs.declared.option.Option.{Option}
use Rattle.std.specs.declared.option.Option.TheVariants.{Some}
use Rattle.rmt_values.specs.declared.value.Value.{Value}
use Rattle.rmt_values.specs.declared.column.Column.{Column}
use Rattle.rmt_values.specs.declared.kind.Kind.{Kind}
use Rattle.rmt_columns.specs.Columns.{ColumnView}
use Rattle.rmt_columns.specs.RowsByColumn.{beside, blank_rows, rows_of, kinds_of, kinds_in, AreLong, AreBegun, begun_of, rows_begun, BegunView, no_values}
use Rattle.rmt_columns.proofs.PlacesLemmas.{some-there}

-- ---- how long

length-blank : (n : ℕ) → length (blank_rows n) ≡ n
length-blank zero = refl
length-blank (suc n) = let r = length-blank n in omega (arith, r)

length-cut : (vs : List Value) (rs : List (List Value)) → length rs ≤ length vs → length (beside vs rs) ≡ length rs
length-cut [] [] h = refl
length-cut [] (r ∷ rs) h = absurd (omega (arith, h))
length-cut (v ∷ vs) [] h = refl
length-cut (v ∷ vs) (r ∷ rs) h = let i = length-cut vs rs (omega (arith, h)) in omega (arith, i)

pub length-begun_rows : (n b : ℕ) (cs : List ColumnView) → AreBegun n b cs → length (rows_of n cs) ≡ n
length-begun_rows n b [] h = length-blank n
length-begun_rows n zero (c ∷ cs) h = let r = length-begun_rows n zero cs h.1 in let w = h.0 in length-cut c.values (rows_of n cs) (omega (arith, r, w)) ∙ r
length-begun_rows n (suc b) (c ∷ cs) h = let r = length-begun_rows n b cs h.1 in let w = h.0 in length-cut c.values (rows_of n cs) (omega (arith, r, w)) ∙ r

pub length-begun : (n b : ℕ) (cs : List ColumnView) → AreBegun n b cs → length (begun_of n b cs) ≡ b
length-begun n zero cs h = refl
length-begun n (suc b) [] h = absurd (omega (arith, h))
length-begun n (suc b) (c ∷ cs) h =
    let r = length-begun n b cs h.1 in
    let w = h.0 in
    let s = some-there c.values n (omega (arith, w)) in
    let a = length-append (option_to_list (slice_get c.values n)) (begun_of n b cs) in
    omega (arith, r, s, a)

pub begun-within : (n b : ℕ) (cs : List ColumnView) → AreBegun n b cs → b ≤ length cs
begun-within n b [] h = omega (arith, h)
begun-within n zero (c ∷ cs) h = omega arith
begun-within n (suc b) (c ∷ cs) h = let r = begun-within n b cs h.1 in omega (arith, r)

-- ---- one more value

abbrev pub pushed : ColumnView → Value → ColumnView
pushed c v = record c { values = c.values ++ v ∷ [] }

beside-longer : (vs ws : List Value) (rs : List (List Value)) → length vs ≡ length rs → beside (vs ++ ws) rs ≡ beside vs rs
beside-longer [] [] [] h = refl
beside-longer [] (w ∷ ws) [] h = refl
beside-longer [] ws (r ∷ rs) h = absurd (omega (arith, h))
beside-longer (v ∷ vs) ws [] h = absurd (omega (arith, h))
beside-longer (v ∷ vs) ws (r ∷ rs) h = ap (λ (l : List (List Value)). (v ∷ r) ∷ l) (beside-longer vs ws rs (omega (arith, h)))

last-put : (vs : List Value) (v : Value) (n : ℕ) → length vs ≡ n → slice_get (vs ++ v ∷ []) n ≡ Some v
last-put [] v zero h = refl
last-put [] v (suc n) h = absurd (omega (arith, h))
last-put (w ∷ vs) v zero h = absurd (omega (arith, h))
last-put (w ∷ vs) v (suc n) h = last-put vs v n (omega (arith, h))

-- what is kept where a value is put into the next column
pub record PutsValue (n b : ℕ) (cs : List ColumnView) (v : Value) (new : List ColumnView) : Type 0 where
  pub begun : AreBegun n (b + 1) new
  pub kinds : kinds_of new ≡ kinds_of cs
  pub rows : rows_of n new ≡ rows_of n cs
  pub values : begun_of n (b + 1) new ≡ begun_of n b cs ++ v ∷ []

begun-none : (n : ℕ) (cs : List ColumnView) → begun_of n 0 cs ≡ []
begun-none n cs = refl

pub value-put : (n b : ℕ) (cs : List ColumnView) (v : Value) (c : ColumnView) → AreBegun n b cs → b < length cs → c ≡ get_or cs b c
    → PutsValue n b cs v (set cs b (pushed c v))
value-put n b [] v c h p e = absurd (omega (arith, p))
value-put n zero (x ∷ xs) v c h p e =
    let w = h.0 in
    let l = length-append x.values (v ∷ []) in
    subst (λ (d : ColumnView). PutsValue n 0 (x ∷ xs) v (pushed d v ∷ xs)) (sym e)
    (record {
      begun = (omega (arith, w, l), h.1);
      kinds = refl;
      rows = beside-longer x.values (v ∷ []) (rows_of n xs) (h.0 ∙ sym (length-begun_rows n 0 xs h.1));
      values = ap (λ (o : Option Value). option_to_list o ++ []) (last-put x.values v n h.0);
    })
value-put n (suc b) (x ∷ xs) v c h p e =
    let r = value-put n b xs v c h.1 (omega (arith, p)) e in
    let k : suc b + 1 ≡ suc (b + 1) = omega arith in
    record {
      begun = rw k (h.0, r.begun);
      kinds = ap (λ (l : List Kind). x.kind ∷ l) r.kinds;
      rows = ap (beside x.values) r.rows;
      values = rw k (ap (λ (l : List Value). option_to_list (slice_get x.values n) ++ l) r.values ∙ sym (append-more (option_to_list (slice_get x.values n)) (begun_of n b xs)));
    }
  where
    append-more : (us vs : List Value) → (us ++ vs) ++ v ∷ [] ≡ us ++ (vs ++ v ∷ [])
    append-more [] vs = refl
    append-more (u ∷ us) vs = ap (λ (l : List Value). u ∷ l) (append-more us vs)

pub put-seen : (n b : ℕ) (cs : List ColumnView) (v : Value) (new : List ColumnView) (view : BegunView) → PutsValue n b cs v new → rows_begun n b cs ≡ view
    → rows_begun n (b + 1) new ≡ record view { begun = view.begun ++ v ∷ [] }
put-seen n b cs v new view p e = subst (λ (w : BegunView). rows_begun n (b + 1) new ≡ record w { begun = w.begun ++ v ∷ [] }) e (seen p.kinds p.rows p.values)
  where
    seen : {k l : List Kind} {r s : List (List Value)} {x y : List Value} → k ≡ l → r ≡ s → x ≡ y → ◌≡◌ {A = BegunView} (record { kinds = k; rows = r; begun = x }) (record { kinds = l; rows = s; begun = y })
    seen e f g = cc

kind-next : (cs : List ColumnView) (b : ℕ) (k : Kind) (c : ColumnView) → slice_get (kinds_of cs) b ≡ Some k → c ≡ get_or cs b c → (b < length cs) × (k ≡ c.kind)
kind-next [] b k c e f = absurd (cc)
kind-next (x ∷ xs) zero k c e f = (omega arith, cc)
kind-next (x ∷ xs) (suc b) k c e f = let r = kind-next xs b k c e f in (omega (arith, r.0), r.1)

pub next-there : (cs : List ColumnView) (b : ℕ) (k : Kind) → slice_get (kinds_of cs) b ≡ Some k → b < length cs
next-there [] b k e = absurd (cc)
next-there (x ∷ xs) zero k e = omega arith
next-there (x ∷ xs) (suc b) k e = let r = next-there xs b k e in omega (arith, r)

pub next-kind : (cs : List ColumnView) (b : ℕ) (k : Kind) (c : ColumnView) → slice_get (kinds_of cs) b ≡ Some k → c ≡ get_or cs b c → k ≡ c.kind
next-kind cs b k c e f = (kind-next cs b k c e f).1

pub next-column : (n b : ℕ) (cs : List ColumnView) (view : BegunView) (k : Kind) → AreBegun n b cs → rows_begun n b cs ≡ view
    → slice_get view.kinds (length view.begun) ≡ Some k → slice_get (kinds_of cs) b ≡ Some k
next-column n b cs view k h e f =
    ap (slice_get (kinds_of cs)) (sym (length-begun n b cs h)) ∙ (ap (λ (v : BegunView). slice_get v.kinds (length v.begun)) e ∙ f)

-- ---- the end of a row

blank-more : (n : ℕ) → blank_rows (suc n) ≡ blank_rows n ++ [] ∷ []
blank-more zero = refl
blank-more (suc n) = ap (λ (l : List (List Value)). [] ∷ l) (blank-more n)

beside-end : (vs : List Value) (rs : List (List Value)) (r : List Value) (n : ℕ) → length vs ≡ n + 1 → length rs ≡ n
    → beside vs (rs ++ r ∷ []) ≡ beside vs rs ++ (option_to_list (slice_get vs n) ++ r) ∷ []
beside-end [] rs r n h k = absurd (omega (arith, h))
beside-end (v ∷ []) [] r zero h k = refl
beside-end (v ∷ w ∷ vs) [] r zero h k = absurd (omega (arith, h))
beside-end (v ∷ vs) [] r (suc n) h k = absurd (omega (arith, k))
beside-end (v ∷ vs) (q ∷ rs) r zero h k = absurd (omega (arith, k))
beside-end (v ∷ vs) (q ∷ rs) r (suc n) h k = ap (λ (l : List (List Value)). (v ∷ q) ∷ l) (beside-end vs rs r n (omega (arith, h)) (omega (arith, k)))

pub row-ended : (n b : ℕ) (cs : List ColumnView) → AreBegun n b cs → b ≡ length cs → rows_of (n + 1) cs ≡ rows_of n cs ++ begun_of n b cs ∷ []
row-ended n zero [] h e = let k : n + 1 ≡ suc n = omega arith in rw k (blank-more n)
row-ended n (suc b) [] h e = absurd (omega (arith, e))
row-ended n zero (c ∷ cs) h e = absurd (omega (arith, e))
row-ended n (suc b) (c ∷ cs) h e =
    ap (beside c.values) (row-ended n b cs h.1 (omega (arith, e)))
    ∙ beside-end c.values (rows_of n cs) (begun_of n b cs) n h.0 (length-begun_rows n b cs h.1)

pub all-ended : (n b : ℕ) (cs : List ColumnView) → AreBegun n b cs → b ≡ length cs → AreBegun (n + 1) 0 cs
all-ended n b [] h e = refl
all-ended n zero (c ∷ cs) h e = absurd (omega (arith, e))
all-ended n (suc b) (c ∷ cs) h e = (h.0, all-ended n b cs h.1 (omega (arith, e)))

pub begun-long : (n b : ℕ) (cs : List ColumnView) → AreBegun n b cs → b ≡ 0 → AreLong n cs
begun-long n b [] h e = tt
begun-long n zero (c ∷ cs) h e = (h.0, begun-long n 0 cs h.1 refl)
begun-long n (suc b) (c ∷ cs) h e = absurd (omega (arith, e))

pub length-kinds_of : (cs : List ColumnView) → length (kinds_of cs) ≡ length cs
length-kinds_of [] = refl
length-kinds_of (c ∷ cs) = let r = length-kinds_of cs in omega (arith, r)

pub first-long : (n b : ℕ) (cs : List ColumnView) (x : ColumnView) → AreBegun n b cs → b ≡ length cs → 0 < length cs → x ≡ get_or cs 0 x → length x.values ≡ n + 1
first-long n b [] x h e p f = absurd (omega (arith, p))
first-long n zero (c ∷ cs) x h e p f = absurd (omega (arith, e))
first-long n (suc b) (c ∷ cs) x h e p f = ap (λ (d : ColumnView). length d.values) f ∙ h.0

pub whole-begun : (n b : ℕ) (cs : List ColumnView) (view : BegunView) → AreBegun n b cs → rows_begun n b cs ≡ view → length view.begun ≡ length view.kinds → b ≡ length cs
whole-begun n b cs view h e f =
    sym (length-begun n b cs h) ∙ (ap (λ (v : BegunView). length v.begun) e ∙ (f ∙ (ap (λ (v : BegunView). length v.kinds) (sym e) ∙ length-kinds_of cs)))

pub ended-seen : (n b : ℕ) (cs : List ColumnView) (view : BegunView) → AreBegun n b cs → b ≡ length cs → rows_begun n b cs ≡ view
    → rows_begun (n + 1) 0 cs ≡ record view { rows = view.rows ++ view.begun ∷ []; begun = [] }
ended-seen n b cs view h e f = subst (λ (w : BegunView). rows_begun (n + 1) 0 cs ≡ record w { rows = w.rows ++ w.begun ∷ []; begun = [] }) f (seen (row-ended n b cs h e))
  where
    seen : {r s : List (List Value)} → r ≡ s → ◌≡◌ {A = BegunView} (record { kinds = kinds_of cs; rows = r; begun = [] }) (record { kinds = kinds_of cs; rows = s; begun = [] })
    seen g = cc

-- ---- none yet

pub none-begun : (cs : List Column) → AreBegun 0 0 (no_values cs)
none-begun [] = refl
none-begun (c ∷ cs) = (refl, none-begun cs)

pub none-seen : (cs : List Column) → rows_begun 0 0 (no_values cs) ≡ record { kinds = kinds_in cs; rows = []; begun = [] }
none-seen cs = seen (kinds-none cs) (rows-none cs)
  where
    kinds-none : (cs : List Column) → kinds_of (no_values cs) ≡ kinds_in cs
    kinds-none [] = refl
    kinds-none (c ∷ cs) = ap (λ (l : List Kind). c.kind ∷ l) (kinds-none cs)

    rows-none : (cs : List Column) → rows_of 0 (no_values cs) ≡ []
    rows-none [] = refl
    rows-none (c ∷ cs) = refl

    seen : {k l : List Kind} {r s : List (List Value)} → k ≡ l → r ≡ s → ◌≡◌ {A = BegunView} (record { kinds = k; rows = r; begun = [] }) (record { kinds = l; rows = s; begun = [] })
    seen e f = cc
