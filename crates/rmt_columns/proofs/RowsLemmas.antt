-- The rows that columns make: how many, each of them, and their cells.
use Rattle.std.proofs.Common.{◌≡◌, ℕ, zero, suc, ◌<◌, ◌≤◌, true, List, [], ◌∷◌, ◌++◌, map, length, slice_get, get_or, refl, sym, ap, ◌∙◌, subst, arith}
use Rattle.std.proofs.lemmas.List.{length-append}
use Rattle.std.proofs.lemmas.Bool.{and_parts}
use Rattle.std.specs.Option.{option_to_list}
use Rattle.std.specs.declared.option.Option.{Option}
use Rattle.std.specs.declared.option.Option.TheVariants.{Some, None}
use Rattle.std.specs.Cmp.Lexicographic.{slice_cmp}
use Rattle.rmt_values.specs.declared.value.Value.{Value}
use Rattle.rmt_values.specs.declared.column.Column.{Column}
use Rattle.rmt_values.specs.declared.kind.Kind.{Kind}
use Rattle.rmt_values.specs.declared.kind.Kind.TheVariants as kinds
use Rattle.rmt_values.specs.Rows.{AllBelow, fits, is_of, same_kind, is_value, kind_of, key_of, key_cmp, cell_cmp}
use Rattle.rmt_columns.specs.Columns.{ColumnView}
use Rattle.rmt_columns.specs.Places.{at_places}
use Rattle.rmt_columns.specs.RowsByColumn.{beside, blank_rows, rows_of, kinds_of, kinds_in, AreLong, RowsView, rows_held, row_at, cell_in, cells_cmp}
use Rattle.rmt_columns.proofs.PlacesLemmas.{some-there}

length-blank_rows : (n : ℕ) → length (blank_rows n) ≡ n
length-blank_rows zero = refl
length-blank_rows (suc n) = let r = length-blank_rows n in omega (arith, r)

length-beside : (vs : List Value) (rs : List (List Value)) → length vs ≡ length rs → length (beside vs rs) ≡ length rs
length-beside [] [] h = refl
length-beside [] (r ∷ rs) h = absurd (omega (arith, h))
length-beside (v ∷ vs) [] h = refl
length-beside (v ∷ vs) (r ∷ rs) h = let i = length-beside vs rs (omega (arith, h)) in omega (arith, i)

pub length-rows_of : (n : ℕ) (cs : List ColumnView) → AreLong n cs → length (rows_of n cs) ≡ n
length-rows_of n [] h = length-blank_rows n
length-rows_of n (c ∷ cs) h =
    let i = length-rows_of n cs h.1 in length-beside c.values (rows_of n cs) (h.0 ∙ sym i) ∙ i

-- ---- a row of columns

slice_get-blank_rows : (n i : ℕ) → i < n → slice_get (blank_rows n) i ≡ Some []
slice_get-blank_rows zero i h = absurd (omega (arith, h))
slice_get-blank_rows (suc n) zero h = refl
slice_get-blank_rows (suc n) (suc i) h = slice_get-blank_rows n i (omega (arith, h))

slice_get-beside : (vs : List Value) (rs : List (List Value)) (i : ℕ) (r : List Value) → i < length vs → slice_get rs i ≡ Some r
    → slice_get (beside vs rs) i ≡ Some (option_to_list (slice_get vs i) ++ r)
slice_get-beside [] rs i r h e = absurd (omega (arith, h))
slice_get-beside (v ∷ vs) [] i r h e = absurd (cc)
slice_get-beside (v ∷ vs) (q ∷ rs) zero r h e = cc
slice_get-beside (v ∷ vs) (q ∷ rs) (suc i) r h e = slice_get-beside vs rs i r (omega (arith, h)) e

pub slice_get-rows_of : (n : ℕ) (cs : List ColumnView) (i : ℕ) → AreLong n cs → i < n → slice_get (rows_of n cs) i ≡ Some (row_at i cs)
slice_get-rows_of n [] i h p = slice_get-blank_rows n i p
slice_get-rows_of n (c ∷ cs) i h p =
    let w = h.0 in slice_get-beside c.values (rows_of n cs) i (row_at i cs) (omega (arith, w, p)) (slice_get-rows_of n cs i h.1 p)

same-kinds : (a b : Kind) → same_kind a b ≡ true → a ≡ b
same-kinds kinds.UInt64 kinds.UInt64 h = refl
same-kinds kinds.UInt64 kinds.Int64 h = absurd (cc)
same-kinds kinds.UInt64 kinds.Text h = absurd (cc)
same-kinds kinds.Int64 kinds.UInt64 h = absurd (cc)
same-kinds kinds.Int64 kinds.Int64 h = refl
same-kinds kinds.Int64 kinds.Text h = absurd (cc)
same-kinds kinds.Text kinds.UInt64 h = absurd (cc)
same-kinds kinds.Text kinds.Int64 h = absurd (cc)
same-kinds kinds.Text kinds.Text h = refl

-- a row that fits has the columns' types
pub kinds-fit : (cs : List Column) (row : List Value) → fits cs row ≡ true → map kind_of row ≡ kinds_in cs
kinds-fit [] [] h = refl
kinds-fit [] (v ∷ vs) h = absurd (cc)
kinds-fit (c ∷ cs) [] h = absurd (cc)
kinds-fit (c ∷ cs) (v ∷ vs) h =
    let w = and_parts (is_of c.kind v) (fits cs vs) h in
    let u = and_parts (same_kind (kind_of v) c.kind) (is_value v) w.0 in
    ap (λ (k : Kind). k ∷ map kind_of vs) (same-kinds (kind_of v) c.kind u.0)
    ∙ ap (λ (l : List Kind). c.kind ∷ l) (kinds-fit cs vs w.1)

-- ---- cells

pub kinds-at : (a b : List ColumnView) (at : ℕ) (x y : ColumnView) → kinds_of a ≡ kinds_of b → x ≡ get_or a at x → y ≡ get_or b at y → at < length a → y.kind ≡ x.kind
kinds-at [] b at x y k e f h = absurd (omega (arith, h))
kinds-at (c ∷ cs) [] at x y k e f h = absurd (cc)
kinds-at (c ∷ cs) (d ∷ ds) zero x y k e f h = cc
kinds-at (c ∷ cs) (d ∷ ds) (suc at) x y k e f h = kinds-at cs ds at x y (cc) e f (omega (arith, h))

pub length-kinds : (a b : List ColumnView) → kinds_of a ≡ kinds_of b → length a ≡ length b
length-kinds [] [] k = refl
length-kinds [] (d ∷ ds) k = absurd (cc)
length-kinds (c ∷ cs) [] k = absurd (cc)
length-kinds (c ∷ cs) (d ∷ ds) k = let r = length-kinds cs ds (cc) in omega (arith, r)

pub cell-at : (cs : List ColumnView) (i at : ℕ) (x : ColumnView) → x ≡ get_or cs at x → at < length cs → slice_get x.values i ≡ cell_in cs i at
cell-at [] i at x e h = absurd (omega (arith, h))
cell-at (c ∷ cs) i zero x e h = ap (λ (d : ColumnView). slice_get d.values i) e
cell-at (c ∷ cs) i (suc at) x e h = cell-at cs i at x e (omega (arith, h))

pub cell-missing : (cs : List ColumnView) (i at : ℕ) → length cs ≤ at → cell_in cs i at ≡ None
cell-missing [] i at h = refl
cell-missing (c ∷ cs) i zero h = absurd (omega (arith, h))
cell-missing (c ∷ cs) i (suc at) h = cell-missing cs i at (omega (arith, h))

blank-cell : (n i c : ℕ) → slice_get (get_or (blank_rows n) i []) c ≡ None
blank-cell zero i c = refl
blank-cell (suc n) zero c = refl
blank-cell (suc n) (suc i) c = blank-cell n i c

beside-first : (vs : List Value) (rs : List (List Value)) (i : ℕ) → length vs ≡ length rs → slice_get (get_or (beside vs rs) i []) 0 ≡ slice_get vs i
beside-first [] rs i h = refl
beside-first (v ∷ vs) [] i h = absurd (omega (arith, h))
beside-first (v ∷ vs) (r ∷ rs) zero h = refl
beside-first (v ∷ vs) (r ∷ rs) (suc i) h = beside-first vs rs i (omega (arith, h))

beside-later : (vs : List Value) (rs : List (List Value)) (i c : ℕ) → length vs ≡ length rs → slice_get (get_or (beside vs rs) i []) (suc c) ≡ slice_get (get_or rs i []) c
beside-later [] [] i c h = refl
beside-later [] (r ∷ rs) i c h = absurd (omega (arith, h))
beside-later (v ∷ vs) [] i c h = refl
beside-later (v ∷ vs) (r ∷ rs) zero c h = refl
beside-later (v ∷ vs) (r ∷ rs) (suc i) c h = beside-later vs rs i c (omega (arith, h))

-- a value of a row of columns
pub row-cell : (n : ℕ) (cs : List ColumnView) (i c : ℕ) → AreLong n cs → slice_get (get_or (rows_of n cs) i []) c ≡ cell_in cs i c
row-cell n [] i c l = blank-cell n i c
row-cell n (x ∷ xs) i zero l = beside-first x.values (rows_of n xs) i (l.0 ∙ sym (length-rows_of n xs l.1))
row-cell n (x ∷ xs) i (suc c) l = beside-later x.values (rows_of n xs) i c (l.0 ∙ sym (length-rows_of n xs l.1)) ∙ row-cell n xs i c l.1

key-cells : (key : List ℕ) (n : ℕ) (cs : List ColumnView) (i : ℕ) → AreLong n cs → key_of key (get_or (rows_of n cs) i []) ≡ map (λ c. cell_in cs i c) key
key-cells [] n cs i l = refl
key-cells (k ∷ ks) n cs i l = ap (λ (o : Option Value). o ∷ key_of ks (get_or (rows_of n cs) i [])) (row-cell n cs i k l) ∙ ap (λ (os : List (Option Value)). cell_in cs i k ∷ os) (key-cells ks n cs i l)

-- rows of columns by their keys
pub cells-keys : (key : List ℕ) (n m : ℕ) (a b : List ColumnView) (i j : ℕ) → AreLong n a → AreLong m b → cells_cmp key a i b j ≡ key_cmp key (get_or (rows_of n a) i []) (get_or (rows_of m b) j [])
cells-keys key n m a b i j l k =
    ap (λ (x : List (Option Value)). slice_cmp cell_cmp x (map (λ c. cell_in b j c) key)) (sym (key-cells key n a i l))
    ∙ ap (λ (x : List (Option Value)). slice_cmp cell_cmp (key_of key (get_or (rows_of n a) i [])) x) (sym (key-cells key m b j k))

-- ---- rows at places

missing : {X : Type 0} (xs : List X) (i : ℕ) → None ≡ slice_get xs i → i < length xs → ⊥
missing [] i e h = omega (arith, h)
missing (x ∷ xs) zero e h = absurd (cc)
missing (x ∷ xs) (suc i) e h = missing xs i e (omega (arith, h))

one-beside : (vs : List Value) (rs : List (List Value)) (i : ℕ) (is : List ℕ) → i < length vs → i < length rs
    → beside (at_places vs is) (at_places rs is) ≡ at_places (beside vs rs) is
    → beside (option_to_list (slice_get vs i) ++ at_places vs is) (option_to_list (slice_get rs i) ++ at_places rs is) ≡ option_to_list (slice_get (beside vs rs) i) ++ at_places (beside vs rs) is
one-beside vs rs i is h k rest = go (slice_get vs i) (slice_get rs i) refl refl
  where
    go : (o : Option Value) (p : Option (List Value)) → o ≡ slice_get vs i → p ≡ slice_get rs i
        → beside (option_to_list (slice_get vs i) ++ at_places vs is) (option_to_list (slice_get rs i) ++ at_places rs is) ≡ option_to_list (slice_get (beside vs rs) i) ++ at_places (beside vs rs) is
    go None p e f = absurd (missing vs i e h)
    go (Some v) None e f = absurd (missing rs i f k)
    go (Some v) (Some r) e f =
        ap (λ (x : Option Value). beside (option_to_list x ++ at_places vs is) (option_to_list (slice_get rs i) ++ at_places rs is)) (sym e)
        ∙ (ap (λ (x : Option (List Value)). beside (v ∷ at_places vs is) (option_to_list x ++ at_places rs is)) (sym f)
        ∙ (ap (λ (l : List (List Value)). (v ∷ r) ∷ l) rest
        ∙ ap (λ (x : Option (List Value)). option_to_list x ++ at_places (beside vs rs) is) (sym (slice_get-beside vs rs i r h (sym f) ∙ ap (λ (x : Option Value). Some (option_to_list x ++ r)) (sym e)))))

at-beside : (n : ℕ) (vs : List Value) (rs : List (List Value)) (is : List ℕ) → length vs ≡ n → length rs ≡ n → AllBelow n is
    → beside (at_places vs is) (at_places rs is) ≡ at_places (beside vs rs) is
at-beside n vs rs [] h k b = refl
at-beside n vs rs (i ∷ is) h k b = let w = b.0 in one-beside vs rs i is (omega (arith, h, w)) (omega (arith, k, w)) (at-beside n vs rs is h k b.1)

at-blank : (n : ℕ) (is : List ℕ) → AllBelow n is → blank_rows (length is) ≡ at_places (blank_rows n) is
at-blank n [] b = refl
at-blank n (i ∷ is) b =
    ap (λ (l : List (List Value)). [] ∷ l) (at-blank n is b.1)
    ∙ ap (λ (x : Option (List Value)). option_to_list x ++ at_places (blank_rows n) is) (sym (slice_get-blank_rows n i b.0))

-- the columns with the values at places
abbrev pub columns_at : List ℕ → List ColumnView → List ColumnView
columns_at is cs = map (λ (c : ColumnView). record c { values = at_places c.values is }) cs

pub rows-at : (n : ℕ) (cs : List ColumnView) (is : List ℕ) → AreLong n cs → AllBelow n is → rows_of (length is) (columns_at is cs) ≡ at_places (rows_of n cs) is
rows-at n [] is l b = at-blank n is b
rows-at n (c ∷ cs) is l b =
    ap (λ (rs : List (List Value)). beside (at_places c.values is) rs) (rows-at n cs is l.1 b)
    ∙ at-beside n c.values (rows_of n cs) is l.0 (length-rows_of n cs l.1) b

pub length-at : {X : Type 0} (xs : List X) (is : List ℕ) → AllBelow (length xs) is → length (at_places xs is) ≡ length is
length-at xs [] b = refl
length-at xs (i ∷ is) b =
    let r = length-at xs is b.1 in
    let s = some-there xs i b.0 in
    let a = length-append (option_to_list (slice_get xs i)) (at_places xs is) in
    omega (arith, r, s, a)

pub long-at : (n : ℕ) (cs : List ColumnView) (is : List ℕ) → AreLong n cs → AllBelow n is → AreLong (length is) (columns_at is cs)
long-at n [] is l b = tt
long-at n (c ∷ cs) is l b = (length-at c.values is (subst (λ (k : ℕ). AllBelow k is) (sym l.0) b), long-at n cs is l.1 b)

pub kinds-at-places : (cs : List ColumnView) (is : List ℕ) → kinds_of (columns_at is cs) ≡ kinds_of cs
kinds-at-places [] is = refl
kinds-at-places (c ∷ cs) is = ap (λ (l : List Kind). c.kind ∷ l) (kinds-at-places cs is)

pub long-each : (n : ℕ) (cs : List ColumnView) (k : ℕ) (x : ColumnView) → AreLong n cs → k < length cs → x ≡ get_or cs k x → length x.values ≡ n
long-each n [] k x l h e = absurd (omega (arith, h))
long-each n (c ∷ cs) zero x l h e = ap (λ (d : ColumnView). length d.values) e ∙ l.0
long-each n (c ∷ cs) (suc k) x l h e = long-each n cs k x l.1 (omega (arith, h)) e

pub gathered-seen : (n : ℕ) (cs : List ColumnView) (is : List ℕ) (view : RowsView) → AreLong n cs → rows_held n cs ≡ view → AllBelow n is
    → rows_held (length is) (columns_at is cs) ≡ record view { rows = at_places view.rows is }
gathered-seen n cs is view l e b = subst (λ (w : RowsView). rows_held (length is) (columns_at is cs) ≡ record w { rows = at_places w.rows is }) e (seen (kinds-at-places cs is) (rows-at n cs is l b))
  where
    seen : {k m : List Kind} {r s : List (List Value)} → k ≡ m → r ≡ s → ◌≡◌ {A = RowsView} (record { kinds = k; rows = r }) (record { kinds = m; rows = s })
    seen e f = cc
