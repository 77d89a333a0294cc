-- The columns of rows that fit a schema make these rows.
use Rattle.std.proofs.Common.{◌≡◌, ℕ, zero, suc, ◌+◌, ◌<◌, true, List, [], ◌∷◌, ◌++◌, map, length, slice_get, get_or, take, drop, refl, sym, ap, ◌∙◌, subst, arith}
use Rattle.std.proofs.lemmas.Bool.{and_parts}
use Rattle.std.proofs.lemmas.List.Elements.{recursion_from_All}
use Rattle.std.specs.List.{All, AllByRecursion}
use Rattle.std.specs.Option.{option_to_list}
use Rattle.std.specs.declared.option.Option.{Option}
use Rattle.std.specs.declared.option.Option.TheVariants.{Some}
use Rattle.rmt_values.specs.declared.value.Value.{Value}
use Rattle.rmt_values.specs.declared.column.Column.{Column}
use Rattle.rmt_values.specs.declared.kind.Kind.{Kind}
use Rattle.rmt_values.specs.Rows.{fits, is_of, kind_of, kind_at}
use Rattle.rmt_columns.specs.Columns.{ColumnView}
use Rattle.rmt_columns.specs.RowsByColumn.{beside, blank_rows, rows_of, kinds_of, kinds_in, AreLong, AreOfKind, AreTyped}
use Rattle.rmt_columns.proofs.RowsLemmas.{kinds-fit}
use Rattle.rmt_granules.specs.Granules.{PartView}
use Rattle.rmt_granules.specs.declared.place.Place.{Place}
use Rattle.rmt_granules.specs.Places.{row_in, cells_of, columns_from}

-- the type of the first value of a row that fits
head-kind : (c : Column) (cs : List Column) (v : Value) (vs : List Value) → fits (c ∷ cs) (v ∷ vs) ≡ true → kind_of v ≡ c.kind
head-kind c cs v vs h = let e = kinds-fit (c ∷ cs) (v ∷ vs) h in cc

-- ---- one column

-- the first column of rows from one on, and the others
pub record Divided (at : ℕ) (c : Column) (cs : List Column) (rows : List (List Value)) : Type 0 where
  pub even : length (cells_of at rows) ≡ length rows
  pub is : beside (cells_of at rows) (map (drop (suc at)) rows) ≡ map (drop at) rows
  pub typed : AreOfKind c.kind (cells_of at rows)
  pub fit : AllByRecursion (λ row. fits cs (drop (suc at) row) ≡ true) rows

-- the first value of a row from one on
record First (at : ℕ) (c : Column) (cs : List Column) (row : List Value) : Type 0 where
  pub value : Value
  pub here : slice_get row at ≡ Some value
  pub is : value ∷ drop (suc at) row ≡ drop at row
  pub typed : kind_of value ≡ c.kind
  pub fit : fits cs (drop (suc at) row) ≡ true

first-of : (at : ℕ) (c : Column) (cs : List Column) (row : List Value) → fits (c ∷ cs) (drop at row) ≡ true → First at c cs row
first-of zero c cs [] h = absurd (cc)
first-of (suc at) c cs [] h = absurd (cc)
first-of zero c cs (v ∷ vs) h =
    let both = and_parts (is_of c.kind v) (fits cs vs) h in
    record {
      value = v;
      here = refl;
      is = refl;
      typed = head-kind c cs v vs h;
      fit = both.1;
    }
first-of (suc at) c cs (v ∷ vs) h =
    let f = first-of at c cs vs h in
    record { value = f.value; here = f.here; is = f.is; typed = f.typed; fit = f.fit }

pub divided : (at : ℕ) (c : Column) (cs : List Column) (rows : List (List Value)) → AllByRecursion (λ row. fits (c ∷ cs) (drop at row) ≡ true) rows → Divided at c cs rows
divided at c cs [] h = record { even = refl; is = refl; typed = tt; fit = tt }
divided at c cs (row ∷ rows) h =
    let f = first-of at c cs row h.0 in
    let d = divided at c cs rows h.1 in
    let cells : cells_of at (row ∷ rows) ≡ f.value ∷ cells_of at rows = ap (λ (o : Option Value). option_to_list o ++ cells_of at rows) f.here in
    record {
      even = ap length cells ∙ ap suc d.even;
      is = ap (λ (l : List Value). beside l (map (drop (suc at)) (row ∷ rows))) cells
          ∙ (ap (λ (r : List Value). r ∷ beside (cells_of at rows) (map (drop (suc at)) rows)) f.is
          ∙ ap (λ (l : List (List Value)). drop at row ∷ l) d.is);
      typed = subst (AreOfKind c.kind) (sym cells) (f.typed, d.typed);
      fit = (f.fit, d.fit);
    }

-- ---- all columns

blank-rest : (at : ℕ) (rows : List (List Value)) → AllByRecursion (λ row. fits [] (drop at row) ≡ true) rows → blank_rows (length rows) ≡ map (drop at) rows
blank-rest at [] h = refl
blank-rest at (row ∷ rows) h = ap (λ (r : List Value). r ∷ blank_rows (length rows)) (none (drop at row) h.0) ∙ ap (λ (l : List (List Value)). drop at row ∷ l) (blank-rest at rows h.1)
  where
    none : (r : List Value) → fits [] r ≡ true → [] ≡ r
    none [] e = refl
    none (v ∷ vs) e = absurd (cc)

rows-from : (at : ℕ) (cs : List Column) (rows : List (List Value)) → AllByRecursion (λ row. fits cs (drop at row) ≡ true) rows
    → rows_of (length rows) (columns_from at cs rows) ≡ map (drop at) rows
rows-from at [] rows h = blank-rest at rows h
rows-from at (c ∷ cs) rows h =
    let d = divided at c cs rows h in
    ap (beside (cells_of at rows)) (rows-from (suc at) cs rows d.fit) ∙ d.is

long-from : (at : ℕ) (cs : List Column) (rows : List (List Value)) → AllByRecursion (λ row. fits cs (drop at row) ≡ true) rows → AreLong (length rows) (columns_from at cs rows)
long-from at [] rows h = tt
long-from at (c ∷ cs) rows h = let d = divided at c cs rows h in (d.even, long-from (suc at) cs rows d.fit)

typed-from : (at : ℕ) (cs : List Column) (rows : List (List Value)) → AllByRecursion (λ row. fits cs (drop at row) ≡ true) rows → AreTyped (columns_from at cs rows)
typed-from at [] rows h = tt
typed-from at (c ∷ cs) rows h = let d = divided at c cs rows h in (d.typed, typed-from (suc at) cs rows d.fit)

kinds-from : (at : ℕ) (cs : List Column) (rows : List (List Value)) → kinds_of (columns_from at cs rows) ≡ kinds_in cs
kinds-from at [] rows = refl
kinds-from at (c ∷ cs) rows = ap (λ (l : List Kind). c.kind ∷ l) (kinds-from (suc at) cs rows)

whole-rows : (rows : List (List Value)) → map (drop 0) rows ≡ rows
whole-rows [] = refl
whole-rows (r ∷ rs) = ap (λ (l : List (List Value)). r ∷ l) (whole-rows rs)

-- the columns of rows that fit, and the rows that they make
pub record HaveColumns (cs : List Column) (rows : List (List Value)) : Type 0 where
  pub long : AreLong (length rows) (columns_from 0 cs rows)
  pub typed : AreTyped (columns_from 0 cs rows)
  pub are : rows_of (length rows) (columns_from 0 cs rows) ≡ rows
  pub kinds : kinds_of (columns_from 0 cs rows) ≡ kinds_in cs

pub have-columns : (cs : List Column) (rows : List (List Value)) → All (λ row. fits cs row ≡ true) rows → HaveColumns cs rows
have-columns cs rows h =
    let f = recursion_from_All (λ row. fits cs row ≡ true) rows h in
    record { long = long-from 0 cs rows f; typed = typed-from 0 cs rows f; are = rows-from 0 cs rows f ∙ whole-rows rows; kinds = kinds-from 0 cs rows }

-- ---- one column after the other

column-from : (cs : List Column) (i d : ℕ) (c : ColumnView) (rows : List (List Value)) → i < length cs → kind_at cs i ≡ Some c.kind → c.values ≡ cells_of (d + i) rows
    → columns_from d (take i cs) rows ++ c ∷ [] ≡ columns_from d (take (i + 1) cs) rows
column-from [] i d c rows h k v = absurd (omega (arith, h))
column-from (y ∷ ys) zero d c rows h k v =
    let n : d + 0 ≡ d = omega arith in
    ap (λ (l : ColumnView). l ∷ []) (seen c.kind y.kind c.values (cells_of d rows) (let s : c.kind ≡ y.kind = cc in s) (v ∙ ap (λ (m : ℕ). cells_of m rows) n))
  where
    seen : (a b : Kind) (us vs : List Value) → a ≡ b → us ≡ vs → ◌≡◌ {A = ColumnView} (record { kind = a; values = us }) (record { kind = b; values = vs })
    seen a b us vs e f = cc
column-from (y ∷ ys) (suc i) d c rows h k v =
    let n : d + suc i ≡ suc d + i = omega arith in
    let m : suc i + 1 ≡ suc (i + 1) = omega arith in
    ap (λ (l : List ColumnView). record { kind = y.kind; values = cells_of d rows } ∷ l) (column-from ys i (suc d) c rows (omega (arith, h)) k (v ∙ ap (λ (p : ℕ). cells_of p rows) n))
    ∙ ap (λ (p : ℕ). columns_from d (take p (y ∷ ys)) rows) (sym m)

pub column-next : (cs : List Column) (i : ℕ) (c : ColumnView) (rows : List (List Value)) → i < length cs → kind_at cs i ≡ Some c.kind → c.values ≡ cells_of i rows
    → columns_from 0 (take i cs) rows ++ c ∷ [] ≡ columns_from 0 (take (i + 1) cs) rows
column-next cs i c rows h k v = let n : 0 + i ≡ i = omega arith in column-from cs i 0 c rows h k (v ∙ ap (λ (m : ℕ). cells_of m rows) (sym n))

-- ---- one value

fit-cell : (cs : List Column) (row : List Value) (at : ℕ) (v : Value) (k : Kind) → fits cs row ≡ true → slice_get row at ≡ Some v → kind_at cs at ≡ Some k → kind_of v ≡ k
fit-cell [] row at v k h e f = absurd (cc)
fit-cell (x ∷ xs) [] at v k h e f = absurd (cc)
fit-cell (x ∷ xs) (w ∷ ws) zero v k h e f = ap kind_of (let s : v ≡ w = cc in s) ∙ (head-kind x xs w ws h ∙ (let s : x.kind ≡ k = cc in s))
fit-cell (x ∷ xs) (w ∷ ws) (suc at) v k h e f =
    let both = and_parts (is_of x.kind w) (fits xs ws) h in
    fit-cell xs ws at v k both.1 e f

mapped-fit : (cs : List Column) (parts : List PartView) (ps : List Place) (i : ℕ) (p : Place) → All (λ row. fits cs row ≡ true) (map (row_in parts) ps) → i < length ps → p ≡ get_or ps i p
    → fits cs (row_in parts p) ≡ true
mapped-fit cs parts ps i p h l e = go ps i l e (recursion_from_All (λ row. fits cs row ≡ true) (map (row_in parts) ps) h)
  where
    go : (qs : List Place) (i : ℕ) → i < length qs → p ≡ get_or qs i p → AllByRecursion (λ row. fits cs row ≡ true) (map (row_in parts) qs) → fits cs (row_in parts p) ≡ true
    go [] i l e a = absurd (omega (arith, l))
    go (q ∷ qs) zero l e a = ap (λ (x : Place). fits cs (row_in parts x)) e ∙ a.0
    go (q ∷ qs) (suc i) l e a = go qs i (omega (arith, l)) e a.1

-- the type of a value of a column in the row at a place
pub cell-kind : (cs : List Column) (parts : List PartView) (ps : List Place) (i at : ℕ) (p : Place) (v : Value) (k : Kind) → All (λ row. fits cs row ≡ true) (map (row_in parts) ps) → i < length ps → p ≡ get_or ps i p
    → Some v ≡ slice_get (row_in parts p) at → kind_at cs at ≡ Some k → kind_of v ≡ k
cell-kind cs parts ps i at p v k h l e f g = fit-cell cs (row_in parts p) at v k (mapped-fit cs parts ps i p h l e) (sym f) g
