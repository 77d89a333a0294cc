-- Fields of records as elements of lists, and one row more.
use Rattle.std.proofs.Common.{◌≡◌, ◌∙◌, ℕ, zero, suc, ◌+◌, List, [], ◌∷◌, ◌++◌, length, refl, ap, sym, Option, Some, None, Result, Ok, Err, arith}
use Rattle.std.specs.Prelude.{slice_get}
use Rattle.csv.specs.Records.{field_at}
use Rattle.rmt_values.specs.declared.value.Value.{Value}
use Rattle.rmt_sql_rows.specs.InsertedRows.{rows_from, next_row}

pub field_is : (fs : List (List ℕ)) (i : ℕ) → field_at fs i ≡ slice_get fs i
unfolding field_at
field_is [] i = refl
field_is (f ∷ fs) zero = refl
field_is (f ∷ fs) (suc i) = field_is fs i

pub next_ok : (n : ℕ) (o : Option (List Value)) (rest : Result (List (List Value)) ℕ) (rows : List (List Value)) → next_row n o rest ≡ Ok rows → (row : List Value) × (more : List (List Value)) × (o ≡ Some row) × (rest ≡ Ok more) × (rows ≡ row ∷ more)
next_ok n None rest rows h = absurd cc
next_ok n (Some row) (Err m) rows h = absurd cc
next_ok n (Some row) (Ok more) rows h = (row, more, refl, refl, cc)

next_both : (n : ℕ) (o : Option (List Value)) (rest : Result (List (List Value)) ℕ) (row : List Value) (more : List (List Value)) → o ≡ Some row → rest ≡ Ok more → next_row n o rest ≡ Ok (row ∷ more)
next_both n o rest row more h k = rw (h, k) refl

-- one record more that is a row
pub row_more : {X : Type 0} (made : X → Option (List Value)) (n : ℕ) (xs : List X) (x : X) (rows : List (List Value)) (row : List Value) → rows_from made n xs ≡ Ok rows → made x ≡ Some row → rows_from made n (xs ++ x ∷ []) ≡ Ok (rows ++ row ∷ [])
row_more made n [] x rows row h is = (let e : [] ≡ rows = cc in rw is (ap (λ l. Ok (l ++ row ∷ [])) e))
row_more made n (y ∷ ys) x rows row h is =
    let (first, more, e1, e2, e3) = next_ok n (made y) (rows_from made (n + 1) ys) rows h in
    let rec = row_more made (n + 1) ys x more row e2 is in
    next_both n (made y) (rows_from made (n + 1) (ys ++ x ∷ [])) first (more ++ row ∷ []) e1 rec ∙ ap (λ l. Ok (l ++ row ∷ [])) (sym e3)

-- one that is none
pub row_bad : {X : Type 0} (made : X → Option (List Value)) (n m : ℕ) (xs : List X) (x : X) (rows : List (List Value)) → rows_from made n xs ≡ Ok rows → made x ≡ None → m ≡ n + length rows → rows_from made n (xs ++ x ∷ []) ≡ Err m
row_bad made n m [] x rows h is place =
    let e : [] ≡ rows = cc in
    let l : 0 ≡ length rows = ap (λ l. length l) e in
    let same : n ≡ m = omega (arith, place, l) in
    rw is (ap (λ k. Err k) same)
row_bad made n m (y ∷ ys) x rows h is place =
    let (first, more, e1, e2, e3) = next_ok n (made y) (rows_from made (n + 1) ys) rows h in
    let l : length rows ≡ suc (length more) = ap (λ l. length l) e3 in
    let rec = row_bad made (n + 1) m ys x more e2 is (omega (arith, place, l)) in
    rw (e1, rec) refl
