-- The rows of an INSERT fit the columns.
use Rattle.std.proofs.Common.{◌≡◌, ℕ, ◌+◌, ◌&&◌, List, [], ◌∷◌, length, refl, sym, subst, Bool, true, false, cond, Option, Some, None, Result, Ok, Err}
use Rattle.std.specs.Prelude.{nat_le, nat_lt, ◌^◌, ◌==◌, ◌-ℤ◌, pos, slice_get, IfOk}
use Rattle.std.specs.List.{All}
use Rattle.std.proofs.lemmas.List.Elements.{All-nil, All-cons}
use Rattle.rmt_values.specs.declared.value.Value.{Value}
use Rattle.rmt_values.specs.declared.value.Value.TheVariants.{UInt, Int, Text}
use Rattle.rmt_values.specs.declared.kind.Kind.{Kind}
use Rattle.rmt_values.specs.declared.kind.Kind.TheVariants as kinds
use Rattle.rmt_values.specs.declared.literal.Literal.{Literal}
use Rattle.rmt_values.specs.declared.literal.Literal.TheVariants as literals
use Rattle.rmt_values.specs.declared.column.Column.{Column}
use Rattle.rmt_values.specs.Rows.{is_of, fits}
use Rattle.rmt_sql_tokens.specs.Tokens.{value_of}
use Rattle.rmt_statements.specs.declared.offered.Offered.{Offered}
use Rattle.rmt_statements.specs.declared.offered.Offered.TheVariants.{Values, Csv}
use Rattle.rmt_sql_rows.specs.InsertedRows.{is_number, digits_value, numeral_value, field_value, absent, cell_value, cell_at, value_at, with_value, row_values, row_of, rows_from, places_in}
use Rattle.rmt_values.specs.Literals.{number_value, text_value, literal_value}
use Rattle.rmt_sql_rows.specs.Inserts.{AreInsertedRows}
use Rattle.rmt_sql_rows.proofs.Fields.{next_ok}

-- ---- values

chosen : (b : Bool) (kind : Kind) (w v : Value) → is_of kind w ≡ true → cond b (Some w) None ≡ Some v → is_of kind v ≡ true
chosen true kind w v is h = (let same : w ≡ v = cc in subst (λ u. is_of kind u ≡ true) same is)
chosen false kind w v is h = absurd cc

number_fits : (kind : Kind) (minus : Bool) (size : ℕ) (v : Value) → number_value kind minus size ≡ Some v → is_of kind v ≡ true
number_fits kinds.UInt64 false size v h = chosen (nat_lt size (2 ^ 64)) kinds.UInt64 (UInt size) v refl h
number_fits kinds.UInt64 true size v h = absurd cc
number_fits kinds.Int64 false size v h = chosen (nat_lt size (2 ^ 63)) kinds.Int64 (Int (pos size)) v refl h
number_fits kinds.Int64 true size v h = chosen (nat_le size (2 ^ 63)) kinds.Int64 (Int (pos 0 -ℤ pos size)) v refl h
number_fits kinds.Text minus size v h = absurd cc

short_fits : (b : Bool) (bytes : List ℕ) (v : Value) → nat_le (length bytes) 65535 ≡ b → cond b (Some (Text bytes)) None ≡ Some v → is_of kinds.Text v ≡ true
short_fits true bytes v short h = (let same : Text bytes ≡ v = cc in subst (λ u. is_of kinds.Text u ≡ true) same short)
short_fits false bytes v short h = absurd cc

text_fits : (kind : Kind) (bytes : List ℕ) (v : Value) → text_value kind bytes ≡ Some v → is_of kind v ≡ true
text_fits kinds.Text bytes v h = short_fits (nat_le (length bytes) 65535) bytes v refl h
text_fits kinds.UInt64 bytes v h = absurd cc
text_fits kinds.Int64 bytes v h = absurd cc

literal_fits : (kind : Kind) (l : Literal) (v : Value) → literal_value kind l ≡ Some v → is_of kind v ≡ true
literal_fits kind (literals.Number minus size) v h = number_fits kind minus size v h
literal_fits kind (literals.Text bytes) v h = text_fits kind bytes v h

digits_fits : (kind : Kind) (minus : Bool) (digits : List ℕ) (v : Value) → digits_value kind minus digits ≡ Some v → is_of kind v ≡ true
digits_fits kind minus digits v h = go (is_number digits) h
  where
    go : (b : Bool) → cond b (number_value kind minus (value_of digits)) None ≡ Some v → is_of kind v ≡ true
    go true h = number_fits kind minus (value_of digits) v h
    go false h = absurd cc

numeral_fits : (kind : Kind) (bytes : List ℕ) (v : Value) → numeral_value kind bytes ≡ Some v → is_of kind v ≡ true
numeral_fits kind [] v h = absurd cc
numeral_fits kind (b ∷ bs) v h = go (b == 45) h
  where
    go : (w : Bool) → cond w (digits_value kind true bs) (digits_value kind false (b ∷ bs)) ≡ Some v → is_of kind v ≡ true
    go true h = digits_fits kind true bs v h
    go false h = digits_fits kind false (b ∷ bs) v h

field_fits : (kind : Kind) (bytes : List ℕ) (v : Value) → field_value kind bytes ≡ Some v → is_of kind v ≡ true
field_fits kinds.UInt64 bytes v h = numeral_fits kinds.UInt64 bytes v h
field_fits kinds.Int64 bytes v h = numeral_fits kinds.Int64 bytes v h
field_fits kinds.Text bytes v h = text_fits kinds.Text bytes v h

absent_fits : (kind : Kind) → is_of kind (absent kind) ≡ true
absent_fits kinds.UInt64 = refl
absent_fits kinds.Int64 = refl
absent_fits kinds.Text = refl

-- ---- rows

-- each value that there is is one of its column
abbrev pub Fits : {X : Type 0} → (Kind → X → Option Value) → Type 0
Fits {X} valued = (kind : Kind) (x : X) (v : Value) → valued kind x ≡ Some v → is_of kind v ≡ true

-- each value that a cell has is one of its column
abbrev pub CellsFit : (Kind → ℕ → Option Value) → Type 0
CellsFit cell = (kind : Kind) (i : ℕ) (v : Value) → cell kind i ≡ Some v → is_of kind v ≡ true

cells_fit : {X : Type 0} (valued : Kind → X → Option Value) → Fits valued → (cells : List X) → CellsFit (cell_at valued cells)
cells_fit {X} valued each cells kind i v h = go (slice_get cells i) h
  where
    go : (o : Option X) → cell_value valued kind o ≡ Some v → is_of kind v ≡ true
    go None h = absurd cc
    go (Some x) h = each kind x v h

value_fits : (cell : Kind → ℕ → Option Value) → CellsFit cell → (kind : Kind) (place : Option ℕ) (v : Value) → value_at cell kind place ≡ Some v → is_of kind v ≡ true
value_fits cell each kind None v h = (let same : absent kind ≡ v = cc in subst (λ u. is_of kind u ≡ true) same (absent_fits kind))
value_fits cell each kind (Some i) v h = each kind i v h

row_parts : (o : Option Value) (rest : Option (List Value)) (vs : List Value) → with_value o rest ≡ Some vs → (v : Value) × (more : List Value) × (o ≡ Some v) × (rest ≡ Some more) × (vs ≡ v ∷ more)
row_parts None rest vs h = absurd cc
row_parts (Some v) None vs h = absurd cc
row_parts (Some v) (Some more) vs h = (v, more, refl, refl, cc)

both : (a b : Bool) → a ≡ true → b ≡ true → a && b ≡ true
both a b ha hb = rw (ha, hb) refl

values_fit : (cell : Kind → ℕ → Option Value) → CellsFit cell → (columns : List Column) (places : List (Option ℕ)) (vs : List Value) → row_values cell columns places ≡ Some vs → fits columns vs ≡ true
values_fit cell each [] places vs h = (let none : [] ≡ vs = cc in subst (λ l. fits [] l ≡ true) none refl)
values_fit cell each (c ∷ cs) [] vs h = absurd cc
values_fit cell each (c ∷ cs) (p ∷ ps) vs h =
    let (v, more, one, rest, parts) = row_parts (value_at cell c.kind p) (row_values cell cs ps) vs h in
    subst (λ l. fits (c ∷ cs) l ≡ true) (sym parts) (both (is_of c.kind v) (fits cs more) (value_fits cell each c.kind p v one) (values_fit cell each cs ps more rest))

row_fits : {X : Type 0} (valued : Kind → X → Option Value) → Fits valued → (columns : List Column) (places : List (Option ℕ)) (named : ℕ) (cells : List X) (vs : List Value) → row_of valued columns places named cells ≡ Some vs → fits columns vs ≡ true
row_fits valued each columns places named cells vs h = go (length cells == named) h
  where
    go : (b : Bool) → cond b (row_values (cell_at valued cells) columns places) None ≡ Some vs → fits columns vs ≡ true
    go true h = values_fit (cell_at valued cells) (cells_fit valued each cells) columns places vs h
    go false h = absurd cc

abbrev pub AllFit : List Column → List (List Value) → Type 0
AllFit columns rows = All (λ row. fits columns row ≡ true) rows

rows_fit : {X : Type 0} (made : X → Option (List Value)) (columns : List Column) → ((x : X) (row : List Value) → made x ≡ Some row → fits columns row ≡ true) → (n : ℕ) (xs : List X) (rows : List (List Value)) → rows_from made n xs ≡ Ok rows → AllFit columns rows
rows_fit made columns each n [] rows h = (let none : [] ≡ rows = cc in subst (AllFit columns) none (All-nil (λ row. fits columns row ≡ true)))
rows_fit made columns each n (x ∷ xs) rows h =
    let (row, more, one, rest, parts) = next_ok n (made x) (rows_from made (n + 1) xs) rows h in
    subst (AllFit columns) (sym parts) (All-cons (λ row. fits columns row ≡ true) row more (each x row one) (rows_fit made columns each (n + 1) xs more rest))

rows_of_insert_fit : (columns : List Column) (named : List (List ℕ)) (insert_rows : Offered) (rows : List (List Value)) → AreInsertedRows columns named insert_rows rows → AllFit columns rows
rows_of_insert_fit columns named (Values tuples) rows are =
    rows_fit (row_of literal_value columns (places_in named columns) (length named)) columns (λ cells row is. row_fits literal_value literal_fits columns (places_in named columns) (length named) cells row is) 1 tuples rows are
rows_of_insert_fit columns named (Csv bytes) rows (records, read, are) =
    rows_fit (row_of field_value columns (places_in named columns) (length named)) columns (λ cells row is. row_fits field_value field_fits columns (places_in named columns) (length named) cells row is) 1 records rows are

-- a result's rows, which are of an INSERT, fit
pub inserted_rows_fit : {A E : Type 0} (result : Result A E) (items : A → List (List Value)) (columns : List Column) (named : List (List ℕ)) (insert_rows : Offered) → IfOk result (λ all. AreInsertedRows columns named insert_rows (items all)) → IfOk result (λ all. AllFit columns (items all))
inserted_rows_fit (Ok all) items columns named insert_rows are = rows_of_insert_fit columns named insert_rows (items all) are
inserted_rows_fit (Err e) items columns named insert_rows are = tt
