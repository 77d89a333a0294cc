-- Rows that fit the types of a block, and the types of a schema's columns.
use Rattle.std.proofs.Common.{◌≡◌, ℕ, ◌+◌, ◌<◌, ◌≤◌, ◌&&◌, true, List, [], ◌∷◌, ◌++◌, length, take, get_or, refl, sym, ap, subst, ◌∙◌, rules}
use Rattle.std.proofs.lemmas.Bool.{and_parts}
use Rattle.std.proofs.lemmas.List.{take_all}
use Rattle.std.proofs.lemmas.List.Elements.{All-nil, All-cons, All-more}
use Rattle.std.specs.List.{All, flat_map}
use Rattle.rmt_values.specs.declared.value.Value.{Value}
use Rattle.rmt_values.specs.declared.kind.Kind.{Kind}
use Rattle.rmt_values.specs.declared.column.Column.{Column}
use Rattle.rmt_values.specs.Rows.{fits, is_of, is_value, same_kind, kind_of}
use Rattle.rmt_columns.specs.RowsByColumn.{kinds_in}
use Rattle.rmt_block.specs.Blocks.{RowsFit, row_fits, head_bytes, row_bytes, block_bytes}

-- the values of a row that fits are values
pub All-is_value : (ks : List Kind) (vs : List Value) → row_fits ks vs ≡ true → All (λ v. is_value v ≡ true) vs
All-is_value [] [] h = All-nil (λ v. is_value v ≡ true)
All-is_value [] (v ∷ vs) h = absurd (cc)
All-is_value (k ∷ ks) [] h = absurd (cc)
All-is_value (k ∷ ks) (v ∷ vs) h =
    let parts = and_parts (is_of k v) (row_fits ks vs) h in
    All-cons (λ v. is_value v ≡ true) v vs (and_parts (same_kind (kind_of v) k) (is_value v) parts.0).1 (All-is_value ks vs parts.1)

-- the same of one of the rows
pub All-is_value-at : (ks : List Kind) (rows : List (List Value)) (i : ℕ) (row : List Value) →
    RowsFit ks rows → i < length rows → row ≡ get_or rows i row → All (λ v. is_value v ≡ true) row
All-is_value-at ks rows i row h l e =
    let P : List Value → Type 0 = λ r. row_fits ks r ≡ true in All-is_value ks row (subst P (sym e) (h i row l))

-- a row fits columns as it fits their types
pub row_fits-kinds_in : (columns : List Column) (row : List Value) → row_fits (kinds_in columns) row ≡ fits columns row
row_fits-kinds_in [] [] = refl
row_fits-kinds_in [] (v ∷ vs) = refl
row_fits-kinds_in (k ∷ ks) [] = refl
row_fits-kinds_in (k ∷ ks) (v ∷ vs) = ap (λ b. is_of k.kind v && b) (row_fits-kinds_in ks vs)

-- rows that fit columns fit their types
pub RowsFit-kinds_in : (columns : List Column) (kinds : List Kind) (rows : List (List Value)) →
    kinds ≡ kinds_in columns → All (λ row. fits columns row ≡ true) rows → RowsFit kinds rows
RowsFit-kinds_in columns kinds rows e h k d l =
    let P : List Kind → Type 0 = λ ks. row_fits ks (get_or rows k d) ≡ true in
    subst P (sym e) (row_fits-kinds_in columns (get_or rows k d) ∙ h k d l)

-- the bytes after the last row are those of the block
pub block_bytes-all : (kinds : List Kind) (rows all : List (List Value)) (i : ℕ) → rows ≡ all → length rows ≤ i →
    head_bytes kinds (length rows) ++ flat_map row_bytes (take i rows) ≡ block_bytes kinds all
unfolding block_bytes
block_bytes-all kinds rows all i e h =
    let whole : take i rows ≡ rows = search (rules, take_all) in
    rw (whole, e) refl

-- what holds of a prefix and of the element after it holds of the prefix with that element
pub All-take-at : {X : Type 0} (P : X → Type 0) (xs : List X) (i : ℕ) (x : X) → i < length xs → x ≡ get_or xs i x →
    All P (take i xs) → P x → All P (take (i + 1) xs)
All-take-at P xs i x l e prefix here = All-more P xs i x l prefix (subst P e here)
