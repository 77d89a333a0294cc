-- The bytes of rows that lie in columns, and those that a hasher was given.
use Rattle.std.proofs.Common.{◌≡◌, ℕ, zero, suc, ◌+◌, ◌<◌, true, List, [], ◌∷◌, ◌++◌, length, take, get_or, slice_get, append_assoc, append-nil, refl, sym, ap, subst, ◌∙◌, arith}
use Rattle.std.proofs.lemmas.List.{flat_map_more, take_more}
use Rattle.std.proofs.lemmas.Option.{get_or_from_slice_get}
use Rattle.std.proofs.lemmas.List.Elements.{All-head, All-tail, All-push}
use Rattle.std.specs.List.{All, flat_map}
use Rattle.std.specs.Option.{option_to_list}
use Rattle.std.specs.declared.option.Option.{Option}
use Rattle.std.specs.declared.option.Option.TheVariants.{Some, None}
use Rattle.sha2.specs.declared.Sha256.{Sha256}
use Rattle.sha2.specs.Hashers.{Holds256}
use Rattle.rmt_values.specs.declared.value.Value.{Value}
use Rattle.rmt_values.specs.declared.kind.Kind.{Kind}
use Rattle.rmt_values.specs.Rows.{is_value}
use Rattle.rmt_bytes.specs.Encoding.{IsInRange, value_bytes}
use Rattle.rmt_columns.specs.Columns.{ColumnView}
use Rattle.rmt_columns.specs.RowsByColumn.{AreLong, row_at, rows_of}
use Rattle.rmt_columns.proofs.RowsLemmas.{slice_get-rows_of}
use Rattle.rmt_block.specs.Blocks.{RowsFit, row_bytes}
use Rattle.rmt_block.proofs.BlockLemmas.{All-is_value-at}

-- ---- a row of columns

row_at-append : (i : ℕ) (cs ds : List ColumnView) → row_at i (cs ++ ds) ≡ row_at i cs ++ row_at i ds
row_at-append i [] ds = refl
row_at-append i (c ∷ cs) ds =
    ap (λ (l : List Value). option_to_list (slice_get c.values i) ++ l) (row_at-append i cs ds)
    ∙ sym (append_assoc (option_to_list (slice_get c.values i)) (row_at i cs) (row_at i ds))

-- the values of one more column
row_at-more : (i : ℕ) (cs : List ColumnView) (k : ℕ) (c : ColumnView) (o : Option Value) → k < length cs → c ≡ get_or cs k c → o ≡ slice_get c.values i →
    row_at i (take (k + 1) cs) ≡ row_at i (take k cs) ++ option_to_list o
row_at-more i cs k c o h e f =
    ap (row_at i) (take_more cs k c h) ∙ (row_at-append i (take k cs) (get_or cs k c ∷ [])
    ∙ ap (λ (l : List Value). row_at i (take k cs) ++ l)
    (append-nil (option_to_list (slice_get (get_or cs k c).values i))
    ∙ (ap (λ (d : ColumnView). option_to_list (slice_get d.values i)) (sym e) ∙ ap (λ (p : Option Value). option_to_list p) (sym f))))

-- a prefix of the row's values is written, and each is in range
pub record Written (before out : List ℕ) (values : List Value) : Type 0 where
  pub bytes : out ≡ before ++ row_bytes values
  pub in_range : All IsInRange values

pub written-none : (before : List ℕ) → Written before before []
written-none before = record { bytes = sym (append-nil before); in_range = λ k d l. absurd (omega (arith, l)) }

-- a column that has no such row
pub written-same : (before out : List ℕ) (i : ℕ) (cs : List ColumnView) (k : ℕ) (c : ColumnView) → k < length cs → c ≡ get_or cs k c → None ≡ slice_get c.values i →
    Written before out (row_at i (take k cs)) → Written before out (row_at i (take (k + 1) cs))
written-same before out i cs k c h e f w = subst (Written before out) (sym (row_at-more i cs k c None h e f ∙ append-nil (row_at i (take k cs)))) w

-- the value of one more column
pub written-more : (before out new : List ℕ) (i : ℕ) (cs : List ColumnView) (k : ℕ) (c : ColumnView) (v : Value) → k < length cs → c ≡ get_or cs k c → Some v ≡ slice_get c.values i →
    new ≡ out ++ value_bytes v → IsInRange v → Written before out (row_at i (take k cs)) → Written before new (row_at i (take (k + 1) cs))
written-more before out new i cs k c v h e f pushed here w =
    let values = row_at i (take k cs) in
    subst (Written before new) (sym (row_at-more i cs k c (Some v) h e f))
    (record {
      bytes = pushed ∙ (ap (λ (l : List ℕ). l ++ value_bytes v) w.bytes ∙ flat_map_more value_bytes before values v);
      in_range = All-push IsInRange values v w.in_range here;
    })

All-second : (P : Value → Type 0) (xs ys : List Value) → All P (xs ++ ys) → All P ys
All-second P [] ys h = h
All-second P (x ∷ xs) ys h = All-second P xs ys (All-tail P x (xs ++ ys) h)

-- what holds of a row's values holds of the one in a column
pub value-there : (P : Value → Type 0) (i : ℕ) (cs : List ColumnView) (k : ℕ) (c : ColumnView) (v : Value) → k < length cs → c ≡ get_or cs k c → Some v ≡ slice_get c.values i →
    All P (row_at i cs) → P v
value-there P i [] k c v h e f all = absurd (omega (arith, h))
value-there P i (d ∷ ds) zero c v h e f all =
    let o : Some v ≡ slice_get d.values i = f ∙ ap (λ (x : ColumnView). slice_get x.values i) e in
    All-head P v (row_at i ds) (subst (λ (x : Option Value). All P (option_to_list x ++ row_at i ds)) (sym o) all)
value-there P i (d ∷ ds) (suc k) c v h e f all =
    value-there P i ds k c v (omega (arith, h)) e f (All-second P (option_to_list (slice_get d.values i)) (row_at i ds) all)

-- ---- rows of columns

-- row i of the columns
pub row-there : (rows : List (List Value)) (cs : List ColumnView) (i : ℕ) → rows_of (length rows) cs ≡ rows → AreLong (length rows) cs → i < length rows →
    row_at i cs ≡ get_or rows i (row_at i cs)
row-there rows cs i e long h =
    sym (get_or_from_slice_get rows i (row_at i cs) (row_at i cs) (ap (λ (rs : List (List Value)). slice_get rs i) (sym e) ∙ slice_get-rows_of (length rows) cs i long h))

-- a row of columns has values
pub All-is_value-row : (kinds : List Kind) (rows : List (List Value)) (cs : List ColumnView) (i : ℕ) → RowsFit kinds rows → rows_of (length rows) cs ≡ rows →
    AreLong (length rows) cs → i < length rows → All (λ v. is_value v ≡ true) (row_at i cs)
All-is_value-row kinds rows cs i fit e long h = All-is_value-at kinds rows i (row_at i cs) fit h (row-there rows cs i e long h)

-- one more row is written
pub out-more : (out new head : List ℕ) (rows : List (List Value)) (i : ℕ) (row : List Value) → i < length rows → row ≡ get_or rows i row →
    new ≡ out ++ row_bytes row → out ≡ head ++ flat_map row_bytes (take i rows) → new ≡ head ++ flat_map row_bytes (take (i + 1) rows)
out-more out new head rows i row h e pushed so_far =
    let next : take (i + 1) rows ≡ take i rows ++ row ∷ [] = take_more rows i row h ∙ ap (λ (r : List Value). take i rows ++ r ∷ []) (sym e) in
    pushed ∙ (ap (λ (l : List ℕ). l ++ row_bytes row) so_far ∙ (flat_map_more row_bytes head (take i rows) row
    ∙ ap (λ (rs : List (List Value)). head ++ flat_map row_bytes rs) (sym next)))

-- ---- a hasher with its buffer

-- what the hasher was given, and then what is in the buffer
pub record Hashed (hasher : Sha256) (buffer all : List ℕ) : Type 0 where
  pub given : List ℕ
  pub holds : Holds256 hasher given
  pub whole : given ++ buffer ≡ all

-- all is in the buffer
pub hashed-none : (hasher : Sha256) (buffer all : List ℕ) → Holds256 hasher [] → buffer ≡ all → Hashed hasher buffer all
hashed-none hasher buffer all holds e = record { given = []; holds = holds; whole = e }

-- one more row is in the buffer
pub hashed-more : (hasher : Sha256) (buffer new head : List ℕ) (rows : List (List Value)) (i : ℕ) (row : List Value) → i < length rows → row ≡ get_or rows i row →
    new ≡ buffer ++ row_bytes row → Hashed hasher buffer (head ++ flat_map row_bytes (take i rows)) → Hashed hasher new (head ++ flat_map row_bytes (take (i + 1) rows))
hashed-more hasher buffer new head rows i row h e pushed hashed = record {
  given = hashed.given;
  holds = hashed.holds;
  whole = out-more (hashed.given ++ buffer) (hashed.given ++ new) head rows i row h e
      (ap (λ (l : List ℕ). hashed.given ++ l) pushed ∙ sym (append_assoc hashed.given buffer (row_bytes row))) hashed.whole;
}

-- what is in the buffer is given to the hasher
pub hashed-given : (hasher new : Sha256) (buffer rest all : List ℕ) → ((m : List ℕ) → Holds256 hasher m → Holds256 new (m ++ buffer)) → rest ≡ [] →
    Hashed hasher buffer all → Hashed new rest all
hashed-given hasher new buffer rest all update none hashed = record {
  given = hashed.given ++ buffer;
  holds = update hashed.given hashed.holds;
  whole = ap (λ (l : List ℕ). (hashed.given ++ buffer) ++ l) none ∙ (append-nil (hashed.given ++ buffer) ∙ hashed.whole);
}
