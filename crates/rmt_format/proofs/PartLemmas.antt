-- A part is decoded from its bytes.
use Rattle.std.proofs.Common.{◌≡◌, ℕ, ◌≤◌, ◌*◌, suc, cond, ltb, true, List, [], ◌∷◌, ◌++◌, length, drop, Option, Some, None, refl, sym, ap, subst, ◌∙◌, append_assoc, arith}
use Rattle.std.specs.Int.{w32, to_be_bytes}
use Rattle.sha2.specs.Sha256.{sha256}
use Rattle.std.specs.List.{flat_map}
use Rattle.std.specs.List.Sorted.{IsSorted}
use Rattle.std.proofs.lemmas.Bool.{le-ltb, cond-false}
use Rattle.std.proofs.lemmas.List.{drop_at}
use Rattle.std.proofs.lemmas.Option.{some_pair_parts}
use Rattle.std.proofs.lemmas.List.Elements.{recursion_from_All}
use Rattle.rmt_values.specs.declared.value.Value.{Value}
use Rattle.rmt_values.specs.declared.column.Column.{Column}
use Rattle.rmt_values.specs.Rows.{Shape, fits, key_cmp}
use Rattle.rmt_values.specs.Schemas.{IsSchema}
use Rattle.std.specs.Borrow.{Bor}
use Rattle.std.specs.declared.result.Result.TheVariants.{Err}
use Rattle.rmt_bytes.specs.declared.decode_error.DecodeError.{DecodeError}
use Rattle.rmt_bytes.specs.declared.decode_error.DecodeError.TheVariants as errors
use Rattle.rmt_bytes.specs.Decoding.{Fails, decode_number, mapped}
use Rattle.rmt_bytes.proofs.Codes.{◌>>=◌}
use Rattle.rmt_bytes.proofs.NumberCodes.{number32}
use Rattle.rmt_granules.specs.Granules.{PartView, IsPart}
use Rattle.rmt_granules.specs.MadePart.{data_of}
use Rattle.rmt_granules.specs.Places.{columns_from}
use Rattle.rmt_granules.proofs.ColumnLemmas.{HaveColumns, have-columns}
use Rattle.rmt_columns.specs.RowsByColumn.{kinds_in, no_values, rows_of}
use Rattle.rmt_granules.proofs.Made.{part-made}
use Rattle.rmt_granules.proofs.Marks.{enough-granules}
use Rattle.rmt_granules.proofs.MergeLemmas.{merged-sorted}
use Rattle.rmt_format.specs.PartBytes.{HasPartBytes, AreInRange, head_bytes, data_bytes, rows_bytes, row_bytes, part_body, part_bytes, granules_bytes}
use Rattle.rmt_format.specs.PartDecoding.{IsReadAs, decode_all, decode_granules, decode_rows}
use Rattle.rmt_format.proofs.GranuleLemmas.{few-granules}
use Rattle.rmt_format.proofs.AgainLemmas.{granules-again}

length-kinds_in : (columns : List Column) → length (kinds_in columns) ≡ length columns
length-kinds_in [] = refl
length-kinds_in (c ∷ cs) = ap suc (length-kinds_in cs)

-- such a part keeps its order and marks
is-part : (shape : Shape) (part : PartView) → IsSchema shape → HasPartBytes shape part → IsPart part
is-part shape part schema has =
    subst IsPart (sym has.of_schema.is)
    (part-made shape part.rows schema has.of_schema.fit (subst (IsSorted (key_cmp shape.key)) has.of_schema.ordered (merged-sorted shape part.rows)))

-- the bytes after the head, part by part
data-parts : (part : PartView) (rest : List ℕ)
    → data_bytes part ++ rest ≡ to_be_bytes w32 (length part.rows) ++ (to_be_bytes w32 (length part.marks) ++ (rows_bytes part ++ (flat_map row_bytes part.marks ++ rest)))
unfolding data_bytes
data-parts part rest = simp append_assoc

-- the bytes of a whole part, the head before the others
pub whole-parts : (shape : Shape) (part : PartView) → (rest : List ℕ) × (part_bytes shape part ≡ head_bytes shape ++ (data_bytes part ++ rest))
unfolding part_bytes part_body
whole-parts shape part = (sha256 (part_body shape part), append_assoc (head_bytes shape) (data_bytes part) (sha256 (part_body shape part)))

-- the rows are decoded from the bytes after the head
pub rows-again : (shape : Shape) (part : PartView) (rest : List ℕ) → IsSchema shape → HasPartBytes shape part → AreInRange part.rows
    → decode_rows shape.columns shape.granularity (data_bytes part ++ rest) ≡ Some (part.rows, flat_map row_bytes part.marks ++ rest)
unfolding decode_rows
rows-again shape part rest schema has held =
    let is = is-part shape part schema has in
    let few = few-granules part is in
    let after = flat_map row_bytes part.marks ++ rest in
    let granularity : part.granularity ≡ shape.granularity = ap (λ (p : PartView). p.granularity) has.of_schema.is in
    let width : length part.kinds ≡ length shape.columns = ap (λ (p : PartView). length p.kinds) has.of_schema.is ∙ length-kinds_in shape.columns in
    let bytes : rows_bytes part ++ after ≡ granules_bytes (length shape.columns) shape.granularity (length part.marks) part.rows ++ after =
    ap (λ (k : ℕ). granules_bytes k part.granularity (length part.marks) part.rows ++ after) width
    ∙ ap (λ (n : ℕ). granules_bytes (length shape.columns) n (length part.marks) part.rows ++ after) granularity in
    let enough = subst (λ (n : ℕ). length part.rows ≤ length part.marks * n) granularity (enough-granules part is) in
    let read : decode_granules (no_values shape.columns) shape.granularity (length part.marks) (length part.rows) (rows_bytes part ++ after) ≡ Some (columns_from 0 shape.columns part.rows, after) =
    ap (decode_granules (no_values shape.columns) shape.granularity (length part.marks) (length part.rows)) bytes
    ∙ granules-again shape.columns shape.granularity (length part.marks) part.rows after
    (recursion_from_All (λ row. fits shape.columns row ≡ true) part.rows has.of_schema.fit) held enough in
    let rows : decode_all shape.columns shape.granularity (length part.marks) (length part.rows) (rows_bytes part ++ after) ≡ Some (part.rows, after) =
    ap (mapped (rows_of (length part.rows))) read
    ∙ ap (λ (l : List (List Value)). Some (l, after)) (HaveColumns.are (have-columns shape.columns part.rows has.of_schema.fit)) in
    ap (decode_rows shape.columns shape.granularity) (data-parts part rest)
    ∙ ap (λ (o : Option (ℕ × List ℕ)). o >>= λ r. decode_number w32 r.1 >>= λ g. cond (ltb r.0 g.0) None (decode_all shape.columns shape.granularity g.0 r.0 g.1))
    (number32.again (length part.rows) (to_be_bytes w32 (length part.marks) ++ (rows_bytes part ++ after)) has.few_rows)
    ∙ ap (λ (o : Option (ℕ × List ℕ)). o >>= λ g. cond (ltb (length part.rows) g.0) None (decode_all shape.columns shape.granularity g.0 (length part.rows) g.1))
    (number32.again (length part.marks) (rows_bytes part ++ after) (omega (arith, few, has.few_rows)))
    ∙ cond-false (ltb (length part.rows) (length part.marks)) None (decode_all shape.columns shape.granularity (length part.marks) (length part.rows) (rows_bytes part ++ after))
    (le-ltb (length part.rows) (length part.marks) few)
    ∙ rows

-- ---- where reading fails

-- that the head isn't there isn't so of a part's bytes
pub head-fails : {X : Type 0} (view : X → List (List Value)) (shape : Shape) (part : PartView) (bytes : List ℕ) (e : DecodeError)
    → ((rest : List ℕ) → bytes ≡ head_bytes shape ++ rest → IsReadAs {X = Bor (List ℕ)} (λ x. x.now) rest (Err e))
    → bytes ≡ part_bytes shape part → IsReadAs view part.rows (Err e)
head-fails view shape part bytes errors.Memory fails is = tt
head-fails view shape part bytes errors.Malformed fails is = let whole = whole-parts shape part in absurd (fails (data_bytes part ++ whole.0) (is ∙ whole.1))

-- that there are no rows isn't so where there are
pub rows-fail : {X : Type 0} (view : X → List (List Value)) (rows : List (List Value)) (rest : List ℕ) (read : Option (List (List Value) × List ℕ)) (e : DecodeError)
    → Fails e read → read ≡ Some (rows, rest) → IsReadAs view rows (Err e)
rows-fail view rows rest read errors.Memory fails is = tt
rows-fail view rows rest read errors.Malformed fails is = absurd (let clash = sym fails ∙ is in cc)

-- the rows of a part are what is read from its bytes after the head
pub rows-read : (shape : Shape) (columns : List Column) (size : ℕ) (part : PartView) (bytes after : List ℕ) → columns ≡ shape.columns → size ≡ shape.granularity → IsSchema shape
    → ((rest : List ℕ) → bytes ≡ head_bytes shape ++ rest → after ≡ rest) → HasPartBytes shape part → AreInRange part.rows → bytes ≡ part_bytes shape part
    → (rest : List ℕ) × (decode_rows columns size after ≡ Some (part.rows, rest))
rows-read shape columns size part bytes after c n schema found has held is =
    let whole = whole-parts shape part in
    let there = found (data_bytes part ++ whole.0) (is ∙ whole.1) in (
      flat_map row_bytes part.marks ++ whole.0,
      ap (decode_rows columns size) there ∙ ap (λ (l : List Column). decode_rows l size (data_bytes part ++ whole.0)) c
          ∙ ap (λ (k : ℕ). decode_rows shape.columns k (data_bytes part ++ whole.0)) n ∙ rows-again shape part whole.0 schema has held,
    )

-- ---- one spelling

cancel : (head xs ys : List ℕ) → head ++ xs ≡ head ++ ys → xs ≡ ys
cancel head xs ys e = sym (drop_at head xs (length head) refl) ∙ ap (drop (length head)) e ∙ drop_at head ys (length head) refl

-- parts that have the same bytes are the same part
pub same-part : (shape : Shape) (a b : PartView) → IsSchema shape → HasPartBytes shape a → HasPartBytes shape b → AreInRange a.rows → AreInRange b.rows
    → part_bytes shape a ≡ part_bytes shape b → a ≡ b
same-part shape a b schema has-a has-b held-a held-b e =
    let whole-a = whole-parts shape a in
    let whole-b = whole-parts shape b in
    let after = cancel (head_bytes shape) (data_bytes a ++ whole-a.0) (data_bytes b ++ whole-b.0) (sym whole-a.1 ∙ e ∙ whole-b.1) in
    let same = sym (rows-again shape a whole-a.0 schema has-a held-a) ∙ ap (decode_rows shape.columns shape.granularity) after ∙ rows-again shape b whole-b.0 schema has-b held-b in
    let rows = some_pair_parts a.rows b.rows (flat_map row_bytes a.marks ++ whole-a.0) (flat_map row_bytes b.marks ++ whole-b.0) same in
    has-a.of_schema.is ∙ ap (data_of shape) rows.0 ∙ sym has-b.of_schema.is
