-- The bytes of rows tell the rows and their types.
use Rattle.std.proofs.Common.{ℤ, ◌≡◌, ℕ, ◌<◌, ◌^◌, true, Option, List, [], ◌∷◌, ◌++◌, length, map, refl, sym, ap, subst, ◌∙◌, arith, FitsSigned}
use Rattle.std.proofs.lemmas.Bool.{and_parts, leb-true}
use Rattle.std.proofs.lemmas.List.{append_assoc}
use Rattle.std.proofs.lemmas.List.Elements.{recursion_from_All}
use Rattle.std.proofs.lemmas.Nat.{from_be_bytes-to_be_bytes_2, from_be_bytes-to_be_bytes_4, from_be_bytes-to_be_bytes_8}
use Rattle.std.proofs.lemmas.Int.{to_z-of_z}
use Rattle.std.proofs.Math.Facts.{Fits-of_z}
use Rattle.std.specs.Int.{w16, w32, w64, to_be_bytes, from_be_bytes, cast_unsigned, cast_signed}
use Rattle.std.specs.List.{All, flat_map, AllByRecursion}
use Rattle.rmt_values.specs.declared.value.Value.{Value}
use Rattle.rmt_values.specs.declared.value.Value.TheVariants.{UInt, Int, Text}
use Rattle.rmt_values.specs.declared.kind.Kind.{Kind}
use Rattle.rmt_values.specs.declared.kind.Kind.TheVariants as kinds
use Rattle.rmt_values.specs.Rows.{is_of, is_value, same_kind, kind_of}
use Rattle.rmt_bytes.specs.Encoding.{kind_byte, value_bytes, IsInRange}
use Rattle.rmt_block.specs.Blocks.{row_fits, RowsFit, row_bytes, head_bytes, block_bytes, AreRowsOf, BlockView, IsBlock, id_of}
use Rattle.rmt_block.specs.declared.block_id.BlockId.{BlockId}

-- lists whose prefixes are of one length are equal where their prefixes and their rests are
pub append_inj : (a b x y : List ℕ) → length a ≡ length b → a ++ x ≡ b ++ y → (a ≡ b) × (x ≡ y)
append_inj [] [] x y h e = (refl, e)
append_inj [] (c ∷ b) x y h e = absurd (omega arith)
append_inj (c ∷ a) [] x y h e = absurd (omega arith)
append_inj (c ∷ a) (d ∷ b) x y h e =
    let rest : a ++ x ≡ b ++ y = cc in
    let both = append_inj a b x y (omega arith) rest in
    (cc, both.1)

-- two bytes at the start tell their number
pub two_bytes_inj : (m n : ℕ) (x y : List ℕ) → m < 2 ^ 16 → n < 2 ^ 16 →
    to_be_bytes w16 m ++ x ≡ to_be_bytes w16 n ++ y → (m ≡ n) × (x ≡ y)
two_bytes_inj m n x y p q e =
    let both = append_inj (to_be_bytes w16 m) (to_be_bytes w16 n) x y refl e in
    (sym (from_be_bytes-to_be_bytes_2 m p) ∙ ap (from_be_bytes w16) both.0 ∙ from_be_bytes-to_be_bytes_2 n q, both.1)

-- four bytes at the start tell their number
pub four_bytes_inj : (m n : ℕ) (x y : List ℕ) → m < 2 ^ 32 → n < 2 ^ 32 →
    to_be_bytes w32 m ++ x ≡ to_be_bytes w32 n ++ y → (m ≡ n) × (x ≡ y)
four_bytes_inj m n x y p q e =
    let both = append_inj (to_be_bytes w32 m) (to_be_bytes w32 n) x y refl e in
    (sym (from_be_bytes-to_be_bytes_4 m p) ∙ ap (from_be_bytes w32) both.0 ∙ from_be_bytes-to_be_bytes_4 n q, both.1)

-- eight bytes at the start tell their number
pub eight_bytes_inj : (m n : ℕ) (x y : List ℕ) → m < 2 ^ 64 → n < 2 ^ 64 →
    to_be_bytes w64 m ++ x ≡ to_be_bytes w64 n ++ y → (m ≡ n) × (x ≡ y)
eight_bytes_inj m n x y p q e =
    let both = append_inj (to_be_bytes w64 m) (to_be_bytes w64 n) x y refl e in
    (sym (from_be_bytes-to_be_bytes_8 m p) ∙ ap (from_be_bytes w64) both.0 ∙ from_be_bytes-to_be_bytes_8 n q, both.1)

-- a value is of its own type alone
pub kind_of-is : (k : Kind) (v : Value) → is_of k v ≡ true → kind_of v ≡ k
kind_of-is kinds.UInt64 (UInt n) h = refl
kind_of-is kinds.UInt64 (Int z) h = absurd (cc)
kind_of-is kinds.UInt64 (Text s) h = absurd (cc)
kind_of-is kinds.Int64 (UInt n) h = absurd (cc)
kind_of-is kinds.Int64 (Int z) h = refl
kind_of-is kinds.Int64 (Text s) h = absurd (cc)
kind_of-is kinds.Text (UInt n) h = absurd (cc)
kind_of-is kinds.Text (Int z) h = absurd (cc)
kind_of-is kinds.Text (Text s) h = refl

-- the length of a String fits two bytes
pub length-is_value : (s : List ℕ) → is_value (Text s) ≡ true → length s < 2 ^ 16
length-is_value s h = let at = leb-true (length s) 65535 h in omega arith

-- a signed number's two's complement has 64 bits
pub below-FitsSigned : (z : ℤ) → FitsSigned w64 z → cast_unsigned w64 z < 2 ^ 64
below-FitsSigned z h = let f = Fits-of_z {w = w64} h in omega arith

-- values of one type are told by their bytes at the start
pub value_bytes-inj : (v w : Value) (x y : List ℕ) → kind_of v ≡ kind_of w → is_value v ≡ true → is_value w ≡ true →
    IsInRange v → IsInRange w → value_bytes v ++ x ≡ value_bytes w ++ y → (v ≡ w) × (x ≡ y)
value_bytes-inj (UInt m) (UInt n) x y k g h p q e =
    let both = eight_bytes_inj m n x y p q e in (ap UInt both.0, both.1)
value_bytes-inj (Int m) (Int n) x y k g h p q e =
    let both = eight_bytes_inj (cast_unsigned w64 m) (cast_unsigned w64 n) x y (below-FitsSigned m p) (below-FitsSigned n q) e in
    (ap Int (sym (to_z-of_z w64 m p) ∙ ap (cast_signed w64) both.0 ∙ to_z-of_z w64 n q), both.1)
value_bytes-inj (Text s) (Text t) x y k g h p q e =
    let apart : to_be_bytes w16 (length s) ++ (s ++ x) ≡ to_be_bytes w16 (length t) ++ (t ++ y) = e in
    let lengths = two_bytes_inj (length s) (length t) (s ++ x) (t ++ y) (length-is_value s g) (length-is_value t h) apart in
    let both = append_inj s t x y lengths.0 lengths.1 in (ap Text both.0, both.1)
value_bytes-inj (UInt m) (Int n) x y k g h p q e = absurd (cc)
value_bytes-inj (UInt m) (Text t) x y k g h p q e = absurd (cc)
value_bytes-inj (Int m) (UInt n) x y k g h p q e = absurd (cc)
value_bytes-inj (Int m) (Text t) x y k g h p q e = absurd (cc)
value_bytes-inj (Text s) (UInt n) x y k g h p q e = absurd (cc)
value_bytes-inj (Text s) (Int n) x y k g h p q e = absurd (cc)

-- rows of the same types are told by their bytes at the start
pub row_bytes-inj : (ks : List Kind) (vs ws : List Value) (x y : List ℕ) → row_fits ks vs ≡ true → row_fits ks ws ≡ true →
    AllByRecursion IsInRange vs → AllByRecursion IsInRange ws → row_bytes vs ++ x ≡ row_bytes ws ++ y → (vs ≡ ws) × (x ≡ y)
row_bytes-inj [] [] [] x y g h p q e = (refl, e)
row_bytes-inj [] [] (w ∷ ws) x y g h p q e = absurd (cc)
row_bytes-inj [] (v ∷ vs) ws x y g h p q e = absurd (cc)
row_bytes-inj (k ∷ ks) [] ws x y g h p q e = absurd (cc)
row_bytes-inj (k ∷ ks) (v ∷ vs) [] x y g h p q e = absurd (cc)
row_bytes-inj (k ∷ ks) (v ∷ vs) (w ∷ ws) x y g h p q e =
    let left = and_parts (is_of k v) (row_fits ks vs) g in
    let right = and_parts (is_of k w) (row_fits ks ws) h in
    let apart : value_bytes v ++ (row_bytes vs ++ x) ≡ value_bytes w ++ (row_bytes ws ++ y) =
    sym (append_assoc (value_bytes v) (row_bytes vs) x) ∙ e ∙ append_assoc (value_bytes w) (row_bytes ws) y in
    let first = value_bytes-inj v w (row_bytes vs ++ x) (row_bytes ws ++ y) (kind_of-is k v left.0 ∙ sym (kind_of-is k w right.0))
    (and_parts (same_kind (kind_of v) k) (is_value v) left.0).1 (and_parts (same_kind (kind_of w) k) (is_value w) right.0).1 p.0 q.0 apart in
    let rest = row_bytes-inj ks vs ws x y left.1 right.1 p.1 q.1 first.1 in
    (cc, rest.1)

-- as many rows of the same types are told by their bytes
pub rows_bytes-inj : (ks : List Kind) (r s : List (List Value)) → length r ≡ length s →
    AllByRecursion (λ row. row_fits ks row ≡ true) r → AllByRecursion (λ row. row_fits ks row ≡ true) s →
    AllByRecursion (λ row. All IsInRange row) r → AllByRecursion (λ row. All IsInRange row) s →
    flat_map row_bytes r ≡ flat_map row_bytes s → r ≡ s
rows_bytes-inj ks [] [] l g h p q e = refl
rows_bytes-inj ks [] (b ∷ s) l g h p q e = absurd (omega arith)
rows_bytes-inj ks (a ∷ r) [] l g h p q e = absurd (omega arith)
rows_bytes-inj ks (a ∷ r) (b ∷ s) l g h p q e =
    let first = row_bytes-inj ks a b (flat_map row_bytes r) (flat_map row_bytes s) g.0 h.0
    (recursion_from_All IsInRange a p.0) (recursion_from_All IsInRange b q.0) e in
    let rest = rows_bytes-inj ks r s (omega arith) g.1 h.1 p.1 q.1 first.1 in
    cc

-- two types with one number are one type
pub kind_byte-inj : (k l : Kind) → kind_byte k ≡ kind_byte l → k ≡ l
kind_byte-inj kinds.UInt64 kinds.UInt64 e = refl
kind_byte-inj kinds.UInt64 kinds.Int64 e = absurd (omega arith)
kind_byte-inj kinds.UInt64 kinds.Text e = absurd (omega arith)
kind_byte-inj kinds.Int64 kinds.UInt64 e = absurd (omega arith)
kind_byte-inj kinds.Int64 kinds.Int64 e = refl
kind_byte-inj kinds.Int64 kinds.Text e = absurd (omega arith)
kind_byte-inj kinds.Text kinds.UInt64 e = absurd (omega arith)
kind_byte-inj kinds.Text kinds.Int64 e = absurd (omega arith)
kind_byte-inj kinds.Text kinds.Text e = refl

-- as many types are told by their numbers at the start
pub kind_bytes-inj : (ks ls : List Kind) (x y : List ℕ) → length ks ≡ length ls →
    map kind_byte ks ++ x ≡ map kind_byte ls ++ y → (ks ≡ ls) × (x ≡ y)
kind_bytes-inj [] [] x y h e = (refl, e)
kind_bytes-inj [] (l ∷ ls) x y h e = absurd (omega arith)
kind_bytes-inj (k ∷ ks) [] x y h e = absurd (omega arith)
kind_bytes-inj (k ∷ ks) (l ∷ ls) x y h e =
    let byte : kind_byte k ≡ kind_byte l = cc in
    let tails : map kind_byte ks ++ x ≡ map kind_byte ls ++ y = cc in
    let first = kind_byte-inj k l byte in
    let rest = kind_bytes-inj ks ls x y (omega arith) tails in
    (cc, rest.1)

-- the bytes in their four parts, the last one after the others
block_bytes-parts : (k : List Kind) (r : List (List Value)) →
    block_bytes k r ≡ to_be_bytes w16 (length k) ++ (map kind_byte k ++ (to_be_bytes w32 (length r) ++ flat_map row_bytes r))
unfolding block_bytes head_bytes
block_bytes-parts k r = simp append_assoc

-- rows that have the same bytes are the same rows, of the same types
pub block_bytes-inj : (k l : List Kind) (r s : List (List Value)) → AreRowsOf k r → AreRowsOf l s →
    block_bytes k r ≡ block_bytes l s → (k ≡ l) × (r ≡ s)
block_bytes-inj k l r s a b e =
    let columns = two_bytes_inj (length k) (length l) (map kind_byte k ++ (to_be_bytes w32 (length r) ++ flat_map row_bytes r))
    (map kind_byte l ++ (to_be_bytes w32 (length s) ++ flat_map row_bytes s)) a.few_columns b.few_columns
    (sym (block_bytes-parts k r) ∙ e ∙ block_bytes-parts l s) in
    let kinds = kind_bytes-inj k l (to_be_bytes w32 (length r) ++ flat_map row_bytes r)
    (to_be_bytes w32 (length s) ++ flat_map row_bytes s) columns.0 columns.1 in
    let rows = four_bytes_inj (length r) (length s) (flat_map row_bytes r) (flat_map row_bytes s) a.few_rows b.few_rows kinds.1 in
    let P : List Kind → Type 0 = λ ks. RowsFit ks s in
    let same = subst P (sym kinds.0) b.fit in (
      kinds.0,
      rows_bytes-inj k r s rows.0
          (recursion_from_All (λ row. row_fits k row ≡ true) r a.fit) (recursion_from_All (λ row. row_fits k row ≡ true) s same)
          (recursion_from_All (λ row. All IsInRange row) r a.in_range) (recursion_from_All (λ row. All IsInRange row) s b.in_range) rows.1,
    )

-- what a block is seen as, of its parts
view_of : Option ℕ → List Kind → List (List Value) → List ℕ → BlockView
view_of p k r d = record { partition = p; kinds = k; rows = r; digest = d }

-- blocks of one id and of the same bytes are one block
pub block-inj : (a b : BlockView) → IsBlock a → IsBlock b → id_of a ≡ id_of b →
    block_bytes a.kinds a.rows ≡ block_bytes b.kinds b.rows → a ≡ b
unfolding view_of
block-inj a b p q e same =
    let both = block_bytes-inj a.kinds b.kinds a.rows b.rows p.rows q.rows same in
    let partitions : a.partition ≡ b.partition = ap (λ (i : BlockId). i.partition) e in
    let digests : a.digest ≡ b.digest = ap (λ (i : BlockId). i.digest) e in
    let views : view_of a.partition a.kinds a.rows a.digest ≡ view_of b.partition b.kinds b.rows b.digest =
    rw (partitions, both.0, both.1, digests) refl in
    views
