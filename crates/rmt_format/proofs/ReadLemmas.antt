-- Reading columns granule by granule, as loops do.
use Rattle.std.proofs.Common.{◌≡◌, ℕ, zero, suc, ◌-◌, ◌+◌, ◌<◌, ◌≤◌, min, List, [], ◌∷◌, ◌++◌, length, take, drop, Option, Some, refl, sym, ap, ◌∙◌, arith}
use Rattle.std.proofs.Math.Seq.{take-append_seam}
use Rattle.std.proofs.lemmas.List.{length-append}
use Rattle.rmt_values.specs.declared.value.Value.{Value}
use Rattle.rmt_values.specs.declared.value.Value.TheVariants.{UInt, Int, Text}
use Rattle.rmt_values.specs.declared.column.Column.{Column}
use Rattle.rmt_values.specs.declared.kind.Kind.{Kind}
use Rattle.rmt_values.specs.declared.kind.Kind.TheVariants as kinds
use Rattle.rmt_values.specs.Rows.{kind_of}
use Rattle.rmt_bytes.specs.Decoding.{decode_value, decode_number, decode_signed, decode_text}
use Rattle.rmt_bytes.proofs.Codes.{◌>>=◌}
use Rattle.rmt_bytes.proofs.CodeLemmas.{bind_some, mapped_some}
use Rattle.rmt_columns.specs.Columns.{ColumnView}
use Rattle.rmt_columns.proofs.TypedLemmas.{none-typed}
use Rattle.rmt_columns.specs.RowsByColumn.{kinds_of, kinds_in, no_values, AreLong, AreOfKind, AreTyped}
use Rattle.rmt_format.specs.PartDecoding.{decode_cells, decode_columns, decode_granules}
use Rattle.std.specs.Int.{w64}
use Rattle.std.proofs.lemmas.Option.{some_pair_parts}

-- ---- values of one column

value-kind : (k : Kind) (bytes : List ℕ) (v : Value) (rest : List ℕ) → decode_value k bytes ≡ Some (v, rest) → kind_of v ≡ k
unfolding decode_value
value-kind kinds.UInt64 bytes v rest e = let m = mapped_some UInt (decode_number w64 bytes) v rest e in ap kind_of m.1
value-kind kinds.Int64 bytes v rest e = let m = mapped_some Int (decode_signed bytes) v rest e in ap kind_of m.1
value-kind kinds.Text bytes v rest e = let m = mapped_some Text (decode_text bytes) v rest e in ap kind_of m.1

-- a column that has so many values more
pub record IsLonger (n : ℕ) (old new : ColumnView) : Type 0 where
  pub kind : new.kind ≡ old.kind
  pub long : length new.values ≡ length old.values + n
  pub typed : AreOfKind old.kind old.values → AreOfKind new.kind new.values

one-typed : (k : Kind) (vs : List Value) (v : Value) → AreOfKind k vs → kind_of v ≡ k → AreOfKind k (vs ++ v ∷ [])
one-typed k [] v a e = (e, tt)
one-typed k (w ∷ ws) v a e = (a.0, one-typed k ws v a.1 e)

cells-longer : (n : ℕ) (c x : ColumnView) (bytes rest : List ℕ) → decode_cells c n bytes ≡ Some (x, rest) → IsLonger n c x
cells-longer zero c x bytes rest e =
    let p = some_pair_parts c x bytes rest e in
    rw (sym p.0) (record { kind = refl; long = omega arith; typed = λ a. a })
cells-longer (suc n) c x bytes rest e =
    let b = bind_some (decode_value c.kind bytes) (λ v. decode_cells (record c { values = c.values ++ v.0 ∷ [] }) n v.1) (x, rest) e in
    let r = cells-longer n (record c { values = c.values ++ b.0.0 ∷ [] }) x b.0.1 rest b.2 in
    let l = length-append c.values (b.0.0 ∷ []) in
    record {
      kind = r.kind;
      long = let m = r.long in omega (arith, m, l);
      typed = λ a. r.typed (one-typed c.kind c.values b.0.0 a (value-kind c.kind bytes b.0.0 b.0.1 b.1));
    }

-- what was read and is still to be read is the same after one value more
pub cell-read : (c : ColumnView) (k : Kind) (n i : ℕ) (v : Value) (bytes after : List ℕ) (total : Option (ColumnView × List ℕ)) → i < n → c.kind ≡ k → decode_value k bytes ≡ Some (v, after)
    → decode_cells c (n - i) bytes ≡ total → decode_cells (record c { values = c.values ++ v ∷ [] }) (n - (i + 1)) after ≡ total
cell-read c k n i v bytes after total h q f so_far =
    let m : n - i ≡ suc (n - (i + 1)) = omega (arith, h) in
    let e : decode_value c.kind bytes ≡ Some (v, after) = ap (λ (x : Kind). decode_value x bytes) q ∙ f in
    let one : decode_cells c (n - i) bytes ≡ decode_cells (record c { values = c.values ++ v ∷ [] }) (n - (i + 1)) after = rw (m, e) refl in
    sym one ∙ so_far

-- ---- columns

-- columns that have so many values more each
pub record AreLonger (n : ℕ) (old new : List ColumnView) : Type 0 where
  pub kinds : kinds_of new ≡ kinds_of old
  pub long : (m : ℕ) → AreLong m old → AreLong (m + n) new
  pub typed : AreTyped old → AreTyped new

pub columns-longer : (n : ℕ) (cs ys : List ColumnView) (bytes rest : List ℕ) → decode_columns cs n bytes ≡ Some (ys, rest) → AreLonger n cs ys
columns-longer n [] ys bytes rest e =
    let p = some_pair_parts [] ys bytes rest e in
    rw (sym p.0) (record { kinds = refl; long = λ m a. tt; typed = λ a. tt })
columns-longer n (c ∷ cs) ys bytes rest e =
    let b = bind_some (decode_cells c n bytes) (λ x. decode_columns cs n x.1 >>= λ y. Some (x.0 ∷ y.0, y.1)) (ys, rest) e in
    let d = bind_some (decode_columns cs n b.0.1) (λ y. Some (b.0.0 ∷ y.0, y.1)) (ys, rest) b.2 in
    let p = some_pair_parts (b.0.0 ∷ d.0.0) ys d.0.1 rest d.2 in
    let x = cells-longer n c b.0.0 bytes b.0.1 b.1 in
    let r = columns-longer n cs d.0.0 b.0.1 d.0.1 d.1 in
    rw (sym p.0) (record {
      kinds = ap (λ (k : Kind). k ∷ kinds_of d.0.0) x.kind ∙ ap (λ (l : List Kind). c.kind ∷ l) r.kinds;
      long = λ m a. (x.long ∙ ap (λ (l : ℕ). l + n) a.0, r.long m a.1);
      typed = λ a. (x.typed a.0, r.typed a.1);
    })

-- ---- granules

-- what a loop over granules keeps
pub record Reads (start : List ColumnView) (size granules count : ℕ) (bytes : List ℕ) (i left : ℕ) (cs : List ColumnView) (rest : List ℕ) : Type 0 where
  pub read : decode_granules cs size (granules - i) left rest ≡ decode_granules start size granules count bytes
  pub within : left ≤ count
  pub kinds : kinds_of cs ≡ kinds_of start
  pub long : AreLong (count - left) cs
  pub typed : AreTyped cs

pub granule-read : (start : List ColumnView) (size granules count : ℕ) (bytes : List ℕ) (i left : ℕ) (cs ys : List ColumnView) (rest after : List ℕ) → i < granules
    → decode_columns cs (min left size) rest ≡ Some (ys, after) → Reads start size granules count bytes i left cs rest → Reads start size granules count bytes (i + 1) (left - min left size) ys after
granule-read start size granules count bytes i left cs ys rest after h f r =
    let k : granules - i ≡ suc (granules - (i + 1)) = omega (arith, h) in
    let one : decode_granules cs size (granules - i) left rest ≡ decode_granules ys size (granules - (i + 1)) (left - min left size) after = rw (k, f) refl in
    let longer = columns-longer (min left size) cs ys rest after f in
    let within = r.within in
    let n : count - left + min left size ≡ count - (left - min left size) = omega (arith, within) in
    record {
      read = sym one ∙ r.read;
      within = omega (arith, within);
      kinds = longer.kinds ∙ r.kinds;
      long = rw (sym n) (longer.long (count - left) r.long);
      typed = longer.typed r.typed;
    }

-- what a slice of a whole vector was written to
pub written : (n : ℕ) (old new : List ColumnView) → length new ≡ length old → n ≡ length old → new ≡ take n (new ++ drop (length new) old)
written n old new e k = sym (ap (λ (m : ℕ). take m (new ++ drop (length new) old)) (k ∙ sym e) ∙ take-append_seam new (drop (length new) old))

pub none-kinds : (cs : List Column) → kinds_of (no_values cs) ≡ kinds_in cs
none-kinds [] = refl
none-kinds (c ∷ cs) = ap (λ (l : List Kind). c.kind ∷ l) (none-kinds cs)

none-long : (cs : List Column) → AreLong 0 (no_values cs)
none-long [] = tt
none-long (c ∷ cs) = (refl, none-long cs)

pub reads-none : (columns : List Column) (size granules count : ℕ) (bytes : List ℕ) → Reads (no_values columns) size granules count bytes 0 count (no_values columns) bytes
reads-none columns size granules count bytes =
    let z : granules - 0 ≡ granules = omega arith in
    let n : count - count ≡ 0 = omega arith in
    record { read = rw z refl; within = omega arith; kinds = refl; long = rw n (none-long columns); typed = none-typed columns }
