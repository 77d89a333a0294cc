-- The values of columns have the columns' types, and so have those of their rows.
use Rattle.std.proofs.Common.{◌≡◌, ℕ, ℤ, zero, suc, ◌<◌, List, [], ◌∷◌, ◌++◌, map, length, slice_get, get_or, refl, ap, ◌∙◌, arith}
use Rattle.std.proofs.Math.ListN.{set}
use Rattle.std.specs.Option.{option_to_list}
use Rattle.rmt_values.specs.declared.value.Value.{Value}
use Rattle.rmt_values.specs.declared.value.Value.TheVariants.{UInt, Int, Text}
use Rattle.rmt_values.specs.declared.column.Column.{Column}
use Rattle.rmt_values.specs.declared.kind.Kind.{Kind}
use Rattle.rmt_values.specs.declared.kind.Kind.TheVariants as kinds
use Rattle.rmt_values.specs.Rows.{kind_of}
use Rattle.rmt_columns.specs.Columns.{ColumnView}
use Rattle.rmt_columns.specs.Places.{at_places}
use Rattle.rmt_columns.specs.RowsByColumn.{beside, blank_rows, rows_of, kinds_of, AreOfKind, AreTyped, HaveKinds, no_values}
use Rattle.rmt_columns.proofs.BuilderLemmas.{pushed}
use Rattle.rmt_columns.proofs.RowsLemmas.{columns_at}

pub unsigned-typed : (ns : List ℕ) → AreOfKind kinds.UInt64 (map (λ n. UInt n) ns)
unsigned-typed [] = tt
unsigned-typed (n ∷ ns) = (refl, unsigned-typed ns)

pub signed-typed : (zs : List ℤ) → AreOfKind kinds.Int64 (map (λ z. Int z) zs)
signed-typed [] = tt
signed-typed (z ∷ zs) = (refl, signed-typed zs)

pub texts-typed : (ts : List (List ℕ)) → AreOfKind kinds.Text (map (λ t. Text t) ts)
texts-typed [] = tt
texts-typed (t ∷ ts) = (refl, texts-typed ts)

-- ---- one more value

push-typed : (k : Kind) (vs : List Value) (v : Value) → AreOfKind k vs → kind_of v ≡ k → AreOfKind k (vs ++ v ∷ [])
push-typed k [] v a e = (e, tt)
push-typed k (w ∷ ws) v a e = (a.0, push-typed k ws v a.1 e)

pub put-typed : (cs : List ColumnView) (b : ℕ) (v : Value) (c : ColumnView) → AreTyped cs → b < length cs → c ≡ get_or cs b c → kind_of v ≡ c.kind → AreTyped (set cs b (pushed c v))
put-typed [] b v c t h e k = absurd (omega (arith, h))
put-typed (x ∷ xs) zero v c t h e k = (rw e (push-typed x.kind x.values v t.0 (k ∙ ap (λ (d : ColumnView). d.kind) e)), t.1)
put-typed (x ∷ xs) (suc b) v c t h e k = (t.0, put-typed xs b v c t.1 (omega (arith, h)) e k)

pub none-typed : (cs : List Column) → AreTyped (no_values cs)
none-typed [] = tt
none-typed (c ∷ cs) = (tt, none-typed cs)

-- ---- values at places

one-typed : (k : Kind) (vs : List Value) (i : ℕ) (ws : List Value) → AreOfKind k vs → AreOfKind k ws → AreOfKind k (option_to_list (slice_get vs i) ++ ws)
one-typed k [] i ws a b = b
one-typed k (v ∷ vs) zero ws a b = (a.0, b)
one-typed k (v ∷ vs) (suc i) ws a b = one-typed k vs i ws a.1 b

pub at-typed : (k : Kind) (vs : List Value) (is : List ℕ) → AreOfKind k vs → AreOfKind k (at_places vs is)
at-typed k vs [] a = tt
at-typed k vs (i ∷ is) a = one-typed k vs i (at_places vs is) a (at-typed k vs is a)

pub gathered-typed : (cs : List ColumnView) (is : List ℕ) → AreTyped cs → AreTyped (columns_at is cs)
gathered-typed [] is t = tt
gathered-typed (c ∷ cs) is t = (at-typed c.kind c.values is t.0, gathered-typed cs is t.1)

-- ---- rows

blank-kinds : (n : ℕ) → HaveKinds [] (blank_rows n)
blank-kinds zero = tt
blank-kinds (suc n) = (refl, blank-kinds n)

beside-kinds : (k : Kind) (ks : List Kind) (vs : List Value) (rs : List (List Value)) → AreOfKind k vs → HaveKinds ks rs → HaveKinds (k ∷ ks) (beside vs rs)
beside-kinds k ks [] rs a h = tt
beside-kinds k ks (v ∷ vs) [] a h = tt
beside-kinds k ks (v ∷ vs) (r ∷ rs) a h = (ap (λ (x : Kind). x ∷ map kind_of r) a.0 ∙ ap (λ (l : List Kind). k ∷ l) h.0, beside-kinds k ks vs rs a.1 h.1)

pub rows-typed : (n : ℕ) (cs : List ColumnView) → AreTyped cs → HaveKinds (kinds_of cs) (rows_of n cs)
rows-typed n [] t = blank-kinds n
rows-typed n (c ∷ cs) t = beside-kinds c.kind (kinds_of cs) c.values (rows_of n cs) t.0 (rows-typed n cs t.1)
