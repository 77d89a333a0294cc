-- Sorted rows that fit a schema make a part.
use Rattle.std.proofs.Common.{◌≡◌, ℕ, true, List, [], ◌∷◌, map, length, refl, sym, ap, ◌∙◌, subst, arith}
use Rattle.std.proofs.lemmas.List.{length-map}
use Rattle.std.specs.List.{All}
use Rattle.std.specs.List.Sorted.{IsSorted}
use Rattle.rmt_values.specs.declared.value.Value.{Value}
use Rattle.rmt_values.specs.declared.column.Column.{Column}
use Rattle.rmt_values.specs.declared.kind.Kind.{Kind}
use Rattle.rmt_values.specs.Rows.{Shape, AllBelow, fits, kind_of, key_cmp}
use Rattle.rmt_values.specs.Schemas.{IsSchema}
use Rattle.rmt_columns.specs.RowsByColumn.{RowsView, kinds_in}
use Rattle.rmt_columns.proofs.RowsLemmas.{kinds-fit}
use Rattle.rmt_granules.specs.Granules.{PartView, IsPart, marks_of}
use Rattle.rmt_granules.specs.MadePart.{data_of, stored_part}

length-typed : (row : List Value) → length (map kind_of row) ≡ length row
length-typed [] = refl
length-typed (v ∷ vs) = let r = length-typed vs in omega (arith, r)

-- a row that fits has a value for each column
wide-fit : (columns : List Column) (row : List Value) → fits columns row ≡ true → length row ≡ length (kinds_in columns)
wide-fit columns row h = sym (length-typed row) ∙ ap length (kinds-fit columns row h)

pub part-made : (shape : Shape) (rows : List (List Value)) → IsSchema shape → All (λ r. fits shape.columns r ≡ true) rows → IsSorted (key_cmp shape.key) rows → IsPart (data_of shape rows)
part-made shape rows s fit sorted =
    let some = s.some_granularity in
    record {
      sorted = sorted;
      marked = refl;
      positive = omega (arith, some);
      wide = λ k d p. wide-fit shape.columns _ (fit k d p);
      key_there = subst (λ (n : ℕ). AllBelow n shape.key) (sym (length-map shape.columns _)) s.key_there;
    }

pub same-data : (shape : Shape) (held : RowsView) (marks : List (List Value)) (key : List ℕ) (n : ℕ) → marks ≡ marks_of n key held.rows → key ≡ shape.key → n ≡ shape.granularity → held.kinds ≡ kinds_in shape.columns
    → data_of shape held.rows ≡ stored_part held marks key n
same-data shape held marks key n b c d e = same held.rows held.rows _ _ _ _ _ _ _ _ refl (sym (b ∙ (ap (λ (m : ℕ). marks_of m key held.rows) d ∙ ap (λ (k : List ℕ). marks_of shape.granularity k held.rows) c))) (sym c) (sym d) (sym e)
  where
    same : (r r' m m' : List (List Value)) (k k' : List ℕ) (g g' : ℕ) (t t' : List Kind) → r ≡ r' → m ≡ m' → k ≡ k' → g ≡ g' → t ≡ t'
        → ◌≡◌ {A = PartView} (record { rows = r; marks = m; key = k; granularity = g; kinds = t }) (record { rows = r'; marks = m'; key = k'; granularity = g'; kinds = t' })
    same r r' m m' k k' g g' t t' a b c d e = cc
