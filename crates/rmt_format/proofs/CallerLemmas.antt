-- For callers: parts that have bytes.
use Rattle.std.proofs.Common.{◌≡◌, ◌^◌, ◌<◌, true, List, length, refl, sym, subst}
use Rattle.std.specs.List.{All}
use Rattle.std.specs.List.Sorted.{IsSorted}
use Rattle.rmt_values.specs.declared.value.Value.{Value}
use Rattle.rmt_values.specs.Rows.{Shape, fits, key_cmp, in_key_order}
use Rattle.rmt_values.proofs.Sorting.{in_order-from_sort}
use Rattle.rmt_values.proofs.Totals.{key_cmp_total}
use Rattle.rmt_granules.specs.Granules.{PartView}
use Rattle.rmt_granules.specs.MadePart.{data_of}
use Rattle.rmt_granules.specs.MergedData.{IsDataOf}
use Rattle.rmt_granules.proofs.StableOrder.{All-ordered, order-twice}
use Rattle.rmt_granules.proofs.MergeLemmas.{merged-sorted}
use Rattle.rmt_format.specs.PartBytes.{HasPartBytes}

-- the part of rows that fit has bytes, where there are few enough, as `from_unsorted_rows` makes it
pub made-has : (shape : Shape) (rows : List (List Value)) (part : PartView) → part ≡ data_of shape (in_key_order shape rows)
    → All (λ row. fits shape.columns row ≡ true) rows → length part.rows < 2 ^ 32 → HasPartBytes shape part
unfolding in_key_order
made-has shape rows part is fit few =
    let P : PartView → Type 0 = λ p. IsDataOf shape p in
    record {
      of_schema = subst P (sym is) (record {
        is = refl;
        fit = All-ordered (key_cmp shape.key) (λ row. fits shape.columns row ≡ true) rows fit;
        ordered = order-twice (key_cmp shape.key) (key_cmp_total shape.key) rows;
      });
      few_rows = few;
    }

-- so has the part of rows that fit and are sorted, as `from_rows` makes it
pub sorted-has : (shape : Shape) (rows : List (List Value)) (part : PartView) → part ≡ data_of shape rows
    → All (λ row. fits shape.columns row ≡ true) rows → IsSorted (key_cmp shape.key) rows → length part.rows < 2 ^ 32 → HasPartBytes shape part
unfolding in_key_order
sorted-has shape rows part is fit sorted few =
    let P : PartView → Type 0 = λ p. IsDataOf shape p in
    let ordered = in_order-from_sort (key_cmp shape.key) (key_cmp_total shape.key) rows rows sorted (λ x. refl) in
    record { of_schema = subst P (sym is) (record { is = refl; fit = fit; ordered = sym ordered }); few_rows = few }

-- the rows of a part that has bytes are sorted
pub has-sorted : (shape : Shape) (part : PartView) → HasPartBytes shape part → IsSorted (key_cmp shape.key) part.rows
has-sorted shape part has = subst (IsSorted (key_cmp shape.key)) has.of_schema.ordered (merged-sorted shape part.rows)
