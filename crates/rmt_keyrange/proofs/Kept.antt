-- Rows between the bounds are in the granules that are chosen.
use Rattle.std.specs.Prelude.{◌↔◌}
use Rattle.std.proofs.Math.Nat.{div-add-mod, mod-lt, mul-le-mul_right, suc-mul, mul_comm}
use Rattle.std.proofs.lemmas.Bool.{cases_lt}
use Rattle.std.proofs.lemmas.List.Sorted.{sorted_far, ranks_by}
use Rattle.std.proofs.Common.{◌≡◌, ℕ, suc, ◌+◌, ◌*◌, ◌/◌, ◌<◌, ◌≤◌, Bool, true, false, List, [], length, get_or, refl, sym, ap, ◌∙◌, arith, inl, inr}
use Rattle.std.specs.declared.option.Option.{Option}
use Rattle.std.specs.Ordering.{is_gt}
use Rattle.rmt_values.specs.declared.value.Value.{Value}
use Rattle.rmt_values.specs.Rows.{cell_cmp, key_cmp}
use Rattle.rmt_values.proofs.Sorting.{gt-from-lt}
use Rattle.rmt_values.proofs.Totals.{key_cmp_total}
use Rattle.rmt_granules.specs.Granules.{PartView, IsPart}
use Rattle.rmt_granules.proofs.Marks.{part-mark-there, part-row-there, part-mark-cell, head-order, key_cell}
use Rattle.rmt_keyrange.specs.Chosen.{cell_most, cell_below, at_most, is_below, IsChosen}
use Rattle.rmt_keyrange.proofs.Within.{IsWithin}
use Rattle.rmt_keyrange.proofs.Parted.{most-down, below-down}

not-true-false : (b : Bool) → (b ≡ true → ⊥) → b ≡ false
not-true-false true h = absurd (h refl)
not-true-false false h = refl

pub kept-rows : (part : PartView) → IsPart part → (low high : Option Value) (a b : ℕ)
    → ((g : ℕ) → g < length part.marks → ((a ≤ g) × (g < b)) ↔ IsChosen low high part.marks g)
    → (i : ℕ) → i < length part.rows → IsWithin low high part.key (get_or part.rows i []) → (a * part.granularity ≤ i) × (i < b * part.granularity)
kept-rows part p low high a b chosen i below within =
    (omega (arith, left, lies), omega (arith, right, lies, suc-mul g n))
  where
    n : ℕ
    n = part.granularity

    -- the granule of the row
    g : ℕ
    g = i / n

    lies : (g * n ≤ i) × (i < g * n + n)
    lies = let e = div-add-mod i n in let m = mod-lt i p.positive in let t = mul_comm n (i / n) in (omega (arith, e, t), omega (arith, e, m, t))

    here : g < length part.marks
    here = part-mark-there part p g (omega (arith, lies.0, below))

    cell : ℕ → Option Value
    cell k = key_cell part.key (get_or part.rows k [])

    rise : (j k : ℕ) → j ≤ k → k < length part.rows → is_gt (cell_cmp (cell j) (cell k)) ≡ false
    rise j k q r = head-order part.key (get_or part.rows j []) (get_or part.rows k []) (gt-from-lt (key_cmp part.key) (key_cmp_total part.key) (get_or part.rows j []) (get_or part.rows k []) (sorted_far _ (ranks_by (key_cmp_total part.key) (λ (x : List Value). x)) part.rows p.sorted j k [] q r))

    most : at_most high (get_or part.marks g []) ≡ true
    most = ap (cell_most high) (part-mark-cell part p g here) ∙ most-down high (cell (g * n)) (cell i) (rise (g * n) i lies.0 below) within.1

    next : g + 1 < length part.marks → is_below low (get_or part.marks (g + 1) []) ≡ false
    next q = not-true-false _ (λ h. absurd (
        let there = part-row-there part p (g + 1) q in
        let far : i ≤ (g + 1) * n = let t = mul_comm n (g + 1) in omega (arith, lies, suc-mul g n) in
        let v = below-down low (cell i) (cell ((g + 1) * n)) (rise i ((g + 1) * n) far there) (ap (cell_below low) (sym (part-mark-cell part p (g + 1) q)) ∙ h) in
        let w = within.0 in cc))

    is : IsChosen low high part.marks g
    is = (most, elim (cases_lt (g + 1) (length part.marks)) [ inl q ↦ inr (next q) | inr q ↦ inl (omega (arith, q, here)) ])

    between : (a ≤ g) × (g < b)
    between = (chosen g here).1 is

    left : a * n ≤ g * n
    left = mul-le-mul_right n between.0

    right : suc g * n ≤ b * n
    right = mul-le-mul_right n (omega (arith, between.1))
