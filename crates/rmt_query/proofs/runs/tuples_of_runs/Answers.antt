use Rattle.std.proofs.Common.{◌≡◌, ◌+◌, ℕ, zero, suc, List, [], ◌∷◌, ◌++◌, length, map, drop, refl, sym, ap, ◌∙◌, subst, arith}
use Rattle.std.proofs.Common.{append_assoc}
use Rattle.rmt_values.specs.declared.value.Value.{Value}
use Rattle.rmt_values.specs.declared.cell.Cell.{Cell}
use Rattle.rmt_values.specs.Rows.{key_cmp}
use Rattle.rmt_values.proofs.Sorting.{Up, Up-from_sort}
use Rattle.rmt_values.proofs.Totals.{key_cmp_total}
use Rattle.rmt_query.specs.OverRows.{over}
use Rattle.rmt_query.proofs.RunLemmas.{tuples, one-run, up-drop}
use Rattle.rmt_query.proofs.runs.tuples_of_runs.Goals as goal

drop-more : (n m : ℕ) (xs : List (List Value)) → drop n (drop m xs) ≡ drop (m + n) xs
drop-more n zero xs = let e : 0 + n ≡ n = omega arith in rw e refl
drop-more zero (suc m) [] = let e : suc m + 0 ≡ suc m = omega arith in rw e refl
drop-more (suc n) (suc m) [] = let e : suc m + suc n ≡ suc (m + suc n) = omega arith in rw e refl
drop-more n (suc m) (x ∷ xs) = let e : suc m + n ≡ suc (m + n) = omega arith in rw e (drop-more n m xs)

pub runs-init : goal.runs-init
runs-init c =
    let group = c.args.group.now in (
      Up-from_sort (key_cmp group) (key_cmp_total group) c.args.rows.now c.requires,
      ap (λ (l : List (List Cell)). l ++ tuples c.args.items.now group c.args.rows.now) c.new-tuples.ensures.items,
      omega arith,
    )

pub runs-preserved : goal.runs-preserved
runs-preserved c =
    let group = c.args.group.now in
    let items = c.args.items.now in
    let rest = c.split_at.result.1.now in
    let is : rest ≡ drop c.runs.first c.args.rows.now = c.split_at.ensures.back in
    let end = c.run_end-end.result in
    let e = c.run_end-end.ensures in
    let up = subst (λ (l : List (List Value)). Up (key_cmp group) (key_cmp_total group) l) (sym is) c.runs.invariant.0 in
    let step = one-run items group rest end up (record { some = e.some; within = e.within; together = e.together; apart = e.apart }) in
    let tuple = c.in_ok-tuple.ensures ∙ ap (λ (run : List (List Value)). map (λ i. over i run) items) c.split_at-in-runs.ensures.front in
    let back : drop end rest ≡ drop (c.runs.first + end) c.args.rows.now = ap (drop end) is ∙ drop-more end c.runs.first c.args.rows.now in
    let all = ap (λ (l : List (List Value)). c.runs.tuples.items ++ tuples items group l) is ∙ c.runs.invariant.1 in
    let long : length rest + c.runs.first ≡ length c.args.rows.now = c.split_at.ensures.back_len in
    let within = e.within in (
      subst (λ (l : List (List Value)). Up (key_cmp group) (key_cmp_total group) l) back (up-drop items group end rest up),
      ap (λ (l : List (List Cell)). l ++ tuples items group (drop (c.runs.first + end) c.args.rows.now)) c.in_ok-push.ensures.items
          ∙ (append_assoc c.runs.tuples.items (c.in_ok-tuple.tuple ∷ []) (tuples items group (drop (c.runs.first + end) c.args.rows.now))
          ∙ (ap (λ (l : List (List Cell)). c.runs.tuples.items ++ l) (ap (λ (l : List (List Value)). c.in_ok-tuple.tuple ∷ tuples items group l) (sym back) ∙ (ap (λ (t : List Cell). t ∷ tuples items group (drop end rest)) tuple ∙ sym step))
          ∙ all)),
      omega (arith, long, within),
    )
