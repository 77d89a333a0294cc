-- How many sessions are there.
use Rattle.std.proofs.Common.{◌≡◌, ℕ, ◌+◌, ◌<◌, cond, is_some, List, [], ◌∷◌, ◌++◌, length, take, get_or, Option, Some, None, refl, ap, arith}
use Rattle.std.proofs.lemmas.List.{take_more}
use Rattle.rmt_table.specs.SeenTable.{opened_from}

-- how many are there
abbrev pub opens : List (Option ℕ) → ℕ
opens [] = 0
opens (o ∷ os) = cond (is_some o) 1 0 + opens os

pub opened-opens : (k : ℕ) (os : List (Option ℕ)) → length (opened_from k os) ≡ opens os
opened-opens k [] = refl
opened-opens k (None ∷ os) = let r = opened-opens (k + 1) os in omega (arith, r)
opened-opens k (Some s ∷ os) = let r = opened-opens (k + 1) os in omega (arith, r)

opens-joined : (xs ys : List (Option ℕ)) → opens (xs ++ ys) ≡ opens xs + opens ys
opens-joined [] ys = omega arith
opens-joined (x ∷ xs) ys = let r = opens-joined xs ys in omega (arith, r)

-- one more is counted
pub opens-next : (os : List (Option ℕ)) (k count one : ℕ) → k < length os → count ≡ opens (take k os) → one + 0 ≡ opens (get_or os k None ∷ []) → count + one ≡ opens (take (k + 1) os)
opens-next os k count one l e f =
    let t : opens (take (k + 1) os) ≡ opens (take k os ++ get_or os k None ∷ []) = ap opens (take_more os k None l) in
    let j = opens-joined (take k os) (get_or os k None ∷ []) in
    omega (arith, t, j, e, f)
