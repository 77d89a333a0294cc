-- Steps of the search for what to merge.
use Rattle.std.proofs.Common.{◌≡◌, ℕ, zero, suc, ◌+◌, ◌-◌, ◌<◌, ◌≤◌, Bool, true, false, cond, max, min, List, [], ◌∷◌, length, take, drop, get_or, drop-cons, refl, sym, ap, subst, arith, ◌∙◌}
use Rattle.rmt_names.specs.Names.{Name}
use Rattle.rmt_entries.specs.declared.entry.Entry.{Entry}
use Rattle.rmt_model.specs.Lawful.{ver}
use Rattle.rmt_model.specs.Choices.{are_alike, alike_after, run_at, greatest_level, better, best_run}
use Rattle.rmt_pick.specs.Runs.{count_before, names_in, IsRun}
use Rattle.rmt_pick.specs.declared.run.Run.{Run}

-- ---- levels

top-cons : (a : Name) (names : List Name) → greatest_level (a ∷ names) ≡ max a.level (greatest_level names)
top-cons a [] = omega arith
top-cons a (b ∷ names) = refl

-- one more name before the others
pub top-front : (names : List Name) (n i : ℕ) (a : Name) (top new : ℕ) → 0 < i → i ≤ n → a ≡ get_or names (i - 1) a → i - 1 < length names → top ≡ greatest_level (take (n - i) (drop i names)) → new ≡ max a.level top → new ≡ greatest_level (take (n - (i - 1)) (drop (i - 1) names))
top-front names n i a top new p le e h t g =
    let k : n - (i - 1) ≡ suc (n - i) = omega (arith, p, le) in
    let j : suc (i - 1) ≡ i = omega (arith, p) in
    let d : drop (i - 1) names ≡ a ∷ drop i names = drop-cons names (i - 1) a h ∙ (ap (λ (y : Name). y ∷ drop (suc (i - 1)) names) (sym e) ∙ ap (λ m. a ∷ drop m names) j) in
    g ∙ (ap (max a.level) t ∙ (sym (top-cons a (take (n - i) (drop i names))) ∙ sym (ap (λ m. greatest_level (take m (drop (i - 1) names))) k ∙ ap (λ (l : List Name). greatest_level (take (suc (n - i)) l)) d)))

-- ---- runs

-- a run that may have one name more has at most one more
after-cut : (log : List Entry) (n : ℕ) (a : Name) (names : List Name) → length (alike_after log n a names) ≡ min n (length (alike_after log (suc n) a names))
after-cut log zero a names = omega arith
after-cut log (suc n) a [] = omega arith
after-cut log (suc n) a (b ∷ names) = go (are_alike log a b) (after-cut log n b names)
  where
    go : (c : Bool) → length (alike_after log n b names) ≡ min n (length (alike_after log (suc n) b names)) → length (cond c (b ∷ alike_after log n b names) []) ≡ min (suc n) (length (cond c (b ∷ alike_after log (suc n) b names) []))
    go true h = omega (arith, h)
    go false h = omega arith

-- the version of the first of the names; 0 for none
abbrev pub first_version : List Entry → List Name → ℕ
first_version log [] = 0
first_version log (a ∷ names) = ver log a

-- a run's length by that of the next one
pub run-length : (log : List Entry) (most : ℕ) (a : Name) (names : List Name) → 2 ≤ most → length (run_at log most (a ∷ names)) ≡ count_before (a ∷ names) (ver log a) (first_version log names) (length (run_at log most names)) most
run-length log most a names h = go names (most - 2) (omega (arith, h))
  where
    go : (names : List Name) (n : ℕ) → most - 1 ≡ suc n → length (run_at log most (a ∷ names)) ≡ count_before (a ∷ names) (ver log a) (first_version log names) (length (run_at log most names)) most
    go [] n e = rw e refl
    go (b ∷ names) n e = rw e (test (are_alike log a b) (after-cut log n b names))
      where
        test : (c : Bool) → length (alike_after log n b names) ≡ min n (length (alike_after log (suc n) b names)) → length (a ∷ cond c (b ∷ alike_after log n b names) []) ≡ cond c (min (length (b ∷ alike_after log (suc n) b names) + 1) most) 1
        test true q = omega (arith, q, e, h)
        test false q = refl

drop-step : (names : List Name) (i : ℕ) (a : Name) → 0 < i → i ≤ length names → a ≡ get_or names (i - 1) a → drop (i - 1) names ≡ a ∷ drop i names
drop-step names i a p h e =
    let j : suc (i - 1) ≡ i = omega (arith, p) in
    drop-cons names (i - 1) a (omega (arith, p, h)) ∙ (ap (λ (y : Name). y ∷ drop (suc (i - 1)) names) (sym e) ∙ ap (λ m. a ∷ drop m names) j)

-- the length that the search finds is that of the run
pub count-next : (log : List Entry) (most : ℕ) (names rest : List Name) (i : ℕ) (a : Name) (own version count new : ℕ) → 2 ≤ most → 0 < i → i ≤ length names → a ≡ get_or names (i - 1) a → own ≡ ver log a → version ≡ first_version log (drop i names) → count ≡ length (run_at log most (drop i names)) → rest ≡ drop (i - 1) names → new ≡ count_before rest own version count most → new ≡ length (run_at log most (drop (i - 1) names))
count-next log most names rest i a own version count new m p h e o v c r n =
    let d : drop (i - 1) names ≡ a ∷ drop i names = drop-step names i a p h e in
    n ∙ (ap (λ (xs : List Name). count_before xs own version count most) (r ∙ d)
    ∙ (ap (λ k. count_before (a ∷ drop i names) k version count most) o
    ∙ (ap (λ k. count_before (a ∷ drop i names) (ver log a) k count most) v
    ∙ (ap (λ k. count_before (a ∷ drop i names) (ver log a) (first_version log (drop i names)) k most) c
    ∙ (sym (run-length log most a (drop i names) m) ∙ ap (λ (xs : List Name). length (run_at log most xs)) (sym d))))))

pub version-next : (log : List Entry) (names : List Name) (i : ℕ) (a : Name) (own : ℕ) → 0 < i → i ≤ length names → a ≡ get_or names (i - 1) a → own ≡ ver log a → own ≡ first_version log (drop (i - 1) names)
version-next log names i a own p h e o = o ∙ ap (first_version log) (sym (drop-step names i a p h e))

-- a run has no more names than there are
after-within : (log : List Entry) (n : ℕ) (a : Name) (names : List Name) → length (alike_after log n a names) ≤ length names
after-within log zero a names = omega arith
after-within log (suc n) a [] = omega arith
after-within log (suc n) a (b ∷ names) = go (are_alike log a b) (after-within log n b names)
  where
    go : (c : Bool) → length (alike_after log n b names) ≤ length names → length (cond c (b ∷ alike_after log n b names) []) ≤ length (b ∷ names)
    go true h = omega (arith, h)
    go false h = omega arith

pub run-within : (log : List Entry) (most : ℕ) (names : List Name) → length (run_at log most names) ≤ length names
run-within log most [] = omega arith
run-within log most (a ∷ names) = let h = after-within log (most - 1) a names in omega (arith, h)

-- ---- the best run

after-prefix : (log : List Entry) (n : ℕ) (a : Name) (names : List Name) → alike_after log n a names ≡ take (length (alike_after log n a names)) names
after-prefix log zero a names = refl
after-prefix log (suc n) a [] = refl
after-prefix log (suc n) a (b ∷ names) = go (are_alike log a b) (after-prefix log n b names)
  where
    go : (c : Bool) → alike_after log n b names ≡ take (length (alike_after log n b names)) names → cond c (b ∷ alike_after log n b names) [] ≡ take (length (cond c (b ∷ alike_after log n b names) [])) (b ∷ names)
    go true e = ap (λ (l : List Name). b ∷ l) e
    go false e = refl

pub run-prefix : (log : List Entry) (most : ℕ) (names : List Name) → run_at log most names ≡ take (length (run_at log most names)) names
run-prefix log most [] = refl
run-prefix log most (a ∷ names) = ap (λ (l : List Name). a ∷ l) (after-prefix log (most - 1) a names)

pub best-next : (log : List Entry) (most : ℕ) (names : List Name) (i : ℕ) → 0 < i → i - 1 < length names → best_run log most (drop (i - 1) names) ≡ better (run_at log most (drop (i - 1) names)) (best_run log most (drop i names))
best-next log most names i p h = let k : i ≡ suc (i - 1) = omega (arith, p) in go (i - 1) i names k h
  where
    go : (j i : ℕ) (xs : List Name) → i ≡ suc j → j < length xs → best_run log most (drop j xs) ≡ better (run_at log most (drop j xs)) (best_run log most (drop i xs))
    go j i [] e h = absurd (omega (arith, h))
    go zero i (x ∷ xs) e h = rw e refl
    go (suc j) i (x ∷ xs) e h = let k : i ≡ suc (i - 1) = omega (arith, e) in subst (λ m. best_run log most (drop j xs) ≡ better (run_at log most (drop j xs)) (best_run log most (drop m (x ∷ xs)))) (sym k) (go j (i - 1) xs (omega (arith, e)) (omega (arith, h)))

-- the run that was counted
pub counted-run : (log : List Entry) (most : ℕ) (names : List Name) (run : Run) → run.count ≡ length (run_at log most (drop run.first names)) → run.first + run.count ≤ length names → run.top ≡ greatest_level (take run.count (drop run.first names)) → IsRun names run × (run_at log most (drop run.first names) ≡ names_in names run)
counted-run log most names run e h t =
    let same : run_at log most (drop run.first names) ≡ names_in names run = run-prefix log most (drop run.first names) ∙ ap (λ n. take n (drop run.first names)) (sym e) in
    (record { within = h; count = e ∙ ap length same; top = t }, same)
