-- Marks: one more place, and one more mark.
use Rattle.std.proofs.Common.{◌≡◌, ℕ, zero, suc, ◌+◌, ◌-◌, ◌<◌, ◌≤◌, ◌||◌, Bool, true, false, List, [], ◌∷◌, ◌++◌, length, take, refl, ap, arith, ◌∙◌, nat_eq}
use Rattle.std.proofs.lemmas.Bool.Decides.{nat_tests}
use Rattle.std.proofs.lemmas.Grind.{common_steps}
use Rattle.std.specs.Prelude.{replicate, slice_set}
use Rattle.rmt_queue.specs.Marks.{done_at, grown}
use Rattle.rmt_model.proofs.Standing.{with_mark}

pub past-false : (xs : List Bool) (i : ℕ) → length xs ≤ i → done_at xs i ≡ false
past-false [] i l = refl
past-false (x ∷ xs) zero l = absurd (omega (arith, l))
past-false (x ∷ xs) (suc i) l = past-false xs i (omega (arith, l))

pub false-replicate : (k i : ℕ) → done_at (replicate k false) i ≡ false
false-replicate zero i = refl
false-replicate (suc k) zero = refl
false-replicate (suc k) (suc i) = false-replicate k i

pub false-behind : (xs : List Bool) (k i : ℕ) → done_at xs i ≡ false → done_at (xs ++ replicate k false) i ≡ false
false-behind [] k i e = false-replicate k i
false-behind (x ∷ xs) k zero e = e
false-behind (x ∷ xs) k (suc i) e = false-behind xs k i e

pub length-replicate-is : (k : ℕ) → length (replicate k false) ≡ k
length-replicate-is zero = refl
length-replicate-is (suc k) = ap suc (length-replicate-is k)

length-append-is : (xs ys : List Bool) → length (xs ++ ys) ≡ length xs + length ys
length-append-is [] ys = omega arith
length-append-is (x ∷ xs) ys = let r = length-append-is xs ys in omega (arith, r)

pub length-grown : (xs : List Bool) (k : ℕ) → k ≤ length (grown xs k)
length-grown xs k = let a = length-append-is xs (replicate (k - length xs) false) in let b = length-replicate-is (k - length xs) in omega (arith, a, b)

-- marks of which none is set
pub take-unmarked : (n : ℕ) (xs : List Bool) → ((i : ℕ) → done_at xs i ≡ false) → n ≤ length xs → take n xs ≡ replicate n false
take-unmarked zero xs f l = refl
take-unmarked (suc n) [] f l = absurd (omega (arith, l))
take-unmarked (suc n) (x ∷ xs) f l = ap (λ b. b ∷ take n xs) (f 0) ∙ ap (λ ys. false ∷ ys) (take-unmarked n xs (λ i. f (suc i)) (omega (arith, l)))

-- more places are more marks, which aren't set
pub take-longer : (k m n : ℕ) (xs : List Bool) → k ≤ length xs → ((i : ℕ) → k ≤ i → done_at xs i ≡ false) → k ≤ m → m ≤ n → take m (grown xs n) ≡ grown (take k xs) m
take-longer zero m n xs l f a b =
    let g = length-grown xs n in
    let z : m ≡ m - 0 = omega arith in
    take-unmarked m (grown xs n) (λ i. false-behind xs (n - length xs) i (f i (omega arith))) (omega (arith, b, g)) ∙ ap (λ j. replicate j false) z
take-longer (suc k) m n [] l f a b = absurd (omega (arith, l))
take-longer (suc k) zero n (x ∷ xs) l f a b = absurd (omega (arith, a))
take-longer (suc k) (suc m) zero (x ∷ xs) l f a b = absurd (omega (arith, b))
take-longer (suc k) (suc m) (suc n) (x ∷ xs) l f a b =
    let s : suc n - length (x ∷ xs) ≡ n - length xs = omega arith in
    let t : m - length (take k xs) ≡ suc m - length (take (suc k) (x ∷ xs)) = omega arith in
    ap (λ j. take (suc m) (x ∷ (xs ++ replicate j false))) s
    ∙ (ap (λ ys. x ∷ ys) (take-longer k m n xs (omega (arith, l)) (λ i h. f (suc i) (omega (arith, h))) (omega (arith, a)) (omega (arith, b)))
    ∙ ap (λ j. x ∷ (take k xs ++ replicate j false)) t)

-- a mark more, which isn't set
pub replicate-snoc : (k : ℕ) → replicate k false ++ false ∷ [] ≡ replicate (suc k) false
replicate-snoc zero = refl
replicate-snoc (suc k) = ap (λ ys. false ∷ ys) (replicate-snoc k)

-- a place more is a mark more, which isn't set
pub take-grown : (n : ℕ) (xs : List Bool) → n ≤ length xs → ((i : ℕ) → n ≤ i → done_at xs i ≡ false) → take (suc n) (xs ++ replicate (suc n - length xs) false) ≡ take n xs ++ false ∷ []
take-grown zero [] l f = refl
take-grown zero (x ∷ xs) l f = ap (λ b. b ∷ []) (f 0 (omega arith))
take-grown (suc n) [] l f = absurd (omega (arith, l))
take-grown (suc n) (x ∷ xs) l f =
    let s : suc (suc n) - length (x ∷ xs) ≡ suc n - length xs = omega arith in
    ap (λ k. take (suc (suc n)) (x ∷ (xs ++ replicate k false))) s ∙ ap (λ ys. x ∷ ys) (take-grown n xs (omega (arith, l)) (λ i m. f (suc i) (omega (arith, m))))

pub done-snoc : (xs : List Bool) (j : ℕ) → done_at (xs ++ false ∷ []) j ≡ true → done_at xs j ≡ true
done-snoc [] zero e = absurd (cc)
done-snoc [] (suc j) e = absurd (cc)
done-snoc (x ∷ xs) zero e = e
done-snoc (x ∷ xs) (suc j) e = done-snoc xs j e

pub length-take-le : (n : ℕ) (xs : List Bool) → n ≤ length xs → length (take n xs) ≡ n
length-take-le n xs l = grind (arith, common_steps)

-- a mark that is set below a length is set in the marks up to it
pub take-set : (n i : ℕ) (xs : List Bool) → i < n → n ≤ length xs → take n (slice_set xs i true) ≡ slice_set (take n xs) i true
take-set zero i xs l m = absurd (omega (arith, l))
take-set (suc n) i [] l m = absurd (omega (arith, m))
take-set (suc n) zero (x ∷ xs) l m = refl
take-set (suc n) (suc i) (x ∷ xs) l m = ap (λ ys. x ∷ ys) (take-set n i xs (omega (arith, l)) (omega (arith, m)))

pub length-set-is : (xs : List Bool) (i : ℕ) → length (slice_set xs i true) ≡ length xs
length-set-is [] i = refl
length-set-is (x ∷ xs) zero = refl
length-set-is (x ∷ xs) (suc i) = ap suc (length-set-is xs i)

-- a mark that is set is the new one or was set before
pub done-set : (xs : List Bool) (i j : ℕ) → done_at (slice_set xs i true) j ≡ true → with_mark i (done_at xs) j ≡ true
done-set xs i j e = go (nat_eq j i) refl
  where
    other : (ys : List Bool) (i j : ℕ) → nat_eq j i ≡ false → done_at (slice_set ys i true) j ≡ true → done_at ys j ≡ true
    other [] i j n e = e
    other (y ∷ ys) zero zero n e = absurd (grind (arith, nat_tests))
    other (y ∷ ys) zero (suc j) n e = e
    other (y ∷ ys) (suc i) zero n e = e
    other (y ∷ ys) (suc i) (suc j) n e = other ys i j (grind (arith, nat_tests)) e

    go : (b : Bool) → nat_eq j i ≡ b → (b || done_at xs j) ≡ true
    go true n = refl
    go false n = other xs i j n e

-- past a length a mark below it changes nothing
pub set-past : (xs : List Bool) (i j : ℕ) → i < j → done_at xs j ≡ false → done_at (slice_set xs i true) j ≡ false
set-past [] i j l e = e
set-past (x ∷ xs) zero zero l e = absurd (omega (arith, l))
set-past (x ∷ xs) zero (suc j) l e = e
set-past (x ∷ xs) (suc i) zero l e = absurd (omega (arith, l))
set-past (x ∷ xs) (suc i) (suc j) l e = set-past xs i j (omega (arith, l)) e

pub done-take : (n : ℕ) (xs : List Bool) (i : ℕ) → i < n → done_at (take n xs) i ≡ done_at xs i
done-take zero xs i l = absurd (omega (arith, l))
done-take (suc n) [] i l = refl
done-take (suc n) (x ∷ xs) zero l = refl
done-take (suc n) (x ∷ xs) (suc i) l = done-take n xs i (omega (arith, l))
