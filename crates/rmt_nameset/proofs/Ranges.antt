-- Lists that tests part in two, and what a range of them is.
use Rattle.std.proofs.Common.{◌≡◌, ℕ, zero, suc, ◌+◌, ◌<◌, ◌≤◌, ◌||◌, Bool, true, false, cond, not, List, [], ◌∷◌, length, refl, sym, ap, arith, ◌∙◌, one-add, filter, inl, inr}
use Rattle.std.specs.Prelude.{slice_index_or}
use Rattle.std.specs.List.{prefix_len, remove_range}
use Rattle.std.specs.List.Sorted.{IsPartitionedBy, IsPartitionPoint}
use Rattle.std.proofs.lemmas.List.Sums.{prefix_len_is}
use Rattle.rmt_model.specs.Words.{Has, Each, Pairwise}
use Rattle.rmt_model.proofs.Lists.{Each-at, Each-all}

-- whoever passes the test has only those that pass it at the start
abbrev pub Downward : {A : Type 0} → (A → Bool) → List A → Type 0
Downward test xs = Pairwise (λ a b. test b ≡ true → test a ≡ true) xs

pub Pairwise-to : {A : Type 0} (R S : A → A → Type 0) (P : A → Type 0) (xs : List A) → ((a b : A) → P a → P b → R a b → S a b) → Pairwise R xs → Each P xs → Pairwise S xs
Pairwise-to R S P [] f r e = tt
Pairwise-to R S P (x ∷ xs) f r e = (Each-all (S x) xs (λ y h. f x y e.0 (Each-at P xs y e.1 h) (Each-at (R x) xs y r.0 h)), Pairwise-to R S P xs f r.1 e.1)

Has-index : {A : Type 0} (xs : List A) (j : ℕ) (d : A) → j < length xs → Has xs (slice_index_or xs j d)
Has-index [] j d l = absurd (omega arith)
Has-index (x ∷ xs) zero d l = inl refl
Has-index (x ∷ xs) (suc j) d l = inr (Has-index xs j d (omega arith))

-- such a list is parted
pub parted : {A : Type 0} (test : A → Bool) (xs : List A) → Downward test xs → IsPartitionedBy test xs
parted test [] p i j d le lt e = absurd (omega arith)
parted test (x ∷ xs) p zero zero d le lt e = e
parted test (x ∷ xs) p zero (suc j) d le lt e = Each-at (λ b. test b ≡ true → test x ≡ true) xs (slice_index_or xs j d) p.0 (Has-index xs j d (omega arith)) e
parted test (x ∷ xs) p (suc i) zero d le lt e = absurd (omega arith)
parted test (x ∷ xs) p (suc i) (suc j) d le lt e = parted test xs p.1 i j d (omega arith) (omega arith) e

-- where a list is parted is how many pass from the start on
pub point_is : {A : Type 0} (test : A → Bool) (xs : List A) (n : ℕ) (d : A) → n ≤ length xs → IsPartitionPoint (λ a. test a ≡ true) (λ a. test a ≡ false) xs n → n ≡ prefix_len test xs
point_is test xs n d within p = sym (prefix_len_is test xs n d within (λ k l. p.0 k d (omega arith) l) (λ l. p.1 n d (omega arith) l))

pub filter-all : {A : Type 0} (keep : A → Bool) (xs : List A) → Each (λ a. keep a ≡ true) xs → filter keep xs ≡ xs
filter-all keep [] e = refl
filter-all keep (x ∷ xs) e = ap (λ b. cond b (x ∷ filter keep xs) (filter keep xs)) e.0 ∙ ap (λ ys. x ∷ ys) (filter-all keep xs e.1)

-- none passes where the first doesn't
fails : {A : Type 0} (test : A → Bool) (z : A) (x : A) → (test x ≡ true → test z ≡ true) → test z ≡ false → test x ≡ false
fails test z x f e = go (test x) f
  where
    go : (b : Bool) → (b ≡ true → test z ≡ true) → b ≡ false
    go true f = let q = f refl in absurd (cc)
    go false f = refl

pub none-prefix : {A : Type 0} (test : A → Bool) (xs : List A) → Each (λ a. test a ≡ false) xs → prefix_len test xs ≡ 0
none-prefix test [] e = refl
none-prefix test (x ∷ xs) e = ap (λ b. cond b (1 + prefix_len test xs) 0) e.0

pub all-fail : {A : Type 0} (test : A → Bool) (z : A) (xs : List A) → Each (λ b. test b ≡ true → test z ≡ true) xs → test z ≡ false → Each (λ a. test a ≡ false) xs
all-fail test z xs p e = Each-all (λ a. test a ≡ false) xs (λ x h. fails test z x (Each-at (λ b. test b ≡ true → test z ≡ true) xs x p h) e)

-- what a range is, by two tests: those that pass the second and not the first
abbrev pub Between : {A : Type 0} → (A → Bool) → (A → Bool) → (A → Bool) → A → Type 0
Between keep below upto a = (keep a ≡ (below a || not (upto a))) × (below a ≡ true → upto a ≡ true)

-- to keep what lies outside is to take the range away
pub middle : {A : Type 0} (keep below upto : A → Bool) (xs : List A) → Downward below xs → Downward upto xs → Each (Between keep below upto) xs → filter keep xs ≡ remove_range xs (prefix_len below xs) (prefix_len upto xs)
middle keep below upto [] d u w = refl
middle keep below upto (z ∷ xs) d u w = go (below z) (upto z) (keep z) refl refl w.0.0 (middle keep below upto xs d.1 u.1 w.1)
  where
    n : ℕ
    n = prefix_len below xs

    m : ℕ
    m = prefix_len upto xs

    kept : upto z ≡ false → Each (λ a. keep a ≡ true) xs
    kept f = Each-all (λ a. keep a ≡ true) xs (λ x h.
        let g = Each-at (λ a. upto a ≡ false) xs x (all-fail upto z xs u.0 f) h in
        let k = (Each-at (Between keep below upto) xs x w.1 h).0 in
        k ∙ passes (below x) (upto x) g)
      where
        passes : (b t : Bool) → t ≡ false → (b || not t) ≡ true
        passes true t e = refl
        passes false t e = ap not e

    go : (b t k : Bool) → below z ≡ b → upto z ≡ t → k ≡ (b || not t) → filter keep xs ≡ remove_range xs n m → cond k (z ∷ filter keep xs) (filter keep xs) ≡ remove_range (z ∷ xs) (cond b (1 + n) 0) (cond t (1 + m) 0)
    go true false k e f g h = let q = w.0.1 e in absurd (cc)
    go true true k e f g h = rw (g, one-add, one-add) (ap (λ ys. z ∷ ys) h)
    go false true k e f g h = rw (g, one-add) (h ∙ ap (λ i. remove_range xs i m) (none-prefix below xs (all-fail below z xs d.0 e)))
    go false false k e f g h = rw g (ap (λ ys. z ∷ ys) (filter-all keep xs (kept f)))

pub below-le : {A : Type 0} (keep below upto : A → Bool) (xs : List A) → Each (Between keep below upto) xs → prefix_len below xs ≤ prefix_len upto xs
below-le keep below upto [] w = omega arith
below-le keep below upto (z ∷ xs) w = go (below z) (upto z) w.0.1 (below-le keep below upto xs w.1)
  where
    go : (b t : Bool) → (b ≡ true → t ≡ true) → prefix_len below xs ≤ prefix_len upto xs → cond b (1 + prefix_len below xs) 0 ≤ cond t (1 + prefix_len upto xs) 0
    go true true f h = omega arith
    go true false f h = let q = f refl in absurd (cc)
    go false t f h = omega arith

-- what is kept has as many at the start
pub prefix-kept : {A : Type 0} (keep below : A → Bool) (xs : List A) → Downward below xs → Each (λ a. below a ≡ true → keep a ≡ true) xs → prefix_len below (filter keep xs) ≡ prefix_len below xs
prefix-kept keep below [] d w = refl
prefix-kept keep below (z ∷ xs) d w = go (below z) (keep z) refl refl (prefix-kept keep below xs d.1 w.1)
  where
    n : ℕ
    n = prefix_len below xs

    go : (b k : Bool) → below z ≡ b → keep z ≡ k → prefix_len below (filter keep xs) ≡ n → prefix_len below (cond k (z ∷ filter keep xs) (filter keep xs)) ≡ cond b (1 + n) 0
    go true true e f h = rw (e, h) refl
    go true false e f h = let q = w.0 e in absurd (cc)
    go false true e f h = ap (λ b. cond b (1 + prefix_len below (filter keep xs)) 0) e
    go false false e f h = h ∙ none-prefix below xs (all-fail below z xs d.0 e)
