-- Filters of lists and their prefixes.
use Rattle.std.proofs.Common.{◌≡◌, ℕ, zero, suc, ◌+◌, ◌-◌, ◌<◌, ◌≤◌, inl, inr, Bool, true, false, cond, not, List, [], ◌∷◌, ◌++◌, length, map, filter, reverse, take, drop, get_or, refl, sym, ap, subst, arith, ◌∙◌, one-add, nat_eq}
use Rattle.std.proofs.Math.Dec.{eqb-suc-zero, eqb-zero-suc, eqb-suc-suc}
use Rattle.std.proofs.lemmas.List.{reverse-append}
use Rattle.std.proofs.lemmas.List.Elements.{filter-append}
use Rattle.std.proofs.lemmas.Option.{slice_get_read}
use Rattle.std.specs.Prelude.{slice_get}
use Rattle.std.specs.List.{prefix_len}
use Rattle.std.specs.declared.option.Option.{Option}
use Rattle.std.specs.declared.option.Option.TheVariants.{Some}
use Rattle.rmt_model.specs.Words.{Has, Each, Pairwise}
use Rattle.rmt_model.proofs.Lists.{Each-at}
use Rattle.rmt_model.proofs.Drops.{some-same}
use Rattle.rmt_nameset.proofs.Ranges.{Downward, all-fail, filter-all}

pub filter-swap : {A : Type 0} (p q : A → Bool) (xs : List A) → filter p (filter q xs) ≡ filter q (filter p xs)
filter-swap p q [] = refl
filter-swap {A} p q (x ∷ xs) = go (p x) (q x) refl refl (filter-swap p q xs)
  where
    go : (b c : Bool) → p x ≡ b → q x ≡ c → filter p (filter q xs) ≡ filter q (filter p xs) → filter p (cond c (x ∷ filter q xs) (filter q xs)) ≡ filter q (cond b (x ∷ filter p xs) (filter p xs))
    go true true e f h =
        ap (λ (t : Bool). cond t (x ∷ filter p (filter q xs)) (filter p (filter q xs))) e
        ∙ (ap (λ (l : List A). x ∷ l) h ∙ sym (ap (λ (t : Bool). cond t (x ∷ filter q (filter p xs)) (filter q (filter p xs))) f))
    go true false e f h = h ∙ sym (ap (λ (t : Bool). cond t (x ∷ filter q (filter p xs)) (filter q (filter p xs))) f)
    go false true e f h = ap (λ (t : Bool). cond t (x ∷ filter p (filter q xs)) (filter p (filter q xs))) e ∙ h
    go false false e f h = h

-- a filter by a test that implies another
pub filter-within : {A : Type 0} (p q : A → Bool) (xs : List A) → ((x : A) → p x ≡ true → q x ≡ true) → filter p (filter q xs) ≡ filter p xs
filter-within p q [] f = refl
filter-within {A} p q (x ∷ xs) f = go (p x) (q x) refl refl (filter-within p q xs f)
  where
    go : (b c : Bool) → p x ≡ b → q x ≡ c → filter p (filter q xs) ≡ filter p xs → filter p (cond c (x ∷ filter q xs) (filter q xs)) ≡ cond b (x ∷ filter p xs) (filter p xs)
    go true true e g h = ap (λ (t : Bool). cond t (x ∷ filter p (filter q xs)) (filter p (filter q xs))) e ∙ ap (λ (l : List A). x ∷ l) h
    go true false e g h = let k = f x e in absurd (cc)
    go false true e g h = ap (λ (t : Bool). cond t (x ∷ filter p (filter q xs)) (filter p (filter q xs))) e ∙ h
    go false false e g h = h

filter-none : {A : Type 0} (p : A → Bool) (xs : List A) → Each (λ a. p a ≡ false) xs → filter p xs ≡ []
filter-none p [] e = refl
filter-none p (x ∷ xs) e = ap (λ (b : Bool). cond b (x ∷ filter p xs) (filter p xs)) e.0 ∙ filter-none p xs e.1

Each-to : {A : Type 0} (P Q : A → Type 0) (xs : List A) → ((x : A) → P x → Q x) → Each P xs → Each Q xs
Each-to P Q [] f e = tt
Each-to P Q (x ∷ xs) f e = (f x e.0, Each-to P Q xs f e.1)

-- where those that pass come first, they are the prefix
pub prefix-is : {A : Type 0} (p : A → Bool) (xs : List A) → Downward p xs → take (prefix_len p xs) xs ≡ filter p xs
prefix-is p [] d = refl
prefix-is {A} p (x ∷ xs) d = go (p x) refl (prefix-is p xs d.1)
  where
    go : (b : Bool) → p x ≡ b → take (prefix_len p xs) xs ≡ filter p xs → take (cond b (1 + prefix_len p xs) 0) (x ∷ xs) ≡ cond b (x ∷ filter p xs) (filter p xs)
    go true e h = rw one-add (ap (λ (l : List A). x ∷ l) h)
    go false e h = sym (filter-none p xs (all-fail p x xs d.0 e))

-- and the others are the rest
pub rest-is : {A : Type 0} (p : A → Bool) (xs : List A) → Downward p xs → drop (prefix_len p xs) xs ≡ filter (λ a. not (p a)) xs
rest-is p [] d = refl
rest-is {A} p (x ∷ xs) d = go (p x) refl (rest-is p xs d.1)
  where
    go : (b : Bool) → p x ≡ b → drop (prefix_len p xs) xs ≡ filter (λ a. not (p a)) xs → drop (cond b (1 + prefix_len p xs) 0) (x ∷ xs) ≡ cond (not b) (x ∷ filter (λ a. not (p a)) xs) (filter (λ a. not (p a)) xs)
    go true e h = rw one-add h
    go false e h = ap (λ (l : List A). x ∷ l) (sym (filter-all (λ a. not (p a)) xs (Each-to (λ a. p a ≡ false) (λ a. not (p a) ≡ true) xs (λ y t. ap not t) (all-fail p x xs d.0 e))))

-- those that don't pass a test that is denied are those that pass it
pub filter-same : {A : Type 0} (p q : A → Bool) (xs : List A) → ((x : A) → p x ≡ q x) → filter p xs ≡ filter q xs
filter-same p q [] f = refl
filter-same {A} p q (x ∷ xs) f = ap (λ (b : Bool). cond b (x ∷ filter p xs) (filter p xs)) (f x) ∙ ap (λ (l : List A). cond (q x) (x ∷ l) l) (filter-same p q xs f)

pub map-filter : {A B : Type 0} (f : A → B) (q : B → Bool) (xs : List A) → map f (filter (λ x. q (f x)) xs) ≡ filter q (map f xs)
map-filter f q [] = refl
map-filter {A} {B} f q (x ∷ xs) = go (q (f x)) (map-filter f q xs)
  where
    go : (b : Bool) → map f (filter (λ x. q (f x)) xs) ≡ filter q (map f xs) → map f (cond b (x ∷ filter (λ x. q (f x)) xs) (filter (λ x. q (f x)) xs)) ≡ cond b (f x ∷ filter q (map f xs)) (filter q (map f xs))
    go true h = ap (λ (l : List B). f x ∷ l) h
    go false h = h

pub filter-reverse : {A : Type 0} (p : A → Bool) (xs : List A) → filter p (reverse xs) ≡ reverse (filter p xs)
filter-reverse p [] = refl
filter-reverse {A} p (x ∷ xs) =
    ap (filter p) (reverse-append (x ∷ []) xs)
    ∙ (filter-append p (reverse xs) (x ∷ [])
    ∙ (ap (λ (l : List A). l ++ filter p (x ∷ [])) (filter-reverse p xs) ∙ go (p x)))
  where
    nothing : (l : List A) → l ++ [] ≡ l
    nothing [] = refl
    nothing (y ∷ l) = ap (λ (m : List A). y ∷ m) (nothing l)

    go : (b : Bool) → reverse (filter p xs) ++ cond b (x ∷ []) [] ≡ reverse (cond b (x ∷ filter p xs) (filter p xs))
    go true = sym (reverse-append (x ∷ []) (filter p xs))
    go false = nothing (reverse (filter p xs))

-- an element at a place is in the list
pub get-has : {A : Type 0} (xs : List A) (i : ℕ) (x : A) → slice_get xs i ≡ Some x → Has xs x
get-has [] i x e = absurd (cc)
get-has (y ∷ xs) zero x e = inl (some-same y x e)
get-has (y ∷ xs) (suc i) x e = inr (get-has xs i x e)

-- what passes is counted, where those that pass come first
pub passes-below : {A : Type 0} (p : A → Bool) (xs : List A) (i : ℕ) (x : A) → Downward p xs → slice_get xs i ≡ Some x → p x ≡ true → i < prefix_len p xs
passes-below p [] i x d e t = absurd (cc)
passes-below p (y ∷ xs) zero x d e t = let q : p y ≡ true = ap p (some-same y x e) ∙ t in rw q (omega arith)
passes-below p (y ∷ xs) (suc i) x d e t =
    let q : p y ≡ true = Each-at (λ b. p b ≡ true → p y ≡ true) xs x d.0 (get-has xs i x e) t in
    let h = passes-below p xs i x d.1 e t in
    rw q (omega (arith, h))

-- what doesn't pass isn't
pub fails-above : {A : Type 0} (p : A → Bool) (xs : List A) (i : ℕ) (x : A) → slice_get xs i ≡ Some x → p x ≡ false → prefix_len p xs ≤ i
fails-above p [] i x e t = absurd (cc)
fails-above p (y ∷ xs) zero x e t = let q : p y ≡ false = ap p (some-same y x e) ∙ t in rw q (omega arith)
fails-above p (y ∷ xs) (suc i) x e t = go (p y) (fails-above p xs i x e t)
  where
    go : (b : Bool) → prefix_len p xs ≤ i → cond b (1 + prefix_len p xs) 0 ≤ suc i
    go true h = omega (arith, h)
    go false h = omega arith

-- each that is counted passes
pub below-passes : {A : Type 0} (p : A → Bool) (xs : List A) (i : ℕ) (x : A) → slice_get xs i ≡ Some x → i < prefix_len p xs → p x ≡ true
below-passes p [] i x e h = absurd (cc)
below-passes p (y ∷ xs) zero x e h = go (p y) refl h
  where
    go : (b : Bool) → p y ≡ b → 0 < cond b (1 + prefix_len p xs) 0 → p x ≡ true
    go true q h = sym (ap p (some-same y x e)) ∙ q
    go false q h = absurd (omega (arith, h))
below-passes p (y ∷ xs) (suc i) x e h = go (p y) h (below-passes p xs i x e)
  where
    go : (b : Bool) → suc i < cond b (1 + prefix_len p xs) 0 → (i < prefix_len p xs → p x ≡ true) → p x ≡ true
    go true h f = f (omega (arith, h))
    go false h f = absurd (omega (arith, h))

-- of two elements in order the earlier comes first
pub Pairwise-at : {A : Type 0} (R : A → A → Type 0) (xs : List A) (i j : ℕ) (x y : A) → Pairwise R xs → slice_get xs i ≡ Some x → slice_get xs j ≡ Some y → i < j → R x y
Pairwise-at R [] i j x y p e f h = absurd (cc)
Pairwise-at R (z ∷ xs) zero zero x y p e f h = absurd (omega (arith, h))
Pairwise-at R (z ∷ xs) zero (suc j) x y p e f h = subst (λ w. R w y) (some-same z x e) (Each-at (R z) xs y p.0 (get-has xs j y f))
Pairwise-at R (z ∷ xs) (suc i) zero x y p e f h = absurd (omega (arith, h))
Pairwise-at R (z ∷ xs) (suc i) (suc j) x y p e f h = Pairwise-at R xs i j x y p.1 e f (omega (arith, h))

-- each element is at a place
pub has-get : {A : Type 0} (xs : List A) (x : A) → Has xs x → (i : ℕ) × (slice_get xs i ≡ Some x)
has-get [] x h = absurd h
has-get (y ∷ xs) x (inl e) = (0, ap Some e)
has-get (y ∷ xs) x (inr h) = let r = has-get xs x h in (suc r.0, r.1)

-- the element at a place of a list with one more at its end
pub get-snoc : {A : Type 0} (xs : List A) (x : A) (i : ℕ) → slice_get (xs ++ x ∷ []) i ≡ cond (nat_eq i (length xs)) (Some x) (slice_get xs i)
get-snoc [] x zero = refl
get-snoc [] x (suc i) = rw eqb-suc-zero refl
get-snoc (y ∷ xs) x zero = rw eqb-zero-suc refl
get-snoc {A} (y ∷ xs) x (suc i) = get-snoc xs x i ∙ ap (λ (b : Bool). cond {A = Option A} b (Some x) (slice_get xs i)) (sym (eqb-suc-suc i (length xs)))

pub take-none : {A : Type 0} (xs : List A) → take 0 xs ≡ []
take-none [] = refl
take-none (x ∷ xs) = refl

pub take-whole : {A : Type 0} (xs : List A) (n : ℕ) → length xs ≤ n → take n xs ≡ xs
take-whole [] zero h = refl
take-whole [] (suc n) h = refl
take-whole {A} (x ∷ xs) zero h = absurd (omega (arith, h))
take-whole {A} (x ∷ xs) (suc n) h = ap (λ (l : List A). x ∷ l) (take-whole xs n (omega (arith, h)))

-- the last element that a search counted
pub last-counted : {A : Type 0} (test : A → Bool) (found all : List A) (n : ℕ) (x : A) → found ≡ all → n ≡ prefix_len test found → 0 < n → n ≤ length found → x ≡ get_or found (n - 1) x → slice_get all (prefix_len test all - 1) ≡ Some x
last-counted {A} test found all n x e q h l w =
    let c : n ≡ prefix_len test all = q ∙ ap (λ (xs : List A). prefix_len test xs) e in
    subst (λ (xs : List A). slice_get xs (prefix_len test all - 1) ≡ Some x) e
    (subst (λ m. slice_get found (m - 1) ≡ Some x) c (slice_get_read found (length found) (n - 1) x refl (omega (arith, h, l)) w))
