-- A replica among those that have noted a part.
use Rattle.std.proofs.Common.{◌≡◌, ℕ, zero, suc, inl, inr, ◌+◌, ◌<◌, ◌≤◌, Bool, true, false, cond, List, [], ◌∷◌, ◌++◌, length, get_or, take, drop, nat_eq, nat_lt, refl, ap, subst, arith, ◌∙◌}
use Rattle.std.proofs.lemmas.Bool.Decides.{nat_tests}
use Rattle.std.specs.Prelude.{◌↔◌, IsTrue}
use Rattle.rmt_model.specs.Words.{Has}
use Rattle.rmt_model.specs.Quorum.{noted_with}

-- the place is the first whose number isn't below this one
pub record IsPlace (r : ℕ) (xs : List ℕ) (k : ℕ) : Type 0 where
  pub within : k ≤ length xs
  pub below : (i : ℕ) → i < k → get_or xs i 0 < r
  pub at : k < length xs → r ≤ get_or xs k 0

later : (r x : ℕ) (xs : List ℕ) (k : ℕ) → IsPlace r (x ∷ xs) (suc k) → IsPlace r xs k
later r x xs k p = record { within = let w = p.within in omega (arith, w); below = λ i l. p.below (suc i) (omega (arith, l)); at = λ l. p.at (omega (arith, l)) }

-- where it is there already, nothing changes
pub noted-there : (r : ℕ) (xs : List ℕ) (k : ℕ) → IsPlace r xs k → k < length xs → get_or xs k 0 ≡ r → noted_with r xs ≡ xs
noted-there r [] k p l e = absurd (omega (arith, l))
noted-there r (x ∷ xs) zero p l e =
    let a : nat_lt x r ≡ false = grind (arith, nat_tests) in
    let b : nat_eq x r ≡ true = grind (arith, nat_tests) in
    ap (λ (c : Bool). cond c (x ∷ noted_with r xs) (cond (nat_eq x r) (x ∷ xs) (r ∷ x ∷ xs))) a ∙ ap (λ (c : Bool). cond c (x ∷ xs) (r ∷ x ∷ xs)) b
noted-there r (x ∷ xs) (suc k) p l e =
    let f : x < r = p.below 0 (omega arith) in
    let a : nat_lt x r ≡ true = grind (arith, nat_tests) in
    ap (λ (c : Bool). cond c (x ∷ noted_with r xs) (cond (nat_eq x r) (x ∷ xs) (r ∷ x ∷ xs))) a ∙ ap (λ (ys : List ℕ). x ∷ ys) (noted-there r xs k (later r x xs k p) (omega (arith, l)) e)

-- else it goes there
pub noted-new : (r : ℕ) (xs : List ℕ) (k : ℕ) → IsPlace r xs k → (k < length xs → get_or xs k 0 ≡ r → ⊥) → noted_with r xs ≡ take k xs ++ r ∷ drop k xs
noted-new r [] zero p f = refl
noted-new r [] (suc k) p f = let w = p.within in absurd (omega (arith, w))
noted-new r (x ∷ xs) zero p f =
    let l : r ≤ x = p.at (omega arith) in
    let a : nat_lt x r ≡ false = grind (arith, nat_tests) in
    let b : nat_eq x r ≡ false = other (nat_eq x r) refl in
    ap (λ (c : Bool). cond c (x ∷ noted_with r xs) (cond (nat_eq x r) (x ∷ xs) (r ∷ x ∷ xs))) a ∙ ap (λ (c : Bool). cond c (x ∷ xs) (r ∷ x ∷ xs)) b
  where
    other : (c : Bool) → nat_eq x r ≡ c → nat_eq x r ≡ false
    other true e = let q : x ≡ r = grind (arith, nat_tests) in absurd (f (omega arith) q)
    other false e = e
noted-new r (x ∷ xs) (suc k) p f =
    let g : x < r = p.below 0 (omega arith) in
    let a : nat_lt x r ≡ true = grind (arith, nat_tests) in
    ap (λ (c : Bool). cond c (x ∷ noted_with r xs) (cond (nat_eq x r) (x ∷ xs) (r ∷ x ∷ xs))) a ∙ ap (λ (ys : List ℕ). x ∷ ys) (noted-new r xs k (later r x xs k p) (λ l e. f (omega (arith, l)) e))

-- the place isn't before the next one
pub below-next : (xs : List ℕ) (r k : ℕ) → ((i : ℕ) → i < k → get_or xs i 0 < r) → get_or xs k 0 < r → (i : ℕ) → i < k + 1 → get_or xs i 0 < r
below-next xs r k f l i j = go (nat_lt i k) refl
  where
    go : (b : Bool) → nat_lt i k ≡ b → get_or xs i 0 < r
    go true t = f i (grind (arith, nat_tests))
    go false t = let e : k ≡ i = grind (arith, nat_tests) in subst (λ (n : ℕ). get_or xs n 0 < r) e l

-- a replica that is found
pub has-at : (xs : List ℕ) (k r : ℕ) → k < length xs → get_or xs k 0 ≡ r → Has xs r
has-at [] k r l e = absurd (omega (arith, l))
has-at (x ∷ xs) zero r l e = inl e
has-at (x ∷ xs) (suc k) r l e = inr (has-at xs k r (omega (arith, l)) e)

-- none that is found
pub has-none : (xs : List ℕ) (r : ℕ) → ((i : ℕ) → i < length xs → get_or xs i 0 ≡ r → ⊥) → Has xs r → ⊥
has-none [] r f h = absurd h
has-none (x ∷ xs) r f (inl e) = f 0 (omega arith) e
has-none (x ∷ xs) r f (inr h) = has-none xs r (λ i l e. f (suc i) (omega (arith, l)) e) h

-- not before the next place
pub not-next : (xs : List ℕ) (r k : ℕ) → ((i : ℕ) → i < k → get_or xs i 0 ≡ r → ⊥) → (get_or xs k 0 ≡ r → ⊥) → (i : ℕ) → i < k + 1 → get_or xs i 0 ≡ r → ⊥
not-next xs r k f l i j = go (nat_lt i k) refl
  where
    go : (b : Bool) → nat_lt i k ≡ b → get_or xs i 0 ≡ r → ⊥
    go true t = f i (grind (arith, nat_tests))
    go false t = let e : k ≡ i = grind (arith, nat_tests) in subst (λ (n : ℕ). get_or xs n 0 ≡ r → ⊥) e l

-- an answer that is right both ways
pub fact-of : {A : Type 0} (b : Bool) → (b ≡ true → A) → (b ≡ false → A → ⊥) → IsTrue b ↔ A
fact-of true f g = (λ t. f refl, λ a. refl)
fact-of false f g = (λ t. absurd (cc), λ a. absurd (g refl a))
