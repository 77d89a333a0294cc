-- The next numbers of partitions, one of which changes.
use Rattle.std.proofs.Common.{◌≡◌, ℕ, ◌+◌, ◌<◌, ◌≤◌, inl, inr, Bool, true, false, cond, List, [], ◌∷◌, refl, sym, ap, arith, ◌∙◌, nat_eq, nat_lt}
use Rattle.std.proofs.lemmas.Bool.Decides.{nat_tests}
use Rattle.std.specs.declared.option.Option.{Option}
use Rattle.rmt_names.specs.Names.{rank}
use Rattle.rmt_model.specs.Words.{Has, Each, Pairwise}
use Rattle.rmt_model.proofs.Lists.{Each-at, Each-all, rank-injective}
use Rattle.rmt_model.specs.BlockNumbers.{next_number, with_next, next_numbers_after}

same-rank : (i j : ℕ) → nat_eq i j ≡ true → i ≡ j
same-rank i j e = grind (arith, nat_tests)

equal-rank : (i j : ℕ) → i ≡ j → nat_eq i j ≡ true
equal-rank i j e = grind (arith, nat_tests)

other-rank : (i j : ℕ) → (i ≡ j → ⊥) → nat_eq i j ≡ false
other-rank i j n = go (nat_eq i j) refl
  where
    go : (b : Bool) → nat_eq i j ≡ b → b ≡ false
    go true e = absurd (n (same-rank i j e))
    go false e = refl

below-rank : (i j : ℕ) → nat_lt i j ≡ true → nat_eq i j ≡ false
below-rank i j e = grind (arith, nat_tests)

-- the number that was set
pub next-with : (xs : List (Option ℕ × ℕ)) (p : Option ℕ) (n : ℕ) → next_number (with_next xs p n) p ≡ n
next-with [] p n = ap (λ (b : Bool). cond b n 0) (equal-rank (rank p) (rank p) refl)
next-with (x ∷ xs) p n = go (nat_lt (rank x.0) (rank p)) refl (nat_eq (rank x.0) (rank p)) refl (next-with xs p n)
  where
    here : (rest : List (Option ℕ × ℕ)) → next_number ((p, n) ∷ rest) p ≡ n
    here rest = ap (λ (b : Bool). cond b n (next_number rest p)) (equal-rank (rank p) (rank p) refl)

    go : (b : Bool) → nat_lt (rank x.0) (rank p) ≡ b → (c : Bool) → nat_eq (rank x.0) (rank p) ≡ c → next_number (with_next xs p n) p ≡ n
        → next_number (cond b (x ∷ with_next xs p n) (cond c ((p, n) ∷ xs) ((p, n) ∷ x ∷ xs))) p ≡ n
    go true e c f i = ap (λ (b : Bool). cond b x.1 (next_number (with_next xs p n) p)) (below-rank (rank x.0) (rank p) e) ∙ i
    go false e true f i = here xs
    go false e false f i = here (x ∷ xs)

-- the others stay
pub next-other : (xs : List (Option ℕ × ℕ)) (p q : Option ℕ) (n : ℕ) → (p ≡ q → ⊥) → next_number (with_next xs p n) q ≡ next_number xs q
next-other xs p q n d = all xs
  where
    away : nat_eq (rank p) (rank q) ≡ false
    away = other-rank (rank p) (rank q) (λ e. d (rank-injective p q e))

    skip : (rest : List (Option ℕ × ℕ)) → next_number ((p, n) ∷ rest) q ≡ next_number rest q
    skip rest = ap (λ (b : Bool). cond b n (next_number rest q)) away

    all : (xs : List (Option ℕ × ℕ)) → next_number (with_next xs p n) q ≡ next_number xs q
    all [] = skip []
    all (x ∷ xs) = go (nat_lt (rank x.0) (rank p)) (nat_eq (rank x.0) (rank p)) refl (all xs)
      where
        go : (b c : Bool) → nat_eq (rank x.0) (rank p) ≡ c → next_number (with_next xs p n) q ≡ next_number xs q
            → next_number (cond b (x ∷ with_next xs p n) (cond c ((p, n) ∷ xs) ((p, n) ∷ x ∷ xs))) q ≡ next_number (x ∷ xs) q
        go true c f i = ap (λ m. cond (nat_eq (rank x.0) (rank q)) x.1 m) i
        go false true f i =
            let r : rank x.0 ≡ rank p = same-rank (rank x.0) (rank p) f in
            skip xs ∙ sym (ap (λ (b : Bool). cond b x.1 (next_number xs q)) (ap (λ i. nat_eq i (rank q)) r ∙ away))
        go false false f i = skip (x ∷ xs)

each-with : (P : Option ℕ × ℕ → Type 0) (xs : List (Option ℕ × ℕ)) (p : Option ℕ) (n : ℕ) → P (p, n) → Each P xs → Each P (with_next xs p n)
each-with P [] p n h e = (h, tt)
each-with P (x ∷ xs) p n h e = go (nat_lt (rank x.0) (rank p)) (nat_eq (rank x.0) (rank p)) (each-with P xs p n h e.1)
  where
    go : (b c : Bool) → Each P (with_next xs p n) → Each P (cond b (x ∷ with_next xs p n) (cond c ((p, n) ∷ xs) ((p, n) ∷ x ∷ xs)))
    go true c f = (e.0, f)
    go false true f = (h, e.1)
    go false false f = (h, e)

pub taken-with : (xs : List (Option ℕ × ℕ)) (p : Option ℕ) (n : ℕ) → 1 ≤ n → Each (λ x. 1 ≤ x.1) xs → Each (λ x. 1 ≤ x.1) (with_next xs p n)
taken-with xs p n h e = each-with (λ x. 1 ≤ x.1) xs p n h e

pub ordered-with : (xs : List (Option ℕ × ℕ)) (p : Option ℕ) (n : ℕ) → Pairwise (λ x y. rank x.0 < rank y.0) xs → Pairwise (λ x y. rank x.0 < rank y.0) (with_next xs p n)
ordered-with [] p n o = (tt, tt)
ordered-with (x ∷ xs) p n o = go (nat_lt (rank x.0) (rank p)) refl (nat_eq (rank x.0) (rank p)) refl (ordered-with xs p n o.1)
  where
    lower : (y : Option ℕ × ℕ) (i j k : ℕ) → i < j → k ≡ i → k < j
    lower y i j k l e = omega arith

    between : (i j k : ℕ) → nat_lt i j ≡ false → nat_eq i j ≡ false → i < k → j < k
    between i j k e f l = grind (arith, nat_tests)

    past : (i j : ℕ) → nat_lt i j ≡ false → nat_eq i j ≡ false → j < i
    past i j e f = grind (arith, nat_tests)

    go : (b : Bool) → nat_lt (rank x.0) (rank p) ≡ b → (c : Bool) → nat_eq (rank x.0) (rank p) ≡ c → Pairwise (λ x y. rank x.0 < rank y.0) (with_next xs p n)
        → Pairwise (λ x y. rank x.0 < rank y.0) (cond b (x ∷ with_next xs p n) (cond c ((p, n) ∷ xs) ((p, n) ∷ x ∷ xs)))
    go true e c f i = (each-with (λ y. rank x.0 < rank y.0) xs p n (grind (arith, nat_tests)) o.0, i)
    go false e true f i =
        let r : rank x.0 ≡ rank p = same-rank (rank x.0) (rank p) f in
        (Each-all (λ y. rank p < rank y.0) xs (λ y h. lower y (rank x.0) (rank y.0) (rank p) (Each-at (λ y. rank x.0 < rank y.0) xs y o.0 h) (sym r)), o.1)
    go false e false f i = (
      (past (rank x.0) (rank p) e f, Each-all (λ y. rank p < rank y.0) xs (λ y h. between (rank x.0) (rank p) (rank y.0) e f (Each-at (λ y. rank x.0 < rank y.0) xs y o.0 h))),
      o,
    )

-- where each partition's number is one more
pub next-advanced : (xs : List (Option ℕ × ℕ)) (p : Option ℕ) → next_number xs p ≤ next_number (next_numbers_after xs) p
next-advanced [] p = omega arith
next-advanced (x ∷ xs) p = go (nat_eq (rank x.0) (rank p)) (next-advanced xs p)
  where
    go : (b : Bool) → next_number xs p ≤ next_number (next_numbers_after xs) p → cond b x.1 (next_number xs p) ≤ cond b (x.1 + 1) (next_number (next_numbers_after xs) p)
    go true i = omega arith
    go false i = i

pub next-past : (xs : List (Option ℕ × ℕ)) (p : Option ℕ) → 0 < next_number xs p → next_number xs p < next_number (next_numbers_after xs) p
next-past [] p h = absurd (omega arith)
next-past (x ∷ xs) p h = go (nat_eq (rank x.0) (rank p)) h (next-past xs p)
  where
    go : (b : Bool) → 0 < cond b x.1 (next_number xs p) → (0 < next_number xs p → next_number xs p < next_number (next_numbers_after xs) p) → cond b x.1 (next_number xs p) < cond b (x.1 + 1) (next_number (next_numbers_after xs) p)
    go true h i = omega arith
    go false h i = i h

pub ordered-advanced : (xs : List (Option ℕ × ℕ)) → Pairwise (λ x y. rank x.0 < rank y.0) xs → Pairwise (λ x y. rank x.0 < rank y.0) (next_numbers_after xs)
ordered-advanced [] o = tt
ordered-advanced (x ∷ xs) o = (all xs o.0, ordered-advanced xs o.1)
  where
    all : (ys : List (Option ℕ × ℕ)) → Each (λ y. rank x.0 < rank y.0) ys → Each (λ y. rank x.0 < rank y.0) (next_numbers_after ys)
    all [] e = tt
    all (y ∷ ys) e = (e.0, all ys e.1)

pub taken-advanced : (xs : List (Option ℕ × ℕ)) → Each (λ x. 1 ≤ x.1) (next_numbers_after xs)
taken-advanced [] = tt
taken-advanced (x ∷ xs) = (omega arith, taken-advanced xs)

-- a partition that exists has its number
pub has-next : (xs : List (Option ℕ × ℕ)) (p : Option ℕ) → 0 < next_number xs p → Has xs (p, next_number xs p)
has-next [] p h = absurd (omega arith)
has-next (x ∷ xs) p h = go (nat_eq (rank x.0) (rank p)) refl h (has-next xs p)
  where
    go : (b : Bool) → nat_eq (rank x.0) (rank p) ≡ b → 0 < cond b x.1 (next_number xs p) → (0 < next_number xs p → Has xs (p, next_number xs p)) → Has (x ∷ xs) (p, cond b x.1 (next_number xs p))
    go true e h i = inl (ap (λ (q : Option ℕ). (q, x.1)) (rank-injective x.0 p (same-rank (rank x.0) (rank p) e)))
    go false e h i = inr (i h)

-- its number is the one that stands there
pub next-has : (xs : List (Option ℕ × ℕ)) (p : Option ℕ) (m : ℕ) → Pairwise (λ x y. rank x.0 < rank y.0) xs → Has xs (p, m) → next_number xs p ≡ m
next-has [] p m o h = absurd h
next-has (x ∷ xs) p m o (inl e) =
    let r : rank x.0 ≡ rank p = ap (λ (y : Option ℕ × ℕ). rank y.0) e in
    ap (λ (b : Bool). cond b x.1 (next_number xs p)) (equal-rank (rank x.0) (rank p) r) ∙ ap (λ (y : Option ℕ × ℕ). y.1) e
next-has (x ∷ xs) p m o (inr h) =
    let l = Each-at (λ y. rank x.0 < rank y.0) xs (p, m) o.0 h in
    ap (λ (b : Bool). cond b x.1 (next_number xs p)) (other-rank (rank x.0) (rank p) (λ e. absurd (omega (arith, l, e)))) ∙ next-has xs p m o.1 h
