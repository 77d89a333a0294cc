-- What is so of the next numbers and the locks after each change.
use Rattle.std.proofs.Common.{◌≡◌, ◌≢◌, ℕ, ◌+◌, ◌<◌, ◌≤◌, ◌⊎◌, inl, inr, ◌&&◌, Bool, true, false, cond, [], ◌∷◌, length, refl, sym, ap, arith, ◌∙◌, nat_eq, nat_lt}
use Rattle.std.proofs.lemmas.Bool.Decides.{nat_tests}
use Rattle.std.specs.declared.option.Option.{Option}
use Rattle.std.specs.declared.option.Option.TheVariants.{Some, None}
use Rattle.rmt_model.specs.BlockNumbers.{next_number, next_numbers_after}
use Rattle.rmt_names.specs.Names.{rank}
use Rattle.rmt_model.specs.Words.{Has, Each, Pairwise}
use Rattle.rmt_model.proofs.Lists.{Each-at, Each-all, rank-injective}
use Rattle.rmt_table_model.specs.Numbers.{Nexts, Holders, IsPast, next_of, taken, locked, unlocked, unlocked_below, owner_but, unlocked_by, AreNexts}

-- ---- next numbers

same-pair : (x : Option ℕ × ℕ) (p : Option ℕ) (m : ℕ) → x ≡ (p, m) → (x.0 ≡ p) × (x.1 ≡ m)
same-pair x p m e = (ap (λ (v : Option ℕ × ℕ). v.0) e, ap (λ (v : Option ℕ × ℕ). v.1) e)

tail-nexts : (x : Option ℕ × ℕ) (xs : Nexts) → AreNexts (x ∷ xs) → AreNexts xs
tail-nexts x xs a = record { rising = let r = a.rising in r.1; begun = λ p m h. a.begun p m (inr h) }

-- the number that a partition gives next
pub number-is : (next : Nexts) (p : Option ℕ) (m : ℕ) → AreNexts next → Has next (p, m) → next_number next p ≡ m
number-is [] p m a h = absurd h
number-is (x ∷ xs) p m a (inl e) =
    let q = same-pair x p m e in
    let t : nat_eq (rank x.0) (rank p) ≡ true = let r = ap rank q.0 in grind (arith, nat_tests) in
    ap (λ (b : Bool). cond b x.1 (next_number xs p)) t ∙ q.1
number-is (x ∷ xs) p m a (inr h) =
    let r = a.rising in
    let l : rank x.0 < rank p = Each-at (λ (y : Option ℕ × ℕ). rank x.0 < rank y.0) xs (p, m) r.0 h in
    let t : nat_eq (rank x.0) (rank p) ≡ false = grind (arith, nat_tests) in
    ap (λ (b : Bool). cond b x.1 (next_number xs p)) t ∙ number-is xs p m (tail-nexts x xs a) h

pub next-is : (next : Nexts) (p : Option ℕ) (m : ℕ) → AreNexts next → Has next (p, m) → next_of next p ≡ Some m
next-is [] p m a h = absurd h
next-is (x ∷ xs) p m a (inl e) =
    let q = same-pair x p m e in
    let t : nat_eq (rank x.0) (rank p) ≡ true = let r = ap rank q.0 in grind (arith, nat_tests) in
    ap (λ (b : Bool). cond b (Some x.1) (next_of xs p)) t ∙ ap Some q.1
next-is (x ∷ xs) p m a (inr h) =
    let r = a.rising in
    let l : rank x.0 < rank p = Each-at (λ (y : Option ℕ × ℕ). rank x.0 < rank y.0) xs (p, m) r.0 h in
    let t : nat_eq (rank x.0) (rank p) ≡ false = grind (arith, nat_tests) in
    ap (λ (b : Bool). cond b (Some x.1) (next_of xs p)) t ∙ next-is xs p m (tail-nexts x xs a) h

-- a number that a partition has given is below its next one
pub past-number : (next : Nexts) (p : Option ℕ) (n : ℕ) → AreNexts next → IsPast next p n → n < next_number next p
past-number next p n a h = let q = number-is next p h.0 a h.1 in let l = h.2 in omega (arith, q, l)

-- a partition below the first doesn't exist
absent : (xs : Nexts) (p : Option ℕ) → Each (λ y. rank p < rank y.0) xs → next_number xs p ≡ 0
absent [] p a = refl
absent (x ∷ xs) p a =
    let l = a.0 in
    let t : nat_eq (rank x.0) (rank p) ≡ false = grind (arith, nat_tests) in
    ap (λ (b : Bool). cond b x.1 (next_number xs p)) t ∙ absent xs p a.1

-- after a number was taken the partition gives the one above it
pub taken-has : (next : Nexts) (p : Option ℕ) → AreNexts next → Has (taken next p) (p, next_number next p + 1)
taken-has [] p a = inl refl
taken-has (x ∷ xs) p a = go (nat_lt (rank x.0) (rank p)) refl (nat_eq (rank x.0) (rank p)) refl (taken-has xs p (tail-nexts x xs a))
  where
    zero : nat_lt (rank x.0) (rank p) ≡ false → nat_eq (rank x.0) (rank p) ≡ false → next_number xs p ≡ 0
    zero h k =
        let l : rank p < rank x.0 = grind (arith, nat_tests) in
        let r = a.rising in
        absent xs p (Each-all (λ y. rank p < rank y.0) xs (λ y m. let u = Each-at (λ (z : Option ℕ × ℕ). rank x.0 < rank z.0) xs y r.0 m in omega (arith, u, l)))

    go : (l : Bool) → nat_lt (rank x.0) (rank p) ≡ l → (e : Bool) → nat_eq (rank x.0) (rank p) ≡ e → Has (taken xs p) (p, next_number xs p + 1) → Has (cond l (x ∷ taken xs p) (cond e ((x.0, x.1 + 1) ∷ xs) ((p, 1) ∷ x ∷ xs))) (p, cond e x.1 (next_number xs p) + 1)
    go true h true k f = absurd (grind (arith, nat_tests))
    go true h false k f = inr f
    go false h true k f = inl (ap (λ (q : Option ℕ). (q, x.1 + 1)) (rank-injective x.0 p (grind (arith, nat_tests))))
    go false h false k f = inl (let z = zero h k in ap (λ (n : ℕ). (p, n + 1)) (sym z))

-- a partition that exists after a number was taken is that one, or existed before with the same next number
pub taken-from : (next : Nexts) (p q : Option ℕ) (k : ℕ) → AreNexts next → Has (taken next p) (q, k) → ((p ≡ q) × (k ≡ next_number next p + 1)) ⊎ (Has next (q, k) × (p ≡ q → ⊥))
taken-from [] p q k a (inl e) = let s = same-pair (p, 1) q k e in inl (s.0, sym s.1)
taken-from [] p q k a (inr h) = absurd h
taken-from (x ∷ xs) p q k a h = go (nat_lt (rank x.0) (rank p)) refl (nat_eq (rank x.0) (rank p)) refl h (taken-from xs p q k (tail-nexts x xs a))
  where
    greater : (y : Option ℕ × ℕ) → Has xs y → rank x.0 < rank y.0
    greater y m = let r = a.rising in Each-at (λ (z : Option ℕ × ℕ). rank x.0 < rank z.0) xs y r.0 m

    Wanted : Bool → Type 0
    Wanted e = ((p ≡ q) × (k ≡ cond e x.1 (next_number xs p) + 1)) ⊎ (Has (x ∷ xs) (q, k) × (p ≡ q → ⊥))

    zero : nat_lt (rank x.0) (rank p) ≡ false → nat_eq (rank x.0) (rank p) ≡ false → next_number xs p ≡ 0
    zero h k =
        let l : rank p < rank x.0 = grind (arith, nat_tests) in
        absent xs p (Each-all (λ y. rank p < rank y.0) xs (λ y m. let u = greater y m in omega (arith, u, l)))

    below : rank x.0 < rank p → (x ≡ (q, k)) → p ≡ q → ⊥
    below l e s = let u = ap rank (same-pair x q k e).0 in let v = ap rank s in omega (arith, l, u, v)

    above : rank p < rank x.0 → Has (x ∷ xs) (q, k) → p ≡ q → ⊥
    above l (inl e) s = let u = ap rank (same-pair x q k e).0 in let v = ap rank s in omega (arith, l, u, v)
    above l (inr m) s = let u = greater (q, k) m in let v = ap rank s in omega (arith, l, u, v)

    same : rank x.0 ≡ rank p → Has xs (q, k) → p ≡ q → ⊥
    same l m s = let u = greater (q, k) m in let v = ap rank s in omega (arith, l, u, v)

    go : (l : Bool) → nat_lt (rank x.0) (rank p) ≡ l → (e : Bool) → nat_eq (rank x.0) (rank p) ≡ e → Has (cond l (x ∷ taken xs p) (cond e ((x.0, x.1 + 1) ∷ xs) ((p, 1) ∷ x ∷ xs))) (q, k)
        → (Has (taken xs p) (q, k) → ((p ≡ q) × (k ≡ next_number xs p + 1)) ⊎ (Has xs (q, k) × (p ≡ q → ⊥)))
        → ((p ≡ q) × (k ≡ cond e x.1 (next_number xs p) + 1)) ⊎ (Has (x ∷ xs) (q, k) × (p ≡ q → ⊥))
    go true t true u i f = absurd (grind (arith, nat_tests))
    go true t false u (inl i) f = inr (inl i, below (grind (arith, nat_tests)) i)
    go true t false u (inr i) f = elim (f i) [ inl s ↦ inl s | inr s ↦ inr (inr s.0, s.1) ]
    go false t true u (inl i) f =
        let s = same-pair (x.0, x.1 + 1) q k i in
        inl (rank-injective p x.0 (grind (arith, nat_tests)) ∙ s.0, sym s.1)
    go false t true u (inr i) f = inr (inr i, same (grind (arith, nat_tests)) i)
    go false t false u (inl i) f = let s = same-pair (p, 1) q k i in let z = zero t u in inl (s.0, let w = s.1 in omega (arith, z, w))
    go false t false u (inr i) f = inr (i, above (grind (arith, nat_tests)) i)

-- nothing that a partition has given is forgotten
pub taken-more : (next : Nexts) (p q : Option ℕ) (m : ℕ) → AreNexts next → Has next (q, m) → (k : ℕ) × Has (taken next p) (q, k) × (m ≤ k)
taken-more [] p q m a h = absurd h
taken-more (x ∷ xs) p q m a h = go (nat_lt (rank x.0) (rank p)) (nat_eq (rank x.0) (rank p)) h (taken-more xs p q m (tail-nexts x xs a))
  where
    go : (l e : Bool) → Has (x ∷ xs) (q, m) → (Has xs (q, m) → (k : ℕ) × Has (taken xs p) (q, k) × (m ≤ k))
        → (k : ℕ) × Has (cond l (x ∷ taken xs p) (cond e ((x.0, x.1 + 1) ∷ xs) ((p, 1) ∷ x ∷ xs))) (q, k) × (m ≤ k)
    go true e (inl i) f = (m, inl i, omega arith)
    go true e (inr i) f = let r = f i in (r.0, inr r.1, r.2)
    go false true (inl i) f = let s = same-pair x q m i in (x.1 + 1, inl (ap (λ (v : Option ℕ). (v, x.1 + 1)) s.0), let w = s.1 in omega (arith, w))
    go false true (inr i) f = (m, inr i, omega arith)
    go false false i f = (m, inr i, omega arith)

pub taken-nexts : (next : Nexts) (p : Option ℕ) → AreNexts next → AreNexts (taken next p)
taken-nexts next p a = record { rising = rising next a; begun = λ q k h. elim (taken-from next p q k a h) [ inl s ↦ let w = s.1 in omega (arith, w) | inr s ↦ a.begun q k s.0 ] }
  where
    rising : (next : Nexts) → AreNexts next → Pairwise (λ x y. rank x.0 < rank y.0) (taken next p)
    rising [] a = (tt, tt)
    rising (x ∷ xs) a = go (nat_lt (rank x.0) (rank p)) refl (nat_eq (rank x.0) (rank p)) refl (rising xs (tail-nexts x xs a))
      where
        greater : (y : Option ℕ × ℕ) → Has xs y → rank x.0 < rank y.0
        greater y m = let r = a.rising in Each-at (λ (z : Option ℕ × ℕ). rank x.0 < rank z.0) xs y r.0 m

        first : rank x.0 < rank p → (y : Option ℕ × ℕ) → Has (taken xs p) y → rank x.0 < rank y.0
        first l y m = elim (taken-from xs p y.0 y.1 (tail-nexts x xs a) m) [ inl s ↦ let u = ap rank s.0 in omega (arith, u, l) | inr s ↦ greater y s.0 ]

        go : (l : Bool) → nat_lt (rank x.0) (rank p) ≡ l → (e : Bool) → nat_eq (rank x.0) (rank p) ≡ e → Pairwise (λ x y. rank x.0 < rank y.0) (taken xs p)
            → Pairwise (λ x y. rank x.0 < rank y.0) (cond l (x ∷ taken xs p) (cond e ((x.0, x.1 + 1) ∷ xs) ((p, 1) ∷ x ∷ xs)))
        go true t e u f = (Each-all (λ y. rank x.0 < rank y.0) (taken xs p) (first (grind (arith, nat_tests))), f)
        go false t true u f = let r = a.rising in (Each-all (λ y. rank x.0 < rank y.0) xs (λ y m. greater y m), r.1)
        go false t false u f =
            let l : rank p < rank x.0 = grind (arith, nat_tests) in
            (Each-all (λ y. rank p < rank y.0) (x ∷ xs) (λ y m. elim m [ inl i ↦ let w = ap (λ (v : Option ℕ × ℕ). rank v.0) i in omega (arith, w, l) | inr i ↦ let w = greater y i in omega (arith, w, l) ]), a.rising)

-- what a partition has given it has given after a number was taken
pub taken-past : (next : Nexts) (p q : Option ℕ) (n : ℕ) → AreNexts next → IsPast next q n → IsPast (taken next p) q n
taken-past next p q n a h = let r = taken-more next p q h.0 a h.1 in let l = h.2 in let w = r.2 in (r.0, r.1, omega (arith, l, w))

pub taken-given : (next : Nexts) (p : Option ℕ) → AreNexts next → IsPast (taken next p) p (next_number next p)
taken-given next p a = (next_number next p + 1, taken-has next p a, omega arith)

-- the same of a number in each
pub each-more : (next : Nexts) (p : Option ℕ) (m : ℕ) → Has next (p, m) → Has (next_numbers_after next) (p, m + 1)
each-more [] p m h = absurd h
each-more (x ∷ xs) p m (inl e) = inl (ap (λ (v : Option ℕ × ℕ). (v.0, v.1 + 1)) e)
each-more (x ∷ xs) p m (inr h) = inr (each-more xs p m h)

pub each-from : (next : Nexts) (p : Option ℕ) (k : ℕ) → Has (next_numbers_after next) (p, k) → (m : ℕ) × Has next (p, m) × (k ≡ m + 1)
each-from [] p k h = absurd h
each-from (x ∷ xs) p k (inl e) = let s = same-pair (x.0, x.1 + 1) p k e in (x.1, inl (ap (λ (v : Option ℕ). (v, x.1)) s.0), sym s.1)
each-from (x ∷ xs) p k (inr h) = let r = each-from xs p k h in (r.0, inr r.1, r.2)

pub each-nexts : (next : Nexts) → AreNexts next → AreNexts (next_numbers_after next)
each-nexts next a = record { rising = rising next a.rising; begun = λ p k h. let r = each-from next p k h in let w = r.2 in omega (arith, w) }
  where
    rising : (next : Nexts) → Pairwise (λ x y. rank x.0 < rank y.0) next → Pairwise (λ x y. rank x.0 < rank y.0) (next_numbers_after next)
    rising [] r = tt
    rising (x ∷ xs) r =
        (Each-all (λ y. rank x.0 < rank y.0) (next_numbers_after xs) (λ y h. let s = each-from xs y.0 y.1 h in Each-at (λ (z : Option ℕ × ℕ). rank x.0 < rank z.0) xs (y.0, s.0) r.0 s.1), rising xs r.1)

pub each-past : (next : Nexts) (p : Option ℕ) (n : ℕ) → IsPast next p n → IsPast (next_numbers_after next) p n
each-past next p n h = let l = h.2 in (h.0 + 1, each-more next p h.0 h.1, omega (arith, l))

-- a partition that is found exists
pub next-has : (next : Nexts) (p : Option ℕ) (m : ℕ) → next_of next p ≡ Some m → Has next (p, m)
next-has [] p m e = absurd (cc)
next-has (x ∷ xs) p m e = go (nat_eq (rank x.0) (rank p)) refl e (next-has xs p m)
  where
    go : (b : Bool) → nat_eq (rank x.0) (rank p) ≡ b → cond b (Some x.1) (next_of xs p) ≡ Some m → (next_of xs p ≡ Some m → Has xs (p, m)) → Has (x ∷ xs) (p, m)
    go true t e f = let w : x.1 ≡ m = cc in inl (pair (rank-injective x.0 p (grind (arith, nat_tests))) w)
      where
        pair : x.0 ≡ p → x.1 ≡ m → x ≡ (p, m)
        pair u v = let joined : (x.0, x.1) ≡ (p, m) = cc in joined
    go false t e f = inr (f e)

-- a partition that isn't found has given no number
pub next-none : (next : Nexts) (p : Option ℕ) → next_of next p ≡ None → next_number next p ≡ 0
next-none [] p e = refl
next-none (x ∷ xs) p e = go (nat_eq (rank x.0) (rank p)) e (next-none xs p)
  where
    go : (b : Bool) → cond b (Some x.1) (next_of xs p) ≡ None → (next_of xs p ≡ None → next_number xs p ≡ 0) → cond b x.1 (next_number xs p) ≡ 0
    go true e f = absurd (cc)
    go false e f = f e

-- taking a number makes at most one partition
taken-most : (next : Nexts) (p : Option ℕ) → length (taken next p) ≤ length next + 1
taken-most [] p = omega arith
taken-most (x ∷ xs) p = go (nat_lt (rank x.0) (rank p)) (nat_eq (rank x.0) (rank p)) (taken-most xs p)
  where
    go : (b c : Bool) → length (taken xs p) ≤ length xs + 1 → length (cond b (x ∷ taken xs p) (cond c ((x.0, x.1 + 1) ∷ xs) ((p, 1) ∷ x ∷ xs))) ≤ length (x ∷ xs) + 1
    go true c f = omega (arith, f)
    go false true f = omega arith
    go false false f = omega arith

-- and none where it exists
taken-none : (next : Nexts) (p : Option ℕ) (m : ℕ) → AreNexts next → Has next (p, m) → length (taken next p) ≡ length next
taken-none [] p m a h = absurd h
taken-none (x ∷ xs) p m a h = go (nat_lt (rank x.0) (rank p)) refl (nat_eq (rank x.0) (rank p)) refl h (taken-none xs p m (tail-nexts x xs a))
  where
    above : Has (x ∷ xs) (p, m) → rank x.0 ≤ rank p
    above (inl e) = let w = ap (λ (v : Option ℕ × ℕ). rank v.0) e in omega (arith, w)
    above (inr k) = let r = a.rising in let w : rank x.0 < rank p = Each-at (λ (y : Option ℕ × ℕ). rank x.0 < rank y.0) xs (p, m) r.0 k in omega (arith, w)

    go : (b : Bool) → nat_lt (rank x.0) (rank p) ≡ b → (c : Bool) → nat_eq (rank x.0) (rank p) ≡ c → Has (x ∷ xs) (p, m) → (Has xs (p, m) → length (taken xs p) ≡ length xs)
        → length (cond b (x ∷ taken xs p) (cond c ((x.0, x.1 + 1) ∷ xs) ((p, 1) ∷ x ∷ xs))) ≡ length (x ∷ xs)
    go true t c u (inl e) f = let w = ap (λ (v : Option ℕ × ℕ). rank v.0) e in absurd (grind (arith, nat_tests))
    go true t c u (inr k) f = let w = f k in omega (arith, w)
    go false t true u k f = refl
    go false t false u k f = let w = above k in absurd (grind (arith, nat_tests))

-- so a limit is kept where there is room for a new one
pub taken-length : (next : Nexts) (p : Option ℕ) (limit : ℕ) → AreNexts next → length next ≤ limit → (next_of next p ≡ None → length next < limit) → length (taken next p) ≤ limit
taken-length next p limit a l f = go (next_of next p) refl
  where
    go : (o : Option ℕ) → next_of next p ≡ o → length (taken next p) ≤ limit
    go None e = let w = f e in let v = taken-most next p in omega (arith, w, v)
    go (Some m) e = let v = taken-none next p m a (next-has next p m e) in omega (arith, v, l)

pub each-length : (next : Nexts) → length (next_numbers_after next) ≡ length next
each-length [] = refl
each-length (x ∷ xs) = let w = each-length xs in omega (arith, w)

-- ---- locks

-- a lock is the new one or an old one
pub locked-from : (h : Holders) (p : Option ℕ) (n s : ℕ) (q : Option ℕ) (m t : ℕ) → locked h p n s q m ≡ Some t → ((p ≡ q) × (n ≡ m) × (s ≡ t)) ⊎ (h q m ≡ Some t)
locked-from h p n s q m t e = go (nat_eq (rank q) (rank p) && nat_eq m n) refl e
  where
    go : (b : Bool) → (nat_eq (rank q) (rank p) && nat_eq m n) ≡ b → cond b (Some s) (h q m) ≡ Some t → ((p ≡ q) × (n ≡ m) × (s ≡ t)) ⊎ (h q m ≡ Some t)
    go true i e = inl (rank-injective p q (grind (arith, nat_tests)), grind (arith, nat_tests), cc)
    go false i e = inr e

-- what is left after a lock is gone is another one
pub unlocked-from : (h : Holders) (p : Option ℕ) (n : ℕ) (q : Option ℕ) (m t : ℕ) → unlocked h p n q m ≡ Some t → (h q m ≡ Some t) × ((p ≡ q) × (n ≡ m) → ⊥)
unlocked-from h p n q m t e = go (nat_eq (rank q) (rank p) && nat_eq m n) refl e
  where
    go : (b : Bool) → (nat_eq (rank q) (rank p) && nat_eq m n) ≡ b → cond b None (h q m) ≡ Some t → (h q m ≡ Some t) × ((p ≡ q) × (n ≡ m) → ⊥)
    go true i e = absurd (cc)
    go false i e = (e, λ s. let u = ap rank s.0 in let v = s.1 in absurd (grind (arith, nat_tests)))

pub unlocked_below-from : (h : Holders) (p : Option ℕ) (n : ℕ) (q : Option ℕ) (m t : ℕ) → unlocked_below h p n q m ≡ Some t → (h q m ≡ Some t) × (p ≡ q → n ≤ m)
unlocked_below-from h p n q m t e = go (nat_eq (rank q) (rank p) && nat_lt m n) refl e
  where
    go : (b : Bool) → (nat_eq (rank q) (rank p) && nat_lt m n) ≡ b → cond b None (h q m) ≡ Some t → (h q m ≡ Some t) × (p ≡ q → n ≤ m)
    go true i e = absurd (cc)
    go false i e = (e, λ s. let u = ap rank s in grind (arith, nat_tests))

pub unlocked_by-from : (h : Holders) (s : ℕ) (q : Option ℕ) (m t : ℕ) → unlocked_by h s q m ≡ Some t → (h q m ≡ Some t) × (t ≢ s)
unlocked_by-from h s q m t e = go (h q m) refl e
  where
    go : (o : Option ℕ) → h q m ≡ o → owner_but s o ≡ Some t → (h q m ≡ Some t) × (t ≢ s)
    go None i e = absurd (cc)
    go (Some u) i e = held (nat_eq u s) refl e
      where
        held : (b : Bool) → nat_eq u s ≡ b → cond b None (Some u) ≡ Some t → (h q m ≡ Some t) × (t ≢ s)
        held true k e = absurd (cc)
        held false k e = (i ∙ e, λ w. let v : u ≡ t = cc in absurd (grind (arith, nat_tests)))
