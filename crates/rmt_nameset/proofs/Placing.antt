-- A name at its place among names in order.
use Rattle.std.proofs.Common.{◌≡◌, ℕ, zero, suc, ◌+◌, ◌-◌, ◌<◌, ◌≤◌, inl, inr, subst, ◌⊎◌, ◌&&◌, ◌||◌, Bool, true, false, cond, not, List, [], ◌∷◌, length, refl, sym, ap, arith, ◌∙◌, one-add, filter, nat_eq, nat_lt, nat_le}
use Rattle.std.specs.declared.option.Option.{Option}
use Rattle.std.specs.declared.option.Option.TheVariants.{Some}
use Rattle.std.specs.Prelude.{slice_get}
use Rattle.std.proofs.lemmas.Bool.Decides.{nat_tests}
use Rattle.std.specs.List.{prefix_len, insert, remove_range}
use Rattle.std.proofs.lemmas.List.Sums.{prefix_len-le-length}
use Rattle.rmt_names.specs.Names.{Name, rank, Overlap, Covers, covers}
use Rattle.rmt_model.specs.Words.{Has, Each}
use Rattle.rmt_model.specs.Live.{Before, before, inserted, placed, in_drop}
use Rattle.rmt_model.proofs.Lists.{Each-at, Each-all, Has-filter, Pairwise-filter, Pairwise-inserted, before-true, rank-injective, covers-true, covers-false}
use Rattle.rmt_model.proofs.LiveLaws.{Covers-refl, Covers-antisym, Has-placed, apart-or-overlap, not-both, Overlap-sym, not-kept, covers-holds, Pairwise-cases}
use Rattle.rmt_model.proofs.Drained.{cover-overlap}
use Rattle.rmt_model.proofs.Drops.{some-same}
use Rattle.rmt_nameset.specs.declared.range.Range.{Range}
use Rattle.rmt_nameset.specs.NameSets.{AreApart, IsRange, CoversAt, IsCoveredBy, IsDroppedBy}
use Rattle.rmt_nameset.proofs.Ranges.{Downward, Pairwise-to, Between, middle, below-le, prefix-kept, none-prefix}

inserted_is : (new : Name) (xs : List Name) → insert xs (prefix_len (λ a. before a new) xs) new ≡ inserted new xs
inserted_is new [] = refl
inserted_is new (z ∷ xs) = go (before z new) (inserted_is new xs)
  where
    n : ℕ
    n = prefix_len (λ a. before a new) xs

    go : (b : Bool) → insert xs n new ≡ inserted new xs → insert (z ∷ xs) (cond b (1 + n) 0) new ≡ cond b (z ∷ inserted new xs) (new ∷ z ∷ xs)
    go true e = rw one-add (ap (λ ys. z ∷ ys) e)
    go false e = refl

-- the tests of a place
abbrev pub is_before : Name → Name → Bool
is_before new a = before a new

abbrev pub is_not_behind : Name → Name → Bool
is_not_behind new a = not (before new a)

before-down : (a b new : Name) → b.min ≤ b.max → Before a b → before b new ≡ true → before a new ≡ true
before-down a b new s h e = let k = before-true b new e in grind (arith, nat_tests)

behind-down : (a b new : Name) → a.min ≤ a.max → Before a b → not (before new b) ≡ true → not (before new a) ≡ true
behind-down a b new s h e = grind (arith, nat_tests)

pub before-parts : (new : Name) (xs : List Name) → AreApart xs → Downward (is_before new) xs
before-parts new xs p = Pairwise-to Before (λ a b. before b new ≡ true → before a new ≡ true) (λ a. a.min ≤ a.max) xs (λ a b s t h e. before-down a b new t h e) p.apart p.sized

pub behind-parts : (new : Name) (xs : List Name) → AreApart xs → Downward (is_not_behind new) xs
behind-parts new xs p = Pairwise-to Before (λ a b. not (before new b) ≡ true → not (before new a) ≡ true) (λ a. a.min ≤ a.max) xs (λ a b s t h e. behind-down a b new s h e) p.apart p.sized

-- what a new name leaves lies before or after it
left : (new a : Name) → new.min ≤ new.max → a.min ≤ a.max → (Overlap new a → Covers new a) → not (covers new a) ≡ (before a new || not (not (before new a)))
left new a s t over = go (covers new a) refl
  where
    go : (b : Bool) → covers new a ≡ b → not b ≡ (before a new || not (not (before new a)))
    go true e = let c = covers-true new a e in let r : rank new.partition ≡ rank a.partition = ap rank c.partition in let i = c.min in let j = c.max in grind (arith, nat_tests)
    go false e = let n = apart in grind (arith, nat_tests)
      where
        apart : rank new.partition ≡ rank a.partition → new.min ≤ a.max → a.min ≤ new.max → ⊥
        apart r l h = covers-false new a e (over (record { partition = rank-injective new.partition a.partition r; low = l; high = h }))

beside-before : (new a : Name) → a.min ≤ a.max → new.min ≤ new.max → before a new ≡ true → not (before new a) ≡ true
beside-before new a s t e = grind (arith, nat_tests)

pub placed-between : (new : Name) (xs : List Name) → new.min ≤ new.max → AreApart xs → Each (λ a. Overlap new a → Covers new a) xs → Each (Between (λ a. not (covers new a)) (is_before new) (is_not_behind new)) xs
placed-between new xs s p over = Each-all (Between (λ a. not (covers new a)) (is_before new) (is_not_behind new)) xs (λ a h.
    let t = Each-at (λ x. x.min ≤ x.max) xs a p.sized h in
    (left new a s t (Each-at (λ x. Overlap new x → Covers new x) xs a over h), λ e. beside-before new a t s e))

-- the new name in place of the range that it covers
pub placed_is : (new : Name) (xs : List Name) → new.min ≤ new.max → AreApart xs → Each (λ a. Overlap new a → Covers new a) xs → insert (remove_range xs (prefix_len (is_before new) xs) (prefix_len (is_not_behind new) xs)) (prefix_len (is_before new) xs) new ≡ placed new xs
placed_is new xs s p over =
    ap (λ ys. insert ys (prefix_len (is_before new) xs) new) (sym (middle keep (is_before new) (is_not_behind new) xs (before-parts new xs p) (behind-parts new xs p) w))
    ∙ (ap (λ n. insert (filter keep xs) n new) (sym (prefix-kept keep (is_before new) xs (before-parts new xs p) (Each-all (λ a. before a new ≡ true → keep a ≡ true) xs (λ a h e. passes a (Each-at (Between keep (is_before new) (is_not_behind new)) xs a w h) e))))
    ∙ inserted_is new (filter keep xs))
  where
    keep : Name → Bool
    keep a = not (covers new a)

    w : Each (Between keep (is_before new) (is_not_behind new)) xs
    w = placed-between new xs s p over

    passes : (a : Name) → Between keep (is_before new) (is_not_behind new) a → before a new ≡ true → keep a ≡ true
    passes a b e = b.0 ∙ ap (λ v. v || not (not (before new a))) e

-- the tests of a drop
abbrev pub is_earlier : Option ℕ → Name → Bool
is_earlier p a = nat_lt (rank a.partition) (rank p)

abbrev pub is_up_to : Option ℕ → ℕ → Name → Bool
is_up_to p n a = nat_lt (rank a.partition) (rank p) || (nat_eq (rank a.partition) (rank p) && nat_le a.max n)

pub earlier-parts : (p : Option ℕ) (xs : List Name) → AreApart xs → Downward (is_earlier p) xs
earlier-parts p xs q = Pairwise-to Before (λ a b. is_earlier p b ≡ true → is_earlier p a ≡ true) (λ a. a.min ≤ a.max) xs (λ a b s t h e. down a b h e) q.apart q.sized
  where
    down : (a b : Name) → Before a b → is_earlier p b ≡ true → is_earlier p a ≡ true
    down a b h e = grind (arith, nat_tests)

pub up-to-parts : (p : Option ℕ) (n : ℕ) (xs : List Name) → AreApart xs → Downward (is_up_to p n) xs
up-to-parts p n xs q = Pairwise-to Before (λ a b. is_up_to p n b ≡ true → is_up_to p n a ≡ true) (λ a. a.min ≤ a.max) xs (λ a b s t h e. down a b t h e) q.apart q.sized
  where
    down : (a b : Name) → b.min ≤ b.max → Before a b → is_up_to p n b ≡ true → is_up_to p n a ≡ true
    down a b s h e = grind (arith, nat_tests)

dropped-between : (p : Option ℕ) (n : ℕ) (a : Name) → Between (λ x. not (in_drop p n x)) (is_earlier p) (is_up_to p n) a
dropped-between p n a = (grind (arith, nat_tests), λ e. grind (arith, nat_tests))

pub all-between : (p : Option ℕ) (n : ℕ) (xs : List Name) → Each (Between (λ x. not (in_drop p n x)) (is_earlier p) (is_up_to p n)) xs
all-between p n xs = Each-all (Between (λ x. not (in_drop p n x)) (is_earlier p) (is_up_to p n)) xs (λ a h. dropped-between p n a)

-- what a drop leaves is what is outside a range
pub dropped_is : (p : Option ℕ) (n : ℕ) (xs : List Name) → AreApart xs → remove_range xs (prefix_len (is_earlier p) xs) (prefix_len (is_up_to p n) xs) ≡ filter (λ a. not (in_drop p n a)) xs
dropped_is p n xs q = sym (middle (λ a. not (in_drop p n a)) (is_earlier p) (is_up_to p n) xs (earlier-parts p xs q) (up-to-parts p n xs q) (all-between p n xs))

pub count-bound : (test : Name → Bool) (xs : List Name) (j : ℕ) → j ≡ prefix_len test xs → j ≤ length xs
count-bound test xs j e = let q = prefix_len-le-length test xs in omega (arith, q, e)

-- the ranges that are counted are ranges of the list, and the right ones
pub covered-range : (new : Name) (xs : List Name) (r : Range) → new.min ≤ new.max → AreApart xs → Each (λ a. Overlap new a → Covers new a) xs → r.from ≡ prefix_len (is_before new) xs → r.to ≡ prefix_len (is_not_behind new) xs → IsRange r (length xs)
covered-range new xs r s p over u v =
    let q = below-le (λ a. not (covers new a)) (is_before new) (is_not_behind new) xs (placed-between new xs s p over) in
    record { order = omega (arith, q, u, v); bound = count-bound (is_not_behind new) xs r.to v }

pub covered-is : (new : Name) (xs : List Name) (r : Range) → new.min ≤ new.max → AreApart xs → Each (λ a. Overlap new a → Covers new a) xs → r.from ≡ prefix_len (is_before new) xs → r.to ≡ prefix_len (is_not_behind new) xs → IsCoveredBy new xs r
covered-is new xs r s p over u v = rw (u, v) (placed_is new xs s p over)

pub dropped-range : (p : Option ℕ) (n : ℕ) (xs : List Name) (r : Range) → r.from ≡ prefix_len (is_earlier p) xs → r.to ≡ prefix_len (is_up_to p n) xs → IsRange r (length xs)
dropped-range p n xs r u v =
    let q = below-le (λ a. not (in_drop p n a)) (is_earlier p) (is_up_to p n) xs (all-between p n xs) in
    record { order = omega (arith, q, u, v); bound = count-bound (is_up_to p n) xs r.to v }

pub dropped-by : (p : Option ℕ) (n : ℕ) (xs : List Name) (r : Range) → AreApart xs → r.from ≡ prefix_len (is_earlier p) xs → r.to ≡ prefix_len (is_up_to p n) xs → IsDroppedBy p n xs r
dropped-by p n xs r q u v = rw (u, v) (dropped_is p n xs q)

-- what is left and what is placed is in order and apart
pub dropped-apart : (p : Option ℕ) (n : ℕ) (xs : List Name) → AreApart xs → AreApart (filter (λ a. not (in_drop p n a)) xs)
dropped-apart p n xs q = record {
  apart = Pairwise-filter Before (λ a. not (in_drop p n a)) xs q.apart;
  sized = Each-all (λ a. a.min ≤ a.max) (filter (λ a. not (in_drop p n a)) xs) (λ a h. Each-at (λ a. a.min ≤ a.max) xs a q.sized (Has-filter (λ a. not (in_drop p n a)) xs a h).0);
}

pub placed-apart : (new : Name) (xs : List Name) → new.min ≤ new.max → AreApart xs → Each (λ a. Overlap new a → Covers new a) xs → AreApart (placed new xs)
placed-apart new xs s p over = record {
  apart = Pairwise-inserted new (filter keeps xs) (Pairwise-filter Before keeps xs p.apart) (λ x h. sized-at x (Has-filter keeps xs x h).0) (λ x h. beside x (Has-filter keeps xs x h));
  sized = Each-all (λ a. a.min ≤ a.max) (placed new xs) (λ a h. elim (Has-placed new xs a h) [ inl q ↦ subst (λ (a : Name). a.min ≤ a.max) q s | inr k ↦ sized-at a k ]);
}
  where
    keeps : Name → Bool
    keeps a = not (covers new a)

    sized-at : (a : Name) → Has xs a → a.min ≤ a.max
    sized-at a h = Each-at (λ a. a.min ≤ a.max) xs a p.sized h

    beside : (x : Name) → Has xs x × (keeps x ≡ true) → Before x new ⊎ Before new x
    beside x h = elim (apart-or-overlap x new (sized-at x h.0) s) [
      | inl k ↦ k
      | inr o ↦ absurd (not-kept (covers new x) (covers-holds new x (Each-at (λ a. Overlap new a → Covers new a) xs x over h.0 (Overlap-sym x new o))) h.1)
    ]

-- the name that covers another is the last that doesn't lie after it
pub covering-at : (a x : Name) (xs : List Name) → a.min ≤ a.max → AreApart xs → Has xs x → Covers x a → (n : ℕ) × (prefix_len (is_not_behind a) xs ≡ suc n) × (slice_get xs n ≡ Some x)
covering-at a x [] s p h c = absurd h
covering-at a x (z ∷ xs) s p (inl q) c = (0, first, ap Some q)
  where
    over : Covers z a
    over = subst (λ (y : Name). Covers y a) (sym q) c

    behind : (y : Name) → Before z y → is_not_behind a y ≡ false
    behind y b = let k = over.max in let e : rank z.partition ≡ rank a.partition = ap rank over.partition in grind (arith, nat_tests)

    here : is_not_behind a z ≡ true
    here = let k = over.min in let e : rank z.partition ≡ rank a.partition = ap rank over.partition in grind (arith, nat_tests)

    none : prefix_len (is_not_behind a) xs ≡ 0
    none = none-prefix (is_not_behind a) xs (Each-all (λ y. is_not_behind a y ≡ false) xs (λ y h. behind y (Each-at (Before z) xs y p.apart.0 h)))

    first : prefix_len (is_not_behind a) (z ∷ xs) ≡ 1
    first = ap (λ b. cond b (1 + prefix_len (is_not_behind a) xs) 0) here ∙ ap (λ n. 1 + n) none
covering-at a x (z ∷ xs) s p (inr h) c = go (covering-at a x xs s (record { apart = p.apart.1; sized = p.sized.1 }) h c)
  where
    within : is_not_behind a x ≡ true
    within = let k = c.min in let e : rank x.partition ≡ rank a.partition = ap rank c.partition in grind (arith, nat_tests)

    here : is_not_behind a z ≡ true
    here = Each-at (λ b. is_not_behind a b ≡ true → is_not_behind a z ≡ true) xs x (behind-parts a (z ∷ xs) p).0 h within

    go : (n : ℕ) × (prefix_len (is_not_behind a) xs ≡ suc n) × (slice_get xs n ≡ Some x) → (n : ℕ) × (prefix_len (is_not_behind a) (z ∷ xs) ≡ suc n) × (slice_get (z ∷ xs) n ≡ Some x)
    go r =
        let e : 1 + suc r.0 ≡ suc (suc r.0) = omega arith in
        (suc r.0, ap (λ b. cond b (1 + prefix_len (is_not_behind a) xs) 0) here ∙ (ap (λ n. 1 + n) r.1 ∙ e), r.2)

pub none-covers : (a : Name) (xs : List Name) (n : ℕ) → a.min ≤ a.max → AreApart xs → n ≡ prefix_len (is_not_behind a) xs → ((x : Name) → 0 < n → slice_get xs (n - 1) ≡ Some x → Covers x a → ⊥) → (x : Name) → Has xs x → Covers x a → ⊥
none-covers a xs n s p e f x h c = go (covering-at a x xs s p h c)
  where
    go : (m : ℕ) × (prefix_len (is_not_behind a) xs ≡ suc m) × (slice_get xs m ≡ Some x) → ⊥
    go r =
        let q : n ≡ suc r.0 = e ∙ r.1 in
        let m : n - 1 ≡ r.0 = omega (arith, q) in
        f x (omega (arith, q)) (ap (λ i. slice_get xs i) m ∙ r.2) c

-- a name of the list that covers another one of it is that one
pub covers-itself : (x a : Name) (xs : List Name) → AreApart xs → Has xs x → Has xs a → Covers x a → x ≡ a
covers-itself x a xs p h k c = elim (Pairwise-cases Before xs x a p.apart h k) [
  | inl q ↦ q
  | inr q ↦ absurd (elim q [ inl b ↦ not-both x a b over | inr b ↦ not-both a x b (Overlap-sym x a over) ])
]
  where
    over : Overlap x a
    over = cover-overlap x a c (Each-at (λ y. y.min ≤ y.max) xs a p.sized k)

pub Has-at : (xs : List Name) (i : ℕ) (x : Name) → slice_get xs i ≡ Some x → Has xs x
Has-at [] i x e = absurd (cc)
Has-at (y ∷ xs) zero x e = inl (cc)
Has-at (y ∷ xs) (suc i) x e = inr (Has-at xs i x e)

-- the name that covers another is the other where the other is there, and where the other covers it
pub contained : (xs : List Name) (a : Name) (i : ℕ) (x : Name) → AreApart xs → slice_get xs i ≡ Some x → CoversAt xs a i → (Covers a x → Has xs a) × (Has xs a → Covers a x)
contained xs a i x p e c = (λ k. subst (Has xs) (Covers-antisym x a over k) here, λ h. subst (Covers a) (sym (covers-itself x a xs p here h over)) (Covers-refl a))
  where
    same : c.name ≡ x
    same = some-same c.name x (sym c.stands ∙ e)

    over : Covers x a
    over = subst (λ (y : Name). Covers y a) same c.covers

    here : Has xs x
    here = Has-at xs i x e
