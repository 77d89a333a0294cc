-- What a number taken in a partition, or in each, makes of the pairs: they stay in order, and which place is written.
use Rattle.std.proofs.Common.{◌≡◌, ℕ, zero, suc, ◌+◌, ◌<◌, Bool, true, false, cond, List, [], ◌∷◌, ◌++◌, length, take, drop, get_or, set, refl, sym, ap, arith, ◌∙◌, nat_eq, nat_lt, add-one}
use Rattle.std.proofs.lemmas.Bool.Decides.{nat_tests}
use Rattle.std.proofs.Math.Seq.{take-append_seam}
use Rattle.std.proofs.lemmas.Option.{get_or_from_slice_get}
use Rattle.std.specs.Prelude.{slice_get}
use Rattle.std.specs.List.{insert}
use Rattle.std.specs.declared.option.Option.{Option}
use Rattle.std.specs.declared.option.Option.TheVariants.{Some, None}
use Rattle.rmt_names.specs.Names.{rank}
use Rattle.rmt_model.specs.Words.{Each}
use Rattle.rmt_model.proofs.Drops.{some-same}
use Rattle.rmt_model.specs.BlockNumbers.{next_number, with_next, next_numbers_after}
use Rattle.rmt_history.specs.Mutations.{AreInOrder, number_among}
use Rattle.rmt_history.proofs.NumberLemmas.{number-found}
use Rattle.rmt_partitions.specs.NumbersInOrder.{place_of, StandsAt, BelongsAt}

-- ---- the next number, as it was found

pub next-some : (xs : List (Option ℕ × ℕ)) (p : Option ℕ) (n : ℕ) → number_among xs p ≡ Some n → next_number xs p ≡ n
next-some [] p n e = absurd (cc)
next-some (x ∷ xs) p n e = go (nat_eq (rank x.0) (rank p)) e (next-some xs p n)
  where
    go : (b : Bool) → cond b (Some x.1) (number_among xs p) ≡ Some n → (number_among xs p ≡ Some n → next_number xs p ≡ n) → cond b x.1 (next_number xs p) ≡ n
    go true e f = some-same x.1 n e
    go false e f = f e

pub next-none : (xs : List (Option ℕ × ℕ)) (p : Option ℕ) → number_among xs p ≡ None → next_number xs p ≡ 0
next-none [] p e = refl
next-none (x ∷ xs) p e = go (nat_eq (rank x.0) (rank p)) e (next-none xs p)
  where
    go : (b : Bool) → cond b (Some x.1) (number_among xs p) ≡ None → (number_among xs p ≡ None → next_number xs p ≡ 0) → cond b x.1 (next_number xs p) ≡ 0
    go true e f = absurd (cc)
    go false e f = f e

-- ---- order

above-next : (xs : List (Option ℕ × ℕ)) (p : Option ℕ) (n k : ℕ) → k < rank p → Each (λ y. k < rank y.0) xs → Each (λ y. k < rank y.0) (with_next xs p n)
above-next [] p n k l a = (l, tt)
above-next (x ∷ xs) p n k l a = go (nat_lt (rank x.0) (rank p)) (nat_eq (rank x.0) (rank p)) (above-next xs p n k l a.1)
  where
    go : (b c : Bool) → Each (λ y. k < rank y.0) (with_next xs p n) → Each (λ y. k < rank y.0) (cond b (x ∷ with_next xs p n) (cond c ((p, n) ∷ xs) ((p, n) ∷ x ∷ xs)))
    go true c f = (a.0, f)
    go false true f = (l, a.1)
    go false false f = (l, a)

above-all : (xs : List (Option ℕ × ℕ)) (j k : ℕ) → j < k → Each (λ y. k < rank y.0) xs → Each (λ y. j < rank y.0) xs
above-all [] j k l a = tt
above-all (x ∷ xs) j k l a = (let w = a.0 in omega (arith, l, w), above-all xs j k l a.1)

above-same : (xs : List (Option ℕ × ℕ)) (j k : ℕ) → j ≡ k → Each (λ y. k < rank y.0) xs → Each (λ y. j < rank y.0) xs
above-same [] j k l a = tt
above-same (x ∷ xs) j k l a = (let w = a.0 in omega (arith, l, w), above-same xs j k l a.1)

pub order-next : (xs : List (Option ℕ × ℕ)) (p : Option ℕ) (n : ℕ) → AreInOrder xs → AreInOrder (with_next xs p n)
order-next [] p n r = (tt, tt)
order-next (x ∷ xs) p n r = go (nat_lt (rank x.0) (rank p)) refl (nat_eq (rank x.0) (rank p)) refl (order-next xs p n r.1)
  where
    go : (b : Bool) → nat_lt (rank x.0) (rank p) ≡ b → (c : Bool) → nat_eq (rank x.0) (rank p) ≡ c → AreInOrder (with_next xs p n) → AreInOrder (cond b (x ∷ with_next xs p n) (cond c ((p, n) ∷ xs) ((p, n) ∷ x ∷ xs)))
    go true t c u f = (above-next xs p n (rank x.0) (grind (arith, nat_tests)) r.0, f)
    go false t true u f = (above-same xs (rank p) (rank x.0) (grind (arith, nat_tests)) r.0, r.1)
    go false t false u f = let l : rank p < rank x.0 = grind (arith, nat_tests) in ((l, above-all xs (rank p) (rank x.0) l r.0), r)

above-after : (xs : List (Option ℕ × ℕ)) (k : ℕ) → Each (λ y. k < rank y.0) xs → Each (λ y. k < rank y.0) (next_numbers_after xs)
above-after [] k a = tt
above-after (x ∷ xs) k a = (a.0, above-after xs k a.1)

pub order-after : (xs : List (Option ℕ × ℕ)) → AreInOrder xs → AreInOrder (next_numbers_after xs)
order-after [] r = tt
order-after (x ∷ xs) r = (above-after xs (rank x.0) r.0, order-after xs r.1)

-- ---- which place is written

pub set-next : (xs : List (Option ℕ × ℕ)) (p : Option ℕ) (n m i : ℕ) → slice_get xs i ≡ Some (p, n) → i ≡ place_of xs p → set xs i (p, m) ≡ with_next xs p m
set-next [] p n m i e q = absurd (cc)
set-next (x ∷ xs) p n m i e q = go (nat_lt (rank x.0) (rank p)) refl i e q (λ j. set-next xs p n m j)
  where
    go : (b : Bool) → nat_lt (rank x.0) (rank p) ≡ b → (i : ℕ) → slice_get (x ∷ xs) i ≡ Some (p, n) → i ≡ cond b (1 + place_of xs p) 0 → ((j : ℕ) → slice_get xs j ≡ Some (p, n) → j ≡ place_of xs p → set xs j (p, m) ≡ with_next xs p m)
        → set (x ∷ xs) i (p, m) ≡ cond b (x ∷ with_next xs p m) (cond (nat_eq (rank x.0) (rank p)) ((p, m) ∷ xs) ((p, m) ∷ x ∷ xs))
    go true t zero e q f = absurd (omega (arith, q))
    go true t (suc i) e q f = ap (λ ys. x ∷ ys) (f i e (omega (arith, q)))
    go false t zero e q f =
        let s : rank x.0 ≡ rank p = ap (λ (v : Option ℕ × ℕ). rank v.0) (some-same x (p, n) e) in
        let u : nat_eq (rank x.0) (rank p) ≡ true = grind (arith, nat_tests) in
        sym (ap (λ (b : Bool). cond b ((p, m) ∷ xs) ((p, m) ∷ x ∷ xs)) u)
    go false t (suc i) e q f = absurd (omega (arith, q))

pub insert-next : (xs : List (Option ℕ × ℕ)) (p : Option ℕ) (m i : ℕ) → number_among xs p ≡ None → i ≡ place_of xs p → insert xs i (p, m) ≡ with_next xs p m
insert-next [] p m i e q = rw q refl
insert-next (x ∷ xs) p m i e q = go (nat_lt (rank x.0) (rank p)) refl (nat_eq (rank x.0) (rank p)) refl e i q (λ j. insert-next xs p m j)
  where
    go : (b : Bool) → nat_lt (rank x.0) (rank p) ≡ b → (c : Bool) → nat_eq (rank x.0) (rank p) ≡ c → cond c (Some x.1) (number_among xs p) ≡ None → (i : ℕ) → i ≡ cond b (1 + place_of xs p) 0 → ((j : ℕ) → number_among xs p ≡ None → j ≡ place_of xs p → insert xs j (p, m) ≡ with_next xs p m)
        → insert (x ∷ xs) i (p, m) ≡ cond b (x ∷ with_next xs p m) (cond c ((p, m) ∷ xs) ((p, m) ∷ x ∷ xs))
    go b t true u e i q f = absurd (cc)
    go true t false u e zero q f = absurd (omega (arith, q))
    go true t false u e (suc i) q f = ap (λ ys. x ∷ ys) (f i e (omega (arith, q)))
    go false t false u e zero q f = refl
    go false t false u e (suc i) q f = absurd (omega (arith, q))

pub count-next : (xs : List (Option ℕ × ℕ)) (i : ℕ) (d : Option ℕ × ℕ) → i < length xs → (ys : List (Option ℕ × ℕ)) → ys ≡ next_numbers_after (take i xs) ++ drop i xs → set ys i ((get_or ys i d).0, (get_or ys i d).1 + 1) ≡ next_numbers_after (take (suc i) xs) ++ drop (suc i) xs
count-next [] i d l ys e = absurd (omega arith)
count-next (x ∷ xs) zero d l ys e = rw e refl
count-next (x ∷ xs) (suc i) d l ys e = rw e (ap (λ zs. (x.0, x.1 + 1) ∷ zs) (count-next xs i d (omega arith) (next_numbers_after (take i xs) ++ drop i xs) refl))

pub count-step : (xs : List (Option ℕ × ℕ)) (i : ℕ) (d : Option ℕ × ℕ) → i < length xs → (ys : List (Option ℕ × ℕ)) → ys ≡ next_numbers_after (take i xs) ++ drop i xs → set ys i ((get_or ys i d).0, (get_or ys i d).1 + 1) ≡ next_numbers_after (take (i + 1) xs) ++ drop (i + 1) xs
count-step xs i d l ys e = rw (add-one i) (count-next xs i d l ys e)

length-after : (xs : List (Option ℕ × ℕ)) → length (next_numbers_after xs) ≡ length xs
length-after [] = refl
length-after (x ∷ xs) = ap suc (length-after xs)

-- pairs that were all counted up are written back whole
pub written-after : (items now new : List (Option ℕ × ℕ)) (n : ℕ) → now ≡ items → length now ≡ n → new ≡ next_numbers_after now → take n (new ++ drop (length new) items) ≡ next_numbers_after items
written-after items now new n e l f =
    let k : n ≡ length new = sym (ap (λ (zs : List (Option ℕ × ℕ)). length zs) f ∙ (length-after now ∙ l)) in
    ap (λ (i : ℕ). take i (new ++ drop (length new) items)) k ∙ (take-append_seam new (drop (length new) items) ∙ (f ∙ ap next_numbers_after e))

-- ---- what a look-up tells

stands-entry : (ys xs : List (Option ℕ × ℕ)) (p : Option ℕ) (i : ℕ) (s : StandsAt ys p i) → ys ≡ xs → slice_get xs i ≡ Some (p, s.number)
stands-entry ys xs p i s q = ap (λ (zs : List (Option ℕ × ℕ)). slice_get zs i) (sym q) ∙ s.stands

pub stands-number : (ys xs : List (Option ℕ × ℕ)) (p : Option ℕ) (i : ℕ) (r : Option ℕ × ℕ) → AreInOrder xs → StandsAt ys p i → ys ≡ xs → r ≡ get_or xs i r → number_among xs p ≡ Some r.1
stands-number ys xs p i r a s q k =
    let e = stands-entry ys xs p i s q in
    let h = k ∙ get_or_from_slice_get xs i (p, s.number) r e in
    number-found xs p i (p, s.number) a e refl ∙ ap (λ (v : Option ℕ × ℕ). Some v.1) (sym h)

pub stands-next : (ys xs : List (Option ℕ × ℕ)) (p : Option ℕ) (i : ℕ) (r : Option ℕ × ℕ) → AreInOrder xs → StandsAt ys p i → ys ≡ xs → r ≡ get_or xs i r → next_number xs p ≡ r.1
stands-next ys xs p i r a s q k = next-some xs p r.1 (stands-number ys xs p i r a s q k)

pub stands-set : (ys xs : List (Option ℕ × ℕ)) (p : Option ℕ) (i : ℕ) (r : Option ℕ × ℕ) → AreInOrder xs → StandsAt ys p i → ys ≡ xs → r ≡ get_or xs i r → set xs i (p, r.1 + 1) ≡ with_next xs p (next_number xs p + 1)
stands-set ys xs p i r a s q k =
    set-next xs p s.number (r.1 + 1) i (stands-entry ys xs p i s q) (s.first ∙ ap (λ (zs : List (Option ℕ × ℕ)). place_of zs p) q)
    ∙ ap (λ (n : ℕ). with_next xs p (n + 1)) (sym (stands-next ys xs p i r a s q k))

pub belongs-insert : (ys xs : List (Option ℕ × ℕ)) (p : Option ℕ) (i : ℕ) → BelongsAt ys p i → ys ≡ xs → insert xs i (p, 1) ≡ with_next xs p (next_number xs p + 1)
belongs-insert ys xs p i s q =
    let e = ap (λ (zs : List (Option ℕ × ℕ)). number_among zs p) (sym q) ∙ s.nowhere in
    insert-next xs p 1 i e (s.first ∙ ap (λ (zs : List (Option ℕ × ℕ)). place_of zs p) q)
    ∙ ap (λ (n : ℕ). with_next xs p (n + 1)) (sym (next-none xs p e))
