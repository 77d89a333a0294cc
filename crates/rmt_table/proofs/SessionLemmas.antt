-- Which replicas have a session, and whose session one is.
use Rattle.std.proofs.Common.{◌≡◌, ℕ, zero, suc, ◌+◌, ◌<◌, inl, inr, Bool, true, false, cond, List, [], ◌∷◌, refl, sym, ap, arith, ◌∙◌, nat_eq, nat_lt, is_some, length, count_by}
use Rattle.std.proofs.lemmas.Bool.Decides.{nat_tests}
use Rattle.std.proofs.lemmas.List.Sums.{sum_by-cons}
use Rattle.std.specs.declared.option.Option.{Option}
use Rattle.std.specs.declared.option.Option.TheVariants.{Some, None}
use Rattle.rmt_model.specs.Words.{Has, Pairwise}
use Rattle.rmt_model.proofs.Lists.{Each-at, Each-all}
use Rattle.rmt_table_model.specs.Tables.{session_of, AreOwn}
use Rattle.rmt_events.specs.TableCalls.{with_session}
use Rattle.rmt_events.proofs.TableSteps.{session-from}
use Rattle.rmt_table.specs.SeenTable.{owner_from, opened_from}
use Rattle.rmt_table.proofs.Orders.{IsOrder}

own-tail : (o : Option ℕ) (os : List (Option ℕ)) → AreOwn (o ∷ os) → AreOwn os
own-tail o os own r t s e f = let q = own (suc r) (suc t) s e f in omega (arith, q)

-- the owner of a session
pub owner-is : (os : List (Option ℕ)) (k r s : ℕ) → AreOwn os → session_of os r ≡ Some s → owner_from k os s ≡ k + r
owner-is [] k r s own e = absurd (cc)
owner-is (None ∷ os) k zero s own e = absurd (cc)
owner-is (None ∷ os) k (suc r) s own e = let q = owner-is os (k + 1) r s (own-tail None os own) e in omega (arith, q)
owner-is (Some t ∷ os) k zero s own e =
    let q : t ≡ s = cc in
    let b : nat_eq t s ≡ true = grind (arith, nat_tests) in
    ap (λ (c : Bool). cond c k (owner_from (k + 1) os s)) b ∙ omega arith
owner-is (Some t ∷ os) k (suc r) s own e = go (nat_eq t s) refl (owner-is os (k + 1) r s (own-tail (Some t) os own) e)
  where
    go : (b : Bool) → nat_eq t s ≡ b → owner_from (k + 1) os s ≡ k + 1 + r → cond b k (owner_from (k + 1) os s) ≡ k + suc r
    go true h f = let q : t ≡ s = grind (arith, nat_tests) in let w = own zero (suc r) s (ap Some q) e in absurd (omega (arith, w))
    go false h f = omega (arith, f)

-- a replica with a session
pub record HasSession (os : List (Option ℕ)) (k i : ℕ) : Type 0 where
  pub replica : ℕ
  pub session : ℕ
  pub number : i ≡ k + replica
  pub opened : session_of os replica ≡ Some session

pub opened-from : (os : List (Option ℕ)) (k i : ℕ) → Has (opened_from k os) i → HasSession os k i
opened-from [] k i h = absurd h
opened-from (None ∷ os) k i h = let r = opened-from os (k + 1) i h in record { replica = suc r.replica; session = r.session; number = (let q = r.number in omega (arith, q)); opened = r.opened }
opened-from (Some t ∷ os) k i (inl e) = record { replica = zero; session = t; number = omega (arith, e); opened = refl }
opened-from (Some t ∷ os) k i (inr h) = let r = opened-from os (k + 1) i h in record { replica = suc r.replica; session = r.session; number = (let q = r.number in omega (arith, q)); opened = r.opened }

pub opened-has : (os : List (Option ℕ)) (k i r s : ℕ) → i ≡ k + r → session_of os r ≡ Some s → Has (opened_from k os) i
opened-has [] k i r s n e = absurd (cc)
opened-has (None ∷ os) k i zero s n e = absurd (cc)
opened-has (None ∷ os) k i (suc r) s n e = opened-has os (k + 1) i r s (omega (arith, n)) e
opened-has (Some t ∷ os) k i zero s n e = inl (omega (arith, n))
opened-has (Some t ∷ os) k i (suc r) s n e = inr (opened-has os (k + 1) i r s (omega (arith, n)) e)

pub opened-rising : (os : List (Option ℕ)) (k : ℕ) → Pairwise ◌<◌ (opened_from k os)
opened-rising [] k = tt
opened-rising (None ∷ os) k = opened-rising os (k + 1)
opened-rising (Some t ∷ os) k = (Each-all (λ i. k < i) (opened_from (k + 1) os) (λ i h. let q = HasSession.number (opened-from os (k + 1) i h) in omega (arith, q)), opened-rising os (k + 1))

pub numbers-order : IsOrder {A = ℕ} ◌<◌
numbers-order = record { never = λ x l. absurd (omega (arith, l)); across = λ x y z l m. omega (arith, l, m) }

-- one more session in order
pub session-rising : (r : ℕ) (xs : List ℕ) → Pairwise ◌<◌ xs → (Has xs r → ⊥) → Pairwise ◌<◌ (with_session r xs)
session-rising r [] p f = (tt, tt)
session-rising r (y ∷ ys) p f = go (nat_lt y r) refl (session-rising r ys p.1 (λ h. f (inr h)))
  where
    go : (b : Bool) → nat_lt y r ≡ b → Pairwise ◌<◌ (with_session r ys) → Pairwise ◌<◌ (cond b (y ∷ with_session r ys) (r ∷ y ∷ ys))
    go true h q = (Each-all (λ i. y < i) (with_session r ys) (λ i k. elim (session-from r ys i k) [ inl e ↦ grind (arith, nat_tests) | inr m ↦ Each-at (λ j. y < j) ys i p.0 m ]), q)
    go false h q =
        let l : r < y = above (nat_eq y r) refl in
        (Each-all (λ i. r < i) (y ∷ ys) (λ i k. elim k [ inl e ↦ omega (arith, e, l) | inr m ↦ let w = Each-at (λ j. y < j) ys i p.0 m in omega (arith, w, l) ]), p)
      where
        above : (c : Bool) → nat_eq y r ≡ c → r < y
        above true i = let e : y ≡ r = grind (arith, nat_tests) in absurd (f (inl e))
        above false i = grind (arith, nat_tests)

-- a replica without a session isn't among those that have one
pub not-opened : (os : List (Option ℕ)) (r : ℕ) → session_of os r ≡ None → Has (opened_from 1 os) (r + 1) → ⊥
not-opened os r e h =
    let x = opened-from os 1 (r + 1) h in
    let n : x.replica ≡ r = (let q = x.number in omega (arith, q)) in
    let y : ◌≡◌ {A = Option ℕ} None (Some x.session) = sym e ∙ (ap (session_of os) (sym n) ∙ x.opened) in
    cc

-- as many as have a session
pub opened-count : (os : List (Option ℕ)) (k : ℕ) → length (opened_from k os) ≡ count_by is_some os
opened-count [] k = refl
opened-count (None ∷ os) k = let r = opened-count os (k + 1) in let s = sum_by-cons (λ (o : Option ℕ). cond (is_some o) 1 0) None os in omega (arith, r, s)
opened-count (Some t ∷ os) k = let r = opened-count os (k + 1) in let s = sum_by-cons (λ (o : Option ℕ). cond (is_some o) 1 0) (Some t) os in omega (arith, r, s)
