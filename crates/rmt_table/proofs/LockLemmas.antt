-- The locks that are shown are exactly those that are held, in order.
use Rattle.std.proofs.Common.{◌≡◌, ℕ, zero, suc, ◌<◌, ◌⊎◌, inl, inr, Bool, true, false, cond, List, [], ◌∷◌, ◌++◌, refl, sym, ap, subst, arith, ◌∙◌, nat_eq}
use Rattle.std.proofs.lemmas.Bool.Decides.{nat_tests}
use Rattle.std.specs.declared.option.Option.{Option}
use Rattle.std.specs.declared.option.Option.TheVariants.{Some, None}
use Rattle.rmt_names.specs.Names.{rank}
use Rattle.rmt_model.specs.Words.{Has, Pairwise}
use Rattle.rmt_model.proofs.Lists.{Each-at, Each-all, Has-append, Has-left, Has-right, rank-injective}
use Rattle.rmt_table_model.specs.Numbers.{Nexts, Holders, IsPast}
use Rattle.rmt_table_model.specs.Tables.{TableView, IsSound}
use Rattle.rmt_events.specs.Views.{Lock}
use Rattle.rmt_events.specs.TableCalls.{precedes, with_lock}
use Rattle.rmt_events.proofs.TableSteps.{lock-from}
use Rattle.rmt_table.specs.SeenTable.{owner_from, lock_of, locks_below, locks_in, Holds, Precedes}
use Rattle.rmt_table.proofs.Orders.{IsOrder, same-lists}
use Rattle.rmt_table.proofs.SessionLemmas.{owner-is}

pub locks-order : IsOrder Precedes
locks-order = record { never = λ x l. absurd (grind (arith, nat_tests)); across = λ x y z l m. grind (arith, nat_tests) }

-- two lists in order, the first wholly before the second
Pairwise-append : {A : Type 0} (R : A → A → Type 0) (xs ys : List A) → Pairwise R xs → Pairwise R ys → ((x y : A) → Has xs x → Has ys y → R x y) → Pairwise R (xs ++ ys)
Pairwise-append R [] ys p q f = q
Pairwise-append R (x ∷ xs) ys p q f = (
  Each-all (R x) (xs ++ ys) (λ y h. elim (Has-append xs ys y h) [ inl k ↦ Each-at (R x) xs y p.0 k | inr k ↦ f x y (inl refl) k ]),
  Pairwise-append R xs ys p.1 q (λ a b h k. f a b (inr h) k),
)

-- a lock that is shown, with the session that holds it
pub record IsShown (h : Holders) (sessions : List (Option ℕ)) (k : Lock) : Type 0 where
  pub session : ℕ
  pub held : h k.partition k.number ≡ Some session
  pub owner : k.owner ≡ owner_from 1 sessions session

module _ (h : Holders) (ss : List (Option ℕ)) where
  of-from : (p : Option ℕ) (n : ℕ) (o : Option ℕ) → h p n ≡ o → (k : Lock) → Has (lock_of ss p n o) k → IsShown h ss k × (k.partition ≡ p) × (k.number ≡ n)
  of-from p n None e k i = absurd i
  of-from p n (Some s) e k (inl q) =
      let a : p ≡ k.partition = ap (λ (l : Lock). l.partition) q in
      let b : n ≡ k.number = ap (λ (l : Lock). l.number) q in
      (record { session = s; held = ap (λ (r : Option ℕ). h r k.number) (sym a) ∙ (ap (h p) (sym b) ∙ e); owner = sym (ap (λ (l : Lock). l.owner) q) }, sym a, sym b)
  of-from p n (Some s) e k (inr q) = absurd q

  pub below-from : (p : Option ℕ) (n : ℕ) (k : Lock) → Has (locks_below h ss p n) k → IsShown h ss k × (k.partition ≡ p) × (k.number < n)
  below-from p zero k i = absurd i
  below-from p (suc n) k i = elim (Has-append (locks_below h ss p n) (lock_of ss p n (h p n)) k i) [
    | inl j ↦ let r = below-from p n k j in (r.0, r.1, let l = r.2 in omega (arith, l))
    | inr j ↦ let r = of-from p n (h p n) refl k j in (r.0, r.1, let l = r.2 in omega (arith, l))
  ]

  pub below-has : (p : Option ℕ) (n m s : ℕ) → m < n → h p m ≡ Some s → Has (locks_below h ss p n) (record { partition = p; number = m; owner = owner_from 1 ss s })
  below-has p zero m s l e = absurd (omega (arith, l))
  below-has p (suc n) m s l e = go (nat_eq m n) refl (λ k. below-has p n m s k e)
    where
      go : (b : Bool) → nat_eq m n ≡ b → (m < n → Has (locks_below h ss p n) (record { partition = p; number = m; owner = owner_from 1 ss s })) → Has (locks_below h ss p n ++ lock_of ss p n (h p n)) (record { partition = p; number = m; owner = owner_from 1 ss s })
      go true t f0 =
          let q : n ≡ m = grind (arith, nat_tests) in
          let f : h p n ≡ Some s = ap (h p) q ∙ e in
          Has-right (locks_below h ss p n) (lock_of ss p n (h p n)) (record { partition = p; number = m; owner = owner_from 1 ss s })
          (subst (λ (o : Option ℕ). Has (lock_of ss p n o) (record { partition = p; number = m; owner = owner_from 1 ss s })) (sym f)
          (inl (ap (λ (j : ℕ). record { partition = p; number = j; owner = owner_from 1 ss s }) q)))
      go false t f0 = Has-left (locks_below h ss p n) (lock_of ss p n (h p n)) (record { partition = p; number = m; owner = owner_from 1 ss s }) (f0 (grind (arith, nat_tests)))

  one-rising : (p : Option ℕ) (n : ℕ) (o : Option ℕ) → Pairwise Precedes (lock_of ss p n o)
  one-rising p n None = tt
  one-rising p n (Some s) = (tt, tt)

  below-rising : (p : Option ℕ) (n : ℕ) → Pairwise Precedes (locks_below h ss p n)
  below-rising p zero = tt
  below-rising p (suc n) = Pairwise-append Precedes (locks_below h ss p n) (lock_of ss p n (h p n)) (below-rising p n) (one-rising p n (h p n))
      (λ x y i j.
      let a = below-from p n x i in let b = of-from p n (h p n) refl y j in
      let u : rank x.partition ≡ rank y.partition = ap rank (a.1 ∙ sym b.1) in
      let v : x.number < y.number = (let l = a.2 in let m = b.2 in omega (arith, l, m)) in
      grind (arith, nat_tests))

  pub in-from : (next : Nexts) (k : Lock) → Has (locks_in h ss next) k → IsShown h ss k × IsPast next k.partition k.number
  in-from [] k i = absurd i
  in-from (x ∷ xs) k i = elim (Has-append (locks_below h ss x.0 x.1) (locks_in h ss xs) k i) [
    | inl j ↦ let r = below-from x.0 x.1 k j in (r.0, (x.1, inl (ap (λ (p : Option ℕ). (p, x.1)) (sym r.1)), r.2))
    | inr j ↦ let r = in-from xs k j in (r.0, let w = r.1 in (w.0, inr w.1, w.2))
  ]

  pub in-has : (next : Nexts) (p : Option ℕ) (n s : ℕ) → IsPast next p n → h p n ≡ Some s → Has (locks_in h ss next) (record { partition = p; number = n; owner = owner_from 1 ss s })
  in-has [] p n s w e = absurd w.1
  in-has (x ∷ xs) p n s w e = go w.1 (λ j. in-has xs p n s (w.0, j, w.2) e)
    where
      lock : Lock
      lock = record { partition = p; number = n; owner = owner_from 1 ss s }

      go : (x ≡ (p, w.0)) ⊎ Has xs (p, w.0) → (Has xs (p, w.0) → Has (locks_in h ss xs) lock) → Has (locks_below h ss x.0 x.1 ++ locks_in h ss xs) lock
      go (inl q) f = Has-left (locks_below h ss x.0 x.1) (locks_in h ss xs) lock (subst (λ (y : Option ℕ × ℕ). Has (locks_below h ss y.0 y.1) lock) (sym q) (below-has p w.0 n s w.2 e))
      go (inr j) f = Has-right (locks_below h ss x.0 x.1) (locks_in h ss xs) lock (f j)

  pub in-rising : (next : Nexts) → Pairwise (λ x y. rank x.0 < rank y.0) next → Pairwise Precedes (locks_in h ss next)
  in-rising [] p = tt
  in-rising (x ∷ xs) p = Pairwise-append Precedes (locks_below h ss x.0 x.1) (locks_in h ss xs) (below-rising x.0 x.1) (in-rising xs p.1)
      (λ a b i j.
      let u = below-from x.0 x.1 a i in let w = (in-from xs b j).1 in
      let r : rank a.partition ≡ rank x.0 = ap rank u.1 in
      let l : rank x.0 < rank b.partition = Each-at (λ (y : Option ℕ × ℕ). rank x.0 < rank y.0) xs (b.partition, w.0) p.0 w.1 in
      grind (arith, nat_tests))

-- ---- of a table

pub locks-from : (v : TableView) → IsSound v → (k : Lock) → Has (locks_in v.holders v.sessions v.next) k → Holds v k
locks-from v s k i =
    let r = (in-from v.holders v.sessions v.next k i).0 in
    let o = s.held k.partition k.number r.session r.held in
    let w = owner-is v.sessions 1 o.0 r.session s.own o.1 in
    let u = r.owner in
    record { session = r.session; replica = o.0; held = r.held; opened = o.1; owner = omega (arith, w, u) }

pub locks-has : (v : TableView) → IsSound v → (k : Lock) → Holds v k → Has (locks_in v.holders v.sessions v.next) k
locks-has v s k w =
    let e = owner-is v.sessions 1 w.replica w.session s.own w.opened in
    let f : owner_from 1 v.sessions w.session ≡ k.owner = (let u = w.owner in omega (arith, e, u)) in
    subst (λ (o : ℕ). Has (locks_in v.holders v.sessions v.next) (record { partition = k.partition; number = k.number; owner = o })) f
    (in-has v.holders v.sessions v.next k.partition k.number w.session (s.given k.partition k.number (inr (w.session, w.held))) w.held)

pub locks-rising : (v : TableView) → IsSound v → Pairwise Precedes (locks_in v.holders v.sessions v.next)
locks-rising v s = in-rising v.holders v.sessions v.next s.nexts.rising

-- a list in order of exactly the locks that are held is the one that is shown
pub locks-are : (v : TableView) → IsSound v → (ks : List Lock) → Pairwise Precedes ks → ((k : Lock) → Has ks k → Holds v k) → ((k : Lock) → Holds v k → Has ks k) → locks_in v.holders v.sessions v.next ≡ ks
locks-are v s ks p f g = same-lists Precedes locks-order (locks_in v.holders v.sessions v.next) ks (locks-rising v s) p (λ k h. g k (locks-from v s k h)) (λ k h. locks-has v s k (f k h))

-- one more lock in order
pub lock-rising : (k : Lock) (xs : List Lock) → Pairwise Precedes xs → ((y : Lock) → Has xs y → y.partition ≡ k.partition → y.number ≡ k.number → ⊥) → Pairwise Precedes (with_lock k xs)
lock-rising k [] p f = (tt, tt)
lock-rising k (y ∷ ys) p f = go (precedes y k) refl (lock-rising k ys p.1 (λ z h. f z (inr h)))
  where
    go : (b : Bool) → precedes y k ≡ b → Pairwise Precedes (with_lock k ys) → Pairwise Precedes (cond b (y ∷ with_lock k ys) (k ∷ y ∷ ys))
    go true h q = (Each-all (Precedes y) (with_lock k ys) (λ z i. elim (lock-from k ys z i) [ inl e ↦ subst (Precedes y) e h | inr m ↦ Each-at (Precedes y) ys z p.0 m ]), q)
    go false h q = (Each-all (Precedes k) (y ∷ ys) (λ z i. elim i [ inl e ↦ subst (Precedes k) e above | inr m ↦ locks-order.across k y z above (Each-at (Precedes y) ys z p.0 m) ]), p)
      where
        split : (c : Bool) → nat_eq (rank y.partition) (rank k.partition) ≡ c → (d : Bool) → nat_eq y.number k.number ≡ d → Precedes k y
        split true i true j = absurd (f y (inl refl) (rank-injective y.partition k.partition (grind (arith, nat_tests))) (grind (arith, nat_tests)))
        split true i false j = grind (arith, nat_tests)
        split false i d j = grind (arith, nat_tests)

        above : Precedes k y
        above = split (nat_eq (rank y.partition) (rank k.partition)) refl (nat_eq y.number k.number) refl
