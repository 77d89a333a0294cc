-- Open attempts in the order of their ids, and the same with the latest first.
use Rattle.std.proofs.Common.{◌≡◌, ℕ, zero, suc, ◌+◌, ◌<◌, ◌⊎◌, inl, inr, Bool, true, false, not, cond, List, [], ◌∷◌, ◌++◌, reverse, refl, sym, ap, subst, arith, ◌∙◌, nat_eq, nat_lt}
use Rattle.std.proofs.lemmas.Bool.Decides.{nat_tests}
use Rattle.std.proofs.lemmas.List.{reverse-append}
use Rattle.std.specs.Prelude.{slice_get, slice_set}
use Rattle.std.specs.List.{prefix_len, remove}
use Rattle.std.specs.declared.option.Option.{Option}
use Rattle.std.specs.declared.option.Option.TheVariants.{Some, None}
use Rattle.rmt_model.specs.Words.{Has, Each, Pairwise}
use Rattle.rmt_model.proofs.Lists.{Each-at, Each-all, Has-append, Has-left, Has-right}
use Rattle.rmt_nameset.proofs.Ranges.{Downward}
use Rattle.rmt_events.specs.Clusters.{Attempt}
use Rattle.rmt_events.specs.ClusterChanges.{attempts_without, renumbered}
use Rattle.rmt_cluster.specs.Attempts.{AreInOrder}

abbrev pub Rising : List Attempt → Type 0
Rising xs = Pairwise (λ a b. a.id < b.id) xs

-- an attempt that was made before an id
abbrev pub is_before : ℕ → Attempt → Bool
is_before id a = nat_lt a.id id

pub some-same : (x y : Attempt) → ◌≡◌ {A = Option Attempt} (Some x) (Some y) → x ≡ y
some-same x y e = cc

pub before-down : (id : ℕ) (xs : List Attempt) → Rising xs → Downward (is_before id) xs
before-down id [] r = tt
before-down id (x ∷ xs) r = (Each-all (λ y. is_before id y ≡ true → is_before id x ≡ true) xs (λ y h e. low y.id (Each-at (λ (z : Attempt). x.id < z.id) xs y r.0 h) e), before-down id xs r.1)
  where
    low : (n : ℕ) → x.id < n → nat_lt n id ≡ true → nat_lt x.id id ≡ true
    low n l e = grind (arith, nat_tests)

-- the id is nowhere if it isn't at its place
pub nowhere : (id : ℕ) (xs : List Attempt) → Rising xs → ((x : Attempt) → slice_get xs (prefix_len (is_before id) xs) ≡ Some x → x.id ≡ id → ⊥) → (a : Attempt) → Has xs a → a.id ≡ id → ⊥
nowhere id [] r f a h e = h
nowhere id (x ∷ xs) r f a h e = go (nat_lt x.id id) refl f h (λ g i. nowhere id xs r.1 g a i e)
  where
    go : (b : Bool) → nat_lt x.id id ≡ b → ((y : Attempt) → slice_get (x ∷ xs) (cond b (1 + prefix_len (is_before id) xs) 0) ≡ Some y → y.id ≡ id → ⊥) → Has (x ∷ xs) a
        → (((y : Attempt) → slice_get xs (prefix_len (is_before id) xs) ≡ Some y → y.id ≡ id → ⊥) → Has xs a → ⊥) → ⊥
    go true q g (inl i) rest = let j = ap (λ (y : Attempt). y.id) i in absurd (grind (arith, nat_tests))
    go true q g (inr i) rest = let s : 1 + prefix_len (is_before id) xs ≡ suc (prefix_len (is_before id) xs) = omega arith in rest (λ y u v. g y (ap (slice_get (x ∷ xs)) s ∙ u) v) i
    go false q g (inl i) rest = g x refl (ap (λ (y : Attempt). y.id) i ∙ e)
    go false q g (inr i) rest = let l = Each-at (λ (y : Attempt). x.id < y.id) xs a r.0 i in absurd (grind (arith, nat_tests))

-- ---- turned round

pub has-reverse : {A : Type 0} (xs : List A) (x : A) → Has xs x → Has (reverse xs) x
has-reverse [] x h = absurd h
has-reverse {A} (y ∷ xs) x h = subst (λ (l : List A). Has l x) (sym (reverse-append (y ∷ []) xs)) (go h (has-reverse xs x))
  where
    go : Has (y ∷ xs) x → (Has xs x → Has (reverse xs) x) → Has (reverse xs ++ y ∷ []) x
    go (inl e) f = Has-right (reverse xs) (y ∷ []) x (inl e)
    go (inr k) f = Has-left (reverse xs) (y ∷ []) x (f k)

pub reverse-has : {A : Type 0} (xs : List A) (x : A) → Has (reverse xs) x → Has xs x
reverse-has [] x h = absurd h
reverse-has {A} (y ∷ xs) x h = go (Has-append (reverse xs) (y ∷ []) x (subst (λ (l : List A). Has l x) (reverse-append (y ∷ []) xs) h)) (reverse-has xs x)
  where
    go : Has (reverse xs) x ⊎ Has (y ∷ []) x → (Has (reverse xs) x → Has xs x) → Has (y ∷ xs) x
    go (inl k) f = inr (f k)
    go (inr (inl e)) f = inl e
    go (inr (inr k)) f = absurd k

pub has-at : (xs : List Attempt) (i : ℕ) (x : Attempt) → slice_get xs i ≡ Some x → Has xs x
has-at [] i x e = absurd (cc)
has-at (y ∷ xs) zero x e = inl (some-same y x e)
has-at (y ∷ xs) (suc i) x e = inr (has-at xs i x e)

-- no two have one id
pub one-of-id : (xs : List Attempt) (i id : ℕ) (s x a : Attempt) → Rising xs → slice_get xs i ≡ Some s → s.id ≡ id → slice_get xs i ≡ Some x → Has xs a → a.id ≡ id → a ≡ x
one-of-id xs i id s x a r e q f h k = same xs a x r h (has-at xs i x f) (k ∙ (sym q ∙ ap (λ (y : Attempt). y.id) (some-same s x (sym e ∙ f))))
  where
    same : (xs : List Attempt) (a b : Attempt) → Rising xs → Has xs a → Has xs b → a.id ≡ b.id → a ≡ b
    same [] a b r h k e = absurd h
    same (y ∷ xs) a b r (inl u) (inl v) e = sym u ∙ v
    same (y ∷ xs) a b r (inl u) (inr v) e = let l = Each-at (λ (z : Attempt). y.id < z.id) xs b r.0 v in let m = ap (λ (z : Attempt). z.id) u in absurd (omega (arith, l, m, e))
    same (y ∷ xs) a b r (inr u) (inl v) e = let l = Each-at (λ (z : Attempt). y.id < z.id) xs a r.0 u in let m = ap (λ (z : Attempt). z.id) v in absurd (omega (arith, l, m, e))
    same (y ∷ xs) a b r (inr u) (inr v) e = same xs a b r.1 u v e

-- ---- one more

pub rising-more : (xs : List Attempt) (a : Attempt) → Rising xs → Each (λ x. x.id < a.id) xs → Rising (xs ++ a ∷ [])
rising-more [] a r e = (tt, tt)
rising-more (x ∷ xs) a r e = (Each-all (λ y. x.id < y.id) (xs ++ a ∷ []) (λ y h. go y (Has-append xs (a ∷ []) y h)), rising-more xs a r.1 e.1)
  where
    go : (y : Attempt) → Has xs y ⊎ Has (a ∷ []) y → x.id < y.id
    go y (inl k) = Each-at (λ (z : Attempt). x.id < z.id) xs y r.0 k
    go y (inr (inl q)) = subst (λ (z : Attempt). x.id < z.id) q e.0
    go y (inr (inr k)) = absurd k

pub in-order-more : (made : ℕ) (xs : List Attempt) (a : Attempt) → a.id ≡ made → AreInOrder made xs → AreInOrder (made + 1) (xs ++ a ∷ [])
in-order-more made xs a e o = record {
  later = rising-more xs a o.later (Each-all (λ x. x.id < a.id) xs (λ x h. let l = Each-at (λ (y : Attempt). y.id < made) xs x o.made_all h in omega (arith, l, e)));
  made_all = Each-all (λ x. x.id < made + 1) (xs ++ a ∷ []) (λ x h. go x (Has-append xs (a ∷ []) x h));
}
  where
    go : (x : Attempt) → Has xs x ⊎ Has (a ∷ []) x → x.id < made + 1
    go x (inl k) = let l = Each-at (λ (y : Attempt). y.id < made) xs x o.made_all k in omega (arith, l)
    go x (inr (inl q)) = let l = ap (λ (y : Attempt). y.id) q in omega (arith, l, e)
    go x (inr (inr k)) = absurd k

-- ---- another number for one

-- what holds of ids holds where one has another number
same-ids : (P : ℕ → Type 0) (xs : List Attempt) (i n : ℕ) (x : Attempt) → slice_get xs i ≡ Some x → Each (λ y. P y.id) xs → Each (λ y. P y.id) (slice_set xs i (record x { number = n }))
same-ids P [] i n x e h = absurd (cc)
same-ids P (y ∷ xs) zero n x e h = (subst (λ (z : Attempt). P z.id) (some-same y x e) h.0, h.1)
same-ids P (y ∷ xs) (suc i) n x e h = (h.0, same-ids P xs i n x e h.1)

rising-set : (xs : List Attempt) (i n : ℕ) (x : Attempt) → slice_get xs i ≡ Some x → Rising xs → Rising (slice_set xs i (record x { number = n }))
rising-set [] i n x e r = absurd (cc)
rising-set (y ∷ xs) zero n x e r = (subst (λ (z : Attempt). Each (λ (b : Attempt). z.id < b.id) xs) (some-same y x e) r.0, r.1)
rising-set (y ∷ xs) (suc i) n x e r = (same-ids (λ m. y.id < m) xs i n x e r.0, rising-set xs i n x e r.1)

pub in-order-set : (made : ℕ) (xs : List Attempt) (i n : ℕ) (x y : Attempt) → slice_get xs i ≡ Some x → y ≡ record x { number = n } → AreInOrder made xs → AreInOrder made (slice_set xs i y)
in-order-set made xs i n x y e q o = subst (λ (z : Attempt). AreInOrder made (slice_set xs i z)) (sym q) (record { later = rising-set xs i n x e o.later; made_all = same-ids (λ m. m < made) xs i n x e o.made_all })

-- the id isn't in the front: what is behind is looked at
skips : (ys zs : List Attempt) (id n : ℕ) → ((a : Attempt) → Has ys a → a.id ≡ id → ⊥) → renumbered (ys ++ zs) id n ≡ ys ++ renumbered zs id n
skips [] zs id n f = refl
skips (y ∷ ys) zs id n f = go (nat_eq y.id id) refl (skips ys zs id n (λ a h. f a (inr h)))
  where
    go : (b : Bool) → nat_eq y.id id ≡ b → renumbered (ys ++ zs) id n ≡ ys ++ renumbered zs id n → cond b (record y { number = n } ∷ (ys ++ zs)) (y ∷ renumbered (ys ++ zs) id n) ≡ y ∷ (ys ++ renumbered zs id n)
    go true q e = absurd (f y (inl refl) (grind (arith, nat_tests)))
    go false q e = ap (λ (l : List Attempt). y ∷ l) e

-- it is in the front: what is behind stays
hits : (ys zs : List Attempt) (id n : ℕ) (a : Attempt) → Has ys a → a.id ≡ id → renumbered (ys ++ zs) id n ≡ renumbered ys id n ++ zs
hits [] zs id n a h q = absurd h
hits (y ∷ ys) zs id n a h q = go (nat_eq y.id id) refl h (λ k. hits ys zs id n a k q)
  where
    go : (b : Bool) → nat_eq y.id id ≡ b → Has (y ∷ ys) a → (Has ys a → renumbered (ys ++ zs) id n ≡ renumbered ys id n ++ zs) → cond b (record y { number = n } ∷ (ys ++ zs)) (y ∷ renumbered (ys ++ zs) id n) ≡ cond b (record y { number = n } ∷ ys) (y ∷ renumbered ys id n) ++ zs
    go true e k f = refl
    go false e (inl i) f = let j = ap (λ (z : Attempt). z.id) i in absurd (grind (arith, nat_tests))
    go false e (inr k) f = ap (λ (l : List Attempt). y ∷ l) (f k)

pub reverse-set : (xs : List Attempt) (i id n : ℕ) (x : Attempt) → Rising xs → slice_get xs i ≡ Some x → x.id ≡ id → reverse (slice_set xs i (record x { number = n })) ≡ renumbered (reverse xs) id n
reverse-set [] i id n x r e q = absurd (cc)
reverse-set (y ∷ xs) zero id n x r e q =
    let s = some-same y x e in
    let j : y.id ≡ id = ap (λ (z : Attempt). z.id) s ∙ q in
    let t : nat_eq y.id id ≡ true = grind (arith, nat_tests) in
    reverse-append (record x { number = n } ∷ []) xs
    ∙ sym (ap (λ (l : List Attempt). renumbered l id n) (reverse-append (y ∷ []) xs)
    ∙ (skips (reverse xs) (y ∷ []) id n (λ a h k. let l = Each-at (λ (z : Attempt). y.id < z.id) xs a r.0 (reverse-has xs a h) in absurd (omega (arith, l, j, k)))
    ∙ ap (λ (l : List Attempt). reverse xs ++ l) (rw t (ap (λ (z : Attempt). record z { number = n } ∷ []) s))))
reverse-set (y ∷ xs) (suc i) id n x r e q =
    reverse-append (y ∷ []) (slice_set xs i (record x { number = n }))
    ∙ (ap (λ (l : List Attempt). l ++ y ∷ []) (reverse-set xs i id n x r.1 e q)
    ∙ sym (ap (λ (l : List Attempt). renumbered l id n) (reverse-append (y ∷ []) xs) ∙ hits (reverse xs) (y ∷ []) id n x (has-reverse xs x (has-at xs i x e)) q))

-- an id that no attempt has
pub renumbered-none : (ys : List Attempt) (id n : ℕ) → ((a : Attempt) → Has ys a → a.id ≡ id → ⊥) → renumbered ys id n ≡ ys
renumbered-none [] id n f = refl
renumbered-none (y ∷ ys) id n f = go (nat_eq y.id id) refl (renumbered-none ys id n (λ a h. f a (inr h)))
  where
    go : (b : Bool) → nat_eq y.id id ≡ b → renumbered ys id n ≡ ys → cond b (record y { number = n } ∷ ys) (y ∷ renumbered ys id n) ≡ y ∷ ys
    go true q e = absurd (f y (inl refl) (grind (arith, nat_tests)))
    go false q e = ap (λ (l : List Attempt). y ∷ l) e

-- ---- one less

pub in-order-less : (made : ℕ) (xs : List Attempt) (i : ℕ) → AreInOrder made xs → AreInOrder made (remove xs i)
in-order-less made xs i o = record { later = rising-less xs i o.later; made_all = Each-all (λ a. a.id < made) (remove xs i) (λ a h. Each-at (λ (y : Attempt). y.id < made) xs a o.made_all (less xs i a h)) }
  where
    less : (xs : List Attempt) (i : ℕ) (a : Attempt) → Has (remove xs i) a → Has xs a
    less [] zero a h = h
    less [] (suc i) a h = h
    less (x ∷ xs) zero a h = inr h
    less (x ∷ xs) (suc i) a (inl e) = inl e
    less (x ∷ xs) (suc i) a (inr h) = inr (less xs i a h)

    rising-less : (xs : List Attempt) (i : ℕ) → Rising xs → Rising (remove xs i)
    rising-less [] zero r = tt
    rising-less [] (suc i) r = tt
    rising-less (x ∷ xs) zero r = r.1
    rising-less (x ∷ xs) (suc i) r = (Each-all (λ y. x.id < y.id) (remove xs i) (λ y h. Each-at (λ (z : Attempt). x.id < z.id) xs y r.0 (less xs i y h)), rising-less xs i r.1)

without-none : (ys : List Attempt) (id : ℕ) → ((a : Attempt) → Has ys a → a.id ≡ id → ⊥) → attempts_without ys id ≡ ys
without-none [] id f = refl
without-none (y ∷ ys) id f = go (nat_eq y.id id) refl (without-none ys id (λ a h. f a (inr h)))
  where
    go : (b : Bool) → nat_eq y.id id ≡ b → attempts_without ys id ≡ ys → cond (not b) (y ∷ attempts_without ys id) (attempts_without ys id) ≡ y ∷ ys
    go true q e = absurd (f y (inl refl) (grind (arith, nat_tests)))
    go false q e = ap (λ (l : List Attempt). y ∷ l) e

pub ends-none : (xs : List Attempt) (id : ℕ) → ((a : Attempt) → Has xs a → a.id ≡ id → ⊥) → reverse xs ≡ attempts_without (reverse xs) id
ends-none xs id f = sym (without-none (reverse xs) id (λ a h. f a (reverse-has xs a h)))

without-append : (ys zs : List Attempt) (id : ℕ) → attempts_without (ys ++ zs) id ≡ attempts_without ys id ++ attempts_without zs id
without-append [] zs id = refl
without-append (y ∷ ys) zs id = go (nat_eq y.id id) (without-append ys zs id)
  where
    go : (b : Bool) → attempts_without (ys ++ zs) id ≡ attempts_without ys id ++ attempts_without zs id → cond (not b) (y ∷ attempts_without (ys ++ zs) id) (attempts_without (ys ++ zs) id) ≡ cond (not b) (y ∷ attempts_without ys id) (attempts_without ys id) ++ attempts_without zs id
    go true e = e
    go false e = ap (λ (l : List Attempt). y ∷ l) e

append-nil : (ys : List Attempt) → ys ++ [] ≡ ys
append-nil [] = refl
append-nil (y ∷ ys) = ap (λ (l : List Attempt). y ∷ l) (append-nil ys)

pub reverse-less : (xs : List Attempt) (i id : ℕ) (x : Attempt) → Rising xs → slice_get xs i ≡ Some x → x.id ≡ id → reverse (remove xs i) ≡ attempts_without (reverse xs) id
reverse-less [] i id x r e q = absurd (cc)
reverse-less (y ∷ xs) zero id x r e q =
    let s = some-same y x e in
    let j : y.id ≡ id = ap (λ (z : Attempt). z.id) s ∙ q in
    let t : nat_eq y.id id ≡ true = grind (arith, nat_tests) in
    let gone : attempts_without (y ∷ []) id ≡ [] = rw t refl in
    sym (ap (λ (l : List Attempt). attempts_without l id) (reverse-append (y ∷ []) xs)
    ∙ (without-append (reverse xs) (y ∷ []) id
    ∙ (ap (λ (l : List Attempt). attempts_without (reverse xs) id ++ l) gone
    ∙ (append-nil (attempts_without (reverse xs) id)
    ∙ without-none (reverse xs) id (λ a h k. let l = Each-at (λ (z : Attempt). y.id < z.id) xs a r.0 (reverse-has xs a h) in absurd (omega (arith, l, j, k)))))))
reverse-less (y ∷ xs) (suc i) id x r e q =
    let l = Each-at (λ (z : Attempt). y.id < z.id) xs x r.0 (has-at xs i x e) in
    let t : nat_eq y.id id ≡ false = grind (arith, nat_tests) in
    let stays : attempts_without (y ∷ []) id ≡ y ∷ [] = rw t refl in
    reverse-append (y ∷ []) (remove xs i)
    ∙ (ap (λ (l : List Attempt). l ++ y ∷ []) (reverse-less xs i id x r.1 e q)
    ∙ sym (ap (λ (l : List Attempt). attempts_without l id) (reverse-append (y ∷ []) xs) ∙ (without-append (reverse xs) (y ∷ []) id ∙ ap (λ (l : List Attempt). attempts_without (reverse xs) id ++ l) stays)))

-- some attempt, where a default is asked for
abbrev pub any_attempt : Attempt
any_attempt = record { id = 0; replica = 0; block = record { partition = None; digest = []; rows = [] }; number = 0; need = 0 }
