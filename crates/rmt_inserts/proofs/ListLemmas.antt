-- Lists that rise are told by what they have, and how long lists are that have the same.
use Rattle.std.proofs.Common.{◌≡◌, ◌≢◌, inl, inr, ◌⊎◌, ℕ, suc, ◌≤◌, Bool, true, false, cond, List, [], ◌∷◌, length, map, refl, sym, ap, subst, arith, ◌∙◌}
use Rattle.std.specs.Ordering.{is_lt}
use Rattle.std.specs.declared.option.Option.TheVariants.{Some, None}
use Rattle.rmt_model.specs.Words.{Has, Pairwise}
use Rattle.rmt_model.proofs.Lists.{Each-at}
use Rattle.rmt_paths.specs.PathOrder.{name_cmp}
use Rattle.rmt_tree.specs.Trees.{first_from}
use Rattle.rmt_inserts.proofs.NameLemmas.{Lower, lower-irreflexive, lower-asymmetric, lower-test, test-lower}

-- membership through a function
pub Has-map : {A B : Type 0} (f : A → B) (xs : List A) (y : B) → Has (map f xs) y → (x : A) × Has xs x × (f x ≡ y)
Has-map f [] y h = absurd h
Has-map f (x ∷ xs) y (inl e) = (x, inl refl, e)
Has-map f (x ∷ xs) y (inr h) = let r = Has-map f xs y h in (r.0, inr r.1, r.2)

pub map-Has : {A B : Type 0} (f : A → B) (xs : List A) (x : A) → Has xs x → Has (map f xs) (f x)
map-Has f [] x h = absurd h
map-Has f (z ∷ xs) x (inl e) = inl (ap f e)
map-Has f (z ∷ xs) x (inr h) = inr (map-Has f xs x h)

-- ---- lists that rise

pub record IsFirstFrom (name : List ℕ) (ns : List (List ℕ)) (n : List ℕ) : Type 0 where
  pub here : Has ns n
  pub past : Lower n name → ⊥
  pub least : (m : List ℕ) → Has ns m → (Lower m name → ⊥) → Lower m n → ⊥

pub first-from : (name : List ℕ) (ns : List (List ℕ)) (n : List ℕ) → Pairwise Lower ns → first_from name ns ≡ Some n → IsFirstFrom name ns n
first-from name [] n p e = absurd (cc)
first-from name (k ∷ ns) n p e = go (is_lt (name_cmp k name)) refl e (first-from name ns n p.1)
  where
    go : (b : Bool) → is_lt (name_cmp k name) ≡ b → cond b (first_from name ns) (Some k) ≡ Some n → (first_from name ns ≡ Some n → IsFirstFrom name ns n) → IsFirstFrom name (k ∷ ns) n
    go true t e f = let r = f e in record { here = inr r.here; past = r.past; least = least r }
      where
        least : IsFirstFrom name ns n → (m : List ℕ) → Has (k ∷ ns) m → (Lower m name → ⊥) → Lower m n → ⊥
        least r m (inl q) past low = past (subst (λ (w : List ℕ). Lower w name) q (test-lower k name t))
        least r m (inr h) past low = r.least m h past low
    go false t e f = let q : k ≡ n = cc in record {
      here = inl q;
      past = λ l. let w : true ≡ false = sym (lower-test k name (subst (λ (x : List ℕ). Lower x name) (sym q) l)) ∙ t in absurd (cc);
      least = λ m h past low. least m h (subst (Lower m) (sym q) low);
    }
      where
        least : (m : List ℕ) → Has (k ∷ ns) m → Lower m k → ⊥
        least m (inl q) low = lower-irreflexive m (subst (Lower m) q low)
        least m (inr h) low = lower-asymmetric m k low (Each-at (Lower k) ns m p.0 h)

pub none-from : (name : List ℕ) (ns : List (List ℕ)) → first_from name ns ≡ None → (m : List ℕ) → Has ns m → Lower m name
none-from name [] e m h = absurd h
none-from name (k ∷ ns) e m h = go (is_lt (name_cmp k name)) refl e h (none-from name ns)
  where
    go : (b : Bool) → is_lt (name_cmp k name) ≡ b → cond b (first_from name ns) (Some k) ≡ None → Has (k ∷ ns) m → (first_from name ns ≡ None → (m : List ℕ) → Has ns m → Lower m name) → Lower m name
    go true t e (inl q) f = subst (λ (w : List ℕ). Lower w name) q (test-lower k name t)
    go true t e (inr h) f = f e m h
    go false t e h f = absurd (cc)

-- ---- lists that have the same

record Without {A : Type 0} (ys : List A) (x : A) : Type 0 where
  rest : List A
  size : length ys ≡ suc (length rest)
  others : (z : A) → Has ys z → (x ≡ z) ⊎ Has rest z

without : {A : Type 0} (ys : List A) (x : A) → Has ys x → Without ys x
without [] x h = absurd h
without (y ∷ ys) x (inl e) = record { rest = ys; size = refl; others = others }
  where
    others : (z : _) → Has (y ∷ ys) z → (x ≡ z) ⊎ Has ys z
    others z (inl k) = inl (sym e ∙ k)
    others z (inr k) = inr k
without (y ∷ ys) x (inr h) = go (without ys x h)
  where
    go : Without ys x → Without (y ∷ ys) x
    go r = record { rest = y ∷ r.rest; size = let s = r.size in omega (arith, s); others = others }
      where
        others : (z : _) → Has (y ∷ ys) z → (x ≡ z) ⊎ Has (y ∷ r.rest) z
        others z (inl k) = inr (inl k)
        others z (inr k) = elim (r.others z k) [ inl e ↦ inl e | inr m ↦ inr (inr m) ]

length-le : {A : Type 0} (xs ys : List A) → Pairwise ◌≢◌ xs → ((x : A) → Has xs x → Has ys x) → length xs ≤ length ys
length-le [] ys p f = omega arith
length-le {A = A} (x ∷ xs) ys p f = go (without ys x (f x (inl refl))) (λ zs. length-le xs zs p.1)
  where
    go : Without ys x → ((zs : List A) → ((z : A) → Has xs z → Has zs z) → length xs ≤ length zs) → length (x ∷ xs) ≤ length ys
    go r k = let l = k r.rest (λ z h. other z h (r.others z (f z (inr h)))) in let s = r.size in omega (arith, l, s)
      where
        other : (z : A) → Has xs z → (x ≡ z) ⊎ Has r.rest z → Has r.rest z
        other z h (inl e) = absurd (Each-at (λ y. x ≢ y) xs z p.0 h e)
        other z h (inr m) = m

pub same-length : {A : Type 0} (xs ys : List A) → Pairwise ◌≢◌ xs → Pairwise ◌≢◌ ys → ((x : A) → Has xs x → Has ys x) → ((y : A) → Has ys y → Has xs y) → length xs ≡ length ys
same-length xs ys p q f g = let l = length-le xs ys p f in let k = length-le ys xs q g in omega (arith, l, k)
