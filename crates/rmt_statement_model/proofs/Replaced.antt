-- The replicas of a cluster with another one in place of that of a number.
use Rattle.std.proofs.Common.{◌≡◌, ℕ, ◌<◌, ◌⊎◌, inl, inr, Bool, true, false, cond, List, [], ◌∷◌, refl, sym, ap, subst, arith, ◌∙◌, nat_eq}
use Rattle.std.proofs.lemmas.Bool.Decides.{nat_tests}
use Rattle.rmt_model.specs.Words.{Has, Pairwise}
use Rattle.rmt_model.proofs.Lists.{Each-at}
use Rattle.rmt_events.specs.Views.{Replica}
use Rattle.rmt_events.specs.Clusters.{Cluster, with_replica}
use Rattle.rmt_events.specs.ClusterChanges.{IsNumbered}

-- a replica is the one in the place, or was there under another number
pub has-other : (xs : List Replica) (k : ℕ) (y z : Replica) → Pairwise (λ a b. a.number < b.number) xs → Has (with_replica xs k y) z → (y ≡ z) ⊎ (Has xs z × (z.number ≡ k → ⊥))
has-other [] k y z r h = absurd h
has-other (x ∷ xs) k y z r h = go (nat_eq x.number k) refl h (has-other xs k y z r.1)
  where
    go : (b : Bool) → nat_eq x.number k ≡ b → Has (cond b (y ∷ xs) (x ∷ with_replica xs k y)) z → (Has (with_replica xs k y) z → (y ≡ z) ⊎ (Has xs z × (z.number ≡ k → ⊥))) → (y ≡ z) ⊎ (Has (x ∷ xs) z × (z.number ≡ k → ⊥))
    go true q (inl e) f = inl e
    go true q (inr m) f =
        let l = Each-at (λ b. x.number < b.number) xs z r.0 m in
        let n : x.number ≡ k = grind (arith, nat_tests) in
        inr (inr m, λ e. absurd (omega (arith, l, n, e)))
    go false q (inl e) f = inr (inl e, λ n. let u : x.number ≡ k = ap (λ (v : Replica). v.number) e ∙ n in absurd (grind (arith, nat_tests)))
    go false q (inr m) f = elim (f m) [ inl e ↦ inl e | inr n ↦ inr (inr n.0, n.1) ]

-- the one in the place is there
pub has-new : (xs : List Replica) (k : ℕ) (x y : Replica) → Has xs x → x.number ≡ k → Has (with_replica xs k y) y
has-new [] k x y h e = absurd h
has-new (z ∷ zs) k x y h e = go (nat_eq z.number k) refl h (λ m. has-new zs k x y m e)
  where
    go : (b : Bool) → nat_eq z.number k ≡ b → Has (z ∷ zs) x → (Has zs x → Has (with_replica zs k y) y) → Has (cond b (y ∷ zs) (z ∷ with_replica zs k y)) y
    go true q m f = inl refl
    go false q (inl m) f = let u : z.number ≡ k = ap (λ (v : Replica). v.number) m ∙ e in absurd (grind (arith, nat_tests))
    go false q (inr m) f = inr (f m)

-- those of other numbers are there still
pub has-kept : (xs : List Replica) (k : ℕ) (x y : Replica) → Has xs x → (x.number ≡ k → ⊥) → Has (with_replica xs k y) x
has-kept [] k x y h n = absurd h
has-kept (z ∷ zs) k x y h n = go (nat_eq z.number k) refl h (λ m. has-kept zs k x y m n)
  where
    go : (b : Bool) → nat_eq z.number k ≡ b → Has (z ∷ zs) x → (Has zs x → Has (with_replica zs k y) x) → Has (cond b (y ∷ zs) (z ∷ with_replica zs k y)) x
    go true q (inl m) f = let u : z.number ≡ k = grind (arith, nat_tests) in absurd (n (ap (λ (v : Replica). v.number) (sym m) ∙ u))
    go true q (inr m) f = inr m
    go false q (inl m) f = inl m
    go false q (inr m) f = inr (f m)

-- a replica has its number where the replicas are the same
pub numbered-still : (s u : Cluster) (k : ℕ) (x : Replica) → u.replicas ≡ s.replicas → IsNumbered s k x → IsNumbered u k x
numbered-still s u k x e at = record { is_in = subst (λ (xs : List Replica). Has xs x) (sym e) at.is_in; number = at.number }

-- one that replaces another has its number
pub numbered-new : (s u : Cluster) (k : ℕ) (x y : Replica) → u.replicas ≡ with_replica s.replicas k y → y.number ≡ x.number → IsNumbered s k x → IsNumbered u k y
numbered-new s u k x y e n at = record { is_in = subst (λ (xs : List Replica). Has xs y) (sym e) (has-new s.replicas k x y at.is_in at.number); number = n ∙ at.number }
