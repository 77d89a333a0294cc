-- The order in which elements enter their groups doesn't matter.
use Rattle.std.proofs.Common.{◌≡◌, false, List, [], ◌∷◌, refl, sym, ap, ◌∙◌, ◌⊎◌, inl, inr}
use Rattle.std.specs.declared.cmp.Ordering.{Ordering}
use Rattle.std.specs.declared.cmp.Ordering.TheVariants.{Less, Equal, Greater}
use Rattle.std.specs.Ordering.{ordering_reverse, is_gt}
use Rattle.std.specs.Cmp.{IsTotalOrder}
use Rattle.rmt_values.specs.Order.{folded}
use Rattle.rmt_query.proofs.Bags.{IsExact, Commutes}
use Rattle.rmt_query.specs.Groups.{enter, placed}
use Rattle.rmt_values.proofs.Sorting.{Low}
use Rattle.std.proofs.lemmas.Cmp.{on_total}

module _ {X K S : Type 0} (cmp : K → K → Ordering) (o : IsTotalOrder cmp) (exact : IsExact cmp) (key : X → K) (start : S) (add : X → S → S) (c : Commutes add) where
  abbrev put : X → List (K × S) → List (K × S)
  put = enter cmp key start add

  abbrev alone : X → K × S
  alone x = (key x, add x start)

  pub put-less : (x : X) (g : K × S) (gs : List (K × S)) → cmp (key x) g.0 ≡ Less → put x (g ∷ gs) ≡ alone x ∷ g ∷ gs
  put-less x g gs e = ap (λ (r : Ordering). placed cmp key start add r x g gs (put x gs)) e

  pub put-equal : (x : X) (g : K × S) (gs : List (K × S)) → cmp (key x) g.0 ≡ Equal → put x (g ∷ gs) ≡ (g.0, add x g.1) ∷ gs
  put-equal x g gs e = ap (λ (r : Ordering). placed cmp key start add r x g gs (put x gs)) e

  pub put-greater : (x : X) (g : K × S) (gs : List (K × S)) → cmp (key x) g.0 ≡ Greater → put x (g ∷ gs) ≡ g ∷ put x gs
  put-greater x g gs e = ap (λ (r : Ordering). placed cmp key start add r x g gs (put x gs)) e

  turned : (a b : K) (r : Ordering) → cmp a b ≡ r → cmp b a ≡ ordering_reverse r
  turned a b r e = o.antisymm b a ∙ ap ordering_reverse e

  -- x is below g and y isn't, so y is above x
  apart : (x y : X) (k : K) → cmp (key x) k ≡ Less → (cmp (key y) k ≡ Equal) ⊎ (cmp (key y) k ≡ Greater) → cmp (key y) (key x) ≡ Greater
  apart x y k p (inl q) = o.congr (key y) k (key x) q ∙ turned (key x) k Less p
  apart x y k p (inr q) = turned (key x) (key y) Less (o.trans (key x) k (key y) p (turned (key y) k Greater q))

  -- both go first
  both-first : (x y : X) (l : List (K × S)) → put x l ≡ alone x ∷ l → put y l ≡ alone y ∷ l → put x (alone y ∷ l) ≡ put y (alone x ∷ l)
  both-first x y l px py = go (cmp (key x) (key y)) refl where
    go : (r : Ordering) → cmp (key x) (key y) ≡ r → put x (alone y ∷ l) ≡ put y (alone x ∷ l)
    go Less e = put-less x (alone y) l e ∙ sym (put-greater y (alone x) l (turned (key x) (key y) Less e) ∙ ap (λ (t : List (K × S)). alone x ∷ t) py)
    go Equal e =
        put-equal x (alone y) l e
        ∙ (ap (λ (s : S). (key y, s) ∷ l) (c x y start) ∙ ap (λ (k : K). (k, add y (add x start)) ∷ l) (sym (exact (key x) (key y) e)))
        ∙ sym (put-equal y (alone x) l (turned (key x) (key y) Equal e))
    go Greater e = put-greater x (alone y) l e ∙ ap (λ (t : List (K × S)). alone y ∷ t) px ∙ sym (put-less y (alone x) l (turned (key x) (key y) Greater e))

  pub put-commutes : Commutes put
  put-commutes x y [] = both-first x y [] refl refl
  put-commutes x y (g ∷ gs) = go (cmp (key x) g.0) (cmp (key y) g.0) refl refl (put-commutes x y gs) where
    low-equal : (u v : X) → cmp (key u) g.0 ≡ Less → cmp (key v) g.0 ≡ Equal → put u (put v (g ∷ gs)) ≡ put v (put u (g ∷ gs))
    low-equal u v p q =
        ap (put u) (put-equal v g gs q) ∙ put-less u (g.0, add v g.1) gs p
        ∙ sym (ap (put v) (put-less u g gs p) ∙ put-greater v (alone u) (g ∷ gs) (apart u v g.0 p (inl q)) ∙ ap (λ (t : List (K × S)). alone u ∷ t) (put-equal v g gs q))

    low-high : (u v : X) → cmp (key u) g.0 ≡ Less → cmp (key v) g.0 ≡ Greater → put u (put v (g ∷ gs)) ≡ put v (put u (g ∷ gs))
    low-high u v p q =
        ap (put u) (put-greater v g gs q) ∙ put-less u g (put v gs) p
        ∙ sym (ap (put v) (put-less u g gs p) ∙ put-greater v (alone u) (g ∷ gs) (apart u v g.0 p (inr q)) ∙ ap (λ (t : List (K × S)). alone u ∷ t) (put-greater v g gs q))

    equal-high : (u v : X) → cmp (key u) g.0 ≡ Equal → cmp (key v) g.0 ≡ Greater → put u (put v (g ∷ gs)) ≡ put v (put u (g ∷ gs))
    equal-high u v p q =
        ap (put u) (put-greater v g gs q) ∙ put-equal u g (put v gs) p
        ∙ sym (ap (put v) (put-equal u g gs p) ∙ put-greater v (g.0, add u g.1) gs q)

    go : (a b : Ordering) → cmp (key x) g.0 ≡ a → cmp (key y) g.0 ≡ b → put x (put y gs) ≡ put y (put x gs) → put x (put y (g ∷ gs)) ≡ put y (put x (g ∷ gs))
    go Less Less p q r = ap (put x) (put-less y g gs q) ∙ both-first x y (g ∷ gs) (put-less x g gs p) (put-less y g gs q) ∙ sym (ap (put y) (put-less x g gs p))
    go Less Equal p q r = low-equal x y p q
    go Less Greater p q r = low-high x y p q
    go Equal Less p q r = sym (low-equal y x q p)
    go Equal Equal p q r =
        ap (put x) (put-equal y g gs q) ∙ put-equal x (g.0, add y g.1) gs p ∙ ap (λ (s : S). (g.0, s) ∷ gs) (c x y g.1)
        ∙ sym (ap (put y) (put-equal x g gs p) ∙ put-equal y (g.0, add x g.1) gs q)
    go Equal Greater p q r = equal-high x y p q
    go Greater Less p q r = sym (low-high y x q p)
    go Greater Equal p q r = sym (equal-high y x q p)
    go Greater Greater p q r =
        ap (put x) (put-greater y g gs q) ∙ put-greater x g (put y gs) p ∙ ap (λ (t : List (K × S)). g ∷ t) r
        ∙ sym (ap (put y) (put-greater x g gs p) ∙ put-greater y g (put x gs) q)

  -- k is above no group
  abbrev pub Under : K → List (K × S) → Type 0
  Under k [] = Unit {0}
  Under k (g ∷ gs) = (is_gt (cmp k g.0) ≡ false) × Under k gs

  Under-put : (k : K) (y : X) (gs : List (K × S)) → is_gt (cmp k (key y)) ≡ false → Under k gs → Under k (put y gs)
  Under-put k y [] e h = (e, tt)
  Under-put k y (g ∷ gs) e h = go (cmp (key y) g.0) (Under-put k y gs e h.1) where
    go : (r : Ordering) → Under k (put y gs) → Under k (placed cmp key start add r y g gs (put y gs))
    go Less d = (e, h)
    go Equal d = h
    go Greater d = (h.0, d)

  abbrev by_key : X → X → Ordering
  by_key x y = cmp (key x) (key y)

  pub by_key_total : IsTotalOrder by_key
  by_key_total = on_total key o

  pub Under-folded : (x : X) (ys : List X) → Low by_key by_key_total x ys → Under (key x) (folded put [] ys)
  Under-folded x [] h = tt
  Under-folded x (y ∷ ys) h = Under-put (key x) y (folded put [] ys) h.0 (Under-folded x ys h.1)
