-- Which of the names in order covers another one.
use Rattle.std.proofs.Common.{◌≡◌, ℕ, zero, suc, ◌+◌, ◌<◌, ◌≤◌, inl, inr, ◌||◌, Bool, true, false, List, [], ◌∷◌, length, refl, sym, ap, subst, arith, ◌∙◌, nat_eq, nat_lt}
use Rattle.std.proofs.lemmas.Bool.Decides.{nat_tests}
use Rattle.std.proofs.lemmas.Option.{slice_get-map, slice_get_read}
use Rattle.std.specs.Prelude.{slice_get, slice_index_or}
use Rattle.std.specs.Option.{option_map}
use Rattle.std.specs.List.{list_any}
use Rattle.std.specs.declared.option.Option.TheVariants.{Some}
use Rattle.rmt_names.specs.Names.{Name, rank, Covers, covers}
use Rattle.rmt_model.specs.Words.{Has, Pairwise}
use Rattle.rmt_model.specs.Live.{Before}
use Rattle.rmt_model.proofs.Lists.{Each-at, covers-true, covers-false}
use Rattle.rmt_partset.specs.Snapshots.{NamedData, names_in}
use Rattle.rmt_known.specs.KnownTables.{NoneCovers, ends_before}

has-at : (names : List Name) (i : ℕ) (x : Name) → slice_get names i ≡ Some x → Has names x
has-at [] i x e = absurd (cc)
has-at (y ∷ names) zero x e = inl (cc)
has-at (y ∷ names) (suc i) x e = inr (has-at names i x e)

get-within : (names : List Name) (i : ℕ) (x : Name) → slice_get names i ≡ Some x → i < length names
get-within [] i x e = absurd (cc)
get-within (y ∷ names) zero x e = omega arith
get-within (y ∷ names) (suc i) x e = let l = get-within names i x e in omega (arith, l)

-- of names in order the one at the lower place comes before
in-order : (names : List Name) (i j : ℕ) (x y : Name) → Pairwise Before names → i < j → slice_get names i ≡ Some x → slice_get names j ≡ Some y → Before x y
in-order [] i j x y p l e f = absurd (cc)
in-order (z ∷ names) i zero x y p l e f = absurd (omega (arith, l))
in-order (z ∷ names) zero (suc j) x y p l e f = let q : z ≡ x = cc in subst (λ (a : Name). Before a y) q (Each-at (Before z) names y p.0 (has-at names j y f))
in-order (z ∷ names) (suc i) (suc j) x y p l e f = in-order names i j x y p.1 (omega (arith, l)) e f

-- a name that ends before another one covers it not, nor does any name before it
pub none-before : (names : List Name) (i : ℕ) (x a : Name) → Pairwise Before names → slice_get names i ≡ Some x → x.min ≤ x.max → ends_before x a ≡ true → NoneCovers a names 0 (i + 1)
none-before names i x a p e s t k l m y g c = go (nat_eq k i) refl
  where
    same : rank y.partition ≡ rank a.partition
    same = ap rank c.partition

    high : a.max ≤ y.max
    high = c.max

    go : (b : Bool) → nat_eq k i ≡ b → ⊥
    go true n =
        let q : k ≡ i = grind (arith, nat_tests) in
        let h = ap (λ j. slice_get names j) q in
        let r : y ≡ x = cc in
        let u : rank y.partition ≡ rank x.partition = ap (λ (z : Name). rank z.partition) r in
        let v : y.max ≡ x.max = ap (λ (z : Name). z.max) r in
        grind (arith, nat_tests, same, high)
    go false n =
        let d : k < i = grind (arith, nat_tests) in
        let b : Before y x = in-order names k i y x p d g e in
        grind (arith, nat_tests, same, high)

-- where a name doesn't end before another one, no name after it covers that
pub none-after : (names : List Name) (i : ℕ) (x a : Name) → Pairwise Before names → slice_get names i ≡ Some x → a.min ≤ a.max → ends_before x a ≡ false → NoneCovers a names (i + 1) (length names)
none-after names i x a p e s t k l m y g c =
    let b : Before x y = in-order names i k x y p (omega (arith, l)) e g in
    let same : rank y.partition ≡ rank a.partition = ap rank c.partition in
    let low : y.min ≤ a.min = c.min in
    grind (arith, nat_tests)

-- ---- the answer

any-at : (names : List Name) (i : ℕ) (x a : Name) → slice_get names i ≡ Some x → covers x a ≡ true → list_any (λ b. covers b a) names ≡ true
any-at [] i x a e t = absurd (cc)
any-at (y ∷ names) zero x a e t = let q : y ≡ x = cc in ap (λ b. b || list_any (λ n. covers n a) names) (ap (λ (n : Name). covers n a) q ∙ t)
any-at (y ∷ names) (suc i) x a e t = go (covers y a) (any-at names i x a e t)
  where
    go : (b : Bool) → list_any (λ n. covers n a) names ≡ true → (b || list_any (λ n. covers n a) names) ≡ true
    go true h = refl
    go false h = h

none-any : (names : List Name) (a : Name) → ((i : ℕ) (x : Name) → slice_get names i ≡ Some x → Covers x a → ⊥) → list_any (λ b. covers b a) names ≡ false
none-any [] a f = refl
none-any (y ∷ names) a f = go (covers y a) refl (none-any names a (λ i x e. f (suc i) x e))
  where
    go : (b : Bool) → covers y a ≡ b → list_any (λ n. covers n a) names ≡ false → (b || list_any (λ n. covers n a) names) ≡ false
    go true t h = absurd (f zero y refl (covers-true y a t))
    go false t h = h

-- only the name at a place may cover this one, and whether it does tells whether one of them does
pub covered-so : (names : List Name) (i : ℕ) (x a : Name) → slice_get names i ≡ Some x → NoneCovers a names 0 i → NoneCovers a names (i + 1) (length names) → covers x a ≡ list_any (λ b. covers b a) names
covered-so names i x a e below above = go (covers x a) refl
  where
    go : (b : Bool) → covers x a ≡ b → b ≡ list_any (λ n. covers n a) names
    go true t = sym (any-at names i x a e t)
    go false t = sym (none-any names a (λ k y g c. at k y g c (nat_lt k i) refl (nat_eq k i) refl))
      where
        at : (k : ℕ) (y : Name) → slice_get names k ≡ Some y → Covers y a → (u : Bool) → nat_lt k i ≡ u → (v : Bool) → nat_eq k i ≡ v → ⊥
        at k y g c true m v n = below k (omega arith) (grind (arith, nat_tests)) y g c
        at k y g c false m true n =
            let q : k ≡ i = grind (arith, nat_tests) in
            let h = ap (λ j. slice_get names j) q in
            let s : y ≡ x = cc in
            covers-false x a t (subst (λ (z : Name). Covers z a) s c)
        at k y g c false m false n =
            let q : i + 1 ≤ k = grind (arith, nat_tests) in
            above k q (get-within names k y g) y g c

pub none-covered : (names : List Name) (a : Name) → NoneCovers a names 0 (length names) → false ≡ list_any (λ b. covers b a) names
none-covered names a f = sym (none-any names a (λ i x e c. f i (omega arith) (get-within names i x e) x e c))

-- ---- names of parts

pub name-at : (parts : List NamedData) (i : ℕ) (part : NamedData) → i < length parts → part ≡ slice_index_or parts i part → slice_get (names_in parts) i ≡ Some part.name
name-at parts i part l e = slice_get-map (λ (p : NamedData). p.name) parts i ∙ ap (option_map (λ (p : NamedData). p.name)) (slice_get_read parts (length parts) i part refl l e)
