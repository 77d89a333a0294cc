-- The names of one partition among names in order.
use Rattle.std.proofs.Common.{◌≡◌, ℕ, ◌+◌, ◌≤◌, Bool, true, false, cond, List, [], ◌∷◌, take, drop, filter, nat_eq, nat_lt, refl, ap, sym, subst, arith, ◌∙◌, one-add}
use Rattle.std.proofs.lemmas.Bool.Decides.{nat_tests}
use Rattle.std.specs.List.{prefix_len}
use Rattle.std.specs.declared.option.Option.{Option}
use Rattle.rmt_names.specs.Names.{Name, rank}
use Rattle.rmt_model.specs.Words.{Each, Pairwise}
use Rattle.rmt_model.specs.Live.{Before}
use Rattle.rmt_model.proofs.Lists.{Each-at, Each-all}
use Rattle.rmt_nameset.proofs.Ranges.{Downward, Pairwise-to}
use Rattle.rmt_history.proofs.ListLemmas.{prefix-is}

-- whether a name comes before those of a partition, and whether it is one of them
abbrev pub is_early : Option ℕ → Name → Bool
is_early p a = nat_lt (rank a.partition) (rank p)

abbrev pub is_of : Option ℕ → Name → Bool
is_of p a = nat_eq (rank a.partition) (rank p)

not-behind : (a b : Name) → Before a b → rank a.partition ≤ rank b.partition
not-behind a b h = grind arith

-- those that come before a partition stand first
pub early-down : (p : Option ℕ) (names : List Name) → Pairwise Before names → Downward (is_early p) names
early-down p names s = Pairwise-to Before (λ a b. is_early p b ≡ true → is_early p a ≡ true) (λ a. Unit {0}) names
    (λ a b u v h e. let l = not-behind a b h in grind (arith, nat_tests)) s (all names)
  where
    all : (xs : List Name) → Each (λ (a : Name). Unit {0}) xs
    all [] = tt
    all (x ∷ xs) = (tt, all xs)

-- those of it stand first among the others
pub later-down : (p : Option ℕ) (names : List Name) → Pairwise Before names → Downward (is_of p) (drop (prefix_len (is_early p) names) names)
later-down p [] s = tt
later-down p (a ∷ names) s = go (is_early p a) refl (later-down p names s.1)
  where
    go : (b : Bool) → is_early p a ≡ b → Downward (is_of p) (drop (prefix_len (is_early p) names) names) → Downward (is_of p) (drop (cond b (1 + prefix_len (is_early p) names) 0) (a ∷ names))
    go true e f = subst (λ n. Downward (is_of p) (drop n (a ∷ names))) (sym (one-add (prefix_len (is_early p) names))) f
    go false e f =
        let m : rank p ≤ rank a.partition = grind (arith, nat_tests) in
        Pairwise-to Before (λ x y. is_of p y ≡ true → is_of p x ≡ true) (λ x. rank p ≤ rank x.partition) (a ∷ names)
        (λ x y u v h q. let l = not-behind x y h in grind (arith, nat_tests)) s
        (m, Each-all (λ (x : Name). rank p ≤ rank x.partition) names (λ x h. let k = not-behind a x (Each-at (Before a) names x s.0 h) in omega (arith, k, m)))

-- none of it comes before them
skipped : (p : Option ℕ) (names : List Name) → filter (is_of p) (drop (prefix_len (is_early p) names) names) ≡ filter (is_of p) names
skipped p [] = refl
skipped p (a ∷ names) = go (is_early p a) refl (skipped p names)
  where
    go : (b : Bool) → is_early p a ≡ b → filter (is_of p) (drop (prefix_len (is_early p) names) names) ≡ filter (is_of p) names → filter (is_of p) (drop (cond b (1 + prefix_len (is_early p) names) 0) (a ∷ names)) ≡ filter (is_of p) (a ∷ names)
    go true e h = let f : is_of p a ≡ false = grind (arith, nat_tests) in
        ap (λ n. filter (is_of p) (drop n (a ∷ names))) (one-add (prefix_len (is_early p) names))
        ∙ (h ∙ sym (ap (λ (b : Bool). cond b (a ∷ filter (is_of p) names) (filter (is_of p) names)) f))
    go false e h = refl

-- they stand side by side
pub side-by-side : (p : Option ℕ) (names : List Name) → Pairwise Before names
    → take (prefix_len (is_of p) (drop (prefix_len (is_early p) names) names)) (drop (prefix_len (is_early p) names) names) ≡ filter (is_of p) names
side-by-side p names s = prefix-is (is_of p) (drop (prefix_len (is_early p) names) names) (later-down p names s) ∙ skipped p names
