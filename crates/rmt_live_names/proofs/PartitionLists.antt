-- The partitions of names that stand in a row, each once.
use Rattle.std.proofs.Common.{◌≡◌, ℕ, Bool, true, false, cond, List, [], ◌∷◌, map, refl, sym, ap, ◌∙◌, nat_eq, arith}
use Rattle.std.proofs.lemmas.Bool.Decides.{nat_tests}
use Rattle.std.specs.List.{dedup, dedup_from}
use Rattle.std.specs.Option.{option_eq}
use Rattle.std.specs.declared.option.Option.{Option}
use Rattle.std.specs.declared.option.Option.TheVariants.{Some, None}
use Rattle.rmt_names.specs.Names.{Name, rank}
use Rattle.rmt_model.proofs.Lists.{rank-injective}
use Rattle.rmt_statement_model.specs.Optimizes.{with_partition, partitions_of}

-- a partition is told as itself
told-itself : (p : Option ℕ) (xs ys : List (Option ℕ)) → cond (nat_eq (rank p) (rank p)) xs ys ≡ xs
told-itself p xs ys = let e : nat_eq (rank p) (rank p) ≡ true = grind (arith, nat_tests) in ap (λ (b : Bool). cond b xs ys) e

-- a partition is put before others once
once-before : (p : Option ℕ) (qs : List (Option ℕ)) → with_partition p (with_partition p qs) ≡ with_partition p qs
once-before p [] = told-itself p (p ∷ []) (p ∷ p ∷ [])
once-before p (q ∷ qs) = go (nat_eq (rank p) (rank q)) refl
  where
    go : (b : Bool) → nat_eq (rank p) (rank q) ≡ b → with_partition p (cond b (q ∷ qs) (p ∷ q ∷ qs)) ≡ cond b (q ∷ qs) (p ∷ q ∷ qs)
    go true e = ap (λ (b : Bool). cond b (q ∷ qs) (p ∷ q ∷ qs)) e
    go false e = told-itself p (p ∷ q ∷ qs) (p ∷ p ∷ q ∷ qs)

-- it stays before one that is put behind it
stays-before : (p q : Option ℕ) (qs : List (Option ℕ)) → nat_eq (rank p) (rank q) ≡ false → with_partition p (with_partition q qs) ≡ p ∷ with_partition q qs
stays-before p q [] f = ap (λ (b : Bool). cond b (q ∷ []) (p ∷ q ∷ [])) f
stays-before p q (x ∷ qs) f = go (nat_eq (rank q) (rank x)) refl
  where
    go : (b : Bool) → nat_eq (rank q) (rank x) ≡ b → with_partition p (cond b (x ∷ qs) (q ∷ x ∷ qs)) ≡ p ∷ cond b (x ∷ qs) (q ∷ x ∷ qs)
    go true e = let g : nat_eq (rank p) (rank x) ≡ false = grind (arith, nat_tests) in ap (λ (b : Bool). cond b (x ∷ qs) (p ∷ x ∷ qs)) g
    go false e = ap (λ (b : Bool). cond b (q ∷ x ∷ qs) (p ∷ q ∷ x ∷ qs)) f

-- partitions are told apart as their ranks are
same-rank : (p q : Option ℕ) → option_eq nat_eq p q ≡ nat_eq (rank p) (rank q)
same-rank None None = refl
same-rank None (Some q) = grind (arith, nat_tests)
same-rank (Some p) None = grind (arith, nat_tests)
same-rank (Some p) (Some q) = grind (arith, nat_tests)

-- those that differ from the last one kept, which is the first
kept-from : (p : Option ℕ) (names : List Name) → dedup_from (option_eq nat_eq) p (map (λ (a : Name). a.partition) names) ≡ with_partition p (partitions_of names)
kept-from p [] = refl
kept-from p (a ∷ names) = go (nat_eq (rank a.partition) (rank p)) refl (kept-from p names) (kept-from a.partition names)
  where
    rest : Option ℕ → List (Option ℕ)
    rest q = dedup_from (option_eq nat_eq) q (map (λ (x : Name). x.partition) names)

    go : (b : Bool) → nat_eq (rank a.partition) (rank p) ≡ b → rest p ≡ with_partition p (partitions_of names) → rest a.partition ≡ with_partition a.partition (partitions_of names)
        → cond (option_eq nat_eq a.partition p) (rest p) (p ∷ rest a.partition) ≡ with_partition p (with_partition a.partition (partitions_of names))
    go true e f g =
        let q : a.partition ≡ p = rank-injective a.partition p (grind (arith, nat_tests)) in
        ap (λ (b : Bool). cond b (rest p) (p ∷ rest a.partition)) (same-rank a.partition p ∙ e)
        ∙ (f ∙ (sym (once-before p (partitions_of names)) ∙ ap (λ (x : Option ℕ). with_partition p (with_partition x (partitions_of names))) (sym q)))
    go false e f g =
        let d : nat_eq (rank p) (rank a.partition) ≡ false = grind (arith, nat_tests) in
        ap (λ (b : Bool). cond b (rest p) (p ∷ rest a.partition)) (same-rank a.partition p ∙ e)
        ∙ (ap (λ (xs : List (Option ℕ)). p ∷ xs) g ∙ sym (stays-before p a.partition (partitions_of names) d))

-- the partitions of names, without those that repeat the one before
pub deduped : (names : List Name) → dedup (option_eq nat_eq) (map (λ (a : Name). a.partition) names) ≡ partitions_of names
deduped [] = refl
deduped (a ∷ names) = kept-from a.partition names
