-- What the mutations of a list of entries change of a row.
use Rattle.std.proofs.Common.{◌≡◌, ℕ, ◌<◌, ◌&&◌, ◌||◌, Bool, true, false, List, [], ◌∷◌, inl, inr, refl, ap, arith, ◌∙◌, nat_eq, nat_lt, nat_le}
use Rattle.std.proofs.lemmas.Bool.Decides.{nat_tests}
use Rattle.std.specs.List.{filter_map, cons_option}
use Rattle.std.specs.declared.option.Option.{Option}
use Rattle.rmt_names.specs.Names.{rank}
use Rattle.rmt_model.specs.Words.{Has}
use Rattle.rmt_model.specs.Content.{Row, chosen}
use Rattle.rmt_model.proofs.Lists.{rank-injective}

-- two functions of rows that agree leave equal rows
pub filter_map-same : (f g : Row → Option Row) → ((r : Row) → f r ≡ g r) → (xs : List Row) → filter_map f xs ≡ filter_map g xs
filter_map-same f g h [] = refl
filter_map-same f g h (x ∷ xs) = ap (λ o. cons_option o (filter_map f xs)) (h x) ∙ ap (λ ys. cons_option (g x) ys) (filter_map-same f g h xs)

-- a mutation whose numbers in p are above the limit changes nothing
pub none-chosen : (numbers : List (Option ℕ × ℕ)) (p : Option ℕ) (n limit : ℕ) → ((m : ℕ) → Has numbers (p, m) → limit < m) → chosen numbers p (λ k. nat_lt n k && nat_le k limit) ≡ false
none-chosen [] p n limit h = refl
none-chosen (x ∷ xs) p n limit h = go (nat_eq (rank x.0) (rank p)) refl (none-chosen xs p n limit (λ m k. h m (inr k)))
  where
    go : (b : Bool) → nat_eq (rank x.0) (rank p) ≡ b → chosen xs p (λ k. nat_lt n k && nat_le k limit) ≡ false → ((b && (nat_lt n x.1 && nat_le x.1 limit)) || chosen xs p (λ k. nat_lt n k && nat_le k limit)) ≡ false
    go false e f = f
    go true e f =
        let r : rank x.0 ≡ rank p = grind (arith, nat_tests) in
        let above : limit < x.1 = h x.1 (inl (ap (λ (q : Option ℕ). (q, x.1)) (rank-injective x.0 p r))) in
        rw f (past n x.1 limit above)
      where
        past : (n m l : ℕ) → l < m → ((nat_lt n m && nat_le m l) || false) ≡ false
        past n m l g = grind (arith, nat_tests)
