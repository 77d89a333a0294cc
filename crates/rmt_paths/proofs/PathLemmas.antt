-- The path above, and the last name.
use Rattle.std.proofs.Common.{◌≡◌, refl, sym, ap, arith, List, [], ◌∷◌, length, take, ℕ}
use Rattle.std.specs.Prelude.{suc, zero, slice_get, ◌==◌, false}
use Rattle.std.specs.declared.option.Option.TheVariants.{Some}
use Rattle.std.specs.Option.{unwrap_or}
use Rattle.rmt_paths.specs.Paths.{Names, parent, last_name}
use Rattle.rmt_paths.specs.PathOrder.{is_path}

-- all names but the last
pub take-parent : (k : ℕ) (p : Names) → length p ≡ suc k → take k p ≡ parent p
take-parent k [] e = absurd (omega (arith, e))
take-parent zero (n ∷ []) e = refl
take-parent (suc k) (n ∷ []) e = absurd (omega (arith, e))
take-parent zero (n ∷ (m ∷ p)) e = absurd (omega (arith, e))
take-parent (suc k) (n ∷ (m ∷ p)) e = ap (λ q. n ∷ q) (take-parent k (m ∷ p) (omega (arith, e)))

pub slice_get-last : (k : ℕ) (p : Names) (n : List ℕ) → length p ≡ suc k → slice_get p k ≡ Some n → n ≡ last_name p
slice_get-last k [] n e is = absurd (omega (arith, e))
slice_get-last zero (m ∷ []) n e is = sym (ap (λ o. unwrap_or o m) is)
slice_get-last (suc k) (m ∷ []) n e is = absurd (omega (arith, e))
slice_get-last zero (m ∷ (l ∷ p)) n e is = absurd (omega (arith, e))
slice_get-last (suc k) (m ∷ (l ∷ p)) n e is = slice_get-last k (l ∷ p) n (omega (arith, e)) is

more_names : (k : ℕ) → (suc k == 0) ≡ false
more_names k = grind arith

pub is_path-root : (p : Names) → (length p == 0) ≡ is_path p []
is_path-root [] = refl
is_path-root (n ∷ p) = more_names (length p)
