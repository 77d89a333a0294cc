-- The operations that keep an id.
use Rattle.std.proofs.Common.{◌≡◌, ℕ, zero, suc, ◌+◌, List, [], ◌∷◌, ◌++◌, length, ap, arith, ◌∙◌}
use Rattle.std.specs.Prelude.{slice_get}
use Rattle.std.proofs.lemmas.List.{append_assoc}
use Rattle.std.specs.declared.option.Option.TheVariants.{Some}
use Rattle.rmt_tree.specs.declared.op.Op.{Op}
use Rattle.rmt_table_model.specs.Kept.{Placed}
use Rattle.rmt_table_model.specs.Nodes.{oldest}

-- two more
pub more-ops : (xs ys : List Op) (a b c d : Op) → ys ≡ xs ++ a ∷ [] → a ≡ c → b ≡ d → ys ++ b ∷ [] ≡ xs ++ c ∷ d ∷ []
more-ops xs ys a b c d e p q =
    ap (λ (zs : List Op). zs ++ b ∷ []) e ∙ append_assoc xs (a ∷ []) (b ∷ []) ∙ (let w : xs ++ a ∷ b ∷ [] ≡ xs ++ c ∷ d ∷ [] = cc in w)

-- the last of them is the oldest
pub oldest-last : (ks : List Placed) (k : Placed) (i : ℕ) → i + 1 ≡ length ks → slice_get ks i ≡ Some k → oldest ks ≡ Some k
oldest-last [] k i last is = absurd (omega (arith, last))
oldest-last (j ∷ []) k zero last is = is
oldest-last (j ∷ []) k (suc i) last is = absurd (omega (arith, last))
oldest-last (j ∷ (h ∷ ks)) k zero last is = absurd (omega (arith, last))
oldest-last (j ∷ (h ∷ ks)) k (suc i) last is = oldest-last (h ∷ ks) k i (omega (arith, last)) is
