-- What names merge into, told from those that are still to come.
use Rattle.std.proofs.Common.{◌≡◌, ◌∙◌, ℕ, ◌<◌, List, [], ◌∷◌, refl, sym, ap, subst, arith}
use Rattle.std.specs.Prelude.{max}
use Rattle.rmt_names.specs.Names.{Name, AreRising, IsNext, joined_name, last, highest}

-- a and all merge into what new and those to come do
pub record SameMerge (a : Name) (all : List Name) (new : Name) (ys : List Name) : Type 0 where
  pub partition : new.partition ≡ a.partition
  pub min : new.min ≡ a.min
  pub last_max : (last a all).max ≡ (last new ys).max
  pub level : highest (λ c. c.level) a all ≡ highest (λ c. c.level) new ys
  pub mutation : highest (λ c. c.mutation) a all ≡ highest (λ c. c.mutation) new ys
  pub rises : AreRising a all → AreRising new ys
  pub rose : AreRising new ys → AreRising a all

-- at the start none is merged
pub same-start : (a : Name) (all : List Name) → SameMerge a all a all
same-start a all = record { partition = refl; min = refl; last_max = refl; level = refl; mutation = refl; rises = λ r. r; rose = λ r. r }

-- the greatest, with the first two as one
highest-joined : (of : Name → ℕ) (a b j : Name) (ys : List Name) → of j ≡ max (of a) (of b) → highest of a (b ∷ ys) ≡ highest of j ys
highest-joined of a b j [] e = sym e
highest-joined of a b j (y ∷ ys) e =
    let m : max (of a) (max (of b) (highest of y ys)) ≡ max (max (of a) (of b)) (highest of y ys) = omega (arith) in
    m ∙ ap (λ n. max n (highest of y ys)) (sym e)

-- the last, with the first two as one
last-joined : (b j : Name) (ys : List Name) → j.max ≡ b.max → (last b ys).max ≡ (last j ys).max
last-joined b j [] e = sym e
last-joined b j (y ∷ ys) e = refl

-- what rises behind the second rises behind both as one
rises-joined : (b j : Name) (ys : List Name) → j.partition ≡ b.partition → j.max ≡ b.max → AreRising b ys → AreRising j ys
rises-joined b j [] p e r = tt
rises-joined b j (y ∷ ys) p e r = (p ∙ r.0, subst (λ n. n < y.min) (sym e) r.1, r.2)

-- one more is merged
pub same-next : (a : Name) (all : List Name) (new b : Name) (ys zs : List Name) → SameMerge a all new ys → ys ≡ b ∷ zs → IsNext new b → SameMerge a all (joined_name new b) zs
same-next a all new b ys zs s e n = of (subst (λ xs. SameMerge a all new xs) e s)
  where
    j : Name
    j = joined_name new b

    of : SameMerge a all new (b ∷ zs) → SameMerge a all j zs
    of t = record {
      partition = SameMerge.partition t;
      min = SameMerge.min t;
      last_max = SameMerge.last_max t ∙ last-joined b j zs refl;
      level = SameMerge.level t ∙ highest-joined (λ c. c.level) new b j zs refl;
      mutation = SameMerge.mutation t ∙ highest-joined (λ c. c.mutation) new b j zs refl;
      rises = λ r. rises-joined b j zs n.0 refl (SameMerge.rises t r).2;
      rose = λ r. SameMerge.rose t (n.0, n.1, rises-joined j b zs (sym n.0) refl r);
    }
