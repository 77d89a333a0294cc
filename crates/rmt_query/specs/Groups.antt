-- The groups of a list, in the order of their keys, each with what its elements add up to.
-- ClickHouse documentation: GROUP BY.
use Rattle.std.specs.Prelude.{List, [], ◌∷◌}
use Rattle.std.specs.declared.cmp.Ordering.{Ordering}
use Rattle.std.specs.declared.cmp.Ordering.TheVariants.{Less, Equal, Greater}

module _ {X K S : Type 0} (cmp : K → K → Ordering) (key : X → K) (start : S) (add : X → S → S) where
  -- x before the group, in it, or among those after it
  abbrev pub placed : Ordering → X → K × S → List (K × S) → List (K × S) → List (K × S)
  placed Less x g gs deeper = (key x, add x start) ∷ g ∷ gs
  placed Equal x g gs deeper = (g.0, add x g.1) ∷ gs
  placed Greater x g gs deeper = g ∷ deeper

  -- x goes to its group, which is made where it isn't there
  abbrev pub enter : X → List (K × S) → List (K × S)
  enter x [] = (key x, add x start) ∷ []
  enter x (g ∷ gs) = placed (cmp (key x) g.0) x g gs (enter x gs)
