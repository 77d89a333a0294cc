-- The order of paths, in which a tree keeps its nodes.
-- The order is this project's: it keeps the children of a node next to each other, in the order of their bytes.
use Rattle.std.specs.Prelude.{ℕ, Bool, false, List, [], ◌∷◌, Some, refl}
use Rattle.std.specs.declared.cmp.Ordering.{Ordering}
use Rattle.std.specs.declared.cmp.Ordering.TheVariants.{Equal}
use Rattle.std.specs.Ordering.{nat_cmp, then_cmp, eq_by_cmp}
use Rattle.std.specs.Cmp.{IsTotalOrder, IsEquivalence, IsPartialOrder, po, then_total, eq_by_cmp_equiv}
use Rattle.std.specs.Cmp.Lexicographic.{slice_cmp, lists_total, nat_list_cmp_total}
use Rattle.rmt_paths.specs.Paths.{Names, parent}

-- names by their bytes
abbrev pub name_cmp : List ℕ → List ℕ → Ordering
name_cmp = slice_cmp nat_cmp

-- paths by how many names they have
abbrev pub depth_cmp : Names → Names → Ordering
depth_cmp = slice_cmp (λ _ _. Equal)

-- shorter paths first, and then by their names from the root on
abbrev pub path_cmp : Names → Names → Ordering
path_cmp = then_cmp depth_cmp (slice_cmp name_cmp)

-- two paths are the same
abbrev pub is_path : Names → Names → Bool
is_path = eq_by_cmp path_cmp

same_total : IsTotalOrder {K = List ℕ} (λ _ _. Equal)
same_total = record { antisymm = λ x y. refl; trans = λ x y z p q. p; congr = λ x y z p. refl }

pub path_total : IsTotalOrder path_cmp
path_total = then_total (lists_total same_total) (lists_total nat_list_cmp_total)

pub path_equiv : IsEquivalence is_path
path_equiv = eq_by_cmp_equiv path_total

pub path_po : IsPartialOrder is_path (λ p q. Some (path_cmp p q))
path_po = po path_total (λ p q. refl)

-- the path is right below the other
abbrev pub is_child : Names → Names → Bool
is_child p [] = false
is_child p (n ∷ q) = is_path p (parent (n ∷ q))

-- two paths have one parent; the root has none
abbrev pub are_siblings : Names → Names → Bool
are_siblings p [] = false
are_siblings [] (n ∷ q) = false
are_siblings (m ∷ p) (n ∷ q) = is_path (parent (m ∷ p)) (parent (n ∷ q))
