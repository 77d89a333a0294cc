-- The range of the children of a path, in the order of paths.
-- No public clause of the tree cites this module.
use Rattle.std.specs.Prelude.{◌≡◌, Bool, not, ◌&&◌, [], ◌∷◌, ◌++◌}
use Rattle.std.specs.Ordering.{is_le}
use Rattle.rmt_paths.specs.Paths.{Names, IsPath, parent, last_name, child}
use Rattle.rmt_paths.specs.PathOrder.{path_cmp}

-- no child is before it: the path with an empty name
abbrev pub children_start : Names → Names
children_start p = child p []

-- each child is before it: the same below the next path of this depth
abbrev pub children_end : Names → Names
children_end p = child (child (parent p) (last_name p ++ 0 ∷ [])) []

-- the path is in this range, whose end is left out
abbrev pub is_between : Names → Names → Names → Bool
is_between low high q = is_le (path_cmp low q) && not (is_le (path_cmp high q))

-- the place is of a path, and the other is where its children start
pub record HasStart (place start : Names) : Type 0 where
  pub path : IsPath place
  pub below : start ≡ children_start place
