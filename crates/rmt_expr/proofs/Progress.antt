-- How far the loops of a check are: what is placed of the rest goes after what is placed so far.
use Rattle.std.proofs.Common.{ℕ, List, ◌++◌}
use Rattle.rmt_values.specs.declared.right.Right.{Right}
use Rattle.rmt_values.specs.declared.checked_right.CheckedRight.{CheckedRight}
use Rattle.rmt_values.specs.declared.item.Item.{Item}
use Rattle.rmt_values.specs.declared.checked_item.CheckedItem.{CheckedItem}
use Rattle.rmt_values.specs.Rows.{Shape}
use Rattle.rmt_expr.specs.Queries.{AreItems, ArePlaces}
use Rattle.rmt_expr.specs.Placed.{ArePlaced}

-- what is placed of the rest goes after what is placed so far
pub record SetsGoOn (shape : Shape) (all rest : List (List ℕ × Right)) (placed : List (ℕ × CheckedRight)) : Type 0 where
  pub goes_on : (more : List (ℕ × CheckedRight)) → ArePlaced shape rest more → ArePlaced shape all (placed ++ more)

-- what is placed of the items that are left goes after what is placed so far
pub record ItemsGoOn (shape : Shape) (all rest : List Item) (placed : List CheckedItem) : Type 0 where
  pub goes_on : (more : List CheckedItem) → AreItems shape rest more → AreItems shape all (placed ++ more)

-- the same of names
pub record NamesGoOn (shape : Shape) (all rest : List (List ℕ)) (placed : List ℕ) : Type 0 where
  pub goes_on : (more : List ℕ) → ArePlaces shape rest more → ArePlaces shape all (placed ++ more)
