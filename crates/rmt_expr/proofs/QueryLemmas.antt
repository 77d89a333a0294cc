-- Items and names of a query: their checked forms, one after the other.
use Rattle.rmt_values.specs.declared.column.Column.{Column}
use Rattle.rmt_values.specs.declared.checked_item.CheckedItem.TheVariants as placed
use Rattle.std.proofs.Common.{◌≡◌, ℕ, zero, suc, ◌+◌, refl, drop, ◌<◌, length, arith, List, [], ◌∷◌}
use Rattle.std.proofs.lemmas.List.{append-nil}
use Rattle.std.proofs.Common.{add-one}
use Rattle.rmt_values.specs.declared.item.Item.{Item}
use Rattle.rmt_values.specs.declared.checked_item.CheckedItem.{CheckedItem}
use Rattle.rmt_values.specs.Rows.{Shape}
use Rattle.rmt_expr.specs.Queries.{AreItems, ArePlaces, all_from}
use Rattle.rmt_expr.proofs.Progress.{ItemsGoOn, NamesGoOn}

-- after the last item, all are placed
pub all_items : (s : Shape) (all rest : List Item) (placed : List CheckedItem) → ItemsGoOn s all rest placed → length rest < 1 → AreItems s all placed
all_items s all [] placed g h = rw append-nil at (g.goes_on [] tt)
all_items s all (x ∷ rest) placed g h = absurd (omega arith)

-- after the last name, all are placed
pub all_names : (s : Shape) (all rest : List (List ℕ)) (placed : List ℕ) → NamesGoOn s all rest placed → length rest < 1 → ArePlaces s all placed
all_names s all [] placed g h = rw append-nil at (g.goes_on [] tt)
all_names s all (x ∷ rest) placed g h = absurd (omega arith)

from_suc : (cs : List Column) (i j : ℕ) → i < length cs
    → all_from j (drop i cs) ≡ placed.Column j ∷ all_from (j + 1) (drop (suc i) cs)
from_suc [] i j h = absurd (omega arith)
from_suc (c ∷ cs) zero j h = refl
from_suc (c ∷ cs) (suc i) j h = from_suc cs i j (omega arith)

-- the columns from a place on are the one there and those after it
pub all_from_step : (cs : List Column) (i j : ℕ) → i < length cs
    → all_from j (drop i cs) ≡ placed.Column j ∷ all_from (j + 1) (drop (i + 1) cs)
all_from_step cs i j h = rw (add-one i) (from_suc cs i j h)
