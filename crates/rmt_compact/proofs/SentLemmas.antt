-- Parts that are sent as bytes, and for callers, which parts have any.
use Rattle.std.proofs.Common.{◌≡◌, ◌<◌, ◌^◌, ◌∙◌, suc, Bool, true, false, cond, List, [], ◌∷◌, length, refl, ap}
use Rattle.std.specs.Ordering.{is_gt}
use Rattle.std.specs.declared.cmp.Ordering.{Ordering}
use Rattle.rmt_values.specs.Order.{sink, in_order}
use Rattle.rmt_values.specs.Rows.{Shape, key_cmp, in_key_order}
use Rattle.rmt_model.specs.Content.{Row}
use Rattle.rmt_format.specs.PartBytes.{HasPartBytes}
use Rattle.rmt_part.specs.Lineages.{PartValue, IsPart}
use Rattle.rmt_compact.proofs.NewPartLemmas.{part-data}

-- a part has bytes, where it has few enough rows
pub part-has : (shape : Shape) (part : PartValue) → IsPart part → part.schema ≡ shape → length part.body.rows < 2 ^ 32 → HasPartBytes shape part.body
part-has shape part is s few = record { of_schema = part-data shape part is s; few_rows = few }

-- ---- rows in order are as many

length-sink : {X : Type 0} (cmp : X → X → Ordering) (x : X) (xs : List X) → length (sink cmp x xs) ≡ suc (length xs)
length-sink cmp x [] = refl
length-sink cmp x (y ∷ ys) = go (is_gt (cmp x y)) (length-sink cmp x ys)
  where
    go : (b : Bool) → length (sink cmp x ys) ≡ suc (length ys) → length (cond b (y ∷ sink cmp x ys) (x ∷ y ∷ ys)) ≡ suc (suc (length ys))
    go true e = ap suc e
    go false e = refl

length-in_order : {X : Type 0} (cmp : X → X → Ordering) (xs : List X) → length (in_order cmp xs) ≡ length xs
length-in_order cmp [] = refl
length-in_order cmp (x ∷ xs) = length-sink cmp x (in_order cmp xs) ∙ ap suc (length-in_order cmp xs)

pub length-in_key_order : (shape : Shape) (rows : List Row) → length (in_key_order shape rows) ≡ length rows
unfolding in_key_order
length-in_key_order shape rows = length-in_order (key_cmp shape.key) rows
