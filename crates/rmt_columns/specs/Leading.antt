-- The numbers of a key's first column, by which rows are ordered first.
-- ClickHouse documentation: A practical introduction to primary indexes in ClickHouse (rows are sorted by the columns of the key).
use Rattle.std.specs.Prelude.{◌≡◌, ℕ, ◌<◌, List, [], length, slice_get, get_or, Option, Some, None}
use Rattle.std.specs.Option.{option_map}
use Rattle.std.specs.Ordering.{nat_cmp, ordering_then}
use Rattle.std.specs.declared.cmp.Ordering.{Ordering}
use Rattle.rmt_values.specs.declared.value.Value.{Value}
use Rattle.rmt_values.specs.declared.value.Value.TheVariants.{UInt}

-- there is a key, and these numbers are the values of the rows in its first column
pub record AreLeading (key : List ℕ) (rows : List (List Value)) (numbers : List ℕ) : Type 0 where
  pub some : 0 < length key
  pub cells : (i : ℕ) → slice_get (get_or rows i []) (get_or key 0 0) ≡ option_map (λ n. UInt n) (slice_get numbers i)

-- ---- what only private functions cite

-- the order of two numbers, where they are there and differ, else another one
abbrev pub led : Option ℕ → Option ℕ → Ordering → Ordering
led None b order = order
led (Some a) None order = order
led (Some a) (Some b) order = ordering_then (nat_cmp a b) order

-- an order by what a function shows
abbrev pub pulled : {X Y : Type 0} → (Y → X) → (X → X → Ordering) → Y → Y → Ordering
pulled f cmp p q = cmp (f p) (f q)
