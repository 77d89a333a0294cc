-- The partitions of a table, each with the block number that it gives next, in order.
-- ClickHouse documentation, Data Replication: block numbers.
use Rattle.std.specs.Prelude.{◌≡◌, ℕ, cond, nat_lt, nat_le, List, [], ◌∷◌, slice_get}
use Rattle.std.specs.List.{prefix_len}
use Rattle.std.specs.declared.option.Option.{Option}
use Rattle.std.specs.declared.option.Option.TheVariants.{Some, None}
use Rattle.std.specs.declared.result.Result.{Result}
use Rattle.std.specs.declared.result.Result.TheVariants.{Ok, Err}
use Rattle.rmt_names.specs.Names.{rank}
use Rattle.rmt_history.specs.Mutations.{number_among}

-- the partitions with their next numbers, and how many more there is room for
pub record NumbersInOrder : Type 0 where
  pub numbers : List (Option ℕ × ℕ)
  pub room : ℕ

-- the first of the numbers that isn't below a limit
abbrev pub first_at : ℕ → List (Option ℕ × ℕ) → Option ℕ
first_at limit [] = None
first_at limit (x ∷ xs) = cond (nat_le limit x.1) (Some x.1) (first_at limit xs)

-- ---- what only private functions cite

-- how many partitions come before this one: the place at which it stands or belongs
abbrev pub place_of : List (Option ℕ × ℕ) → Option ℕ → ℕ
place_of numbers p = prefix_len (λ x. nat_lt (rank x.0) (rank p)) numbers

-- the partition stands at this place
pub record StandsAt (numbers : List (Option ℕ × ℕ)) (p : Option ℕ) (at : ℕ) : Type 0 where
  pub number : ℕ
  pub stands : slice_get numbers at ≡ Some (p, number)
  pub first : at ≡ place_of numbers p

-- the partition isn't there, and belongs at this place
pub record BelongsAt (numbers : List (Option ℕ × ℕ)) (p : Option ℕ) (at : ℕ) : Type 0 where
  pub nowhere : number_among numbers p ≡ None
  pub first : at ≡ place_of numbers p

-- the place of a partition, or else the place at which it belongs
abbrev pub IsPlace : List (Option ℕ × ℕ) → Option ℕ → Result ℕ ℕ → Type 0
IsPlace numbers p (Ok at) = StandsAt numbers p at
IsPlace numbers p (Err at) = BelongsAt numbers p at
