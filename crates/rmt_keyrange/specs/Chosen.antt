-- The granules that a range reads.
-- ClickHouse documentation: A practical introduction to primary indexes in ClickHouse (which granules a query reads).
-- That there is no final mark is this program's own.
use Rattle.std.specs.Prelude.{◌≡◌, ◌⊎◌, ◌+◌, ℕ, not, Bool, true, false, List, [], length, slice_get, slice_index_or}
use Rattle.std.specs.Ordering.{is_gt, is_lt}
use Rattle.std.specs.declared.option.Option.{Option}
use Rattle.std.specs.declared.option.Option.TheVariants.{Some, None}
use Rattle.rmt_values.specs.declared.value.Value.{Value}
use Rattle.rmt_values.specs.Rows.{cell_cmp}

-- a value is at most the upper bound; one that is absent excludes nothing
abbrev pub cell_most : Option Value → Option Value → Bool
cell_most None cell = true
cell_most (Some high) cell = not (is_gt (cell_cmp cell (Some high)))

-- a value is below the lower bound; one that is absent excludes nothing
abbrev pub cell_below : Option Value → Option Value → Bool
cell_below None cell = false
cell_below (Some low) cell = is_lt (cell_cmp cell (Some low))

-- the mark's first value is at most the bound
abbrev pub at_most : Option Value → List Value → Bool
at_most high m = cell_most high (slice_get m 0)

-- the mark's first value is below the bound
abbrev pub is_below : Option Value → List Value → Bool
is_below low m = cell_below low (slice_get m 0)

-- granule g is read: its mark is at most the upper bound, and it is the last one or the next mark is at least the lower
-- bound
abbrev pub IsChosen : Option Value → Option Value → List (List Value) → ℕ → Type 0
IsChosen low high marks g =
    (at_most high (slice_index_or marks g []) ≡ true)
    × ((g + 1 ≡ length marks) ⊎ (is_below low (slice_index_or marks (g + 1) []) ≡ false))
