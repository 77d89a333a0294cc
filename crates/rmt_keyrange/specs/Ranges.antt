-- The bounds that a filter gives on the first key column.
-- ClickHouse documentation: A practical introduction to primary indexes in ClickHouse (which granules a query reads).
-- That strict and non-strict comparisons count alike is this program's own.
use Rattle.std.specs.Prelude.{◌≡◌, ◌⊎◌, ◌++◌, ℕ, cond, nat_eq, false, List, [], ◌∷◌}
use Rattle.std.specs.Option.{option_to_list}
use Rattle.std.specs.Ordering.{is_gt, is_lt}
use Rattle.std.specs.declared.option.Option.{Option}
use Rattle.std.specs.declared.option.Option.TheVariants.{Some, None}
use Rattle.rmt_values.specs.declared.value.Value.{Value}
use Rattle.rmt_values.specs.declared.cmp.Cmp.{Cmp}
use Rattle.rmt_values.specs.declared.cmp.Cmp.TheVariants as cmps
use Rattle.rmt_values.specs.declared.checked.Checked.{Checked}
use Rattle.rmt_values.specs.declared.checked.Checked.TheOpen.{Checked-F, Test, Both, Either, Not}
use Rattle.rmt_values.specs.declared.checked.Checked.TheFolds.{fold-Checked}
use Rattle.rmt_values.specs.Rows.{value_cmp}
use Rattle.rmt_keyrange.specs.declared.key_range.KeyRange.{KeyRange}

-- what a comparison with a value requires: the value to equal or exceed, and the one to equal or stay below
abbrev pub bounds_by : Cmp → Value → KeyRange
bounds_by cmps.Eq v = record { low = Some v; high = Some v }
bounds_by cmps.Ne v = record { low = None; high = None }
bounds_by cmps.Lt v = record { low = None; high = Some v }
bounds_by cmps.Le v = record { low = None; high = Some v }
bounds_by cmps.Gt v = record { low = Some v; high = None }
bounds_by cmps.Ge v = record { low = Some v; high = None }

-- the literals that one level requires a column to equal or exceed, from those of the filters inside it
abbrev pub lows_at : ℕ → Checked-F (List Value) → List Value
lows_at column (Test at cmp value) = cond (nat_eq at column) (option_to_list ((bounds_by cmp value).low)) []
lows_at column (Both f g) = f ++ g
lows_at column (Either f g) = []
lows_at column (Not f) = []

-- the literals that the top-level AND terms of a filter require a column to equal or exceed
abbrev pub lows : ℕ → Checked → List Value
lows column filter = fold-Checked (List Value) (lows_at column) filter

-- the literals that one level requires a column to equal or stay below, from those of the filters inside it
abbrev pub highs_at : ℕ → Checked-F (List Value) → List Value
highs_at column (Test at cmp value) = cond (nat_eq at column) (option_to_list ((bounds_by cmp value).high)) []
highs_at column (Both f g) = f ++ g
highs_at column (Either f g) = []
highs_at column (Not f) = []

-- the literals that the top-level AND terms of a filter require a column to equal or stay below
abbrev pub highs : ℕ → Checked → List Value
highs column filter = fold-Checked (List Value) (highs_at column) filter

-- it is one of them
abbrev pub IsAmong : Value → List Value → Type 0
IsAmong v [] = ⊥
IsAmong v (w ∷ ws) = (v ≡ w) ⊎ IsAmong v ws

-- none of them is greater
abbrev pub NoneAbove : Value → List Value → Type 0
NoneAbove v [] = Unit {0}
NoneAbove v (w ∷ ws) = (is_gt (value_cmp w v) ≡ false) × NoneAbove v ws

-- none of them is less
abbrev pub NoneBelow : Value → List Value → Type 0
NoneBelow v [] = Unit {0}
NoneBelow v (w ∷ ws) = (is_lt (value_cmp w v) ≡ false) × NoneBelow v ws

-- the greatest of them, where there is one
abbrev pub IsGreatest : Option Value → List Value → Type 0
IsGreatest None ws = ws ≡ []
IsGreatest (Some v) ws = IsAmong v ws × NoneAbove v ws

-- the least of them, where there is one
abbrev pub IsLeast : Option Value → List Value → Type 0
IsLeast None ws = ws ≡ []
IsLeast (Some v) ws = IsAmong v ws × NoneBelow v ws

-- the bounds that a filter gives on the first column of a key: the greatest of those from below and the least of those
-- from above; without a key column there are none
abbrev pub IsRangeOf : List ℕ → Checked → KeyRange → Type 0
IsRangeOf [] filter range = (range.low ≡ None) × (range.high ≡ None)
IsRangeOf (c ∷ cs) filter range = IsGreatest range.low (lows c filter) × IsLeast range.high (highs c filter)
