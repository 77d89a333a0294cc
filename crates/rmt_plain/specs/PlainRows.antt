-- The plain rows of what a table accepted.
-- ClickHouse documentation: INSERT INTO; ALTER TABLE .. UPDATE, DELETE and DROP PARTITION. That blocks, mutations and drops
-- take their numbers in a partition from one sequence is this program's own.
use Rattle.std.specs.Prelude.{ℕ, ◌&&◌, ◌||◌, Bool, false, cond, nat_eq, nat_lt, List, [], ◌∷◌, ◌++◌, filter_map, option_and_then}
use Rattle.std.specs.declared.option.Option.{Option}
use Rattle.std.specs.declared.option.Option.TheVariants.{Some}
use Rattle.rmt_values.specs.declared.value.Value.{Value}
use Rattle.rmt_values.specs.Commands.{applied}
use Rattle.rmt_names.specs.Names.{rank}
use Rattle.rmt_plain.specs.declared.accepted.Accepted.{Accepted}
use Rattle.rmt_plain.specs.declared.accepted.Accepted.TheVariants.{Block, Mutation, DropRange}

-- whether one of a mutation's numbers is of partition p and above n
abbrev pub is_above : List (Option ℕ × ℕ) → Option ℕ → ℕ → Bool
is_above [] p n = false
is_above (x ∷ xs) p n = (nat_eq (rank x.0) (rank p) && nat_lt n x.1) || is_above xs p n

-- a row of block n of p after one of what was accepted; none where that deletes it
abbrev pub changed_by : Accepted → Option ℕ → ℕ → List Value → Option (List Value)
changed_by (Mutation numbers command) p n row = cond (is_above numbers p n) (applied command row) (Some row)
changed_by (Block q m rows) p n row = Some row
changed_by (DropRange q m) p n row = Some row

-- the row after all of these, the first one first
abbrev pub changed : List Accepted → Option ℕ → ℕ → List Value → Option (List Value)
changed [] p n row = Some row
changed (a ∷ later) p n row = option_and_then (changed later p n) (changed_by a p n row)

-- whether it is a drop that takes block n of p away
abbrev pub takes : Accepted → Option ℕ → ℕ → Bool
takes (DropRange q m) p n = nat_eq (rank q) (rank p) && nat_lt n m
takes (Block q m rows) p n = false
takes (Mutation numbers command) p n = false

-- whether one of these is such a drop
abbrev pub is_taken : List Accepted → Option ℕ → ℕ → Bool
is_taken [] p n = false
is_taken (a ∷ later) p n = takes a p n || is_taken later p n

-- the rows that one of all that was accepted leaves, after which these came
abbrev pub rows_left : List Accepted → Accepted → List Accepted → List (List Value)
rows_left all (Block p n rows) later = cond (is_taken later p n) [] (filter_map (changed all p n) rows)
rows_left all (Mutation numbers command) later = []
rows_left all (DropRange p n) later = []

-- the rows that each of these leaves
abbrev pub rows_from : List Accepted → List Accepted → List (List Value)
rows_from all [] = []
rows_from all (a ∷ later) = rows_left all a later ++ rows_from all later

-- the plain rows: those of each block that no later drop took away, after every mutation above its number
abbrev pub plain_rows : List Accepted → List (List Value)
plain_rows accepted = rows_from accepted accepted
