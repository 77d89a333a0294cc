-- The rows of a part, and the plain rows of a log.
use Rattle.std.specs.Prelude.{ℕ, suc, zero, ◌+◌, ◌-◌, ◌&&◌, ◌||◌, Bool, true, false, cond, nat_eq, nat_lt, nat_le, List, [], ◌∷◌, ◌++◌}
use Rattle.std.specs.List.{filter_map, list_all}
use Rattle.std.specs.Option.{option_and_then}
use Rattle.std.specs.declared.option.Option.{Option}
use Rattle.std.specs.declared.option.Option.TheVariants.{Some}
use Rattle.rmt_values.specs.declared.value.Value.{Value}
use Rattle.rmt_values.specs.Rows.{Shape}
use Rattle.rmt_values.specs.Commands.{applied}
use Rattle.rmt_values.specs.Rows.{in_key_order}
use Rattle.rmt_names.specs.Names.{Name, rank, data_version}
use Rattle.rmt_entries.specs.declared.entry.Entry.{Entry}
use Rattle.rmt_entries.specs.declared.entry.Entry.TheVariants.{Get, Merge, Mutate, Mutation, DropRange}

-- a row is a list of values
abbrev pub Row : Type 0
Row = List Value

-- the rows of each block, by partition and number
abbrev pub Blocks : Type 0
Blocks = Option ℕ → ℕ → List Row

-- whether a mutation has a number of p that passes
abbrev pub chosen : List (Option ℕ × ℕ) → Option ℕ → (ℕ → Bool) → Bool
chosen [] p passes = false
chosen (x ∷ xs) p passes = (nat_eq (rank x.0) (rank p) && passes x.1) || chosen xs p passes

-- a row of p after one entry, where only mutations whose number passes count
abbrev pub changed_by : Entry → Option ℕ → (ℕ → Bool) → Row → Option Row
changed_by (Mutation id numbers command) p passes row = cond (chosen numbers p passes) (applied command row) (Some row)
changed_by (Get q n digest source need) p passes row = Some row
changed_by (Merge new sources count) p passes row = Some row
changed_by (Mutate old new upto count mcount) p passes row = Some row
changed_by (DropRange q n) p passes row = Some row

-- a row of p after a log, the oldest mutation first
abbrev pub changed : List Entry → Option ℕ → (ℕ → Bool) → Row → Option Row
changed [] p passes row = Some row
changed (e ∷ log) p passes row = option_and_then (changed_by e p passes) (changed log p passes row)

-- the entry gets the block of this number in this partition
abbrev pub is_block : Entry → Option ℕ → ℕ → Bool
is_block (Get q m digest source need) p n = nat_eq (rank q) (rank p) && nat_eq m n
is_block (Merge new sources count) p n = false
is_block (Mutate old new upto count mcount) p n = false
is_block (Mutation id numbers command) p n = false
is_block (DropRange q m) p n = false

-- whether the log has the block n of p
abbrev pub has_block : List Entry → Option ℕ → ℕ → Bool
has_block [] p n = false
has_block (e ∷ log) p n = is_block e p n || has_block log p n

-- the rows of block n of p, after the mutations whose number passes
abbrev pub block_rows : List Entry → Blocks → Option ℕ → (ℕ → Bool) → ℕ → List Row
block_rows log blocks p passes n =
    cond (has_block log p n) (filter_map (changed log p passes) (blocks p n)) []

-- the lists of k numbers from low on, one after the other
abbrev pub joined : (ℕ → List Row) → ℕ → ℕ → List Row
joined of low zero = []
joined of low (suc k) = of low ++ joined of (low + 1) k

-- the rows of a part: its blocks in order of number, each after the mutations above its number
-- and up to the part's own, in order of key
abbrev pub content : Shape → List Entry → Blocks → Name → List Row
content schema log blocks a =
    in_key_order schema (joined (λ n. block_rows log blocks a.partition (λ k. nat_lt n k && nat_le k a.mutation) n) a.min (a.max + 1 - a.min))

-- whether the number is above the drops of p
abbrev pub outlasts : Entry → Option ℕ → ℕ → Bool
outlasts (DropRange q m) p n = cond (nat_eq (rank q) (rank p)) (nat_lt m n) true
outlasts (Get q m digest source need) p n = true
outlasts (Merge new sources count) p n = true
outlasts (Mutate old new upto count mcount) p n = true
outlasts (Mutation id numbers command) p n = true

-- the plain rows: each block above the drops of its partition, after every mutation above its number
abbrev pub rows_from : List Entry → Blocks → List Entry → List Row
rows_from log blocks [] = []
rows_from log blocks (Get p n digest source need ∷ rest) =
    cond (list_all (λ e. outlasts e p n) log) (filter_map (changed log p (λ k. nat_lt n k)) (blocks p n)) [] ++ rows_from log blocks rest
rows_from log blocks (Merge new sources count ∷ rest) = rows_from log blocks rest
rows_from log blocks (Mutate old new upto count mcount ∷ rest) = rows_from log blocks rest
rows_from log blocks (Mutation id numbers command ∷ rest) = rows_from log blocks rest
rows_from log blocks (DropRange p n ∷ rest) = rows_from log blocks rest

-- the plain rows that a log makes of blocks
abbrev pub rows : List Entry → Blocks → List Row
rows log blocks = rows_from log blocks log

-- what is read of parts with these names: their rows after the mutations that are pending for each
abbrev pub snapshot : Shape → List Entry → Blocks → List Name → List Row
snapshot schema log blocks [] = []
snapshot schema log blocks (a ∷ names) =
    filter_map (changed log a.partition (λ k. nat_lt (data_version a) k)) (content schema log blocks a) ++ snapshot schema log blocks names
