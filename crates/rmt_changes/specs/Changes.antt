-- Which mutations of a log change a row.
-- ClickHouse documentation: ALTER TABLE .. UPDATE and DELETE (mutations); `apply_mutations_on_fly`. In a partition a
-- mutation changes the blocks of lower number; that it has one number a partition is as in `block_numbers`.
use Rattle.std.specs.Prelude.{ℕ, ◌&&◌, ◌||◌, nat_lt, nat_le, Bool, false, List, [], ◌∷◌, map, reverse}
use Rattle.std.specs.Option.{option_and_then}
use Rattle.std.specs.declared.option.Option.{Option}
use Rattle.std.specs.declared.option.Option.TheVariants.{Some, None}
use Rattle.rmt_values.specs.Commands.{applied}
use Rattle.rmt_entries.specs.declared.entry.Entry.{Entry}
use Rattle.rmt_entries.specs.declared.entry.Entry.TheVariants.{Get, Merge, Mutate, Mutation, DropRange}
use Rattle.rmt_row.specs.Token.{Token}
use Rattle.rmt_model.specs.Content.{Row, chosen}

-- the entries of tokens, the newest first, where the tokens are in the order of the log
abbrev pub entries_of : List (Token Entry) → List Entry
entries_of tokens = reverse (map (λ t. t.value) tokens)

-- the numbers above low and at most high
abbrev pub between : ℕ → ℕ → ℕ → Bool
between low high k = nat_lt low k && nat_le k high

-- the numbers above low, where there is no highest; else those between
abbrev pub in_range : ℕ → Option ℕ → ℕ → Bool
in_range low None k = nat_lt low k
in_range low (Some high) k = between low high k

-- the entry is a mutation that has a number of a partition which passes
abbrev pub mutates : Option ℕ → (ℕ → Bool) → Entry → Bool
mutates p passes (Mutation id numbers command) = chosen numbers p passes
mutates p passes (Get q n digest source need) = false
mutates p passes (Merge new sources count) = false
mutates p passes (Mutate old new upto count mcount) = false
mutates p passes (DropRange q n) = false

-- a row after the entry's command, where it has one; none where it deletes the row
abbrev pub applied_by : Entry → Row → Option Row
applied_by (Mutation id numbers command) row = applied command row
applied_by (Get q n digest source need) row = Some row
applied_by (Merge new sources count) row = Some row
applied_by (Mutate old new upto count mcount) row = Some row
applied_by (DropRange q n) row = Some row

-- a row after the commands of all these entries, which are the newest first; none where one of them deletes it
abbrev pub applied_all : List Entry → Row → Option Row
applied_all [] row = Some row
applied_all (e ∷ entries) row = option_and_then (applied_by e) (applied_all entries row)

-- one of the tokens' entries is such a mutation
abbrev pub any_mutates : Option ℕ → (ℕ → Bool) → List (Token Entry) → Bool
any_mutates p passes [] = false
any_mutates p passes (t ∷ ts) = mutates p passes t.value || any_mutates p passes ts
