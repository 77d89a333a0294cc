-- What is live after a list of entries. A log is a list of entries, the newest first, so the place of an entry is the
-- number of the older ones, which stand after it in the list.
use Rattle.std.specs.Prelude.{◌≡◌, ℕ, ◌<◌, ◌≤◌, ◌⊎◌, ◌&&◌, ◌||◌, Bool, cond, not, nat_eq, nat_lt, nat_le, List, [], ◌∷◌, filter, length}
use Rattle.std.specs.declared.option.Option.{Option}
use Rattle.std.specs.declared.option.Option.TheVariants.{Some, None}
use Rattle.rmt_names.specs.Names.{Name, rank, covers, block_name}
use Rattle.rmt_entries.specs.Entries.{result_name}
use Rattle.rmt_entries.specs.declared.entry.Entry.{Entry}
use Rattle.rmt_entries.specs.declared.entry.Entry.TheVariants.{Get, Merge, Mutate, Mutation, DropRange}
use Rattle.rmt_model.specs.Words.{Has}

-- a lies wholly before b: in an earlier partition, or below it in the same one
abbrev pub Before : Name → Name → Type 0
Before a b = (rank a.partition < rank b.partition) ⊎ ((rank a.partition ≡ rank b.partition) × (a.max < b.min))

-- the same, as a test
abbrev pub before : Name → Name → Bool
before a b =
    nat_lt (rank a.partition) (rank b.partition) || (nat_eq (rank a.partition) (rank b.partition) && nat_lt a.max b.min)

-- the new name at its place among names in order
abbrev pub inserted : Name → List Name → List Name
inserted new [] = new ∷ []
inserted new (a ∷ rest) = cond (before a new) (a ∷ inserted new rest) (new ∷ a ∷ rest)

-- the new name in place of those that it covers
abbrev pub placed : Name → List Name → List Name
placed new names = inserted new (filter (λ a. not (covers new a)) names)

-- whether a drop of the numbers up to n in partition p takes the name away
abbrev pub in_drop : Option ℕ → ℕ → Name → Bool
in_drop p n a = nat_eq (rank p) (rank a.partition) && nat_le a.max n

-- the live names after one more entry
abbrev pub live_after : Entry → List Name → List Name
live_after (Get p n digest source need) names = placed (block_name p n) names
live_after (Merge new sources count) names = placed new names
live_after (Mutate old new upto count mcount) names = placed new names
live_after (Mutation id numbers command) names = names
live_after (DropRange p n) names = filter (λ a. not (in_drop p n a)) names

-- the live names of a log, in order of partition and number
abbrev pub live : List Entry → List Name
live [] = []
live (e ∷ log) = live_after e (live log)

-- the names that a log made, the latest first
abbrev pub made_with : Option Name → List Name → List Name
made_with None names = names
made_with (Some a) names = a ∷ names

-- the names that the entries made, the newest first
abbrev pub made : List Entry → List Name
made [] = []
made (e ∷ log) = made_with (result_name e) (made log)

-- the entry is a drop that takes the name away
abbrev pub TakesAway : Entry → Name → Type 0
TakesAway (Get p n digest source need) a = ⊥
TakesAway (Merge new sources count) a = ⊥
TakesAway (Mutate old new upto count mcount) a = ⊥
TakesAway (Mutation id numbers command) a = ⊥
TakesAway (DropRange p n) a = (p ≡ a.partition) × (a.max ≤ n)

-- a drop that stands after the making of the name takes it away
abbrev pub Dropped : List Entry → Name → Type 0
Dropped [] a = ⊥
Dropped (e ∷ log) a = Dropped log a ⊎ (Has (made log) a × TakesAway e a)

-- a drop that comes after the place takes the name away
abbrev pub DroppedAfter : List Entry → ℕ → Name → Type 0
DroppedAfter [] i a = ⊥
DroppedAfter (e ∷ log) i a = DroppedAfter log i a ⊎ ((i < length log) × TakesAway e a)
