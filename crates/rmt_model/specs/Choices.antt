-- Which parts a background merge takes next, and which part a mutation changes next.
-- ClickHouse documentation, MergeTree, "Data storage": parts are merged in the background; ALTER, "Mutations": a mutation takes a
-- block number in each partition, and applies to the parts with lower data versions. Which ones come next is this program's own.
use Rattle.std.specs.Prelude.{ℕ, zero, suc, ◌-◌, ◌&&◌, Bool, false, cond, nat_eq, nat_lt, nat_le, List, [], ◌∷◌, length}
use Rattle.std.specs.declared.option.Option.{Option}
use Rattle.std.specs.declared.option.Option.TheVariants.{Some, None}
use Rattle.rmt_names.specs.Names.{Name, rank, highest, data_version}
use Rattle.rmt_entries.specs.declared.entry.Entry.{Entry}
use Rattle.rmt_entries.specs.declared.entry.Entry.TheVariants.{Get, Merge, Mutate, Mutation, DropRange}
use Rattle.rmt_model.specs.Lawful.{ver}
use Rattle.rmt_model.specs.Content.{chosen}

-- ---- merges

-- the parts are of one partition and one version
abbrev pub are_alike : List Entry → Name → Name → Bool
are_alike log a b = nat_eq (rank a.partition) (rank b.partition) && nat_eq (ver log a) (ver log b)

-- the first of the names, at most n, of which each is like the one before it; a comes before the first
abbrev pub alike_after : List Entry → ℕ → Name → List Name → List Name
alike_after log zero a names = []
alike_after log (suc n) a [] = []
alike_after log (suc n) a (b ∷ names) = cond (are_alike log a b) (b ∷ alike_after log n b names) []

-- the run that begins at the first of the names: neighbours that are alike, at most `most`
abbrev pub run_at : List Entry → ℕ → List Name → List Name
run_at log most [] = []
run_at log most (a ∷ names) = a ∷ alike_after log (most - 1) a names

-- the greatest level of parts
abbrev pub greatest_level : List Name → ℕ
greatest_level [] = 0
greatest_level (a ∷ names) = highest (λ c. c.level) a names

-- a run, or the best of those that begin after it: the run where it has two names or more, and no greater level
abbrev pub better : List Name → Option (List Name) → Option (List Name)
better run None = cond (nat_le 2 (length run)) (Some run) None
better run (Some other) =
    cond (nat_le 2 (length run) && nat_le (greatest_level run) (greatest_level other)) (Some run) (Some other)

-- the best of the runs that begin at one of the names; of equals the first
abbrev pub best_run : List Entry → ℕ → List Name → Option (List Name)
best_run log most [] = None
best_run log most (a ∷ names) = better (run_at log most (a ∷ names)) (best_run log most names)

-- ---- mutations

-- the entry is a mutation that is pending for the part: it has a number in the part's partition above the part's data
-- version
abbrev pub is_pending : Name → Entry → Bool
is_pending a (Mutation id numbers command) = chosen numbers a.partition (λ k. nat_lt (data_version a) k)
is_pending a (Get p n digest source need) = false
is_pending a (Merge new sources count) = false
is_pending a (Mutate old new upto count mcount) = false
is_pending a (DropRange p n) = false

-- the last place below i of a mutation that is pending for the part
abbrev pub last_pending : List Entry → Name → ℕ → Option ℕ
last_pending [] a i = None
last_pending (e ∷ log) a i = cond (nat_lt (length log) i && is_pending a e) (Some (length log)) (last_pending log a i)

-- the name with the place, where there is one; else what there is of the others
abbrev pub or_next : Name → Option ℕ → Option (Name × ℕ) → Option (Name × ℕ)
or_next a (Some i) other = Some (a, i)
or_next a None other = other

-- the first of the names for which a mutation at a place below `upto` is pending, and the last place of such a mutation
abbrev pub next_among : List Entry → ℕ → List Name → Option (Name × ℕ)
next_among log upto [] = None
next_among log upto (a ∷ names) = or_next a (last_pending log a upto) (next_among log upto names)
