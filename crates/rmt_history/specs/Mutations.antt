-- The mutations of a copy of a log: those below a place, and those that are pending for a part.
-- ClickHouse documentation, ALTER, "Mutations", and system.mutations (`block_numbers`): a mutation takes a block
-- number in each partition, and applies to the parts with lower data versions.
use Rattle.std.specs.Prelude.{◌≡◌, ℕ, ◌-◌, ◌<◌, Bool, true, cond, not, nat_eq, nat_lt, length, List, [], ◌∷◌, filter, slice_get}
use Rattle.std.specs.Option.{unwrap_or}
use Rattle.std.specs.declared.option.Option.{Option}
use Rattle.std.specs.declared.option.Option.TheVariants.{Some, None}
use Rattle.rmt_names.specs.Names.{Name, rank}
use Rattle.rmt_entries.specs.declared.entry.Entry.{Entry}
use Rattle.rmt_entries.specs.declared.entry.Entry.TheVariants.{Get, Merge, Mutate, Mutation, DropRange}
use Rattle.rmt_row.specs.Token.{Token}
use Rattle.rmt_model.specs.Words.{Each, Pairwise}
use Rattle.rmt_model.specs.Lawful.{entry_at, is_mutation}
use Rattle.rmt_model.specs.Choices.{is_pending}
use Rattle.rmt_history.specs.Copies.{History, entries}

-- the entries at places below i, the newest first
abbrev pub first_entries : List Entry → ℕ → List Entry
first_entries [] i = []
first_entries (e ∷ log) i = cond (nat_lt (length log) i) (e ∷ log) (first_entries log i)

-- the mutations at places below i, the newest first
abbrev pub mutations_below : List Entry → ℕ → List Entry
mutations_below log i = filter is_mutation (first_entries log i)

-- the mutations at places below i that are pending for the part, the newest first
abbrev pub pending_below : List Entry → Name → ℕ → List Entry
pending_below log a i = filter (is_pending a) (first_entries log i)

-- the token is of the entry and the cell at its place, which is below i
pub record IsTokenBelow (copy : History) (i : ℕ) (t : Token Entry) : Type 0 where
  pub below : t.place < i
  pub entry : entry_at copy.log t.place ≡ Some t.value
  pub cell : slice_get copy.cells t.place ≡ Some t.cell

-- the tokens, the oldest first, are of these entries, the newest first, which are at places below i of the copy
pub record AreTokensBelow (copy : History) (i : ℕ) (wanted : List Entry) (tokens : List (Token Entry)) : Type 0 where
  pub entries : entries tokens ≡ wanted
  pub places : Each (IsTokenBelow copy i) tokens

-- the number in a partition among pairs
abbrev pub number_among : List (Option ℕ × ℕ) → Option ℕ → Option ℕ
number_among [] p = None
number_among (x ∷ xs) p = cond (nat_eq (rank x.0) (rank p)) (Some x.1) (number_among xs p)

-- pairs in order of their partitions
abbrev pub AreInOrder : List (Option ℕ × ℕ) → Type 0
AreInOrder pairs = Pairwise (λ x y. rank x.0 < rank y.0) pairs

-- the number that a mutation takes in a partition; none for every other entry
abbrev pub number_in : Entry → Option ℕ → Option ℕ
number_in (Mutation id numbers command) p = number_among numbers p
number_in (Get q n digest source need) p = None
number_in (Merge new sources count) p = None
number_in (Mutate old new upto count mcount) p = None
number_in (DropRange q n) p = None

-- the pairs of a mutation are in order of their partitions
abbrev pub HasOrder : Entry → Type 0
HasOrder (Mutation id numbers command) = AreInOrder numbers
HasOrder (Get q n digest source need) = Unit {0}
HasOrder (Merge new sources count) = Unit {0}
HasOrder (Mutate old new upto count mcount) = Unit {0}
HasOrder (DropRange q n) = Unit {0}

-- ---- what only private functions cite

-- the token's entry isn't pending for the part
abbrev pub is_settled : Name → Token Entry → Bool
is_settled a t = not (is_pending a t.value)

-- tokens of mutations in order of place, of which each that comes after a pending one is pending
pub record AreOrdered (a : Name) (tokens : List (Token Entry)) : Type 0 where
  pub pairs : Each (λ t. HasOrder t.value) tokens
  pub settled : Pairwise (λ s t. is_settled a t ≡ true → is_settled a s ≡ true) tokens

-- places rise
abbrev pub PlacesRise : List (Token Entry) → Type 0
PlacesRise tokens = Pairwise (λ s t. s.place < t.place) tokens

-- whether the token's place is below i
abbrev pub is_below : ℕ → Token Entry → Bool
is_below i t = nat_lt t.place i

-- the last of some lists; no elements where there is none
abbrev pub last_list : {A : Type 0} → List (List A) → List A
last_list lists = unwrap_or (slice_get lists (length lists - 1)) []
