-- Which logs are lawful, and why.
use Rattle.std.specs.Prelude.{◌≡◌, ℕ, ◌<◌, ◌≤◌, ◌⊎◌, ◌&&◌, Bool, true, false, cond, max, nat_eq, nat_le, List, [], ◌∷◌, ◌++◌, length, count_by}
use Rattle.std.specs.declared.option.Option.{Option}
use Rattle.std.specs.declared.option.Option.TheVariants.{Some, None}
use Rattle.rmt_values.specs.declared.checked_mutation.CheckedMutation.{CheckedMutation}
use Rattle.rmt_values.specs.Rows.{Shape}
use Rattle.rmt_values.specs.Commands.{CommandFits}
use Rattle.rmt_names.specs.Names.{Name, rank, Spans, data_version, merged_name}
use Rattle.rmt_entries.specs.Entries.{result_name}
use Rattle.rmt_entries.specs.declared.entry.Entry.{Entry}
use Rattle.rmt_entries.specs.declared.entry.Entry.TheVariants.{Get, Merge, Mutate, Mutation, DropRange}
use Rattle.rmt_model.specs.Words.{Has, Each, Pairwise}
use Rattle.rmt_model.specs.Live.{live}

-- the entry uses the number n in partition p
abbrev pub Uses : Entry → Option ℕ → ℕ → Type 0
Uses (Get q m digest source need) p n = (q ≡ p) × (m ≡ n)
Uses (Merge new sources count) p n = ⊥
Uses (Mutate old new upto count mcount) p n = ⊥
Uses (Mutation id numbers command) p n = Has numbers (p, n)
Uses (DropRange q m) p n = (q ≡ p) × (m ≡ n)

-- an entry of the log uses it
abbrev pub Used : List Entry → Option ℕ → ℕ → Type 0
Used [] p n = ⊥
Used (e ∷ log) p n = Uses e p n ⊎ Used log p n

-- the log has a drop of the numbers below n in p
abbrev pub DropIn : List Entry → Option ℕ → ℕ → Type 0
DropIn log p n = Has log (DropRange p n)

-- the number is above every drop of its partition
abbrev pub AboveDrops : List Entry → Option ℕ → ℕ → Type 0
AboveDrops log p n = (m : ℕ) → DropIn log p m → m < n

-- the number is above every number used in its partition
abbrev pub AboveUsed : List Entry → Option ℕ → ℕ → Type 0
AboveUsed log p n = (m : ℕ) → Used log p m → m < n

-- the greatest of a mutation's numbers in p that isn't above the limit, else 0
abbrev pub version_among : List (Option ℕ × ℕ) → Option ℕ → ℕ → ℕ
version_among [] p limit = 0
version_among (x ∷ xs) p limit =
    max (cond (nat_eq (rank x.0) (rank p) && nat_le x.1 limit) x.1 0) (version_among xs p limit)

-- the number that a mutation takes in the partition, where it is at most the limit; 0 for every other entry
abbrev pub version_at : Entry → Option ℕ → ℕ → ℕ
version_at (Get q n digest source need) p limit = 0
version_at (Merge new sources count) p limit = 0
version_at (Mutate old new upto count mcount) p limit = 0
version_at (Mutation id numbers command) p limit = version_among numbers p limit
version_at (DropRange q n) p limit = 0

-- the greatest number of a mutation of p that isn't above the limit, else 0
abbrev pub version_below : List Entry → Option ℕ → ℕ → ℕ
version_below [] p limit = 0
version_below (e ∷ log) p limit = max (version_at e p limit) (version_below log p limit)

-- the current version of a part
abbrev pub ver : List Entry → Name → ℕ
ver log a = version_below log a.partition (data_version a)

-- the entry at a place
abbrev pub entry_at : List Entry → ℕ → Option Entry
entry_at [] i = None
entry_at (e ∷ log) i = cond (nat_eq i (length log)) (Some e) (entry_at log i)

-- the entry at the place makes the name
pub record MakesAt (log : List Entry) (i : ℕ) (a : Name) : Type 0 where
  pub entry : Entry
  pub stands : entry_at log i ≡ Some entry
  pub makes : result_name entry ≡ Some a

-- the shorter log is a prefix of the longer: all its entries are older than those that the longer one has besides
pub record IsPrefix (shorter longer : List Entry) : Type 0 where
  pub gained : List Entry
  pub is : longer ≡ gained ++ shorter

-- a mutation with this number in p is at this place
abbrev pub IsMutationWith : Option Entry → Option ℕ → ℕ → Type 0
IsMutationWith None p n = ⊥
IsMutationWith (Some (Mutation id numbers command)) p n = Has numbers (p, n)
IsMutationWith (Some (Get q m digest source need)) p n = ⊥
IsMutationWith (Some (Merge new sources count)) p n = ⊥
IsMutationWith (Some (Mutate old new upto count mcount)) p n = ⊥
IsMutationWith (Some (DropRange q m)) p n = ⊥

-- the entry is a mutation
abbrev pub is_mutation : Entry → Bool
is_mutation (Mutation id numbers command) = true
is_mutation (Get p n digest source need) = false
is_mutation (Merge new sources count) = false
is_mutation (Mutate old new upto count mcount) = false
is_mutation (DropRange p n) = false

-- how many mutations the log has
abbrev pub mutation_count : List Entry → ℕ
mutation_count log = count_by is_mutation log

-- how many stand up to and with a place
abbrev pub mutations_through : List Entry → ℕ → ℕ
mutations_through [] i = 0
mutations_through (e ∷ log) i =
    cond (nat_le (length log) i) (mutation_count (e ∷ log)) (mutations_through log i)

-- the entry gets a block whose number is among the name's
abbrev pub gets_block_of : Name → Entry → Bool
gets_block_of a (Get p n digest source need) = nat_eq (rank p) (rank a.partition) && nat_le a.min n && nat_le n a.max
gets_block_of a (Merge new sources count) = false
gets_block_of a (Mutate old new upto count mcount) = false
gets_block_of a (Mutation id numbers command) = false
gets_block_of a (DropRange p n) = false

-- how many blocks lie in the name's range
abbrev pub block_count : List Entry → Name → ℕ
block_count log a = count_by (gets_block_of a) log

-- a new block's number is fresh: unused, in no live range, above every drop
pub record IsFresh (log : List Entry) (p : Option ℕ) (n : ℕ) : Type 0 where
  pub unused : Used log p n → ⊥
  pub outside : (a : Name) → Has (live log) a → Spans a p n → ⊥
  pub above : AboveDrops log p n

-- the names stand side by side among the live ones
pub record AreNeighbours (log : List Entry) (names : List Name) : Type 0 where
  pub left : List Name
  pub right : List Name
  pub among : left ++ (names ++ right) ≡ live log

-- a merge of a, b and the rest
pub record Merges (log : List Entry) (a b : Name) (rest : List Name) (new : Name) (count : ℕ) : Type 0 where
  pub neighbours : AreNeighbours log (a ∷ b ∷ rest)
  pub partition : Each (λ c. c.partition ≡ a.partition) (b ∷ rest)
  pub version : Each (λ c. ver log c ≡ ver log a) (b ∷ rest)
  pub name : new ≡ merged_name a (b ∷ rest)
  pub counted : count ≡ block_count log new

-- a merge has two sources or more
abbrev pub IsMerge : List Entry → Name → List Name → ℕ → Type 0
IsMerge log new [] count = ⊥
IsMerge log new (a ∷ []) count = ⊥
IsMerge log new (a ∷ b ∷ rest) count = Merges log a b rest new count

-- a mutation of one live part, up to the mutation at a place
pub record IsMutate (log : List Entry) (old new : Name) (upto count mcount : ℕ) : Type 0 where
  pub number : ℕ
  pub is_live : Has (live log) old
  pub at : IsMutationWith (entry_at log upto) old.partition number
  pub pending : ver log old < number
  pub name : new ≡ record old { mutation = number }
  pub counted : count ≡ block_count log old
  pub mutations : mcount ≡ mutations_through log upto

-- a new mutation
pub record IsMutation (schema : Shape) (log : List Entry) (id : ℕ) (numbers : List (Option ℕ × ℕ)) (command : CheckedMutation) : Type 0 where
  pub numbered : id ≡ mutation_count log
  pub rising : Pairwise (λ x y. rank x.0 < rank y.0) numbers
  pub everywhere : (p : Option ℕ) (n : ℕ) → Used log p n → (m : ℕ) × Has numbers (p, m)
  pub above : Each (λ x. (1 ≤ x.1) × AboveUsed log x.0 x.1) numbers
  pub fits : CommandFits schema command

-- what the newest entry meets, given the log before it
abbrev pub Meets : Shape → List Entry → Entry → Type 0
Meets schema log (Get p n digest source need) = IsFresh log p n
Meets schema log (Merge new sources count) = IsMerge log new sources count
Meets schema log (Mutate old new upto count mcount) = IsMutate log old new upto count mcount
Meets schema log (Mutation id numbers command) = IsMutation schema log id numbers command
Meets schema log (DropRange p n) = AboveUsed log p n

-- each entry meets its line
abbrev pub Lawful : Shape → List Entry → Type 0
Lawful schema [] = Unit {0}
Lawful schema (e ∷ log) = Lawful schema log × Meets schema log e
