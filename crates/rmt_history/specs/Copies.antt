-- What a copy of a prefix of a log keeps.
use Rattle.std.specs.Prelude.{◌≡◌, ℕ, ◌+◌, ◌&&◌, Bool, false, cond, nat_eq, nat_lt, nat_le, length, List, [], ◌∷◌, map, filter, reverse, take, slice_get, MatchOption}
use Rattle.std.specs.declared.option.Option.{Option}
use Rattle.std.specs.declared.option.Option.TheVariants.{Some, None}
use Rattle.std.specs.declared.cmp.Ordering.{Ordering}
use Rattle.std.specs.Ordering.{is_eq, nat_cmp, ordering_then}
use Rattle.std.specs.Option.{option_cmp}
use Rattle.std.specs.BTreeMap.{BTreeMap, get}
use Rattle.rmt_names.specs.Names.{Name, rank}
use Rattle.rmt_values.specs.Rows.{Shape}
use Rattle.rmt_row.specs.Token.{Token, IsOf}
use Rattle.rmt_entries.specs.declared.entry.Entry.{Entry}
use Rattle.rmt_entries.specs.declared.entry.Entry.TheVariants.{Get, Merge, Mutate, Mutation, DropRange}
use Rattle.rmt_model.specs.Words.{Has}
use Rattle.rmt_model.specs.Live.{live, made}
use Rattle.rmt_model.specs.Lawful.{Lawful, MakesAt, is_mutation}
use Rattle.rmt_history.specs.declared.last_drop.LastDrop.{LastDrop}

-- a table's log: its schema, its entries, the newest first, and the cells that hold them, in the order of their places
pub record History : Type 0 where
  pub schema : Shape
  pub log : List Entry
  pub cells : List ℕ

-- the entries of tokens that stand in the order of their places
abbrev pub entries : List (Token Entry) → List Entry
entries tokens = reverse (map (λ t. t.value) tokens)

-- the cells of tokens
abbrev pub cells_of : List (Token Entry) → List ℕ
cells_of tokens = map (λ t. t.cell) tokens

-- the copy is of this cell row, whose cells have these names: its entries are in the first of them
abbrev pub IsLogOf : List ℕ → History → Type 0
IsLogOf row copy = copy.cells ≡ take (length copy.log) row

-- both are of one row
abbrev pub AreOfOneRow : History → History → Type 0
AreOfOneRow a b = (row : List ℕ) × IsLogOf row a × IsLogOf row b

-- the copy and the token are of one row
abbrev pub HasRowOf : History → Token Entry → Type 0
HasRowOf copy t = (row : List ℕ) × IsLogOf row copy × IsOf row t

-- the place of the entry that makes the name; none where no entry does
abbrev pub IsMadeBy : List Entry → Name → Option ℕ → Type 0
IsMadeBy log a place = MatchOption place (Has (made log) a → ⊥) (λ i. MakesAt log i a)

-- names by partition, and then by their numbers as they stand
abbrev pub name_cmp : Name → Name → Ordering
name_cmp a b = ordering_then (option_cmp nat_cmp a.partition b.partition) (ordering_then (nat_cmp a.min b.min) (ordering_then (nat_cmp a.max b.max) (ordering_then (nat_cmp a.level b.level) (nat_cmp a.mutation b.mutation))))

-- the place that is noted for a name, once the entry at a place has made what it makes
abbrev pub maker_after : Option Name → ℕ → Option ℕ → Name → Option ℕ
maker_after None place before a = before
maker_after (Some new) place before a = cond (is_eq (name_cmp new a)) (Some place) before

-- the names are the live ones of a lawful log, which goes on with the entry
pub record FollowsLog (entry : Entry) (names : List Name) : Type 0 where
  pub schema : Shape
  pub log : List Entry
  pub lawful : Lawful schema (entry ∷ log)
  pub living : names ≡ live log

-- the last drop of a partition
abbrev pub last_drop : List Entry → Option ℕ → Option LastDrop
last_drop [] p = None
last_drop (Get q n digest source need ∷ log) p = last_drop log p
last_drop (Merge new sources count ∷ log) p = last_drop log p
last_drop (Mutate old new upto count mcount ∷ log) p = last_drop log p
last_drop (Mutation id numbers command ∷ log) p = last_drop log p
last_drop (DropRange q n ∷ log) p = cond (nat_eq (rank q) (rank p)) (Some (record { place = length log; number = n })) (last_drop log p)

-- partitions as they stand in an index
abbrev pub partition_cmp : Option ℕ → Option ℕ → Ordering
partition_cmp p q = option_cmp nat_cmp p q

-- the drop that is noted for a partition, once the entry at a place is there
abbrev pub drop_after : Entry → ℕ → Option LastDrop → Option ℕ → Option LastDrop
drop_after (Get q n digest source need) place before p = before
drop_after (Merge new sources count) place before p = before
drop_after (Mutate old new upto count mcount) place before p = before
drop_after (Mutation id numbers command) place before p = before
drop_after (DropRange q n) place before p = cond (is_eq (partition_cmp q p)) (Some (record { place = place; number = n })) before

-- the same, as a test
abbrev pub takes_after : Option LastDrop → ℕ → Name → Bool
takes_after None i a = false
takes_after (Some d) i a = nat_lt i d.place && nat_le a.max d.number

-- the tokens of mutations
abbrev pub mutation_tokens : List (Token Entry) → List (Token Entry)
mutation_tokens tokens = filter (λ t. is_mutation t.value) tokens

-- each token is at its place
abbrev pub AreNumbered : List (Token Entry) → Type 0
AreNumbered tokens = (i : ℕ) (t : Token Entry) → slice_get tokens i ≡ Some t → t.place ≡ i

-- a list for each of these elements, which has all up to it
pub record ArePrefixes {A : Type 0} (lists : List (List A)) (all : List A) : Type 0 where
  pub counted : length lists ≡ length all
  pub upto : (k : ℕ) (xs : List A) → slice_get lists k ≡ Some xs → xs ≡ take (k + 1) all

-- tokens of a lawful log, each at its place, with its live names, the places at which its names were made, the last drop of
-- each partition, and a list of mutations for each mutation
pub record IsCopy (schema : Shape) (tokens : List (Token Entry)) (names : List Name) (index : BTreeMap Name ℕ) (drops : BTreeMap (Option ℕ) LastDrop) (lists : List (List (Token Entry))) : Type 0 where
  pub lawful : Lawful schema (entries tokens)
  pub numbered : AreNumbered tokens
  pub living : names ≡ live (entries tokens)
  pub indexed : (a : Name) → IsMadeBy (entries tokens) a (get name_cmp index a)
  pub dropped : (p : Option ℕ) → get partition_cmp drops p ≡ last_drop (entries tokens) p
  pub mutating : ArePrefixes lists (mutation_tokens tokens)
