-- The encodings of entries. Numbers have their most significant byte first. Which bytes an entry has is this program's
-- own.
use Rattle.std.specs.Prelude.{◌≡◌, ℕ, ◌+◌, ◌<◌, ◌≤◌, ◌^◌, max, nat_lt, ◌&&◌, Bool, true, List, [], ◌∷◌, ◌++◌, length, IfSome}
use Rattle.std.specs.Int.{w16, w32, to_be_bytes}
use Rattle.std.specs.List.{AllByRecursion}
use Rattle.std.specs.declared.option.Option.{Option}
use Rattle.std.specs.declared.result.Result.{Result}
use Rattle.std.specs.declared.result.Result.TheVariants.{Ok, Err}
use Rattle.rmt_values.specs.declared.value.Value.{Value}
use Rattle.rmt_values.specs.declared.cmp.Cmp.{Cmp}
use Rattle.rmt_values.specs.declared.cmp.Cmp.TheVariants as cmps
use Rattle.rmt_values.specs.declared.checked.Checked.{Checked}
use Rattle.rmt_values.specs.declared.checked.Checked.TheOpen.{Checked-F, Test, Both, Either, Not}
use Rattle.rmt_values.specs.declared.checked.Checked.TheFolds.{fold-Checked}
use Rattle.rmt_values.specs.declared.checked_right.CheckedRight.{CheckedRight}
use Rattle.rmt_values.specs.declared.checked_right.CheckedRight.TheVariants as right
use Rattle.rmt_values.specs.declared.checked_mutation.CheckedMutation.{CheckedMutation}
use Rattle.rmt_values.specs.declared.checked_mutation.CheckedMutation.TheVariants.{Update, Delete}
use Rattle.rmt_names.specs.Names.{Name, IsName, rank}
use Rattle.rmt_entries.specs.declared.entry.Entry.{Entry}
use Rattle.rmt_entries.specs.declared.entry.Entry.TheVariants.{Get, Merge, Mutate, Mutation, DropRange}
use Rattle.rmt_entries.specs.declared.entry_error.EntryError.{EntryError}
use Rattle.rmt_entries.specs.declared.entry_error.EntryError.TheVariants as errors
use Rattle.rmt_bytes.specs.Encoding.{AreBytes, partition_bytes, typed_bytes, list_bytes, IsInRange}

-- the encoding of a block number: its partition, and the number in 4 bytes
abbrev pub block_number_bytes : Option ℕ → ℕ → List ℕ
block_number_bytes p n = partition_bytes p ++ to_be_bytes w32 n

-- the encoding of a name: its partition, and its four numbers in 4 bytes each
abbrev pub name_bytes : Name → List ℕ
name_bytes a =
    partition_bytes a.partition ++ to_be_bytes w32 a.min ++ to_be_bytes w32 a.max ++ to_be_bytes w32 a.level ++ to_be_bytes w32 a.mutation

-- ---- commands

-- the byte that encodes a comparison
abbrev pub cmp_byte : Cmp → ℕ
cmp_byte cmps.Eq = 1
cmp_byte cmps.Ne = 2
cmp_byte cmps.Lt = 3
cmp_byte cmps.Le = 4
cmp_byte cmps.Gt = 5
cmp_byte cmps.Ge = 6

-- one level of a filter, from the encodings of the filters in it: a comparison is its column in 2 bytes, its
-- operator, and its value with its type
abbrev pub level_bytes : Checked-F (List ℕ) → List ℕ
level_bytes (Test column cmp value) = 1 ∷ to_be_bytes w16 column ++ cmp_byte cmp ∷ typed_bytes value
level_bytes (Both f g) = 2 ∷ f ++ g
level_bytes (Either f g) = 3 ∷ f ++ g
level_bytes (Not f) = 4 ∷ f

-- the encoding of a filter, in prefix notation
abbrev pub filter_bytes : Checked → List ℕ
filter_bytes filter = fold-Checked (List ℕ) level_bytes filter

-- the depth of one level, from those of the filters in it
abbrev pub level_depth : Checked-F ℕ → ℕ
level_depth (Test column cmp value) = 1
level_depth (Both f g) = max f g + 1
level_depth (Either f g) = max f g + 1
level_depth (Not f) = f + 1

-- how deep a filter nests: a single comparison has depth 1
abbrev pub depth : Checked → ℕ
depth filter = fold-Checked ℕ level_depth filter

-- the columns and values of one level, from those of the filters in it
abbrev pub level_tests : Checked-F (List (ℕ × Value)) → List (ℕ × Value)
level_tests (Test column cmp value) = (column, value) ∷ []
level_tests (Both f g) = f ++ g
level_tests (Either f g) = f ++ g
level_tests (Not f) = f

-- the columns and values of a filter's comparisons, from left to right
abbrev pub tests : Checked → List (ℕ × Value)
tests filter = fold-Checked (List (ℕ × Value)) level_tests filter

-- the encoding of the right side of an assignment: a value, a column, or a column plus or minus a value
abbrev pub right_bytes : CheckedRight → List ℕ
right_bytes (right.Literal v) = 0 ∷ typed_bytes v
right_bytes (right.Column c) = 1 ∷ to_be_bytes w16 c
right_bytes (right.Plus c by) = 2 ∷ to_be_bytes w16 c ++ typed_bytes by
right_bytes (right.Minus c by) = 3 ∷ to_be_bytes w16 c ++ typed_bytes by

-- the encoding of an assignment: its column in 2 bytes, and its right side
abbrev pub set_bytes : ℕ × CheckedRight → List ℕ
set_bytes s = to_be_bytes w16 s.0 ++ right_bytes s.1

-- the encoding of a command
abbrev pub command_bytes : CheckedMutation → List ℕ
command_bytes (Update sets filter) = 1 ∷ list_bytes set_bytes sets ++ filter_bytes filter
command_bytes (Delete filter) = 2 ∷ filter_bytes filter

-- ---- entries

-- the encoding of an entry: the byte of its kind, and its fields
abbrev pub entry_bytes : Entry → List ℕ
entry_bytes (Get p n digest source need) = 1 ∷ block_number_bytes p n ++ digest ++ source ∷ need ∷ []
entry_bytes (Merge new sources count) = 2 ∷ name_bytes new ++ to_be_bytes w32 count ++ list_bytes name_bytes sources
entry_bytes (Mutate old new upto count mcount) =
    3 ∷ name_bytes old ++ name_bytes new ++ to_be_bytes w32 upto ++ to_be_bytes w32 count ++ to_be_bytes w32 mcount
entry_bytes (Mutation id numbers command) =
    4 ∷ to_be_bytes w32 id ++ list_bytes (λ x. block_number_bytes x.0 x.1) numbers ++ command_bytes command
entry_bytes (DropRange p n) = 5 ∷ block_number_bytes p n

-- ---- what has an encoding

-- a block number in range
abbrev pub BlockNumberInRange : Option ℕ × ℕ → Type 0
BlockNumberInRange x = IfSome x.0 (λ n. n < 2 ^ 64) × (x.1 < 2 ^ 32)

-- a comparison in range: its column has 2 bytes, and its value is one of its type
abbrev pub TestInRange : ℕ × Value → Type 0
TestInRange t = (t.0 < 2 ^ 16) × IsInRange t.1

-- a filter in range: it nests no deeper than the limit, and its comparisons are in range
pub record FilterInRange (limit : ℕ) (filter : Checked) : Type 0 where
  pub deep : depth filter ≤ limit
  pub tests_fit : AllByRecursion TestInRange (tests filter)

-- a right side in range
abbrev pub RightInRange : CheckedRight → Type 0
RightInRange (right.Literal v) = IsInRange v
RightInRange (right.Column c) = c < 2 ^ 16
RightInRange (right.Plus c by) = (c < 2 ^ 16) × IsInRange by
RightInRange (right.Minus c by) = (c < 2 ^ 16) × IsInRange by

-- an assignment in range
abbrev pub SetInRange : ℕ × CheckedRight → Type 0
SetInRange s = (s.0 < 2 ^ 16) × RightInRange s.1

-- an UPDATE in range: at least one assignment, and a filter that nests at most 512 deep
pub record UpdateInRange (sets : List (ℕ × CheckedRight)) (filter : Checked) : Type 0 where
  pub at_least_1 : 1 ≤ length sets
  pub few : length sets < 2 ^ 16
  pub sets_in_range : AllByRecursion SetInRange sets
  pub filter_in_range : FilterInRange 512 filter

-- a command in range
abbrev pub CommandInRange : CheckedMutation → Type 0
CommandInRange (Update sets filter) = UpdateInRange sets filter
CommandInRange (Delete filter) = FilterInRange 512 filter

-- the partitions rise strictly: none comes first, and then they go by number
abbrev pub rises : List (Option ℕ × ℕ) → Bool
rises [] = true
rises (x ∷ []) = true
rises (x ∷ y ∷ ys) = nat_lt (rank x.0) (rank y.0) && rises (y ∷ ys)

-- a Get in range: its digest has 32 bytes, its source is a replica from 1 to 8, and 0 or 2 to 8 replicas have to note
-- it
pub record GetInRange (p : Option ℕ) (n : ℕ) (digest : List ℕ) (source need : ℕ) : Type 0 where
  pub block_in_range : BlockNumberInRange (p, n)
  pub digest_length : length digest ≡ 32
  pub digest_bytes : AreBytes digest
  pub source_from_1 : 1 ≤ source
  pub source_to_8 : source ≤ 8
  pub need_to_8 : need ≤ 8
  pub need_not_1 : ¬ (need ≡ 1)

-- a Merge in range: it has from 2 to 32,768 sources
pub record MergeInRange (new : Name) (sources : List Name) (count : ℕ) : Type 0 where
  pub new_is_name : IsName new
  pub count_fits : count < 2 ^ 32
  pub sources_are_names : AllByRecursion IsName sources
  pub at_least_2 : 2 ≤ length sources
  pub at_most_32768 : length sources ≤ 32768

-- a Mutate in range
pub record MutateInRange (old new : Name) (upto count mcount : ℕ) : Type 0 where
  pub old_is_name : IsName old
  pub new_is_name : IsName new
  pub upto_fits : upto < 2 ^ 32
  pub count_fits : count < 2 ^ 32
  pub mcount_fits : mcount < 2 ^ 32

-- a Mutation in range: its partitions rise
pub record MutationInRange (id : ℕ) (numbers : List (Option ℕ × ℕ)) (command : CheckedMutation) : Type 0 where
  pub id_fits : id < 2 ^ 32
  pub few : length numbers < 2 ^ 16
  pub numbers_in_range : AllByRecursion BlockNumberInRange numbers
  pub rising : rises numbers ≡ true
  pub command_in_range : CommandInRange command

-- an entry in range. A name is in range where its min isn't above its max and its numbers have their widths.
abbrev pub EntryInRange : Entry → Type 0
EntryInRange (Get p n digest source need) = GetInRange p n digest source need
EntryInRange (Merge new sources count) = MergeInRange new sources count
EntryInRange (Mutate old new upto count mcount) = MutateInRange old new upto count mcount
EntryInRange (Mutation id numbers command) = MutationInRange id numbers command
EntryInRange (DropRange p n) = BlockNumberInRange (p, n)

-- ---- results

-- the result is this entry, or memory ran out
abbrev pub IsDecodedAs : Entry → Result Entry EntryError → Type 0
IsDecodedAs entry (Ok decoded) = decoded ≡ entry
IsDecodedAs entry (Err errors.Memory) = Unit {0}
IsDecodedAs entry (Err errors.NotAnEntry) = ⊥

-- no entry in range has this encoding
abbrev pub EncodesNoEntry : List ℕ → Type 0
EncodesNoEntry bytes = (entry : Entry) → EntryInRange entry → ¬ (bytes ≡ entry_bytes entry)
