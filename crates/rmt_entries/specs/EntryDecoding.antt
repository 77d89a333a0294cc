-- Decoding entries from left to right, as in `Decoding` of `rmt_bytes`.
use Rattle.std.specs.Prelude.{ℕ, zero, suc, nat_le, nat_eq, ◌&&◌, not, Bool, List, [], ◌∷◌, length}
use Rattle.std.specs.Int.{w16, w32}
use Rattle.std.specs.declared.option.Option.{Option}
use Rattle.std.specs.declared.option.Option.TheVariants.{Some, None}
use Rattle.rmt_values.specs.declared.value.Value.{Value}
use Rattle.rmt_values.specs.declared.cmp.Cmp.{Cmp}
use Rattle.rmt_values.specs.declared.cmp.Cmp.TheVariants as cmps
use Rattle.rmt_values.specs.declared.checked.Checked.{Checked}
use Rattle.rmt_values.specs.declared.checked.Checked.TheVariants as filter
use Rattle.rmt_values.specs.declared.checked_right.CheckedRight.{CheckedRight}
use Rattle.rmt_values.specs.declared.checked_right.CheckedRight.TheVariants as right
use Rattle.rmt_values.specs.declared.checked_mutation.CheckedMutation.{CheckedMutation}
use Rattle.rmt_values.specs.declared.checked_mutation.CheckedMutation.TheVariants.{Update, Delete}
use Rattle.rmt_names.specs.Names.{Name}
use Rattle.rmt_entries.specs.EntryBytes.{rises}
use Rattle.rmt_entries.specs.declared.entry.Entry.{Entry}
use Rattle.rmt_entries.specs.declared.entry.Entry.TheVariants.{Get, Merge, Mutate, Mutation, DropRange}
use Rattle.rmt_bytes.specs.Decoding.{
  Decoder,
  mapped,
  decode_both,
  decode_tested,
  decode_list,
  decode_bytes,
  decode_number,
  decode_byte,
  decode_partition,
  decode_typed,
}

-- a block number: its partition, and the number
abbrev pub decode_block_number : Decoder (Option ℕ × ℕ)
decode_block_number = decode_both decode_partition (decode_number w32)

-- a partition and four numbers
abbrev pub decode_fields : Decoder ((((Option ℕ × ℕ) × ℕ) × ℕ) × ℕ)
decode_fields =
    decode_both (decode_both (decode_both decode_block_number (decode_number w32)) (decode_number w32)) (decode_number w32)

-- the name of a partition and four numbers
abbrev pub name_of : ((((Option ℕ × ℕ) × ℕ) × ℕ) × ℕ) → Name
name_of x = record { partition = x.0.0.0.0; min = x.0.0.0.1; max = x.0.0.1; level = x.0.1; mutation = x.1 }

-- a name whose min isn't above its max
unfoldable pub decode_name : List ℕ → Option (Name × List ℕ)
decode_name bytes = decode_tested (λ a. nat_le a.min a.max) (λ bytes. mapped name_of (decode_fields bytes)) bytes

-- a comparison's operator
unfoldable pub decode_cmp : List ℕ → Option (Cmp × List ℕ)
decode_cmp [] = None
decode_cmp (zero ∷ bytes) = None
decode_cmp (suc zero ∷ bytes) = Some (cmps.Eq, bytes)
decode_cmp (suc (suc zero) ∷ bytes) = Some (cmps.Ne, bytes)
decode_cmp (suc (suc (suc zero)) ∷ bytes) = Some (cmps.Lt, bytes)
decode_cmp (suc (suc (suc (suc zero))) ∷ bytes) = Some (cmps.Le, bytes)
decode_cmp (suc (suc (suc (suc (suc zero)))) ∷ bytes) = Some (cmps.Gt, bytes)
decode_cmp (suc (suc (suc (suc (suc (suc zero))))) ∷ bytes) = Some (cmps.Ge, bytes)
decode_cmp (suc (suc (suc (suc (suc (suc (suc b)))))) ∷ bytes) = None

-- a column, an operator and a value
abbrev pub decode_test : Decoder ((ℕ × Cmp) × Value)
decode_test = decode_both (decode_both (decode_number w16) decode_cmp) decode_typed

-- the comparison of a column, an operator and a value
abbrev pub test_of : (ℕ × Cmp) × Value → Checked
test_of x = filter.Test x.0.0 x.0.1 x.1

-- a filter, where this decodes the filters in it
unfoldable pub decode_level : Decoder Checked → List ℕ → Option (Checked × List ℕ)
decode_level inner [] = None
decode_level inner (zero ∷ bytes) = None
decode_level inner (suc zero ∷ bytes) = mapped test_of (decode_test bytes)
decode_level inner (suc (suc zero) ∷ bytes) = mapped (λ x. filter.Both x.0 x.1) (decode_both inner inner bytes)
decode_level inner (suc (suc (suc zero)) ∷ bytes) = mapped (λ x. filter.Either x.0 x.1) (decode_both inner inner bytes)
decode_level inner (suc (suc (suc (suc zero))) ∷ bytes) = mapped filter.Not (inner bytes)
decode_level inner (suc (suc (suc (suc (suc b)))) ∷ bytes) = None

-- a filter that nests no deeper than this
unfoldable pub decode_filter : ℕ → List ℕ → Option (Checked × List ℕ)
decode_filter zero bytes = None
decode_filter (suc depth) bytes = decode_level (decode_filter depth) bytes

-- ---- commands

-- a column, and a value that is added to it or subtracted
abbrev pub decode_plus : Decoder (ℕ × Value)
decode_plus = decode_both (decode_number w16) decode_typed

-- the right side of an assignment
unfoldable pub decode_right : List ℕ → Option (CheckedRight × List ℕ)
decode_right [] = None
decode_right (zero ∷ bytes) = mapped right.Literal (decode_typed bytes)
decode_right (suc zero ∷ bytes) = mapped right.Column (decode_number w16 bytes)
decode_right (suc (suc zero) ∷ bytes) = mapped (λ x. right.Plus x.0 x.1) (decode_plus bytes)
decode_right (suc (suc (suc zero)) ∷ bytes) = mapped (λ x. right.Minus x.0 x.1) (decode_plus bytes)
decode_right (suc (suc (suc (suc b))) ∷ bytes) = None

-- an assignment: its column, and its right side
abbrev pub decode_set : Decoder (ℕ × CheckedRight)
decode_set = decode_both (decode_number w16) decode_right

-- at least one assignment
abbrev pub decode_sets : Decoder (List (ℕ × CheckedRight))
decode_sets = decode_tested (λ sets. nat_le 1 (length sets)) (decode_list decode_set)

-- a command
unfoldable pub decode_command : List ℕ → Option (CheckedMutation × List ℕ)
decode_command [] = None
decode_command (zero ∷ bytes) = None
decode_command (suc zero ∷ bytes) = mapped (λ x. Update x.0 x.1) (decode_both decode_sets (decode_filter 512) bytes)
decode_command (suc (suc zero) ∷ bytes) = mapped Delete (decode_filter 512 bytes)
decode_command (suc (suc (suc b)) ∷ bytes) = None

-- ---- entries

-- the source is a replica from 1 to 8, and 0 or 2 to 8 replicas have to note the block
abbrev pub is_asked : ℕ × ℕ → Bool
is_asked x = nat_le 1 x.0 && nat_le x.0 8 && nat_le x.1 8 && not (nat_eq x.1 1)

-- there are from 2 to 32,768 sources
abbrev pub can_merge : List Name → Bool
can_merge names = nat_le 2 (length names) && nat_le (length names) 32768

-- the fields of a Get
abbrev pub decode_get : Decoder (((Option ℕ × ℕ) × List ℕ) × (ℕ × ℕ))
decode_get =
    decode_both (decode_both decode_block_number (decode_bytes 32)) (decode_tested is_asked (decode_both decode_byte decode_byte))

-- the Get of these fields
abbrev pub get_of : (((Option ℕ × ℕ) × List ℕ) × (ℕ × ℕ)) → Entry
get_of x = Get x.0.0.0 x.0.0.1 x.0.1 x.1.0 x.1.1

-- the fields of a Merge
abbrev pub decode_merge : Decoder ((Name × ℕ) × List Name)
decode_merge =
    decode_both (decode_both decode_name (decode_number w32)) (decode_tested can_merge (decode_list decode_name))

-- the Merge of these fields
abbrev pub merge_of : ((Name × ℕ) × List Name) → Entry
merge_of x = Merge x.0.0 x.1 x.0.1

-- the fields of a Mutate
abbrev pub decode_mutate : Decoder ((((Name × Name) × ℕ) × ℕ) × ℕ)
decode_mutate =
    decode_both (decode_both (decode_both (decode_both decode_name decode_name) (decode_number w32)) (decode_number w32)) (decode_number w32)

-- the Mutate of these fields
abbrev pub mutate_of : ((((Name × Name) × ℕ) × ℕ) × ℕ) → Entry
mutate_of x = Mutate x.0.0.0.0 x.0.0.0.1 x.0.0.1 x.0.1 x.1

-- the fields of a Mutation
abbrev pub decode_mutation : Decoder ((ℕ × List (Option ℕ × ℕ)) × CheckedMutation)
decode_mutation =
    decode_both (decode_both (decode_number w32) (decode_tested rises (decode_list decode_block_number))) decode_command

-- the Mutation of these fields
abbrev pub mutation_of : ((ℕ × List (Option ℕ × ℕ)) × CheckedMutation) → Entry
mutation_of x = Mutation x.0.0 x.0.1 x.1

-- the DropRange of a block number
abbrev pub drop_of : Option ℕ × ℕ → Entry
drop_of x = DropRange x.0 x.1

-- an entry
unfoldable pub decode_entry : List ℕ → Option (Entry × List ℕ)
decode_entry [] = None
decode_entry (zero ∷ bytes) = None
decode_entry (suc zero ∷ bytes) = mapped get_of (decode_get bytes)
decode_entry (suc (suc zero) ∷ bytes) = mapped merge_of (decode_merge bytes)
decode_entry (suc (suc (suc zero)) ∷ bytes) = mapped mutate_of (decode_mutate bytes)
decode_entry (suc (suc (suc (suc zero))) ∷ bytes) = mapped mutation_of (decode_mutation bytes)
decode_entry (suc (suc (suc (suc (suc zero)))) ∷ bytes) = mapped drop_of (decode_block_number bytes)
decode_entry (suc (suc (suc (suc (suc (suc b))))) ∷ bytes) = None

-- the entry, where the rest is empty
abbrev pub without_rest : Option (Entry × List ℕ) → Option Entry
without_rest None = None
without_rest (Some (e, [])) = Some e
without_rest (Some (e, b ∷ bytes)) = None

-- the entry that all the bytes encode
abbrev pub decode_all : List ℕ → Option Entry
decode_all bytes = without_rest (decode_entry bytes)
