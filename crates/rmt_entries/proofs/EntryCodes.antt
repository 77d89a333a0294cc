-- The bytes of commands and entries.
use Rattle.std.proofs.Common.{◌≡◌, ℕ, zero, suc, ◌^◌, ◌<◌, ◌≤◌, true, List, [], ◌∷◌, ◌++◌, length, leb, Option, Some, None, refl, sym, ap, subst, ◌∙◌, ◌&&◌, not, eqb, append-nil, arith}
use Rattle.std.proofs.lemmas.Bool.{and_parts, ne_eqb, eqb-false, not-true}
use Rattle.std.specs.Int.{w16, w32, to_be_bytes}
use Rattle.std.specs.List.{AllByRecursion}
use Rattle.std.proofs.lemmas.Option.{some_pair_parts, same_Some}
use Rattle.rmt_values.specs.declared.checked_right.CheckedRight.{CheckedRight}
use Rattle.rmt_values.specs.declared.checked_right.CheckedRight.TheVariants as right
use Rattle.rmt_values.specs.declared.checked_mutation.CheckedMutation.{CheckedMutation}
use Rattle.rmt_values.specs.declared.checked_mutation.CheckedMutation.TheVariants.{Update, Delete}
use Rattle.rmt_bytes.specs.Encoding.{AreBytes, typed_bytes, list_bytes, IsInRange}
use Rattle.rmt_bytes.specs.Decoding.{Fails, mapped, decode_both, decode_number, decode_byte, decode_typed}
use Rattle.rmt_bytes.specs.declared.decode_error.DecodeError.{DecodeError}
use Rattle.rmt_bytes.specs.declared.decode_error.DecodeError.TheVariants as errors
use Rattle.rmt_bytes.proofs.Codes.{Takes, Codes}
use Rattle.rmt_bytes.proofs.CodeLemmas.{both, tested, listed}
use Rattle.rmt_bytes.proofs.NumberCodes.{number16, number32, bytes_code}
use Rattle.rmt_bytes.proofs.ValueCodes.{typed_code, tagged}
use Rattle.rmt_names.specs.Names.{IsName}
use Rattle.rmt_entries.specs.declared.entry.Entry.{Entry}
use Rattle.rmt_entries.specs.declared.entry.Entry.TheVariants.{Get, Merge, Mutate, Mutation, DropRange}
use Rattle.rmt_entries.specs.EntryBytes.{name_bytes, block_number_bytes, BlockNumberInRange, right_bytes, RightInRange, set_bytes, SetInRange, command_bytes, CommandInRange, filter_bytes, FilterInRange, rises, entry_bytes, EntryInRange, EncodesNoEntry}
use Rattle.rmt_entries.specs.EntryDecoding.{is_asked, can_merge, get_of, merge_of, mutate_of, mutation_of, drop_of, decode_right, decode_set, decode_sets, decode_command, decode_filter, decode_get, decode_merge, decode_mutate, decode_mutation, decode_entry, decode_all, without_rest}
use Rattle.rmt_entries.proofs.NameCodes.{block_number_code, name_code}
use Rattle.rmt_entries.proofs.FilterCodes.{filter_code}

leb-of : (m n : ℕ) → m ≤ n → leb m n ≡ true
leb-of m n h = grind arith

le-of : (m n : ℕ) → leb m n ≡ true → m ≤ n
le-of m n h = grind arith

-- ---- commands

plus_code : Codes (λ x. to_be_bytes w16 x.0 ++ typed_bytes x.1) (λ x. (x.0 < 2 ^ 16) × IsInRange x.1) (decode_both (decode_number w16) decode_typed)
plus_code = both number16 typed_code

right_again : (r : CheckedRight) (rest : List ℕ) → RightInRange r → decode_right (right_bytes r ++ rest) ≡ Some (r, rest)
unfolding decode_right
right_again (right.Literal v) rest fits = ap (mapped right.Literal) (typed_code.again v rest fits)
right_again (right.Column c) rest fits = ap (mapped right.Column) (number16.again c rest fits)
right_again (right.Plus c by) rest fits = ap (mapped (λ x. right.Plus x.0 x.1)) (plus_code.again (c, by) rest fits)
right_again (right.Minus c by) rest fits = ap (mapped (λ x. right.Minus x.0 x.1)) (plus_code.again (c, by) rest fits)

right_taken : (all : List ℕ) (r : CheckedRight) (rest : List ℕ) → AreBytes all → decode_right all ≡ Some (r, rest) → Takes right_bytes RightInRange all r rest
unfolding decode_right
right_taken [] r rest are e = absurd cc
right_taken (zero ∷ all) r rest are e = tagged typed_code right_bytes RightInRange right.Literal 0 (λ v. refl) (λ v fits. fits) all r rest are.1 e
right_taken (suc zero ∷ all) r rest are e = tagged number16 right_bytes RightInRange right.Column 1 (λ c. refl) (λ c fits. fits) all r rest are.1 e
right_taken (suc (suc zero) ∷ all) r rest are e = tagged plus_code right_bytes RightInRange (λ x. right.Plus x.0 x.1) 2 (λ x. refl) (λ x fits. fits) all r rest are.1 e
right_taken (suc (suc (suc zero)) ∷ all) r rest are e = tagged plus_code right_bytes RightInRange (λ x. right.Minus x.0 x.1) 3 (λ x. refl) (λ x fits. fits) all r rest are.1 e
right_taken (suc (suc (suc (suc b))) ∷ all) r rest are e = absurd cc

right_code : Codes right_bytes RightInRange decode_right
right_code = record { again = right_again; takes = right_taken }

set_code : Codes set_bytes SetInRange decode_set
set_code = both number16 right_code

update_code : Codes (λ x. list_bytes set_bytes x.0 ++ filter_bytes x.1)
    (λ x. (((length x.0 < 2 ^ 16) × AllByRecursion SetInRange x.0) × (leb 1 (length x.0) ≡ true)) × FilterInRange 512 x.1) (decode_both decode_sets (decode_filter 512))
update_code = both (tested (λ sets. leb 1 (length sets)) (listed number16 set_code)) (filter_code 512)

command_again : (c : CheckedMutation) (rest : List ℕ) → CommandInRange c → decode_command (command_bytes c ++ rest) ≡ Some (c, rest)
unfolding decode_command
command_again (Update sets filter) rest fits =
    ap (mapped (λ x. Update x.0 x.1)) (update_code.again (sets, filter) rest (((fits.few, fits.sets_in_range), leb-of 1 (length sets) fits.at_least_1), fits.filter_in_range))
command_again (Delete filter) rest fits = ap (mapped Delete) ((filter_code 512).again filter rest fits)

command_taken : (all : List ℕ) (c : CheckedMutation) (rest : List ℕ) → AreBytes all → decode_command all ≡ Some (c, rest) → Takes command_bytes CommandInRange all c rest
unfolding decode_command
command_taken [] c rest are e = absurd cc
command_taken (zero ∷ all) c rest are e = absurd cc
command_taken (suc zero ∷ all) c rest are e = tagged update_code command_bytes CommandInRange (λ x. Update x.0 x.1) 1 (λ x. refl)
    (λ x fits. record { at_least_1 = le-of 1 (length x.0) fits.0.1; few = fits.0.0.0; sets_in_range = fits.0.0.1; filter_in_range = fits.1 }) all c rest are.1 e
command_taken (suc (suc zero) ∷ all) c rest are e = tagged (filter_code 512) command_bytes CommandInRange Delete 2 (λ x. refl) (λ x fits. fits) all c rest are.1 e
command_taken (suc (suc (suc b)) ∷ all) c rest are e = absurd cc

command_code : Codes command_bytes CommandInRange decode_command
command_code = record { again = command_again; takes = command_taken }

-- ---- entries

byte_again : (b : ℕ) (rest : List ℕ) → b < 256 → decode_byte (b ∷ [] ++ rest) ≡ Some (b, rest)
byte_again b rest lt = refl

byte_taken : (all : List ℕ) (b : ℕ) (rest : List ℕ) → AreBytes all → decode_byte all ≡ Some (b, rest) → Takes (λ b. b ∷ []) (λ b. b < 256) all b rest
byte_taken [] b rest are e = absurd cc
byte_taken (x ∷ all) b rest are e =
    let same = some_pair_parts x b all rest e in
    subst (λ l. Takes (λ b. b ∷ []) (λ b. b < 256) (x ∷ all) b l) same.1 (subst (λ y. Takes (λ b. b ∷ []) (λ b. b < 256) (x ∷ all) y all) same.0 (record { parts = refl; fits = are.0; rest_bytes = are.1 }))

byte_code : Codes (λ b. b ∷ []) (λ b. b < 256) decode_byte
byte_code = record { again = byte_again; takes = byte_taken }

get_code : Codes (λ x. (block_number_bytes x.0.0.0 x.0.0.1 ++ x.0.1) ++ (x.1.0 ∷ [] ++ x.1.1 ∷ []))
    (λ x. (BlockNumberInRange x.0.0 × ((length x.0.1 ≡ 32) × AreBytes x.0.1)) × (((x.1.0 < 256) × (x.1.1 < 256)) × (is_asked x.1 ≡ true))) decode_get
get_code = both (both block_number_code (bytes_code 32)) (tested is_asked (both byte_code byte_code))

merge_code : Codes (λ x. (name_bytes x.0.0 ++ to_be_bytes w32 x.0.1) ++ list_bytes name_bytes x.1)
    (λ x. (IsName x.0.0 × (x.0.1 < 2 ^ 32)) × (((length x.1 < 2 ^ 16) × AllByRecursion IsName x.1) × (can_merge x.1 ≡ true))) decode_merge
merge_code = both (both name_code number32) (tested can_merge (listed number16 name_code))

mutate_code : Codes (λ x. (((name_bytes x.0.0.0.0 ++ name_bytes x.0.0.0.1) ++ to_be_bytes w32 x.0.0.1) ++ to_be_bytes w32 x.0.1) ++ to_be_bytes w32 x.1)
    (λ x. (((IsName x.0.0.0.0 × IsName x.0.0.0.1) × (x.0.0.1 < 2 ^ 32)) × (x.0.1 < 2 ^ 32)) × (x.1 < 2 ^ 32)) decode_mutate
mutate_code = both (both (both (both name_code name_code) number32) number32) number32

mutation_code : Codes (λ x. (to_be_bytes w32 x.0.0 ++ list_bytes (λ y. block_number_bytes y.0 y.1) x.0.1) ++ command_bytes x.1)
    (λ x. ((x.0.0 < 2 ^ 32) × (((length x.0.1 < 2 ^ 16) × AllByRecursion BlockNumberInRange x.0.1) × (rises x.0.1 ≡ true))) × CommandInRange x.1) decode_mutation
mutation_code = both (both number32 (tested rises (listed number16 block_number_code))) command_code

asked-of : (source need : ℕ) → 1 ≤ source → source ≤ 8 → need ≤ 8 → ¬ (need ≡ 1) → is_asked (source, need) ≡ true
asked-of source need from_1 to_8 few not_1 =
    rw (leb-of 1 source from_1, leb-of source 8 to_8, leb-of need 8 few, ne_eqb need 1 not_1) refl

record IsAsked (source need : ℕ) : Type 0 where
  pub from_1 : 1 ≤ source
  pub to_8 : source ≤ 8
  pub few : need ≤ 8
  pub not_1 : ¬ (need ≡ 1)

of-asked : (source need : ℕ) → is_asked (source, need) ≡ true → IsAsked source need
of-asked source need e =
    let a = and_parts (leb 1 source && leb source 8 && leb need 8) (not (eqb need 1)) e in
    let b = and_parts (leb 1 source && leb source 8) (leb need 8) a.0 in
    let c = and_parts (leb 1 source) (leb source 8) b.0 in
    record { from_1 = le-of 1 source c.0; to_8 = le-of source 8 c.1; few = le-of need 8 b.1; not_1 = eqb-false need 1 (not-true (eqb need 1) a.1) }

pub entry_again : (e : Entry) (rest : List ℕ) → EntryInRange e → decode_entry (entry_bytes e ++ rest) ≡ Some (e, rest)
unfolding decode_entry
entry_again (Get p n digest source need) rest fits =
    ap (mapped get_of) (get_code.again (((p, n), digest), (source, need)) rest
    ((fits.block_in_range, (fits.digest_length, fits.digest_bytes)), ((omega (arith, fits.source_to_8), omega (arith, fits.need_to_8)), asked-of source need fits.source_from_1 fits.source_to_8 fits.need_to_8 fits.need_not_1)))
entry_again (Merge new sources count) rest fits =
    ap (mapped merge_of) (merge_code.again ((new, count), sources) rest
    ((fits.new_is_name, fits.count_fits), ((omega (arith, fits.at_most_32768), fits.sources_are_names), rw (leb-of 2 (length sources) fits.at_least_2, leb-of (length sources) 32768 fits.at_most_32768) refl)))
entry_again (Mutate old new upto count mcount) rest fits =
    ap (mapped mutate_of) (mutate_code.again ((((old, new), upto), count), mcount) rest ((((fits.old_is_name, fits.new_is_name), fits.upto_fits), fits.count_fits), fits.mcount_fits))
entry_again (Mutation id numbers command) rest fits =
    ap (mapped mutation_of) (mutation_code.again ((id, numbers), command) rest ((fits.id_fits, ((fits.few, fits.numbers_in_range), fits.rising)), fits.command_in_range))
entry_again (DropRange p n) rest fits = ap (mapped drop_of) (block_number_code.again (p, n) rest fits)

pub entry_taken : (all : List ℕ) (e : Entry) (rest : List ℕ) → AreBytes all → decode_entry all ≡ Some (e, rest) → Takes entry_bytes EntryInRange all e rest
unfolding decode_entry
entry_taken [] e rest are eq = absurd cc
entry_taken (zero ∷ all) e rest are eq = absurd cc
entry_taken (suc zero ∷ all) e rest are eq = tagged get_code entry_bytes EntryInRange get_of 1 (λ x. refl)
    (λ x fits. let asked = of-asked x.1.0 x.1.1 fits.1.1 in
    record { block_in_range = fits.0.0; digest_length = fits.0.1.0; digest_bytes = fits.0.1.1; source_from_1 = asked.from_1; source_to_8 = asked.to_8; need_to_8 = asked.few; need_not_1 = asked.not_1 }) all e rest are.1 eq
entry_taken (suc (suc zero) ∷ all) e rest are eq = tagged merge_code entry_bytes EntryInRange merge_of 2 (λ x. refl)
    (λ x fits. let few = and_parts (leb 2 (length x.1)) (leb (length x.1) 32768) fits.1.1 in
    record { new_is_name = fits.0.0; count_fits = fits.0.1; sources_are_names = fits.1.0.1; at_least_2 = le-of 2 (length x.1) few.0; at_most_32768 = le-of (length x.1) 32768 few.1 }) all e rest are.1 eq
entry_taken (suc (suc (suc zero)) ∷ all) e rest are eq = tagged mutate_code entry_bytes EntryInRange mutate_of 3 (λ x. refl)
    (λ x fits. record { old_is_name = fits.0.0.0.0; new_is_name = fits.0.0.0.1; upto_fits = fits.0.0.1; count_fits = fits.0.1; mcount_fits = fits.1 }) all e rest are.1 eq
entry_taken (suc (suc (suc (suc zero))) ∷ all) e rest are eq = tagged mutation_code entry_bytes EntryInRange mutation_of 4 (λ x. refl)
    (λ x fits. record { id_fits = fits.0.0; few = fits.0.1.0.0; numbers_in_range = fits.0.1.0.1; rising = fits.0.1.1; command_in_range = fits.1 }) all e rest are.1 eq
entry_taken (suc (suc (suc (suc (suc zero)))) ∷ all) e rest are eq = tagged block_number_code entry_bytes EntryInRange drop_of 5 (λ x. refl) (λ x fits. fits) all e rest are.1 eq
entry_taken (suc (suc (suc (suc (suc (suc b))))) ∷ all) e rest are eq = absurd cc

-- each entry in range is decoded from its bytes
pub whole_again : (e : Entry) → EntryInRange e → decode_all (entry_bytes e) ≡ Some e
whole_again e fits = ap without_rest (ap decode_entry (sym (append-nil (entry_bytes e))) ∙ entry_again e [] fits)

whole_taken-of : (all : List ℕ) (r : Option (Entry × List ℕ)) (e : Entry) → AreBytes all → decode_entry all ≡ r → without_rest r ≡ Some e → (all ≡ entry_bytes e) × EntryInRange e
whole_taken-of all None e are is eq = absurd cc
whole_taken-of all (Some (x, [])) e are is eq =
    let t = entry_taken all x [] are is in
    subst (λ y. (all ≡ entry_bytes y) × EntryInRange y) (same_Some x e eq) (t.parts ∙ append-nil (entry_bytes x), t.fits)
whole_taken-of all (Some (x, b ∷ bytes)) e are is eq = absurd cc

-- what is decoded has these bytes
pub whole_taken : (all : List ℕ) (e : Entry) → AreBytes all → decode_all all ≡ Some e → (all ≡ entry_bytes e) × EntryInRange e
whole_taken all e are eq = whole_taken-of all (decode_entry all) e are refl eq

-- the bytes of an entry are decoded as it alone
pub decoded_as : (all : List ℕ) (decoded entry : Entry) → decode_all all ≡ Some decoded → EntryInRange entry → all ≡ entry_bytes entry → decoded ≡ entry
decoded_as all decoded entry is fits e = same_Some decoded entry (sym is ∙ ap decode_all e ∙ whole_again entry fits)

-- malformed bytes are those of no entry
pub encodes_none : (all : List ℕ) (error : DecodeError) → error ≡ errors.Malformed → Fails error (decode_all all) → EncodesNoEntry all
encodes_none all error malformed fails entry fits e =
    let none : decode_all all ≡ None = subst (λ error. Fails error (decode_all all)) malformed fails in
    let found = sym none ∙ ap decode_all e ∙ whole_again entry fits in
    absurd cc
