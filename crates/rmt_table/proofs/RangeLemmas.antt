-- What makes an entry one in range, kind by kind: then it has an encoding.
use Rattle.std.proofs.Common.{◌≡◌, ℕ, ◌<◌, ◌≤◌, ◌^◌, inl, inr, ◌&&◌, Bool, true, List, [], ◌∷◌, length, refl, ap, arith, ◌∙◌, nat_lt}
use Rattle.std.proofs.lemmas.Bool.Decides.{nat_tests}
use Rattle.std.proofs.lemmas.List.Elements.{recursion_from_All}
use Rattle.std.specs.Prelude.{IfSome}
use Rattle.std.specs.List.{AllByRecursion}
use Rattle.std.specs.declared.option.Option.{Option}
use Rattle.rmt_values.specs.declared.checked_mutation.CheckedMutation.{CheckedMutation}
use Rattle.rmt_names.specs.Names.{Name, IsName, rank}
use Rattle.rmt_block.specs.Blocks.{IsId}
use Rattle.rmt_entries.specs.declared.entry.Entry.TheVariants.{Get, Merge, Mutate, Mutation}
use Rattle.rmt_entries.specs.EntryBytes.{BlockNumberInRange, CommandInRange, rises, EntryInRange}
use Rattle.rmt_model.specs.Words.{Has}
use Rattle.rmt_history.specs.Mutations.{AreInOrder}

-- what holds of each element, by recursion
all-of : {A : Type 0} (P : A → Type 0) (xs : List A) → ((x : A) → Has xs x → P x) → AllByRecursion P xs
all-of P [] f = tt
all-of P (x ∷ xs) f = (f x (inl refl), all-of P xs (λ y h. f y (inr h)))

-- partitions in order rise
pub order-rises : (xs : List (Option ℕ × ℕ)) → AreInOrder xs → rises xs ≡ true
order-rises [] r = refl
order-rises (x ∷ []) r = refl
order-rises (x ∷ y ∷ ys) r =
    let l = r.0.0 in
    let t : nat_lt (rank x.0) (rank y.0) ≡ true = grind (arith, nat_tests) in
    ap (λ (b : Bool). b && rises (y ∷ ys)) t ∙ order-rises (y ∷ ys) r.1

pub get-in-range : (p : Option ℕ) (n : ℕ) (digest : List ℕ) (source need : ℕ) → IsId (record { partition = p; digest = digest }) → n < 2 ^ 32 → 1 ≤ source → source ≤ 8 → need ≤ 8 → ¬ (need ≡ 1) → EntryInRange (Get p n digest source need)
get-in-range p n digest source need id fits from to most not_1 =
    record {
      block_in_range = (id.partition, fits);
      digest_length = id.size;
      digest_bytes = recursion_from_All (λ b. b < 256) digest id.bytes;
      source_from_1 = from;
      source_to_8 = to;
      need_to_8 = most;
      need_not_1 = not_1;
    }

pub mutation-in-range : (id : ℕ) (numbers : List (Option ℕ × ℕ)) (command : CheckedMutation) → id < 2 ^ 32 → length numbers ≤ 1024 → AreInOrder numbers
    → ((p : Option ℕ) (m : ℕ) → Has numbers (p, m) → IfSome p (λ q. q < 2 ^ 64)) → ((p : Option ℕ) (m : ℕ) → Has numbers (p, m) → m < 2 ^ 32)
    → CommandInRange command → EntryInRange (Mutation id numbers command)
mutation-in-range id numbers command fits few order widths small in_range =
    record {
      id_fits = fits;
      few = omega (arith, few);
      numbers_in_range = all-of BlockNumberInRange numbers (λ x h. (widths x.0 x.1 h, small x.0 x.1 h));
      rising = order-rises numbers order;
      command_in_range = in_range;
    }

pub merge-in-range : (new : Name) (sources : List Name) (count : ℕ) → IsName new → ((a : Name) → Has sources a → IsName a) → count < 2 ^ 32 → 2 ≤ length sources → length sources ≤ 32768 → EntryInRange (Merge new sources count)
merge-in-range new sources count name names fits two most =
    record { new_is_name = name; count_fits = fits; sources_are_names = all-of IsName sources names; at_least_2 = two; at_most_32768 = most }

pub mutate-in-range : (old new : Name) (upto count mcount : ℕ) → IsName old → IsName new → upto < 2 ^ 32 → count < 2 ^ 32 → mcount < 2 ^ 32 → EntryInRange (Mutate old new upto count mcount)
mutate-in-range old new upto count mcount o n u c m = record { old_is_name = o; new_is_name = n; upto_fits = u; count_fits = c; mcount_fits = m }
