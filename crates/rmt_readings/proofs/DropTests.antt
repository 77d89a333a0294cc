-- Whether a drop takes one of the names in order away.
use Rattle.std.proofs.Common.{◌≡◌, ℕ, ◌+◌, ◌||◌, Bool, true, false, cond, not, List, [], ◌∷◌, refl, sym, ap, arith, ◌∙◌, nat_lt}
use Rattle.std.proofs.lemmas.Bool.Decides.{nat_tests}
use Rattle.std.specs.List.{list_any, prefix_len}
use Rattle.std.specs.declared.option.Option.{Option}
use Rattle.std.specs.declared.option.Option.TheVariants.{None}
use Rattle.rmt_names.specs.Names.{Name, rank}
use Rattle.rmt_entries.specs.Entries.{result_name}
use Rattle.rmt_entries.specs.declared.entry.Entry.{Entry}
use Rattle.rmt_entries.specs.declared.entry.Entry.TheVariants.{Get, Merge, Mutate, Mutation, DropRange}
use Rattle.rmt_model.specs.Words.{Each}
use Rattle.rmt_model.specs.Live.{TakesAway, in_drop}
use Rattle.rmt_model.proofs.Lists.{rank-injective}
use Rattle.rmt_nameset.proofs.Ranges.{Downward, all-fail}
use Rattle.rmt_nameset.proofs.Placing.{is_earlier, is_up_to}
use Rattle.rmt_partset.specs.Snapshots.{NamedData, names_in}
use Rattle.rmt_partset.proofs.PartLists.{Pairwise-along, prefix-along}
use Rattle.rmt_readings.specs.Checks.{takes}

-- a test of names parts named parts as it parts the names
pub down-named : (test : Name → Bool) (parts : List NamedData) → Downward test (names_in parts) → Downward (λ p. test p.name) parts
down-named test parts d = Pairwise-along (λ (p : NamedData). p.name) (λ a b. test b ≡ true → test a ≡ true) parts d

pub prefix-named : (test : Name → Bool) (parts : List NamedData) → prefix_len (λ (p : NamedData). test p.name) parts ≡ prefix_len test (names_in parts)
prefix-named test parts = prefix-along (λ (p : NamedData). p.name) test parts

-- of names none of which is up to the number none is in the drop
none-in : (p : Option ℕ) (n : ℕ) (xs : List Name) → Each (λ a. is_up_to p n a ≡ false) xs → list_any (in_drop p n) xs ≡ false
none-in p n [] e = refl
none-in p n (z ∷ xs) e =
    let f : in_drop p n z ≡ false = grind (arith, nat_tests, e.0) in
    ap (λ b. b || list_any (in_drop p n) xs) f ∙ none-in p n xs e.1

-- a drop takes a name away where more lie up to its number than in earlier partitions
pub any-dropped : (p : Option ℕ) (n : ℕ) (xs : List Name) → Downward (is_up_to p n) xs → nat_lt (prefix_len (is_earlier p) xs) (prefix_len (is_up_to p n) xs) ≡ list_any (in_drop p n) xs
any-dropped p n [] d = refl
any-dropped p n (z ∷ xs) d = go (is_earlier p z) (is_up_to p n z) (in_drop p n z) refl refl refl (any-dropped p n xs d.1)
  where
    j : ℕ
    j = prefix_len (is_earlier p) xs

    k : ℕ
    k = prefix_len (is_up_to p n) xs

    go : (b t i : Bool) → is_earlier p z ≡ b → is_up_to p n z ≡ t → in_drop p n z ≡ i → nat_lt j k ≡ list_any (in_drop p n) xs → nat_lt (cond b (1 + j) 0) (cond t (1 + k) 0) ≡ (i || list_any (in_drop p n) xs)
    go true true false e f g h = grind (arith, nat_tests, h)
    go false true true e f g h = grind (arith, nat_tests)
    go false false false e f g h = sym (none-in p n xs (all-fail (is_up_to p n) z xs d.0 f))
    go true true true e f g h = absurd (grind (arith, nat_tests))
    go true false i e f g h = absurd (grind (arith, nat_tests))
    go false true false e f g h = absurd (grind (arith, nat_tests))
    go false false true e f g h = absurd (grind (arith, nat_tests))

-- ---- tests and facts

takes-true : (e : Entry) (a : Name) → takes e a ≡ true → TakesAway e a
takes-true (DropRange p n) a t =
    let r : rank p ≡ rank a.partition = grind (arith, nat_tests) in
    (rank-injective p a.partition r, grind (arith, nat_tests))
takes-true (Get p n digest source need) a t = absurd (cc)
takes-true (Merge new sources count) a t = absurd (cc)
takes-true (Mutate old new upto count mcount) a t = absurd (cc)
takes-true (Mutation id numbers command) a t = absurd (cc)

takes-false : (e : Entry) (a : Name) → takes e a ≡ false → TakesAway e a → ⊥
takes-false (DropRange p n) a t k =
    let r : rank p ≡ rank a.partition = ap rank k.0 in
    let m = k.1 in
    absurd (grind (arith, nat_tests))
takes-false (Get p n digest source need) a t k = k
takes-false (Merge new sources count) a t k = k
takes-false (Mutate old new upto count mcount) a t k = k
takes-false (Mutation id numbers command) a t k = k

-- where the test finds none, the entry takes none away
pub none-taken : (e : Entry) (names : List Name) → not (list_any (takes e) names) ≡ true → Each (λ a. TakesAway e a → ⊥) names
none-taken e [] q = tt
none-taken e (z ∷ names) q = go (takes e z) refl q (none-taken e names)
  where
    go : (b : Bool) → takes e z ≡ b → not (b || list_any (takes e) names) ≡ true → (not (list_any (takes e) names) ≡ true → Each (λ a. TakesAway e a → ⊥) names) → Each (λ a. TakesAway e a → ⊥) (z ∷ names)
    go true t q f = absurd (cc)
    go false t q f = (takes-false e z t, f q)

-- and where it finds one, the entry takes one away
pub one-taken : (e : Entry) (names : List Name) → not (list_any (takes e) names) ≡ false → Each (λ a. TakesAway e a → ⊥) names → ⊥
one-taken e [] q k = absurd (cc)
one-taken e (z ∷ names) q k = go (takes e z) refl q (λ r. one-taken e names r k.1)
  where
    go : (b : Bool) → takes e z ≡ b → not (b || list_any (takes e) names) ≡ false → (not (list_any (takes e) names) ≡ false → ⊥) → ⊥
    go true t q f = k.0 (takes-true e z t)
    go false t q f = f q

-- an entry that makes no part and is no drop takes none away
pub mutation-keeps : (names : List Name) (e : Entry) → result_name e ≡ None → ((p : Option ℕ) (n : ℕ) → e ≡ DropRange p n → ⊥) → true ≡ not (list_any (takes e) names)
mutation-keeps names e q d = ap not (sym (none e names q d))
  where
    none : (e : Entry) (names : List Name) → result_name e ≡ None → ((p : Option ℕ) (n : ℕ) → e ≡ DropRange p n → ⊥) → list_any (takes e) names ≡ false
    none e [] q d = refl
    none (Mutation id numbers command) (z ∷ names) q d = none (Mutation id numbers command) names q d
    none (DropRange p n) (z ∷ names) q d = absurd (d p n refl)
    none (Get p n digest source need) (z ∷ names) q d = absurd (cc)
    none (Merge new sources count) (z ∷ names) q d = absurd (cc)
    none (Mutate old new upto count mcount) (z ∷ names) q d = absurd (cc)
