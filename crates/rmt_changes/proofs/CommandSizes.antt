-- The checked form of a small command is as small.
use Rattle.std.proofs.Common.{◌≡◌, ◌∙◌, ℕ, ◌+◌, ◌≤◌, ◌<◌, ◌^◌, ◌||◌, Bool, true, false, cond, List, [], ◌∷◌, length, Option, Some, None, refl, sym, ap, arith}
use Rattle.std.proofs.lemmas.List.{length-map}
use Rattle.std.specs.Str.{bytes_eq}
use Rattle.std.specs.Option.{option_or, option_map}
use Rattle.std.specs.Cmp.Lexicographic.{same_text, other_text}
use Rattle.rmt_values.specs.declared.column.Column.{Column}
use Rattle.rmt_values.specs.declared.right.Right.{Right}
use Rattle.rmt_values.specs.declared.filter.Filter.{Filter}
use Rattle.rmt_values.specs.declared.mutation.Mutation.{Mutation}
use Rattle.rmt_values.specs.declared.mutation.Mutation.TheVariants as command
use Rattle.rmt_values.specs.declared.checked.Checked.{Checked}
use Rattle.rmt_values.specs.declared.checked_right.CheckedRight.{CheckedRight}
use Rattle.rmt_values.specs.declared.checked_mutation.CheckedMutation.{CheckedMutation}
use Rattle.rmt_values.specs.declared.checked_mutation.CheckedMutation.TheVariants.{Update, Delete}
use Rattle.rmt_values.specs.Rows.{Shape, place_from}
use Rattle.rmt_values.specs.Schemas.{names_of, has_name, first_double, IsSchema}
use Rattle.rmt_entries.specs.EntryBytes.{depth}
use Rattle.rmt_expr.specs.Checks.{checked_of}
use Rattle.rmt_expr.specs.Checks.{unknown_in, type_error_in}
use Rattle.rmt_expr.specs.Mutations.{IsCheckedMutation, AreSets, lefts, unknown_in_sets, type_error_in_sets, fixed_in_sets, update_refusal, mutation_refusal}
use Rattle.rmt_expr.specs.declared.mutation_error.MutationError.TheVariants as refusal
use Rattle.rmt_expr.specs.Sizes.{nesting, IsSmallCommand}
use Rattle.rmt_changes.proofs.Depths.{as_deep}

-- an UPDATE sets from 1 to 65,535 columns, and its filter nests at most 512 deep, as an entry holds them
pub record IsSmallUpdate (sets : List (ℕ × CheckedRight)) (filter : Checked) : Type 0 where
  pub at_least_1 : 1 ≤ length sets
  pub few : length sets < 2 ^ 16
  pub deep : depth filter ≤ 512

-- the checked command is small
abbrev pub IsSmall : CheckedMutation → Type 0
IsSmall (Update sets filter) = IsSmallUpdate sets filter
IsSmall (Delete filter) = depth filter ≤ 512

-- an UPDATE has as many sets in its checked form
as_many : (shape : Shape) (xs : List (List ℕ × Right)) (ts : List (ℕ × CheckedRight)) → AreSets shape xs ts → length xs ≡ length ts
as_many shape [] [] h = refl
as_many shape [] (t ∷ ts) h = absurd h
as_many shape (x ∷ xs) [] h = absurd h
as_many shape (x ∷ xs) (t ∷ ts) h = let rest = as_many shape xs ts h.1 in omega (arith, rest)

-- ---- an UPDATE that isn't refused sets no more columns than there are

-- the names without the first that is n
abbrev without : List (List ℕ) → List ℕ → List (List ℕ)
without [] n = []
without (m ∷ ms) n = cond (bytes_eq m n) ms (m ∷ without ms n)

-- they are one less
one-less : (ms : List (List ℕ)) (n : List ℕ) → has_name ms n ≡ true → length ms ≡ 1 + length (without ms n)
one-less [] n h = absurd (cc)
one-less (m ∷ ms) n h = go (bytes_eq m n) h (one-less ms n)
  where
    go : (b : Bool) → (b || has_name ms n) ≡ true → (has_name ms n ≡ true → length ms ≡ 1 + length (without ms n)) → length (m ∷ ms) ≡ 1 + length (cond b ms (m ∷ without ms n))
    go true k f = omega arith
    go false k f = let l = f k in omega (arith, l)

-- another name is there still
other-there : (ms : List (List ℕ)) (n k : List ℕ) → (n ≡ k → ⊥) → has_name ms k ≡ true → has_name (without ms n) k ≡ true
other-there [] n k d h = absurd (cc)
other-there (m ∷ ms) n k d h = go (bytes_eq m n) refl (bytes_eq m k) refl h (other-there ms n k d)
  where
    go : (a : Bool) → a ≡ bytes_eq m n → (b : Bool) → b ≡ bytes_eq m k → (b || has_name ms k) ≡ true → (has_name ms k ≡ true → has_name (without ms n) k ≡ true) → has_name (cond a ms (m ∷ without ms n)) k ≡ true
    go true p true q l f = absurd (d (sym (same_text m n p) ∙ same_text m k q))
    go true p false q l f = l
    go false p true q l f = ap (λ (c : Bool). c || has_name (without ms n) k) (sym q)
    go false p false q l f = ap (λ (c : Bool). c || has_name (without ms n) k) (sym q) ∙ f l

-- each of some names is among the others
abbrev AllThere : List (List ℕ) → List (List ℕ) → Type 0
AllThere ms [] = Unit {0}
AllThere ms (n ∷ ns) = (has_name ms n ≡ true) × AllThere ms ns

-- each of them is still, where none is the one that goes
all-other : (ms : List (List ℕ)) (n : List ℕ) (ns : List (List ℕ)) → has_name ns n ≡ false → AllThere ms ns → AllThere (without ms n) ns
all-other ms n [] h a = tt
all-other ms n (m ∷ ns) h a = go (bytes_eq m n) refl h (λ k. all-other ms n ns k a.1)
  where
    go : (b : Bool) → b ≡ bytes_eq m n → (b || has_name ns n) ≡ false → (has_name ns n ≡ false → AllThere (without ms n) ns) → AllThere (without ms n) (m ∷ ns)
    go true p k f = absurd (cc)
    go false p k f = (other-there ms n m (λ e. other_text m n p (sym e)) a.0, f k)

-- no name comes twice, neither the first nor another one
once : (n : List ℕ) (ns : List (List ℕ)) → first_double (n ∷ ns) ≡ None → (has_name ns n ≡ false) × (first_double ns ≡ None)
once n ns h = go (has_name ns n) refl h
  where
    go : (b : Bool) → has_name ns n ≡ b → cond b (Some n) (first_double ns) ≡ None → (has_name ns n ≡ false) × (first_double ns ≡ None)
    go true p k = absurd (cc)
    go false p k = (p, k)

-- such names are no more than those that they are among
few-names : (ns ms : List (List ℕ)) → first_double ns ≡ None → AllThere ms ns → length ns ≤ length ms
few-names [] ms d a = omega arith
few-names (n ∷ ns) ms d a =
    let o = once n ns d in
    let l = one-less ms n a.0 in
    let r = few-names ns (without ms n) o.1 (all-other ms n ns o.0 a.1) in
    omega (arith, l, r)

-- a column that has a place has a name
place-named : (i : ℕ) (cs : List Column) (n : List ℕ) (p : ℕ) → place_from i cs n ≡ Some p → has_name (names_of cs) n ≡ true
place-named i [] n p e = absurd (cc)
place-named i (c ∷ cs) n p e = go (bytes_eq c.name n) e (place-named (i + 1) cs n p)
  where
    go : (b : Bool) → cond b (Some i) (place_from (i + 1) cs n) ≡ Some p → (place_from (i + 1) cs n ≡ Some p → has_name (names_of cs) n ≡ true) → (b || has_name (names_of cs) n) ≡ true
    go true k f = refl
    go false k f = f k

-- each column that is set is one of the table
lefts-there : (shape : Shape) (xs : List (List ℕ × Right)) (ts : List (ℕ × CheckedRight)) → AreSets shape xs ts → AllThere (names_of shape.columns) (lefts xs)
lefts-there shape [] ts h = tt
lefts-there shape (x ∷ xs) [] h = absurd h
lefts-there shape (x ∷ xs) (t ∷ ts) h = (place-named 0 shape.columns x.0 t.0 h.0.column.there, lefts-there shape xs ts h.1)

-- there are as many as there are sets
as-many-lefts : (xs : List (List ℕ × Right)) → length (lefts xs) ≡ length xs
as-many-lefts [] = refl
as-many-lefts (x ∷ xs) = let l = as-many-lefts xs in omega (arith, l)

-- neither of two is there
neither : {X : Type 0} (a b : Option X) → option_or a b ≡ None → (a ≡ None) × (b ≡ None)
neither None b h = (refl, h)
neither (Some x) b h = absurd (cc)

-- what is nothing once mapped was nothing
unmapped : {X Y : Type 0} (f : X → Y) (a : Option X) → option_map f a ≡ None → a ≡ None
unmapped f None h = refl
unmapped f (Some x) h = absurd (cc)

-- an UPDATE that isn't refused sets no column twice
not-double : (shape : Shape) (xs : List (List ℕ × Right)) (f : Filter) → mutation_refusal shape (command.Update xs f) ≡ None → first_double (lefts xs) ≡ None
unfolding update_refusal
not-double shape xs f q =
    let unknown = option_map (λ n. refusal.UnknownColumn n) (option_or (unknown_in_sets shape xs) (unknown_in shape f)) in
    let wrong = option_or (option_map (λ n. refusal.WrongType n) (option_or (type_error_in_sets shape xs) (type_error_in shape f))) (option_map (λ n. refusal.KeyColumn n) (fixed_in_sets shape xs)) in
    let double = option_map (λ n. refusal.DoubleColumn n) (first_double (lefts xs)) in
    unmapped (λ n. refusal.DoubleColumn n) (first_double (lefts xs)) (neither double wrong (neither unknown (option_or double wrong) q).1).0

-- an UPDATE that isn't refused sets at most 64 columns
few-sets : (shape : Shape) (xs : List (List ℕ × Right)) (f : Filter) (ts : List (ℕ × CheckedRight)) → IsSchema shape → mutation_refusal shape (command.Update xs f) ≡ None → AreSets shape xs ts → length xs ≤ 64
few-sets shape xs f ts s q h =
    let twice = not-double shape xs f q in
    let few = few-names (lefts xs) (names_of shape.columns) twice (lefts-there shape xs ts h) in
    let many = as-many-lefts xs in
    let names : length (names_of shape.columns) ≡ length shape.columns = length-map shape.columns (λ c. c.name) in
    let most = s.few_columns in
    omega (arith, few, many, names, most)

-- ---- small commands

deep_of : (shape : Shape) (f : Filter) (c : Checked) → checked_of shape f ≡ Some c → nesting f ≤ 512 → depth c ≤ 512
deep_of shape f c e small = omega (arith, as_deep shape f c e, small)

pub small_of : (shape : Shape) (m : Mutation) (c : CheckedMutation) → IsCheckedMutation shape m c → IsSmallCommand 512 m → IsSchema shape → mutation_refusal shape m ≡ None → IsSmall c
small_of shape (command.Update xs f) (Update ts c) h small s q =
    let many = as_many shape xs ts h.0 in
    let few = few-sets shape xs f ts s q h.0 in
    record {
      at_least_1 = omega (arith, many, small.0);
      few = omega (arith, many, few);
      deep = deep_of shape f c h.1 small.1;
    }
small_of shape (command.Update xs f) (Delete c) h small s q = absurd h
small_of shape (command.Delete f) (Update ts c) h small s q = absurd h
small_of shape (command.Delete f) (Delete c) h small s q = deep_of shape f c h small
