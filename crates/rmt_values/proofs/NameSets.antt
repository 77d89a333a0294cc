-- Names of a list, and the set of those that a walk met.
use Rattle.std.proofs.Common.{◌≡◌, ◌∙◌, ℕ, zero, suc, ◌≤◌, ◌-◌, Bool, true, false, cond, not, ◌||◌, List, [], ◌∷◌, ◌++◌, length, take, get_or, map, Option, Some, option_map, refl, sym, ap, ap₂, arith, append_assoc, bytes_eq, Bor}
use Rattle.std.specs.Cmp.Lexicographic.{slice_cmp}
use Rattle.std.specs.Ordering.{nat_cmp}
use Rattle.std.specs.BTreeSet.{BTreeSet, contains, Updates}
use Rattle.std.proofs.lemmas.Map.Text.{is_eq-slice_cmp}
use Rattle.rmt_values.specs.Schemas.{has_name, first_double}
use Rattle.rmt_values.specs.NameSets.{HasNames}

-- the names after the rest: the set has them, and which is the first of them that comes again
pub record IsWalked (names rest : List (Bor (List ℕ))) (later : BTreeSet (Bor (List ℕ))) (double : Option (Bor (List ℕ))) : Type 0 where
  pub after : List (Bor (List ℕ))
  pub parts : rest ++ after ≡ names
  pub has : HasNames (map (λ n. n.now) after) later
  pub first : option_map (λ n. n.now) double ≡ first_double (map (λ n. n.now) after)

-- all but the last name, and the last one
all_but_last : {A : Type 0} (n : ℕ) (xs : List A) (x : A) → length xs ≡ suc n → x ≡ get_or xs n x → take n xs ++ x ∷ [] ≡ xs
all_but_last n [] x long last = absurd (omega (arith, long))
all_but_last zero (y ∷ []) x long last = ap (λ z. z ∷ []) last
all_but_last zero (y ∷ z ∷ zs) x long last = absurd (omega (arith, long))
all_but_last (suc n) (y ∷ ys) x long last = ap (λ zs. y ∷ zs) (all_but_last n ys x (omega (arith, long)) last)

one_more : (names rest : List (Bor (List ℕ))) (last : Bor (List ℕ)) (after : List (Bor (List ℕ))) → 1 ≤ length rest → last ≡ get_or rest (length rest - 1) last
    → rest ++ after ≡ names → take (length rest - 1) rest ++ last ∷ after ≡ names
one_more names rest last after some is parts =
    sym (append_assoc (take (length rest - 1) rest) (last ∷ []) after) ∙ ap (λ ws. ws ++ after) (all_but_last (length rest - 1) rest last (omega (arith, some)) is) ∙ parts

-- a name that comes to the set precedes the later ones
has_more : (later more : BTreeSet (Bor (List ℕ))) (key last : Bor (List ℕ)) (after : List (List ℕ)) → key.now ≡ last.now
    → Updates (λ x y. slice_cmp nat_cmp x.now y.now) later more key true
    → HasNames after later → HasNames (last.now ∷ after) more
has_more later more key last after same updates has q =
    updates.0 q ∙ ap₂ (λ b c. cond b true c) (is_eq-slice_cmp key.now q.now ∙ ap (λ k. bytes_eq k q.now) same) (has q) ∙ or_cond (bytes_eq last.now q.now) (has_name after q.now)
  where
    or_cond : (b c : Bool) → cond b true c ≡ (b || c)
    or_cond true c = refl
    or_cond false c = refl

-- the last name is among the later ones: it is the first that comes again
pub walked_again : (names rest : List (Bor (List ℕ))) (later more : BTreeSet (Bor (List ℕ))) (double : Option (Bor (List ℕ))) (key last : Bor (List ℕ)) → IsWalked names rest later double
    → 1 ≤ length rest → last ≡ get_or rest (length rest - 1) last → key.now ≡ last.now
    → Updates (λ x y. slice_cmp nat_cmp x.now y.now) later more key true
    → false ≡ not (contains (λ x y. slice_cmp nat_cmp x.now y.now) later key)
    → IsWalked names (take (length rest - 1) rest) more (Some last)
walked_again names rest later more double key last is some at same updates added =
    record {
      after = last ∷ is.after;
      parts = one_more names rest last is.after some at is.parts;
      has = has_more later more key last (map (λ n. n.now) is.after) same updates is.has;
      first = sym (ap (λ b. cond b (Some last.now) (first_double (map (λ n. n.now) is.after))) (ap (λ k. has_name (map (λ n. n.now) is.after) k) (sym same) ∙ sym (is.has key) ∙ not_false _ added));
    }
  where
    not_false : (b : Bool) → false ≡ not b → b ≡ true
    not_false true e = refl
    not_false false e = absurd cc

-- the last name is new: the first that comes again stays
pub walked_new : (names rest : List (Bor (List ℕ))) (later more : BTreeSet (Bor (List ℕ))) (double : Option (Bor (List ℕ))) (key last : Bor (List ℕ)) → IsWalked names rest later double
    → 1 ≤ length rest → last ≡ get_or rest (length rest - 1) last → key.now ≡ last.now
    → Updates (λ x y. slice_cmp nat_cmp x.now y.now) later more key true
    → true ≡ not (contains (λ x y. slice_cmp nat_cmp x.now y.now) later key)
    → IsWalked names (take (length rest - 1) rest) more double
walked_new names rest later more double key last is some at same updates added =
    record {
      after = last ∷ is.after;
      parts = one_more names rest last is.after some at is.parts;
      has = has_more later more key last (map (λ n. n.now) is.after) same updates is.has;
      first = is.first ∙ sym (ap (λ b. cond b (Some last.now) (first_double (map (λ n. n.now) is.after))) (ap (λ k. has_name (map (λ n. n.now) is.after) k) (sym same) ∙ sym (is.has key) ∙ not_true _ added));
    }
  where
    not_true : (b : Bool) → true ≡ not b → b ≡ false
    not_true false e = refl
    not_true true e = absurd cc

-- the set has the names that were walked: with those of the rest they are all
abbrev pub HasEarlier : List (List ℕ) → List (List ℕ) → BTreeSet (Bor (List ℕ)) → Type 0
HasEarlier all rest set =
    (q : Bor (List ℕ)) → (contains (λ x y. slice_cmp nat_cmp x.now y.now) set q || has_name rest q.now) ≡ has_name all q.now

-- one name more is walked
pub has_earlier : (all rest : List (List ℕ)) (name : List ℕ) (set more : BTreeSet (Bor (List ℕ))) (key : Bor (List ℕ)) → key.now ≡ name
    → Updates (λ x y. slice_cmp nat_cmp x.now y.now) set more key true → HasEarlier all (name ∷ rest) set → HasEarlier all rest more
has_earlier all rest name set more key same updates has q =
    ap (λ b. b || has_name rest q.now) (updates.0 q ∙ ap (λ b. cond b true (contains (λ x y. slice_cmp nat_cmp x.now y.now) set q)) (is_eq-slice_cmp key.now q.now ∙ ap (λ k. bytes_eq k q.now) same))
    ∙ moved (bytes_eq name q.now) (contains (λ x y. slice_cmp nat_cmp x.now y.now) set q) (has_name rest q.now) ∙ has q
  where
    moved : (b c d : Bool) → (cond b true c || d) ≡ (c || (b || d))
    moved true true d = refl
    moved true false d = refl
    moved false c d = refl

-- all are walked
pub has_all : (all : List (List ℕ)) (set : BTreeSet (Bor (List ℕ))) → HasEarlier all [] set → HasNames all set
has_all all set has q = sym (or_false _) ∙ has q
  where
    or_false : (b : Bool) → (b || false) ≡ b
    or_false true = refl
    or_false false = refl
