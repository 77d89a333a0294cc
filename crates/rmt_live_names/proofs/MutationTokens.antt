-- The tokens of a copy's mutations: that of an id is at the index of the same number.
use Rattle.std.proofs.Common.{◌≡◌, ℕ, zero, suc, ◌+◌, ◌<◌, ◌≤◌, Bool, true, nat_lt, List, [], ◌∷◌, ◌++◌, map, filter, length, inl, inr, refl, sym, ap, subst, arith, ◌∙◌}
use Rattle.std.proofs.lemmas.Bool.Decides.{nat_tests}
use Rattle.std.proofs.lemmas.List.{length-append, length-map, length-reverse, reverse-append}
use Rattle.std.specs.List.{All}
use Rattle.std.specs.Prelude.{slice_get}
use Rattle.std.specs.declared.option.Option.TheVariants.{Some}
use Rattle.rmt_values.specs.Rows.{Shape}
use Rattle.rmt_entries.specs.declared.entry.Entry.{Entry}
use Rattle.rmt_row.specs.Token.{Token}
use Rattle.rmt_changes.specs.Changes.{entries_of}
use Rattle.rmt_changes.specs.Laws.{EntryFits}
use Rattle.rmt_history.specs.Copies.{History}
use Rattle.rmt_history.specs.Mutations.{IsTokenBelow, first_entries, mutations_below}
use Rattle.rmt_model.specs.Words.{Has, Each}
use Rattle.rmt_model.specs.Lawful.{Lawful, is_mutation, mutation_count}
use Rattle.rmt_model.proofs.Drops.{some-same}
use Rattle.rmt_model.proofs.Lists.{Each-at, Each-all, Has-filter}
use Rattle.rmt_statement_model.proofs.MutationIds.{IsMutationOf, CountsDown, counted-down}
use Rattle.rmt_statement_model.proofs.ReadLaws.{entries-fit}
use Rattle.rmt_live_names.specs.Places.{IsPlaceOf}

-- ---- all of a log

-- all places are below the length
whole-first : (log : List Entry) (i : ℕ) → length log ≤ i → first_entries log i ≡ log
whole-first [] i h = refl
whole-first (x ∷ log) i h = rw (below (length log) i (omega (arith, h))) refl
  where
    below : (k n : ℕ) → k < n → nat_lt k n ≡ true
    below k n l = grind (arith, nat_tests)

pub all-below : (log : List Entry) → mutations_below log (length log) ≡ filter is_mutation log
all-below log = ap (filter is_mutation) (whole-first log (length log) (omega arith))

-- ---- the tokens of the mutations

-- both sides
Each-split : {A : Type 0} (P : A → Type 0) (xs ys : List A) → Each P (xs ++ ys) → Each P xs × Each P ys
Each-split P [] ys e = (tt, e)
Each-split P (x ∷ xs) ys e = let r = Each-split P xs ys e.1 in ((e.0, r.0), r.1)

Each-tokens : (P : Entry → Type 0) (tokens : List (Token Entry)) → Each P (entries_of tokens) → Each (λ t. P t.value) tokens
Each-tokens P [] e = tt
Each-tokens P (t ∷ tokens) e =
    let r = Each-split P (entries_of tokens) (t.value ∷ []) (subst (Each P) (reverse-append (t.value ∷ []) (map (λ (x : Token Entry). x.value) tokens)) e) in
    (r.1.0, Each-tokens P tokens r.0)

Each-filter : {A : Type 0} (P : A → Type 0) (test : A → Bool) (xs : List A) → Each P xs → Each P (filter test xs)
Each-filter P test xs e = Each-all P (filter test xs) (λ x h. Each-at P xs x e (Has-filter test xs x h).0)

All-each : {A : Type 0} (P : A → Type 0) (xs : List A) → Each P xs → All P xs
All-each P [] e k d l = absurd (omega (arith, l))
All-each P (x ∷ xs) e zero d l = e.0
All-each P (x ∷ xs) e (suc k) d l = All-each P xs e.1 k d (omega (arith, l))

-- each token's entry fits, where all entries do
pub tokens-fit : (schema : Shape) (log : List Entry) (tokens : List (Token Entry)) → Lawful schema log → entries_of tokens ≡ filter is_mutation log → All (λ token. EntryFits schema token.value) tokens
tokens-fit schema log tokens l e =
    All-each (λ (t : Token Entry). EntryFits schema t.value) tokens
    (Each-tokens (EntryFits schema) tokens (subst (Each (EntryFits schema)) (sym e) (Each-filter (EntryFits schema) is_mutation log (entries-fit schema log l))))

-- ---- by their ids

-- the last of entries that count down is the mutation of the least id
down-last : (k : ℕ) (es : List Entry) (y : Entry) → CountsDown k (es ++ y ∷ []) → IsMutationOf k y × CountsDown (k + 1) es
down-last k [] y c = (subst (λ (n : ℕ). IsMutationOf n y) (omega arith) c.0, tt)
down-last k (e ∷ es) y c =
    let r = down-last k es y c.1 in
    let l = length-append es (y ∷ []) in
    (r.0, (subst (λ (n : ℕ). IsMutationOf n e) (omega (arith, l)) c.0, r.1))

-- what stands at an index is one of all
has-at : (tokens : List (Token Entry)) (i : ℕ) (t : Token Entry) → slice_get tokens i ≡ Some t → Has tokens t
has-at [] i t e = absurd (cc)
has-at (x ∷ tokens) zero t e = inl (some-same x t e)
has-at (x ∷ tokens) (suc i) t e = inr (has-at tokens i t e)

-- the token at an index is of the mutation whose id is that much above the least
up-at : (tokens : List (Token Entry)) (k i : ℕ) (t : Token Entry) → CountsDown k (entries_of tokens) → slice_get tokens i ≡ Some t → IsMutationOf (k + i) t.value
up-at [] k i t c e = absurd (cc)
up-at (x ∷ tokens) k i t c e = go i e (down-last k (entries_of tokens) x.value (subst (CountsDown k) (reverse-append (x.value ∷ []) (map (λ (y : Token Entry). y.value) tokens)) c)) (λ j f r. up-at tokens (k + 1) j t r f)
  where
    go : (j : ℕ) → slice_get (x ∷ tokens) j ≡ Some t → IsMutationOf k x.value × CountsDown (k + 1) (entries_of tokens) → ((m : ℕ) → slice_get tokens m ≡ Some t → CountsDown (k + 1) (entries_of tokens) → IsMutationOf (k + 1 + m) t.value) → IsMutationOf (k + j) t.value
    go zero f r rest = subst (λ (n : ℕ). IsMutationOf n t.value) (omega arith) (subst (λ (y : Token Entry). IsMutationOf k y.value) (some-same x t f) r.0)
    go (suc j) f r rest = subst (λ (n : ℕ). IsMutationOf n t.value) (omega arith) (rest j f r.1)

-- how many there are
pub tokens-count : (schema : Shape) (log : List Entry) (tokens : List (Token Entry)) → Lawful schema log → entries_of tokens ≡ filter is_mutation log → length tokens ≡ mutation_count log
tokens-count schema log tokens l e =
    sym (length-map tokens (λ (y : Token Entry). y.value))
    ∙ (sym (length-reverse (map (λ (y : Token Entry). y.value) tokens)) ∙ (ap (λ (es : List Entry). length es) e ∙ (counted-down schema log l).1))

-- the token at the index of an id stands at the mutation's place
pub token-places : (copy : History) (end : ℕ) (tokens : List (Token Entry)) → Lawful copy.schema copy.log → entries_of tokens ≡ filter is_mutation copy.log → Each (IsTokenBelow copy end) tokens → (id : ℕ) (t : Token Entry) → slice_get tokens id ≡ Some t → IsPlaceOf copy.log id t.place
token-places copy end tokens l e f id t at =
    let m : IsMutationOf id t.value = subst (λ (n : ℕ). IsMutationOf n t.value) (omega arith) (up-at tokens 0 id t (subst (CountsDown 0) (sym e) (counted-down copy.schema copy.log l).0) at) in
    let s = Each-at (IsTokenBelow copy end) tokens t f (has-at tokens id t at) in
    (m.0, m.1, s.entry ∙ ap Some m.2)
