-- The mutations that are due, one token after the other, and that their commands alone change a row.
use Rattle.std.proofs.Common.{◌≡◌, ◌∙◌, ℕ, zero, suc, ◌+◌, ◌<◌, ◌≤◌, ◌||◌, Bool, true, false, cond, List, [], ◌∷◌, ◌++◌, length, filter, take, drop, get_or, refl, sym, ap, arith, append-nil, take_all}
use Rattle.std.proofs.lemmas.List.Elements.{filter_more}
use Rattle.std.specs.Option.{option_and_then}
use Rattle.std.specs.declared.option.Option.{Option}
use Rattle.std.specs.declared.option.Option.TheVariants.{Some, None}
use Rattle.rmt_entries.specs.declared.entry.Entry.{Entry}
use Rattle.rmt_entries.specs.declared.entry.Entry.TheVariants.{Get, Merge, Mutate, Mutation, DropRange}
use Rattle.rmt_row.specs.Token.{Token}
use Rattle.rmt_values.specs.Commands.{applied}
use Rattle.rmt_model.specs.Content.{Row, changed_by, changed}
use Rattle.rmt_history.specs.Mutations.{HasOrder, number_in}
use Rattle.rmt_history.proofs.NumberLemmas.{chosen-number, passes}
use Rattle.rmt_history.proofs.PlaceLemmas.{entries-filter}
use Rattle.rmt_changes.specs.Changes.{any_mutates, applied_all, applied_by, entries_of, mutates}

-- a mutation is due by its number in the partition
pub mutates-number : (e : Entry) (p : Option ℕ) (t : ℕ → Bool) → HasOrder e → mutates p t e ≡ passes t (number_in e p)
mutates-number (Mutation id numbers command) p t r = chosen-number numbers p t r
mutates-number (Get q n digest source need) p t r = refl
mutates-number (Merge new sources count) p t r = refl
mutates-number (Mutate old new upto count mcount) p t r = refl
mutates-number (DropRange q n) p t r = refl

-- ---- a list of what passes a test

pub kept-next : {X : Type 0} (test : X → Bool) (xs : List X) (i : ℕ) (x : X) (old new : List X) → x ≡ get_or xs i x → i < length xs → test x ≡ true
    → old ≡ filter test (take i xs) → new ≡ old ++ x ∷ [] → new ≡ filter test (take (i + 1) xs)
kept-next {X} test xs i x old new e h t f g =
    let one : cond (test (get_or xs i x)) (get_or xs i x ∷ []) [] ≡ x ∷ [] =
    ap (λ (y : X). cond (test y) (y ∷ []) []) (sym e) ∙ ap (λ (b : Bool). cond b (x ∷ []) []) t in
    g ∙ (ap (λ (l : List X). l ++ x ∷ []) f
    ∙ sym (filter_more test xs i x h ∙ ap (λ (l : List X). filter test (take i xs) ++ l) one))

pub passed-next : {X : Type 0} (test : X → Bool) (xs : List X) (i : ℕ) (x : X) (old : List X) → x ≡ get_or xs i x → i < length xs → test x ≡ false
    → old ≡ filter test (take i xs) → old ≡ filter test (take (i + 1) xs)
passed-next {X} test xs i x old e h t f =
    let none : cond (test (get_or xs i x)) (get_or xs i x ∷ []) [] ≡ [] =
    ap (λ (y : X). cond (test y) (y ∷ []) []) (sym e) ∙ ap (λ (b : Bool). cond b (x ∷ []) []) t in
    f ∙ sym (filter_more test xs i x h
    ∙ (ap (λ (l : List X). filter test (take i xs) ++ l) none ∙ append-nil (filter test (take i xs))))

pub kept-end : {X : Type 0} (test : X → Bool) (xs : List X) (i : ℕ) (all : List X) → length xs ≤ i → all ≡ filter test (take i xs) → all ≡ filter test xs
kept-end {X} test xs i all h f = f ∙ ap (filter test) (take_all i xs h)

-- ---- whether one is due

pub any-next : (p : Option ℕ) (t : ℕ → Bool) (tokens : List (Token Entry)) (i : ℕ) (x : Token Entry) → x ≡ get_or tokens i x → i < length tokens → mutates p t x.value ≡ false
    → any_mutates p t (drop i tokens) ≡ any_mutates p t (drop (i + 1) tokens)
any-next p t [] i x e h f = absurd (omega (arith, h))
any-next p t (y ∷ ys) zero x e h f = ap (λ (b : Bool). b || any_mutates p t ys) (ap (λ (z : Token Entry). mutates p t z.value) (sym e) ∙ f)
any-next p t (y ∷ ys) (suc i) x e h f = rw (let k : suc i + 1 ≡ suc (i + 1) = omega arith in k) (any-next p t ys i x e (omega (arith, h)) f)

pub any-end : (p : Option ℕ) (t : ℕ → Bool) (tokens : List (Token Entry)) (i : ℕ) → length tokens ≤ i → any_mutates p t (drop i tokens) ≡ false
any-end p t [] zero h = refl
any-end p t [] (suc i) h = refl
any-end p t (y ∷ ys) zero h = absurd (omega (arith, h))
any-end p t (y ∷ ys) (suc i) h = any-end p t ys i (omega (arith, h))

-- ---- a row after those that are due

-- what is no mutation with a number that passes changes no row
none-changes : (p : Option ℕ) (t : ℕ → Bool) (e : Entry) (row : Row) → mutates p t e ≡ false → changed_by e p t row ≡ Some row
none-changes p t (Mutation id numbers command) row h = ap (λ (b : Bool). cond b (applied command row) (Some row)) h
none-changes p t (Get q n digest source need) row h = refl
none-changes p t (Merge new sources count) row h = refl
none-changes p t (Mutate old new upto count mcount) row h = refl
none-changes p t (DropRange q n) row h = refl

-- a mutation with a number that passes changes a row by its command
one-changes : (p : Option ℕ) (t : ℕ → Bool) (e : Entry) (row : Row) → mutates p t e ≡ true → applied_by e row ≡ changed_by e p t row
one-changes p t (Mutation id numbers command) row h = sym (ap (λ (b : Bool). cond b (applied command row) (Some row)) h)
one-changes p t (Get q n digest source need) row h = refl
one-changes p t (Merge new sources count) row h = refl
one-changes p t (Mutate old new upto count mcount) row h = refl
one-changes p t (DropRange q n) row h = refl

then-alike : (f g : Row → Option Row) (o : Option Row) → ((r : Row) → f r ≡ g r) → option_and_then f o ≡ option_and_then g o
then-alike f g None h = refl
then-alike f g (Some r) h = h r

then-none : (o : Option Row) → o ≡ option_and_then (λ r. Some r) o
then-none None = refl
then-none (Some r) = refl

entries-changed : (p : Option ℕ) (t : ℕ → Bool) (es : List Entry) (row : Row) → applied_all (filter (mutates p t) es) row ≡ changed es p t row
entries-changed p t [] row = refl
entries-changed p t (e ∷ es) row = go (mutates p t e) refl (entries-changed p t es row)
  where
    go : (b : Bool) → mutates p t e ≡ b → applied_all (filter (mutates p t) es) row ≡ changed es p t row
        → applied_all (cond b (e ∷ filter (mutates p t) es) (filter (mutates p t) es)) row ≡ option_and_then (changed_by e p t) (changed es p t row)
    go true q k = ap (option_and_then (applied_by e)) k ∙ then-alike (applied_by e) (changed_by e p t) (changed es p t row) (λ r. one-changes p t e r q)
    go false q k = k ∙ (then-none (changed es p t row) ∙ then-alike (λ r. Some r) (changed_by e p t) (changed es p t row) (λ r. sym (none-changes p t e r q)))

-- the commands of those that are due alone change a row
pub due-changed : (p : Option ℕ) (t : ℕ → Bool) (tokens : List (Token Entry)) (row : Row)
    → applied_all (entries_of (filter (λ (x : Token Entry). mutates p t x.value) tokens)) row ≡ changed (entries_of tokens) p t row
due-changed p t tokens row =
    ap (λ (es : List Entry). applied_all es row) (entries-filter (mutates p t) tokens) ∙ entries-changed p t (entries_of tokens) row

-- where none is due, no row is changed
pub none-due : (p : Option ℕ) (t : ℕ → Bool) (tokens : List (Token Entry)) (row : Row) → any_mutates p t tokens ≡ false → changed (entries_of tokens) p t row ≡ Some row
none-due p t tokens row f =
    sym (due-changed p t tokens row) ∙ ap (λ (ts : List (Token Entry)). applied_all (entries_of ts) row) (none tokens f)
  where
    none : (ts : List (Token Entry)) → any_mutates p t ts ≡ false → filter (λ (x : Token Entry). mutates p t x.value) ts ≡ []
    none [] f = refl
    none (x ∷ ts) f = go (mutates p t x.value) f (none ts)
      where
        go : (b : Bool) → b || any_mutates p t ts ≡ false → (any_mutates p t ts ≡ false → filter (λ (y : Token Entry). mutates p t y.value) ts ≡ [])
            → cond b (x ∷ filter (λ (y : Token Entry). mutates p t y.value) ts) (filter (λ (y : Token Entry). mutates p t y.value) ts) ≡ []
        go true f k = absurd (cc)
        go false f k = k f
