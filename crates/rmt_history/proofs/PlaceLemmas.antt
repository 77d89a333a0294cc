-- Tokens by their places, and the entries below a place.
use Rattle.std.proofs.Common.{◌≡◌, ℕ, zero, suc, ◌+◌, ◌-◌, ◌<◌, ◌≤◌, inl, inr, Bool, true, false, cond, List, [], ◌∷◌, ◌++◌, length, map, filter, reverse, take, refl, sym, ap, arith, ◌∙◌, nat_eq, nat_lt}
use Rattle.std.proofs.lemmas.Bool.Decides.{nat_tests}
use Rattle.std.proofs.lemmas.Option.{slice_get_within, get_or_from_slice_get}
use Rattle.std.proofs.Math.Seq.{take-suc}
use Rattle.std.specs.Prelude.{slice_get}
use Rattle.std.specs.declared.option.Option.{Option}
use Rattle.std.specs.declared.option.Option.TheVariants.{Some, None}
use Rattle.rmt_row.specs.Token.{Token}
use Rattle.rmt_entries.specs.declared.entry.Entry.{Entry}
use Rattle.rmt_model.specs.Words.{Has, Each}
use Rattle.rmt_model.specs.Lawful.{entry_at}
use Rattle.rmt_model.proofs.Lists.{Each-at, Each-all}
use Rattle.rmt_model.proofs.Drops.{some-same, entry-below}
use Rattle.rmt_history.specs.Copies.{entries}
use Rattle.rmt_history.specs.Mutations.{first_entries, PlacesRise, is_below}
use Rattle.rmt_history.proofs.Copied.{token_at, entries-snoc, length-entries}
use Rattle.rmt_history.proofs.ListLemmas.{map-filter, filter-reverse, take-none, take-whole}

-- ---- the entries below a place

pub first-whole : (log : List Entry) (i : ℕ) → length log ≤ i → first_entries log i ≡ log
first-whole [] i h = refl
first-whole (x ∷ log) i h = let b : nat_lt (length log) i ≡ true = grind (arith, nat_tests) in ap (λ (c : Bool). cond c (x ∷ log) (first_entries log i)) b

pub first-none : (log : List Entry) → first_entries log 0 ≡ []
first-none [] = refl
first-none (x ∷ log) = let b : nat_lt (length log) 0 ≡ false = grind (arith, nat_tests) in ap (λ (c : Bool). cond c (x ∷ log) (first_entries log 0)) b ∙ first-none log

pub first-next : (log : List Entry) (i : ℕ) (e : Entry) → entry_at log i ≡ Some e → first_entries log (suc i) ≡ e ∷ first_entries log i
first-next [] i e h = absurd (cc)
first-next (x ∷ log) i e h = go (nat_eq i (length log)) refl h (first-next log i e)
  where
    go : (b : Bool) → nat_eq i (length log) ≡ b → cond b (Some x) (entry_at log i) ≡ Some e → (entry_at log i ≡ Some e → first_entries log (suc i) ≡ e ∷ first_entries log i) → first_entries (x ∷ log) (suc i) ≡ e ∷ first_entries (x ∷ log) i
    go true q k f =
        let n : i ≡ length log = grind (arith, nat_tests) in
        let a : nat_lt (length log) (suc i) ≡ true = grind (arith, nat_tests) in
        let b : nat_lt (length log) i ≡ false = grind (arith, nat_tests) in
        ap (λ (c : Bool). cond c (x ∷ log) (first_entries log (suc i))) a
        ∙ (ap (λ (y : Entry). y ∷ log) (some-same x e k)
        ∙ ap (λ (l : List Entry). e ∷ l) (sym (first-whole log i (omega (arith, n))) ∙ sym (ap (λ (c : Bool). cond c (x ∷ log) (first_entries log i)) b)))
    go false q k f =
        let w : i < length log = entry-below log i e k in
        let a : nat_lt (length log) (suc i) ≡ false = grind (arith, nat_tests) in
        let b : nat_lt (length log) i ≡ false = grind (arith, nat_tests) in
        ap (λ (c : Bool). cond c (x ∷ log) (first_entries log (suc i))) a
        ∙ (f k ∙ ap (λ (l : List Entry). e ∷ l) (sym (ap (λ (c : Bool). cond c (x ∷ log) (first_entries log i)) b)))

get-none : {A : Type 0} (xs : List A) (i : ℕ) → slice_get xs i ≡ None → length xs ≤ i
get-none [] i e = omega arith
get-none (x ∷ xs) zero e = absurd (cc)
get-none (x ∷ xs) (suc i) e = let h = get-none xs i e in omega (arith, h)

-- they are those of the first tokens
pub first-tokens : (tokens : List (Token Entry)) (i : ℕ) → first_entries (entries tokens) i ≡ entries (take i tokens)
first-tokens tokens zero = first-none (entries tokens) ∙ sym (ap entries (take-none tokens))
first-tokens tokens (suc i) = go (slice_get tokens i) refl (first-tokens tokens i)
  where
    go : (o : Option (Token Entry)) → slice_get tokens i ≡ o → first_entries (entries tokens) i ≡ entries (take i tokens) → first_entries (entries tokens) (suc i) ≡ entries (take (suc i) tokens)
    go None e f =
        let h = get-none tokens i e in let n = length-entries tokens in
        first-whole (entries tokens) (suc i) (omega (arith, h, n)) ∙ sym (ap entries (take-whole tokens (suc i) (omega (arith, h))))
    go (Some t) e f =
        first-next (entries tokens) i t.value (token_at tokens i t e)
        ∙ (ap (λ (l : List Entry). t.value ∷ l) f
        ∙ (sym (entries-snoc (take i tokens) t)
        ∙ ap entries (sym (take-suc tokens i t (slice_get_within tokens i t e) ∙ ap (λ (u : Token Entry). take i tokens ++ u ∷ []) (get_or_from_slice_get tokens i t t e)))))

-- ---- tokens by place

-- the tokens are those of the places from here on
abbrev pub PlacesFrom : ℕ → List (Token Entry) → Type 0
PlacesFrom base [] = Unit {0}
PlacesFrom base (t ∷ tokens) = (t.place ≡ base) × PlacesFrom (suc base) tokens

pub places-from : (tokens : List (Token Entry)) (base : ℕ) → ((i : ℕ) (t : Token Entry) → slice_get tokens i ≡ Some t → t.place ≡ base + i) → PlacesFrom base tokens
places-from [] base f = tt
places-from (t ∷ tokens) base f = (let e = f 0 t refl in omega (arith, e), places-from tokens (suc base) (λ i u e. let q = f (suc i) u e in omega (arith, q)))

places-above : (tokens : List (Token Entry)) (base : ℕ) → PlacesFrom base tokens → Each (λ t. base ≤ t.place) tokens
places-above [] base p = tt
places-above (t ∷ tokens) base p =
    (let e = p.0 in omega (arith, e), Each-all (λ u. base ≤ u.place) tokens (λ u h. let q = Each-at (λ v. suc base ≤ v.place) tokens u (places-above tokens (suc base) p.1) h in omega (arith, q)))

pub places-rise : (tokens : List (Token Entry)) (base : ℕ) → PlacesFrom base tokens → PlacesRise tokens
places-rise [] base p = tt
places-rise (t ∷ tokens) base p = (
  Each-all (λ u. t.place < u.place) tokens (λ u h. let q = Each-at (λ v. suc base ≤ v.place) tokens u (places-above tokens (suc base) p.1) h in let e = p.0 in omega (arith, q, e)),
  places-rise tokens (suc base) p.1,
)

-- those at places below one are the first
pub below-first : (tokens : List (Token Entry)) (base i : ℕ) → PlacesFrom base tokens → filter (is_below i) tokens ≡ take (i - base) tokens
below-first [] base i p = go (i - base)
  where
    go : (n : ℕ) → [] ≡ take {A = Token Entry} n []
    go zero = refl
    go (suc n) = refl
below-first (t ∷ tokens) base i p = go (nat_lt t.place i) refl (below-first tokens (suc base) i p.1)
  where
    at : t.place ≡ base
    at = p.0

    go : (b : Bool) → nat_lt t.place i ≡ b → filter (is_below i) tokens ≡ take (i - suc base) tokens → cond b (t ∷ filter (is_below i) tokens) (filter (is_below i) tokens) ≡ take (i - base) (t ∷ tokens)
    go true q h =
        let e = at in
        let l : t.place < i = grind (arith, nat_tests) in
        let n : i - base ≡ suc (i - suc base) = omega (arith, l, e) in
        ap (λ (xs : List (Token Entry)). t ∷ xs) h ∙ ap (λ m. take m (t ∷ tokens)) (sym n)
    go false q h =
        let e = at in
        let l : i ≤ t.place = grind (arith, nat_tests) in
        let n : i - base ≡ 0 = omega (arith, l, e) in
        let m : i - suc base ≡ 0 = omega (arith, l, e) in
        h ∙ (ap (λ k. take k tokens) m ∙ (take-none tokens ∙ ap (λ k. take k (t ∷ tokens)) (sym n)))

-- the token of each place
pub place-holds : (tokens : List (Token Entry)) (base : ℕ) (t : Token Entry) → PlacesFrom base tokens → Has tokens t → slice_get tokens (t.place - base) ≡ Some t
place-holds [] base t p h = absurd h
place-holds (u ∷ tokens) base t p (inl e) =
    let q = ap (λ (x : Token Entry). x.place) e in let r = p.0 in
    let n : t.place - base ≡ 0 = omega (arith, q, r) in
    ap (slice_get (u ∷ tokens)) n ∙ ap Some e
place-holds (u ∷ tokens) base t p (inr h) =
    let q = Each-at (λ v. suc base ≤ v.place) tokens t (places-above tokens (suc base) p.1) h in
    let n : t.place - base ≡ suc (t.place - suc base) = omega (arith, q) in
    ap (slice_get (u ∷ tokens)) n ∙ place-holds tokens (suc base) t p.1 h

-- ---- the entries of tokens

pub entries-filter : (q : Entry → Bool) (tokens : List (Token Entry)) → entries (filter (λ t. q t.value) tokens) ≡ filter q (entries tokens)
entries-filter q tokens = ap reverse (map-filter (λ (t : Token Entry). t.value) q tokens) ∙ sym (filter-reverse q (map (λ t. t.value) tokens))
