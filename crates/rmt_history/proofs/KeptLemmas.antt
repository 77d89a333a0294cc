-- The mutations among the tokens of a copy.
use Rattle.std.proofs.Common.{All, ◌≡◌, ℕ, zero, suc, ◌+◌, ◌-◌, ◌<◌, inl, inr, Bool, true, false, not, List, [], ◌∷◌, length, map, filter, take, drop, get_or, length-take, refl, sym, ap, subst, arith, ◌∙◌, nat_lt}
use Rattle.std.proofs.lemmas.Bool.Decides.{nat_tests}
use Rattle.std.proofs.lemmas.Option.{slice_get_cases, slice_get_read}
use Rattle.std.proofs.lemmas.List.{length-map}
use Rattle.std.proofs.lemmas.List.Elements.{All-cons}
use Rattle.std.proofs.lemmas.List.Sums.{prefix_len-le-length}
use Rattle.std.specs.Prelude.{slice_get}
use Rattle.std.specs.List.{prefix_len}
use Rattle.std.specs.declared.option.Option.TheVariants.{Some, None}
use Rattle.rmt_values.specs.Rows.{Shape}
use Rattle.rmt_names.specs.Names.{Name}
use Rattle.rmt_row.specs.Token.{Token}
use Rattle.rmt_entries.specs.declared.entry.Entry.{Entry}
use Rattle.rmt_model.specs.Words.{Has, Each}
use Rattle.rmt_model.specs.Lawful.{Lawful, entry_at, is_mutation}
use Rattle.rmt_model.proofs.Lists.{Each-at, Each-all, Has-filter, Has-kept, Pairwise-filter}
use Rattle.rmt_model.proofs.Drops.{some-same, entry-below}
use Rattle.rmt_nameset.proofs.Ranges.{Downward, Pairwise-to}
use Rattle.rmt_history.specs.Copies.{History, entries, cells_of, mutation_tokens, ArePrefixes}
use Rattle.rmt_history.specs.Mutations.{mutations_below, pending_below, IsTokenBelow, AreTokensBelow, HasOrder, is_settled, AreOrdered, PlacesRise, is_below}
use Rattle.rmt_model.specs.Choices.{is_pending}
use Rattle.rmt_history.proofs.Copied.{token_at, cell_at, get-map, length-entries}
use Rattle.rmt_history.proofs.NumberLemmas.{log-order, pending-later, pending-mutation}
use Rattle.rmt_history.proofs.ListLemmas.{filter-swap, filter-within, filter-same, prefix-is, rest-is, has-get, passes-below, take-none}
use Rattle.rmt_history.proofs.PlaceLemmas.{first-tokens, places-from, places-rise, below-first, place-holds, entries-filter}

-- tokens of a lawful log, each at its place
pub record AreKept (schema : Shape) (tokens : List (Token Entry)) : Type 0 where
  pub lawful : Lawful schema (entries tokens)
  pub numbered : (i : ℕ) (t : Token Entry) → slice_get tokens i ≡ Some t → t.place ≡ i

-- what contracts see of a copy with these tokens
abbrev pub seen : Shape → List (Token Entry) → History
seen schema tokens = record { schema = schema; log = entries tokens; cells = cells_of tokens }

pub placed-at : (schema : Shape) (tokens : List (Token Entry)) (t : Token Entry) → AreKept schema tokens → Has tokens t → slice_get tokens t.place ≡ Some t
placed-at schema tokens t k h =
    let n : t.place ≡ t.place - 0 = omega arith in
    ap (slice_get tokens) n ∙ place-holds tokens 0 t (places-from tokens 0 (λ i u e. let q = k.numbered i u e in omega (arith, q))) h

pub entry-held : (schema : Shape) (tokens : List (Token Entry)) (t : Token Entry) → AreKept schema tokens → Has tokens t → entry_at (entries tokens) t.place ≡ Some t.value
entry-held schema tokens t k h = token_at tokens t.place t (placed-at schema tokens t k h)

-- the token of an entry
pub record HasToken (tokens : List (Token Entry)) (i : ℕ) (e : Entry) : Type 0 where
  pub token : Token Entry
  pub is_in : Has tokens token
  pub place : token.place ≡ i
  pub value : token.value ≡ e

pub token-of : (schema : Shape) (tokens : List (Token Entry)) (i : ℕ) (e : Entry) → AreKept schema tokens → entry_at (entries tokens) i ≡ Some e → is_mutation e ≡ true → HasToken (mutation_tokens tokens) i e
token-of schema tokens i e k h m = elim (slice_get_cases tokens i).1 [
  | inl s ↦ found s.0 s.2
  | inr s ↦ let l = entry-below (entries tokens) i e h in let n = length-entries tokens in let o = s.0 in absurd (omega (arith, l, n, o))
]
  where
    found : (t : Token Entry) → slice_get tokens i ≡ Some t → HasToken (mutation_tokens tokens) i e
    found t q =
        let v : t.value ≡ e = some-same t.value e (sym (token_at tokens i t q) ∙ h) in
        record { token = t; is_in = Has-kept (λ u. is_mutation u.value) tokens t (here tokens i t q) (ap is_mutation v ∙ m); place = k.numbered i t q; value = v }
      where
        here : (xs : List (Token Entry)) (i : ℕ) (t : Token Entry) → slice_get xs i ≡ Some t → Has xs t
        here [] i t q = absurd (cc)
        here (y ∷ xs) zero t q = inl (some-same y t q)
        here (y ∷ xs) (suc i) t q = inr (here xs i t q)

-- ---- mutations in order

all-rise : (schema : Shape) (tokens : List (Token Entry)) → AreKept schema tokens → PlacesRise tokens
all-rise schema tokens k = places-rise tokens 0 (places-from tokens 0 (λ i u e. let q = k.numbered i u e in omega (arith, q)))

pub mutations-rise : (schema : Shape) (tokens : List (Token Entry)) → AreKept schema tokens → PlacesRise (mutation_tokens tokens)
mutations-rise schema tokens k = Pairwise-filter (λ s t. s.place < t.place) (λ t. is_mutation t.value) tokens (all-rise schema tokens k)

-- the token is of its entry, which is a mutation
record IsMutating (log : List Entry) (t : Token Entry) : Type 0 where
  pub entry : entry_at log t.place ≡ Some t.value
  pub mutation : is_mutation t.value ≡ true

are-mutating : (schema : Shape) (tokens : List (Token Entry)) → AreKept schema tokens → Each (IsMutating (entries tokens)) (mutation_tokens tokens)
are-mutating schema tokens k = Each-all (IsMutating (entries tokens)) (mutation_tokens tokens) (λ t h.
    let q = Has-filter (λ u. is_mutation u.value) tokens t h in record { entry = entry-held schema tokens t k q.0; mutation = q.1 })

pub mutations-ordered : (schema : Shape) (tokens : List (Token Entry)) (a : Name) → AreKept schema tokens → AreOrdered a (mutation_tokens tokens)
mutations-ordered schema tokens a k = record {
  pairs = Each-all (λ t. HasOrder t.value) (mutation_tokens tokens) (λ t h.
      log-order schema (entries tokens) t.place t.value k.lawful (IsMutating.entry (Each-at (IsMutating (entries tokens)) (mutation_tokens tokens) t (are-mutating schema tokens k) h)));
  settled = Pairwise-to (λ s t. s.place < t.place) (λ s t. is_settled a t ≡ true → is_settled a s ≡ true) (IsMutating (entries tokens)) (mutation_tokens tokens) earlier (mutations-rise schema tokens k) (are-mutating schema tokens k);
}
  where
    earlier : (s t : Token Entry) → IsMutating (entries tokens) s → IsMutating (entries tokens) t → s.place < t.place → is_settled a t ≡ true → is_settled a s ≡ true
    earlier s t m n h e = go (is_pending a s.value) refl
      where
        go : (b : Bool) → is_pending a s.value ≡ b → not b ≡ true
        go false q = refl
        go true q = let r = pending-later schema (entries tokens) s.place t.place s.value t.value a k.lawful m.entry n.entry h n.mutation q in let w = ap not r in absurd (cc)

pub below-ordered : (a : Name) (test : Token Entry → Bool) (tokens : List (Token Entry)) → AreOrdered a tokens → AreOrdered a (filter test tokens)
below-ordered a test tokens o = record {
  pairs = Each-all (λ t. HasOrder t.value) (filter test tokens) (λ t h. Each-at (λ u. HasOrder u.value) tokens t o.pairs (Has-filter test tokens t h).0);
  settled = Pairwise-filter (λ s t. is_settled a t ≡ true → is_settled a s ≡ true) test tokens o.settled;
}

-- ---- mutations below a place

pub below-down : (i : ℕ) (tokens : List (Token Entry)) → PlacesRise tokens → Downward (is_below i) tokens
below-down i [] r = tt
below-down i (t ∷ tokens) r = (Each-all (λ u. is_below i u ≡ true → is_below i t ≡ true) tokens (λ u h e. let l = Each-at (λ v. t.place < v.place) tokens u r.0 h in low u.place l e), below-down i tokens r.1)
  where
    low : (n : ℕ) → t.place < n → nat_lt n i ≡ true → nat_lt t.place i ≡ true
    low n l e = grind (arith, nat_tests)

-- how many mutations are at places below i
abbrev pub count_under : List (Token Entry) → ℕ → ℕ
count_under tokens i = prefix_len (is_below i) (mutation_tokens tokens)

-- the mutations at places below i
abbrev pub tokens_under : List (Token Entry) → ℕ → List (Token Entry)
tokens_under tokens i = take (count_under tokens i) (mutation_tokens tokens)

pub under-filter : (schema : Shape) (tokens : List (Token Entry)) (i : ℕ) → AreKept schema tokens → tokens_under tokens i ≡ filter (is_below i) (mutation_tokens tokens)
under-filter schema tokens i k = prefix-is (is_below i) (mutation_tokens tokens) (below-down i (mutation_tokens tokens) (mutations-rise schema tokens k))

under-first : (schema : Shape) (tokens : List (Token Entry)) (i : ℕ) → AreKept schema tokens → tokens_under tokens i ≡ mutation_tokens (take i tokens)
under-first schema tokens i k =
    let n : i - 0 ≡ i = omega arith in
    under-filter schema tokens i k
    ∙ (filter-swap (is_below i) (λ t. is_mutation t.value) tokens
    ∙ ap mutation_tokens (below-first tokens 0 i (places-from tokens 0 (λ j u e. let q = k.numbered j u e in omega (arith, q))) ∙ ap (λ m. take m tokens) n))

pub under-ordered : (schema : Shape) (tokens : List (Token Entry)) (a : Name) (i : ℕ) → AreKept schema tokens → AreOrdered a (tokens_under tokens i)
under-ordered schema tokens a i k = subst (AreOrdered a) (sym (under-filter schema tokens i k)) (below-ordered a (is_below i) (mutation_tokens tokens) (mutations-ordered schema tokens a k))

-- each of the mutations at places below i has its pairs in order
pub under-pairs : (schema : Shape) (tokens : List (Token Entry)) (i : ℕ) → AreKept schema tokens → All (λ t. HasOrder t.value) (tokens_under tokens i)
under-pairs schema tokens i k = listed (tokens_under tokens i) (AreOrdered.pairs (under-ordered schema tokens (record { partition = None; min = 0; max = 0; level = 0; mutation = 0 }) i k))
  where
    listed : (ts : List (Token Entry)) → Each (λ t. HasOrder t.value) ts → All (λ t. HasOrder t.value) ts
    listed [] h = λ n d l. absurd (omega (arith, l))
    listed (t ∷ ts) h = All-cons (λ (s : Token Entry). HasOrder s.value) t ts h.0 (listed ts h.1)

under-places : (schema : Shape) (tokens : List (Token Entry)) (i : ℕ) (t : Token Entry) → AreKept schema tokens → Has (tokens_under tokens i) t → IsTokenBelow (seen schema tokens) i t
under-places schema tokens i t k h =
    let q = Has-filter (is_below i) (mutation_tokens tokens) t (subst (λ (xs : List (Token Entry)). Has xs t) (under-filter schema tokens i k) h) in
    let r = Has-filter (λ u. is_mutation u.value) tokens t q.0 in
    let b = q.1 in
    record { below = grind (arith, nat_tests); entry = entry-held schema tokens t k r.0; cell = cell_at tokens t.place t (placed-at schema tokens t k r.0) }

pub mutations-under : (schema : Shape) (tokens : List (Token Entry)) (i : ℕ) → AreKept schema tokens → AreTokensBelow (seen schema tokens) i (mutations_below (entries tokens) i) (tokens_under tokens i)
mutations-under schema tokens i k = record {
  entries = ap entries (under-first schema tokens i k) ∙ (entries-filter is_mutation (take i tokens) ∙ ap (filter is_mutation) (sym (first-tokens tokens i)));
  places = Each-all (IsTokenBelow (seen schema tokens) i) (tokens_under tokens i) (λ t h. under-places schema tokens i t k h);
}

-- ---- pending mutations

-- the pending ones are those past the settled ones
pub pending-under : (schema : Shape) (tokens : List (Token Entry)) (a : Name) (i : ℕ) → AreKept schema tokens → AreTokensBelow (seen schema tokens) i (pending_below (entries tokens) a i) (drop (prefix_len (is_settled a) (tokens_under tokens i)) (tokens_under tokens i))
pending-under schema tokens a i k = record {
  entries = ap entries (rest ∙ (ap (filter pends) (under-first schema tokens i k) ∙ filter-within pends (λ t. is_mutation t.value) (take i tokens) (λ t e. pending-mutation a t.value e)))
      ∙ (entries-filter (is_pending a) (take i tokens) ∙ ap (filter (is_pending a)) (sym (first-tokens tokens i)));
  places = subst (Each (IsTokenBelow (seen schema tokens) i)) (sym rest) (Each-all (IsTokenBelow (seen schema tokens) i) (filter pends (tokens_under tokens i)) (λ t h. under-places schema tokens i t k (Has-filter pends (tokens_under tokens i) t h).0));
}
  where
    pends : Token Entry → Bool
    pends t = is_pending a t.value

    twice : (b : Bool) → not (not b) ≡ b
    twice true = refl
    twice false = refl

    rest : drop (prefix_len (is_settled a) (tokens_under tokens i)) (tokens_under tokens i) ≡ filter pends (tokens_under tokens i)
    rest =
        rest-is (is_settled a) (tokens_under tokens i) (AreOrdered.settled (under-ordered schema tokens a i k))
        ∙ filter-same (λ t. not (is_settled a t)) pends (tokens_under tokens i) (λ t. twice (is_pending a t.value))

-- a mutation below i is counted there
pub record IsCounted (tokens : List (Token Entry)) (n i : ℕ) (e : Entry) : Type 0 where
  pub token : Token Entry
  pub at : ℕ
  pub stands : slice_get tokens at ≡ Some token
  pub counted : at < n
  pub place : token.place ≡ i
  pub value : token.value ≡ e

pub counted-under : (schema : Shape) (tokens : List (Token Entry)) (i j : ℕ) (e : Entry) → AreKept schema tokens → entry_at (entries tokens) j ≡ Some e → is_mutation e ≡ true → j < i → IsCounted (mutation_tokens tokens) (count_under tokens i) j e
counted-under schema tokens i j e k h m l =
    let t = token-of schema tokens j e k h m in
    let r = has-get (mutation_tokens tokens) t.token t.is_in in
    let p = t.place in
    let b : is_below i t.token ≡ true = grind (arith, nat_tests) in
    record { token = t.token; at = r.0; stands = r.1; counted = passes-below (is_below i) (mutation_tokens tokens) r.0 t.token (below-down i (mutation_tokens tokens) (mutations-rise schema tokens k)) r.1 b; place = t.place; value = t.value }

-- ---- what the searches answer

pub none-under : (schema : Shape) (tokens : List (Token Entry)) (i : ℕ) → AreKept schema tokens → count_under tokens i ≡ 0 → mutations_below (entries tokens) i ≡ []
none-under schema tokens i k z =
    sym (AreTokensBelow.entries (mutations-under schema tokens i k)) ∙ ap entries (ap (λ n. take n (mutation_tokens tokens)) z ∙ take-none (mutation_tokens tokens))

-- the list that is shared has the mutations below the place
pub shared-under : {A : Type 0} (f : A → List (Token Entry)) (lists : List A) (tokens : List (Token Entry)) (i n : ℕ) (x : A) → ArePrefixes (map f lists) (mutation_tokens tokens) → n ≡ count_under tokens i → 0 < n → x ≡ get_or lists (n - 1) x → f x ≡ tokens_under tokens i
shared-under f lists tokens i n x s c h e =
    let l = prefix_len-le-length (is_below i) (mutation_tokens tokens) in
    let m = s.counted in
    let p = length-map lists f in
    let there = slice_get_read lists (length lists) (n - 1) x refl (omega (arith, c, h, l, m, p)) e in
    let q : n - 1 + 1 ≡ count_under tokens i = omega (arith, c, h) in
    s.upto (n - 1) (f x) (get-map f lists (n - 1) x there) ∙ ap (λ j. take j (mutation_tokens tokens)) q

pub some-under : (tokens : List (Token Entry)) (i n : ℕ) → n ≡ count_under tokens i → 0 < n → 0 < length (tokens_under tokens i)
some-under tokens i n c h =
    let l = prefix_len-le-length (is_below i) (mutation_tokens tokens) in
    let m = length-take (count_under tokens i) (mutation_tokens tokens) in
    omega (arith, c, h, l, m)

-- the tokens that are copied are those that are pending
pub answer-pending : (schema : Shape) (tokens : List (Token Entry)) (a : Name) (i n : ℕ) (below rest items : List (Token Entry)) → AreKept schema tokens → below ≡ tokens_under tokens i → n ≡ prefix_len (is_settled a) below → rest ≡ drop n below → items ≡ rest → AreTokensBelow (seen schema tokens) i (pending_below (entries tokens) a i) items
answer-pending schema tokens a i n below rest items k b q r e =
    subst (AreTokensBelow (seen schema tokens) i (pending_below (entries tokens) a i))
    (sym (e ∙ (r ∙ (ap (λ m. drop m below) q ∙ ap (λ (xs : List (Token Entry)). drop (prefix_len (is_settled a) xs) xs) b))))
    (pending-under schema tokens a i k)
