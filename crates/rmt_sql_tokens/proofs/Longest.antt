-- A choice that the tokens after decide: it is read exactly, and its fault is the one further on.
use Rattle.std.proofs.Common.{◌≡◌, ◌∙◌, ℕ, suc, ◌≤◌, ◌<◌, List, [], ◌∷◌, ◌++◌, length, refl, ap, sym, subst, Bool, true, false, cond, inl, inr, nat_lt, append_assoc, arith, ◌⊎◌, Result, Ok, Err}
use Rattle.std.proofs.lemmas.Bool.Decides.{nat_tests}
use Rattle.std.proofs.lemmas.List.{length-append}
use Rattle.rmt_sql_tokens.specs.Tokens.{Spot}
use Rattle.rmt_sql_tokens.specs.Exact.{Exact, FaultsAt, never, Either, first_try, longest_read}

abbrev Reader : Type 0 → Type 0
Reader A = List Spot → Result (A × List Spot) (List Spot)

-- of two prefixes of the same tokens the longer one goes on with the other's rest
pub record Splits (before rest prefix : List Spot) (later : List Spot) : Type 0 where
  pub token : Spot
  pub between : List Spot
  pub prefix_is : prefix ≡ before ++ token ∷ between
  pub rest_is : rest ≡ token ∷ (between ++ later)

pub splits : (before rest prefix later : List Spot) → before ++ rest ≡ prefix ++ later → length later < length rest → Splits before rest prefix later
splits [] rest [] later same less = absurd (let e = ap (λ l. length l) same in omega (arith, e, less))
splits [] rest (s ∷ ss) later same less = record { token = s; between = ss; prefix_is = refl; rest_is = same }
splits (s ∷ ss) rest [] later same less =
    absurd (let e : suc (length (ss ++ rest)) ≡ length later = ap (λ l. length l) same in omega (arith, e, length-append ss rest, less))
splits (s ∷ ss) rest (u ∷ us) later same less =
    let head : s ≡ u = cc in
    let tail : ss ++ rest ≡ us ++ later = cc in
    let rec = splits ss rest us later tail less in
    record { token = rec.token; between = rec.between; prefix_is = rw head (ap (λ l. u ∷ l) rec.prefix_is); rest_is = rec.rest_is }

same_prefix : (before rest prefix later : List Spot) → before ++ rest ≡ prefix ++ later → length later ≡ length rest → before ≡ prefix
same_prefix [] rest [] later same equal = refl
same_prefix [] rest (s ∷ ss) later same equal =
    absurd (let e : length rest ≡ suc (length (ss ++ later)) = ap (λ l. length l) same in omega (arith, e, length-append ss later, equal))
same_prefix (s ∷ ss) rest [] later same equal =
    absurd (let e : suc (length (ss ++ rest)) ≡ length later = ap (λ l. length l) same in omega (arith, e, length-append ss rest, equal))
same_prefix (s ∷ ss) rest (u ∷ us) later same equal =
    let head : s ≡ u = cc in
    let tail : ss ++ rest ≡ us ++ later = cc in
    rw (head, same_prefix ss rest us later tail equal) refl

pub same_rest : (before rest prefix later : List Spot) → before ++ rest ≡ prefix ++ later → length later ≡ length rest → rest ≡ later
same_rest [] rest [] later same equal = same
same_rest [] rest (s ∷ ss) later same equal =
    absurd (let e : length rest ≡ suc (length (ss ++ later)) = ap (λ l. length l) same in omega (arith, e, length-append ss later, equal))
same_rest (s ∷ ss) rest [] later same equal =
    absurd (let e : suc (length (ss ++ rest)) ≡ length later = ap (λ l. length l) same in omega (arith, e, length-append ss rest, equal))
same_rest (s ∷ ss) rest (u ∷ us) later same equal = (let tail : ss ++ rest ≡ us ++ later = cc in same_rest ss rest us later tail equal)

-- where a reader fails at a token, it fails there whatever follows, which is before a later place
earlier : {A : Type 0} (L : List Spot → A → Type 0) (r : Reader A) (ts n : List Spot) → FaultsAt L r ts n → (prefix rest : List Spot) → prefix ++ rest ≡ ts → length rest < length n → (t : Spot) (more : List Spot)
    → (e : List Spot) × (r (prefix ++ t ∷ more) ≡ Err e) × (length (t ∷ more) < length e)
earlier L r ts n f prefix rest parts less t more =
    let same : f.prefix ++ f.rest ≡ prefix ++ rest = f.parts ∙ sym parts in
    let longer : length rest < length f.rest = subst (λ l. length rest < length l) f.place less in
    let s = splits f.prefix f.rest prefix rest same longer in
    let e : List Spot = s.token ∷ (s.between ++ t ∷ more) in
    let whole : prefix ++ t ∷ more ≡ f.prefix ++ e = ap (λ l. l ++ t ∷ more) s.prefix_is ∙ append_assoc f.prefix (s.token ∷ s.between) (t ∷ more) in
    (s.token ∷ (s.between ++ t ∷ more), rw whole (f.blocked s.token (s.between ++ rest) (s.between ++ t ∷ more) s.rest_is), omega (arith, length-append s.between (t ∷ more)))

tried : {A : Type 0} (o p : Result A (List Spot)) (v : A) → first_try o p ≡ Ok v → (o ≡ Ok v) ⊎ (p ≡ Ok v)
tried (Ok x) p v h = inl h
tried (Err e) (Ok x) v h = inr h
tried (Err e) (Err f) v h = absurd (no_ok (nat_lt (length f) (length e)) h)
  where
    no_ok : (b : Bool) → cond b (Err f) (Err e) ≡ Ok v → ⊥
    no_ok true h = cc
    no_ok false h = cc

-- both failed
record BothFail {A : Type 0} (o p : Result A (List Spot)) (n : List Spot) : Type 0 where
  first : List Spot
  second : List Spot
  first_is : o ≡ Err first
  second_is : p ≡ Err second
  place : ((nat_lt (length second) (length first) ≡ true) × (n ≡ second)) ⊎ ((nat_lt (length second) (length first) ≡ false) × (n ≡ first))

both_fail : {A : Type 0} (o p : Result A (List Spot)) (n : List Spot) → first_try o p ≡ Err n → BothFail o p n
both_fail (Ok x) p n h = absurd cc
both_fail (Err e) (Ok x) n h = absurd cc
both_fail {A} (Err e) (Err f) n h = record { first = e; second = f; first_is = refl; second_is = refl; place = go (nat_lt (length f) (length e)) refl h }
  where
    go : (b : Bool) → nat_lt (length f) (length e) ≡ b → cond {A = Result A (List Spot)} b (Err f) (Err e) ≡ Err n → ((nat_lt (length f) (length e) ≡ true) × (n ≡ f)) ⊎ ((nat_lt (length f) (length e) ≡ false) × (n ≡ e))
    go true is h = inl (is, cc)
    go false is h = inr (is, cc)

second_ok : {A : Type 0} (o p : Result A (List Spot)) (v : A) → ((x : A) → o ≡ Ok x → ⊥) → p ≡ Ok v → first_try o p ≡ Ok v
second_ok (Ok x) p v none h = absurd (none x refl)
second_ok (Err e) p v none h = rw h refl

first_ok : {A : Type 0} (o p : Result A (List Spot)) (v : A) → o ≡ Ok v → first_try o p ≡ Ok v
first_ok o p v h = rw h refl

fails_second : {A : Type 0} (o p : Result A (List Spot)) (e f : List Spot) → o ≡ Err e → p ≡ Err f → nat_lt (length f) (length e) ≡ true → first_try o p ≡ Err f
fails_second o p e f h k less = rw (h, k, less) refl

fails_first : {A : Type 0} (o p : Result A (List Spot)) (e f : List Spot) → o ≡ Err e → p ≡ Err f → nat_lt (length f) (length e) ≡ false → first_try o p ≡ Err e
fails_first o p e f h k less = rw (h, k, less) refl

-- no line of the second form begins as a line of the first does
pub exact_longest : {A : Type 0} (L : List Spot → A → Type 0) (r : List Spot → Result (A × List Spot) (List Spot)) (M : List Spot → A → Type 0) (q : List Spot → Result (A × List Spot) (List Spot))
    → Exact L r never → Exact M q never → ((prefix : List Spot) (a : A) (more : List Spot) (x : A × List Spot) → M prefix a → r (prefix ++ more) ≡ Ok x → ⊥)
    → Exact (Either L M) (longest_read r q) never
exact_longest {A} L r M q first second apart = record {
  found = λ ts a rest h. elim (tried (r ts) (q ts) (a, rest) h) [
    | inl e ↦ let f = first.found ts a rest e in record { prefix = f.prefix; parts = f.parts; is = inl f.is; stops = f.stops }
    | inr e ↦ let f = second.found ts a rest e in record { prefix = f.prefix; parts = f.parts; is = inr f.is; stops = f.stops }
  ];
  only = λ prefix a more is stops. elim is [
    | inl l ↦ first_ok (r (prefix ++ more)) (q (prefix ++ more)) (a, more) (first.only prefix a more l stops)
    | inr m ↦ second_ok (r (prefix ++ more)) (q (prefix ++ more)) (a, more) (λ x e. apart prefix a more x m e) (second.only prefix a more m stops)
  ];
  faults = λ ts n h. both ts n (both_fail (r ts) (q ts) n h);
  some = record { more = first.some.more; value = first.some.value; is = inl first.some.is };
}
  where
    is_less : (a b : ℕ) → a < b → nat_lt a b ≡ true
    is_less a b h = grind (arith, nat_tests)

    not_less : (a b : ℕ) → b ≤ a → nat_lt a b ≡ false
    not_less a b h = grind (arith, nat_tests)

    less_is : (a b : ℕ) → nat_lt a b ≡ true → a < b
    less_is a b h = grind (arith, nat_tests)

    at_most : (a b : ℕ) → nat_lt a b ≡ false → b ≤ a
    at_most a b h = grind (arith, nat_tests)

    at_second : (ts e f : List Spot) → FaultsAt L r ts e → FaultsAt M q ts f → length f < length e → FaultsAt (Either L M) (longest_read r q) ts f
    at_second ts e f fe ff less = record {
      prefix = ff.prefix;
      rest = ff.rest;
      parts = ff.parts;
      place = ff.place;
      blocked = λ t later more is.
          (let shorter : length ff.rest < length e = subst (λ l. length l < length e) ff.place less in
          let (e2, here, longer) = earlier L r ts e fe ff.prefix ff.rest ff.parts shorter t more in
          fails_second (r (ff.prefix ++ t ∷ more)) (q (ff.prefix ++ t ∷ more)) e2 (t ∷ more) here (ff.blocked t later more is) (is_less (length (t ∷ more)) (length e2) longer));
      begins = record { more = ff.begins.more; value = ff.begins.value; is = inr ff.begins.is };
    }

    second_there : (ts e f : List Spot) → FaultsAt L r ts e → FaultsAt M q ts f → length e ≤ length f → (prefix rest : List Spot) → prefix ++ rest ≡ ts → e ≡ rest → (t : Spot) (later more : List Spot) → rest ≡ t ∷ later
        → (f2 : List Spot) × (q (prefix ++ t ∷ more) ≡ Err f2) × (length (t ∷ more) ≤ length f2)
    second_there ts e f fe ff least prefix rest parts place t later more is = go (nat_lt (length e) (length f)) refl
      where
        go : (b : Bool) → nat_lt (length e) (length f) ≡ b → (f2 : List Spot) × (q (prefix ++ t ∷ more) ≡ Err f2) × (length (t ∷ more) ≤ length f2)
        go true less =
            let shorter : length rest < length f = subst (λ l. length l < length f) place (less_is (length e) (length f) less) in
            let (f2, here, longer) = earlier M q ts f ff prefix rest parts shorter t more in
            (f2, here, omega (arith, longer))
        go false equal =
            let least2 = at_most (length e) (length f) equal in
            let lengths : length rest ≡ length ff.rest = sym (ap (λ l. length l) place) ∙ (omega (arith, least, least2) ∙ ap (λ l. length l) ff.place) in
            let prefixes = same_prefix ff.prefix ff.rest prefix rest (ff.parts ∙ sym parts) lengths in
            let rests = same_rest ff.prefix ff.rest prefix rest (ff.parts ∙ sym parts) lengths in
            (t ∷ more, subst (λ l. q (l ++ t ∷ more) ≡ Err (t ∷ more)) prefixes (ff.blocked t later more (rests ∙ is)), omega arith)

    at_first : (ts e f : List Spot) → FaultsAt L r ts e → FaultsAt M q ts f → length e ≤ length f → FaultsAt (Either L M) (longest_read r q) ts e
    at_first ts e f fe ff least = record {
      prefix = fe.prefix;
      rest = fe.rest;
      parts = fe.parts;
      place = fe.place;
      blocked = λ t later more is.
          (let (f2, here, longer) = second_there ts e f fe ff least fe.prefix fe.rest fe.parts fe.place t later more is in
          fails_first (r (fe.prefix ++ t ∷ more)) (q (fe.prefix ++ t ∷ more)) (t ∷ more) f2 (fe.blocked t later more is) here (not_less (length f2) (length (t ∷ more)) longer));
      begins = record { more = fe.begins.more; value = fe.begins.value; is = inl fe.begins.is };
    }

    both : (ts n : List Spot) → BothFail (r ts) (q ts) n → FaultsAt (Either L M) (longest_read r q) ts n
    both ts n b = elim b.place [
      | inl (less, is) ↦ subst (FaultsAt (Either L M) (longest_read r q) ts) (sym is) (at_second ts b.first b.second (first.faults ts b.first b.first_is) (second.faults ts b.second b.second_is) (less_is (length b.second) (length b.first) less))
      | inr (least, is) ↦ subst (FaultsAt (Either L M) (longest_read r q) ts) (sym is) (at_first ts b.first b.second (first.faults ts b.first b.first_is) (second.faults ts b.second b.second_is) (at_most (length b.second) (length b.first) least))
    ]
