-- A form made of exact forms is exact.
use Rattle.std.proofs.Common.{◌≡◌, ◌∙◌, ℕ, zero, suc, ◌<◌, List, [], ◌∷◌, ◌++◌, length, refl, ap, sym, subst, Some, None, Option, Bool, true, false, cond, inl, inr, append_assoc, arith, ◌⊎◌, Result, Ok, Err}
use Rattle.std.proofs.lemmas.List.{append-nil, length-append}
use Rattle.rmt_sql_tokens.specs.Tokens.{Spot}
use Rattle.std.specs.Prelude.{◌||◌, ◌&&◌, if◌then◌else◌}
use Rattle.rmt_sql_tokens.specs.Classes.{Class, is_of, among, next_among}
use Rattle.rmt_sql_tokens.specs.Exact.{◌>>=◌, Stops, never, Begins, FaultsAt, Found, Exact, One, one_of, one, Then, Gives, Maybe, maybe_read, Either, either_read, Times, Many, many_in, many_read, left_of, IsOffset}

pub stops_never : {A : Type 0} (a : A) (ts : List Spot) → Stops (never a) ts
stops_never a [] = tt
stops_never a (s ∷ ss) = refl

pub pair_is : {A : Type 0} (x y : A × List Spot) (o : Result (A × List Spot) (List Spot)) → o ≡ Ok x → o ≡ Ok y → x ≡ y
pair_is x y o h k = cc

-- ---- one token

one_found : {A : Type 0} (p : Spot → Option A) (s : Spot) (ss : List Spot) (o : Option A) (a : A) (rest : List Spot) → p s ≡ o → one_of o s ss ≡ Ok (a, rest) → Found (One p) never (s ∷ ss) a rest
one_found p s ss None a rest is h = absurd cc
one_found p s ss (Some b) a rest is h =
    let same = pair_is (a, rest) (b, ss) _ h refl in
    record { prefix = s ∷ []; parts = ap (λ x. s ∷ x.1) same; is = is ∙ ap (λ x. Some x.0) (sym same); stops = stops_never a rest }

one_fault : {A : Type 0} (p : Spot → Option A) (s : Spot) (ss : List Spot) (o : Option A) (n : List Spot) → p s ≡ o → one_of o s ss ≡ Err n → (p s ≡ None) × (n ≡ s ∷ ss)
one_fault p s ss None n is h = (is, cc)
one_fault p s ss (Some b) n is h = absurd cc

one_again : {A : Type 0} (p : Spot → Option A) (prefix : List Spot) (a : A) (more : List Spot) → One p prefix a → one p (prefix ++ more) ≡ Ok (a, more)
one_again p [] a more is = absurd is
one_again p (s ∷ []) a more is = rw is refl
one_again p (s ∷ t ∷ ts) a more is = absurd is

one_faults : {A : Type 0} (p : Spot → Option A) → Begins (One p) [] → (ts : List Spot) (n : List Spot) → one p ts ≡ Err n → FaultsAt (One p) (one p) ts n
one_faults p some [] n h = record { prefix = []; rest = []; parts = refl; place = cc; blocked = λ t later more e. absurd cc; begins = some }
one_faults p some (s ∷ ss) n h =
    let (none, place) = one_fault p s ss (p s) n refl h in
    record {
      prefix = [];
      rest = s ∷ ss;
      parts = refl;
      place = place;
      blocked = λ t later more e. (let same : s ≡ t = cc in rw (← same) (rw none refl));
      begins = some;
    }

one_found_in : {A : Type 0} (p : Spot → Option A) (ts : List Spot) (a : A) (rest : List Spot) → one p ts ≡ Ok (a, rest) → Found (One p) never ts a rest
one_found_in p [] a rest h = absurd cc
one_found_in p (s ∷ ss) a rest h = one_found p s ss (p s) a rest refl h

-- a token for which the test gives a value is an example
pub exact_one : {A : Type 0} (p : Spot → Option A) (example : Spot) (value : A) → p example ≡ Some value → Exact (One p) (one p) never
exact_one p example value is =
    let some : Begins (One p) [] = record { more = example ∷ []; value = value; is = is } in
    record {
      found = λ ts a rest h. one_found_in p ts a rest h;
      only = λ prefix a more is stops. one_again p prefix a more is;
      faults = one_faults p some;
      some = some;
    }

-- ---- one after the other

-- The next form's lines, and what may follow them, don't go on with the form before.
abbrev pub Follows : {B : Type 0} → (List Spot → B → Type 0) → (B → List Class) → List Class → Type 0
Follows {B} M after before = (prefix more : List Spot) (b : B) → M prefix b → Stops (after b) more → Stops before (prefix ++ more)

same_head : (on : List Class) (prefix : List Spot) (t : Spot) (later more : List Spot) → Stops on (prefix ++ t ∷ later) → Stops on (prefix ++ t ∷ more)
same_head on [] t later more h = h
same_head on (s ∷ ss) t later more h = h

pub bind_ok : {A B : Type 0} (o : Result A (List Spot)) (f : A → Result B (List Spot)) (y : B) → (o >>= f) ≡ Ok y → (x : A) × (o ≡ Ok x) × (f x ≡ Ok y)
bind_ok (Ok x) f y h = (x, refl, h)
bind_ok (Err e) f y h = absurd cc

bind_err : {A B : Type 0} (o : Result A (List Spot)) (f : A → Result B (List Spot)) (n : List Spot) → (o >>= f) ≡ Err n → (o ≡ Err n) ⊎ ((x : A) × (o ≡ Ok x) × (f x ≡ Err n))
bind_err (Ok x) f n h = inr (x, refl, h)
bind_err (Err e) f n h = (let same : e ≡ n = cc in inl (ap (λ k. Err k) same))

bind_is : {A B : Type 0} (o : Result A (List Spot)) (f : A → Result B (List Spot)) (x : A) → o ≡ Ok x → (o >>= f) ≡ f x
bind_is o f x h = rw h refl

bind_fails : {A B : Type 0} (o : Result A (List Spot)) (f : A → Result B (List Spot)) (n : List Spot) → o ≡ Err n → (o >>= f) ≡ Err n
bind_fails o f n h = rw h refl

pub exact_then : {A B : Type 0} (L : List Spot → A → Type 0) (r : List Spot → Result (A × List Spot) (List Spot)) (before : A → List Class)
    (M : A → List Spot → B → Type 0) (q : A → List Spot → Result (B × List Spot) (List Spot)) (after : B → List Class)
    → Exact L r before → ((a : A) → Exact (M a) (q a) after) → ((a : A) → Follows (M a) after (before a))
    → Exact (Then L M) (λ ts. r ts >>= λ x. q x.0 x.1) after
exact_then L r before M q after first second follows = record {
  found = λ ts b rest h.
      let (x, e, h2) = bind_ok _ _ _ h in
      let f = first.found ts x.0 x.1 e in
      let s = (second x.0).found x.1 b rest h2 in
      record {
        prefix = f.prefix ++ s.prefix;
        parts = append_assoc f.prefix s.prefix rest ∙ ap (λ r. f.prefix ++ r) s.parts ∙ f.parts;
        is = record { prefix = f.prefix; rest = s.prefix; value = x.0; parts = refl; first = f.is; second = s.is };
        stops = s.stops;
      };
  only = λ line b more is stops.
      let e = first.only is.prefix is.value (is.rest ++ more) is.first (follows is.value is.rest more b is.second stops) in
      let whole : line ++ more ≡ is.prefix ++ (is.rest ++ more) = ap (λ t. t ++ more) (sym is.parts) ∙ append_assoc is.prefix is.rest more in
      rw whole (bind_is _ _ _ e ∙ (second is.value).only is.rest b more is.second stops);
  faults = λ ts n h.
      elim (bind_err _ _ n h) [
        | inl e ↦
            let f = first.faults ts n e in
            let s = (second f.begins.value).some in
            record {
              prefix = f.prefix;
              rest = f.rest;
              parts = f.parts;
              place = f.place;
              blocked = λ t later more is. bind_fails _ _ _ (f.blocked t later more is);
              begins = record {
                more = f.begins.more ++ s.more;
                value = s.value;
                is = record { prefix = f.prefix ++ f.begins.more; rest = s.more; value = f.begins.value; parts = append_assoc f.prefix f.begins.more s.more; first = f.begins.is; second = s.is };
              };
            }
        | inr (x, e, h2) ↦
            let f = first.found ts x.0 x.1 e in
            let s = (second x.0).faults x.1 n h2 in
            record {
              prefix = f.prefix ++ s.prefix;
              rest = s.rest;
              parts = append_assoc f.prefix s.prefix s.rest ∙ ap (λ r. f.prefix ++ r) s.parts ∙ f.parts;
              place = s.place;
              blocked = λ t later more is.
                  (let head : Stops (before x.0) (s.prefix ++ t ∷ later) = subst (Stops (before x.0)) (sym s.parts ∙ ap (λ r. s.prefix ++ r) is) f.stops in
                  let e2 = first.only f.prefix x.0 (s.prefix ++ t ∷ more) f.is (same_head (before x.0) s.prefix t later more head) in
                  rw (append_assoc f.prefix s.prefix (t ∷ more)) (bind_is _ _ _ e2 ∙ s.blocked t later more is));
              begins = record {
                more = s.begins.more;
                value = s.begins.value;
                is = record { prefix = f.prefix; rest = s.prefix ++ s.begins.more; value = x.0; parts = sym (append_assoc f.prefix s.prefix s.begins.more); first = f.is; second = s.begins.is };
              };
            }
      ];
  some =
      let s = (second first.some.value).some in
      record {
        more = first.some.more ++ s.more;
        value = s.value;
        is = record { prefix = first.some.more; rest = s.more; value = first.some.value; parts = refl; first = first.some.is; second = s.is };
      };
}

pub exact_seq : {A B : Type 0} (L : List Spot → A → Type 0) (r : List Spot → Result (A × List Spot) (List Spot))
    (M : A → List Spot → B → Type 0) (q : A → List Spot → Result (B × List Spot) (List Spot)) (after : B → List Class)
    → Exact L r never → ((a : A) → Exact (M a) (q a) after)
    → Exact (Then L M) (λ ts. r ts >>= λ x. q x.0 x.1) after
exact_seq L r M q after first second = exact_then L r never M q after first second (λ a prefix more b is stops. stops_never a (prefix ++ more))

pub exact_gives : {A : Type 0} (x : A) → Exact (Gives x) (λ ts. Ok (x, ts)) never
exact_gives x = record {
  found = λ ts a rest h. (let same = pair_is (x, ts) (a, rest) _ refl h in record { prefix = []; parts = ap (λ p. p.1) (sym same); is = (refl, ap (λ p. p.0) (sym same)); stops = stops_never a rest });
  only = λ prefix a more is stops. (rw is.0 (rw is.1 refl));
  faults = λ ts n h. absurd cc;
  some = record { more = []; value = x; is = (refl, refl) };
}

-- ---- choices by the next token

tested : {A : Type 0} (b : Bool) (x y : Result (A × List Spot) (List Spot)) (v : Result (A × List Spot) (List Spot)) → cond b x y ≡ v → ((b ≡ true) × (x ≡ v)) ⊎ ((b ≡ false) × (y ≡ v))
tested true x y v h = inl (refl, h)
tested false x y v h = inr (refl, h)

next_same : (cs : List Class) (prefix : List Spot) (t : Spot) (later more : List Spot) → next_among cs (prefix ++ t ∷ more) ≡ next_among cs (prefix ++ t ∷ later)
next_same cs [] t later more = refl
next_same cs (s ∷ ss) t later more = refl

next_prefix : (cs : List Class) (prefix more : List Spot) → next_among cs prefix ≡ true → next_among cs (prefix ++ more) ≡ true
next_prefix cs [] more h = absurd cc
next_prefix cs (s ∷ ss) more h = h

pub stops_next : (cs : List Class) (ts : List Spot) → next_among cs ts ≡ false → Stops cs ts
stops_next cs [] h = tt
stops_next cs (s ∷ ss) h = h

next_stops : (cs : List Class) (ts : List Spot) → Stops cs ts → next_among cs ts ≡ false
next_stops cs [] h = refl
next_stops cs (s ∷ ss) h = h

-- the token at a fault decides as it did
next_at : (cs : List Class) (b : Bool) (prefix rest ts : List Spot) (t : Spot) (later more : List Spot) → prefix ++ rest ≡ ts → rest ≡ t ∷ later → next_among cs ts ≡ b → next_among cs (prefix ++ t ∷ more) ≡ b
next_at cs b prefix rest ts t later more parts is h = next_same cs prefix t later more ∙ ap (next_among cs) (ap (λ r. prefix ++ r) (sym is) ∙ parts) ∙ h

pub exact_either : {A : Type 0} (cs : List Class) (L : List Spot → A → Type 0) (r : List Spot → Result (A × List Spot) (List Spot)) (M : List Spot → A → Type 0) (q : List Spot → Result (A × List Spot) (List Spot)) (on : A → List Class)
    → Exact L r on → Exact M q on
    → ((prefix : List Spot) (a : A) → L prefix a → next_among cs prefix ≡ true)
    → ((prefix : List Spot) (a : A) (more : List Spot) → M prefix a → Stops (on a) more → next_among cs (prefix ++ more) ≡ false)
    → Exact (Either L M) (either_read cs r q) on
exact_either cs L r M q on first second begins others = record {
  found = λ ts a rest h. elim (tested (next_among cs ts) (r ts) (q ts) _ h) [
    | inl (b, e) ↦ let f = first.found ts a rest e in record { prefix = f.prefix; parts = f.parts; is = inl f.is; stops = f.stops }
    | inr (b, e) ↦ let f = second.found ts a rest e in record { prefix = f.prefix; parts = f.parts; is = inr f.is; stops = f.stops }
  ];
  only = λ prefix a more is stops. elim is [
    | inl l ↦ (let b = next_prefix cs prefix more (begins prefix a l) in rw b (first.only prefix a more l stops))
    | inr m ↦ (let b = others prefix a more m stops in rw b (second.only prefix a more m stops))
  ];
  faults = λ ts n h. elim (tested (next_among cs ts) (r ts) (q ts) _ h) [
    | inl (b, e) ↦ let f = first.faults ts n e in
        record {
          prefix = f.prefix;
          rest = f.rest;
          parts = f.parts;
          place = f.place;
          blocked = λ t later more is. (let c = next_at cs true f.prefix f.rest ts t later more f.parts is b in rw c (f.blocked t later more is));
          begins = record { more = f.begins.more; value = f.begins.value; is = inl f.begins.is };
        }
    | inr (b, e) ↦ let f = second.faults ts n e in
        record {
          prefix = f.prefix;
          rest = f.rest;
          parts = f.parts;
          place = f.place;
          blocked = λ t later more is. (let c = next_at cs false f.prefix f.rest ts t later more f.parts is b in rw c (f.blocked t later more is));
          begins = record { more = f.begins.more; value = f.begins.value; is = inr f.begins.is };
        }
  ];
  some = record { more = first.some.more; value = first.some.value; is = inl first.some.is };
}

-- which tokens go on: those that begin it where it is not there
abbrev pub on_maybe : {A : Type 0} → List Class → (A → List Class) → Option A → List Class
on_maybe cs on None = cs
on_maybe cs on (Some a) = on a

-- which tokens go on: those that begin one more, where one more may come
abbrev pub on_many : {S : Type 0} → (S → Bool) → List Class → (S → List Class) → S → List Class
on_many may cs on s = if may s then cs ++ on s else on s

abbrev some_of : {A : Type 0} → A × List Spot → Result (Option A × List Spot) (List Spot)
some_of x = Ok (Some x.0, x.1)

maybe_again : {A : Type 0} (cs : List Class) (L : List Spot → A → Type 0) (r : List Spot → Result (A × List Spot) (List Spot)) (on : A → List Class) → Exact L r on → ((prefix : List Spot) (a : A) → L prefix a → next_among cs prefix ≡ true)
    → (prefix : List Spot) (o : Option A) (more : List Spot) → Maybe L prefix o → Stops (on_maybe cs on o) more → maybe_read cs r (prefix ++ more) ≡ Ok (o, more)
maybe_again cs L r on exact begins prefix None more is stops = (let b = next_stops cs more stops in rw is (rw b refl))
maybe_again cs L r on exact begins prefix (Some a) more is stops = (let b = next_prefix cs prefix more (begins prefix a is) in let e = exact.only prefix a more is stops in rw b (rw e refl))

pub exact_maybe : {A : Type 0} (cs : List Class) (L : List Spot → A → Type 0) (r : List Spot → Result (A × List Spot) (List Spot)) (on : A → List Class)
    → Exact L r on → ((prefix : List Spot) (a : A) → L prefix a → next_among cs prefix ≡ true)
    → Exact (Maybe L) (maybe_read cs r) (on_maybe cs on)
exact_maybe cs L r on exact begins = record {
  found = λ ts o rest h. elim (tested (next_among cs ts) (r ts >>= some_of) (Ok (None, ts)) _ h) [
    | inl (b, e) ↦
        let (x, e1, e2) = bind_ok _ _ _ e in
        let f = exact.found ts x.0 x.1 e1 in
        let same = pair_is (Some x.0, x.1) (o, rest) _ refl e2 in
        subst (λ (y : Option _ × List Spot). Found (Maybe L) (on_maybe cs on) ts y.0 y.1) same (record { prefix = f.prefix; parts = f.parts; is = f.is; stops = f.stops })
    | inr (b, e) ↦
        let same = pair_is (None, ts) (o, rest) _ refl e in
        subst (λ (y : Option _ × List Spot). Found (Maybe L) (on_maybe cs on) ts y.0 y.1) same (record { prefix = []; parts = refl; is = refl; stops = stops_next cs ts b })
  ];
  only = λ prefix o more is stops. maybe_again cs L r on exact begins prefix o more is stops;
  faults = λ ts n h. elim (tested (next_among cs ts) (r ts >>= some_of) (Ok (None, ts)) _ h) [
    | inl (b, e) ↦ elim (bind_err _ _ n e) [
      | inl e1 ↦ let f = exact.faults ts n e1 in
          record {
            prefix = f.prefix;
            rest = f.rest;
            parts = f.parts;
            place = f.place;
            blocked = λ t later more is. (let c = next_at cs true f.prefix f.rest ts t later more f.parts is b in rw c (bind_fails _ _ _ (f.blocked t later more is)));
            begins = record { more = f.begins.more; value = Some f.begins.value; is = f.begins.is };
          }
      | inr (x, e1, e2) ↦ absurd cc
    ]
    | inr (b, e) ↦ absurd cc
  ];
  some = record { more = []; value = None; is = refl };
}

-- ---- repetitions

and_left : (a b : Bool) → a && b ≡ true → a ≡ true
and_left true b h = refl
and_left false b h = absurd cc

and_right : (a b : Bool) → a && b ≡ true → b ≡ true
and_right true b h = h
and_right false b h = absurd cc

and_both : (a b : Bool) → a ≡ true → b ≡ true → a && b ≡ true
and_both a b h k = rw h k

or_none : (a b : Bool) → a || b ≡ false → (a ≡ false) × (b ≡ false)
or_none true b h = absurd cc
or_none false b h = (refl, h)

or_false : (a : Bool) → a ≡ a || false
or_false true = refl
or_false false = refl

or_assoc : (a b c : Bool) → a || (b || c) ≡ (a || b) || c
or_assoc true b c = refl
or_assoc false b c = refl

pub among_append : (cs ds : List Class) (s : Spot) → among (cs ++ ds) s ≡ among cs s || among ds s
among_append [] ds s = refl
among_append (c ∷ []) [] s = or_false (is_of c s.token)
among_append (c ∷ []) (d ∷ ds) s = refl
among_append (c ∷ d ∷ cs) ds s = ap (λ b. is_of c s.token || b) (among_append (d ∷ cs) ds s) ∙ or_assoc (is_of c s.token) (among (d ∷ cs) s) (among ds s)

stops_parts : (cs ds : List Class) (ts : List Spot) → Stops (cs ++ ds) ts → Stops cs ts × Stops ds ts
stops_parts cs ds [] h = (tt, tt)
stops_parts cs ds (s ∷ ss) h = or_none (among cs s) (among ds s) (sym (among_append cs ds s) ∙ h)

stops_both : (cs ds : List Class) (ts : List Spot) → Stops cs ts → Stops ds ts → Stops (cs ++ ds) ts
stops_both cs ds [] h k = tt
stops_both cs ds (s ∷ ss) h k = among_append cs ds s ∙ (rw (h, k) refl)

many_stops : (b : Bool) (cs ds : List Class) (ts : List Spot) → b && next_among cs ts ≡ false → Stops ds ts → Stops (cond b (cs ++ ds) ds) ts
many_stops true cs ds ts h k = stops_both cs ds ts (stops_next cs ts h) k
many_stops false cs ds ts h k = k

stops_many : (b : Bool) (cs ds : List Class) (ts : List Spot) → Stops (cond b (cs ++ ds) ds) ts → (b && next_among cs ts ≡ false) × Stops ds ts
stops_many true cs ds ts h = (let (first, second) = stops_parts cs ds ts h in (next_stops cs ts first, second))
stops_many false cs ds ts h = (refl, h)

-- what is left after a prefix that isn't empty is less
pub fewer : (cs : List Class) (prefix rest ts : List Spot) (n : ℕ) → next_among cs prefix ≡ true → prefix ++ rest ≡ ts → length ts < suc n → length rest < n
fewer cs [] rest ts n h parts short = absurd cc
fewer cs (s ∷ ss) rest ts n h parts short =
    let e1 : length (s ∷ ss ++ rest) ≡ length ts = ap (λ r. length r) parts in
    omega (arith, e1, length-append ss rest, short)

-- what is repeated is read exactly, begins with a token of these classes, and such a token does not go on with the one before
pub record Repeats {S : Type 0} (may : S → Bool) (cs : List Class) (L : S → List Spot → S → Type 0) (r : S → List Spot → Result (S × List Spot) (List Spot)) (q : S → List Class) : Type 0 where
  pub each : (s : S) → may s ≡ true → Exact (L s) (r s) q
  pub begins : (s : S) (prefix : List Spot) (e : S) → L s prefix e → next_among cs prefix ≡ true
  pub apart : (s : S) (t : Spot) → among cs t ≡ true → among (q s) t ≡ false

many_found : {S : Type 0} (may : S → Bool) (cs : List Class) (L : S → List Spot → S → Type 0) (r : S → List Spot → Result (S × List Spot) (List Spot)) (q : S → List Class) → Repeats may cs L r q
    → (n : ℕ) (s : S) (ts : List Spot) (e : S) (rest : List Spot) → length ts < n → Stops (q s) ts → many_in n may cs r s ts ≡ Ok (e, rest) → Found (Many may L s) (on_many may cs q) ts e rest
unfolding many_in
many_found may cs L r q repeats zero s ts e rest short stops h = absurd (omega (arith, short))
many_found {S} may cs L r q repeats (suc n) s ts e rest short stops h =
    elim (tested (may s && next_among cs ts) (r s ts >>= λ x. many_in n may cs r x.0 x.1) (Ok (s, ts)) _ h) [
      | inl (b, e0) ↦
          let (x, e1, e2) = bind_ok _ _ _ e0 in
          let f = (repeats.each s (and_left (may s) (next_among cs ts) b)).found ts x.0 x.1 e1 in
          let g = many_found may cs L r q repeats n x.0 x.1 e rest (fewer cs f.prefix x.1 ts n (repeats.begins s f.prefix x.0 f.is) f.parts short) f.stops e2 in
          record {
            prefix = f.prefix ++ g.prefix;
            parts = append_assoc f.prefix g.prefix rest ∙ ap (λ r. f.prefix ++ r) g.parts ∙ f.parts;
            is = (suc g.is.0, (and_left (may s) (next_among cs ts) b, record { prefix = f.prefix; rest = g.prefix; value = x.0; parts = refl; first = f.is; second = g.is.1 }));
            stops = g.stops;
          }
      | inr (b, e0) ↦
          let same = pair_is (s, ts) (e, rest) _ refl e0 in
          subst (λ (y : S × List Spot). Found (Many may L s) (on_many may cs q) ts y.0 y.1) same
          (record { prefix = []; parts = refl; is = (zero, (refl, refl)); stops = many_stops (may s) cs (q s) ts b stops })
    ]

times_stops : {S : Type 0} (may : S → Bool) (cs : List Class) (L : S → List Spot → S → Type 0) (r : S → List Spot → Result (S × List Spot) (List Spot)) (q : S → List Class) → Repeats may cs L r q
    → (k : ℕ) (s : S) (prefix : List Spot) (e : S) (more : List Spot) → Times may L k s prefix e → Stops (on_many may cs q e) more → Stops (q s) (prefix ++ more)
times_stops may cs L r q repeats zero s prefix e more is stops =
    let here = (stops_many (may e) cs (q e) more stops).1 in
    rw is.0 (subst (λ m. Stops (q m) more) is.1 here)
times_stops may cs L r q repeats (suc k) s prefix e more is stops =
    let first = is.1 in
    let begins = next_prefix cs first.prefix (first.rest ++ more) (repeats.begins s first.prefix first.value first.first) in
    let whole : first.prefix ++ (first.rest ++ more) ≡ prefix ++ more = sym (append_assoc first.prefix first.rest more) ∙ ap (λ l. l ++ more) first.parts in
    subst (Stops (q s)) whole (head_stops (first.prefix ++ (first.rest ++ more)) begins)
  where
    head_stops : (ts : List Spot) → next_among cs ts ≡ true → Stops (q s) ts
    head_stops [] h = tt
    head_stops (t ∷ ts) h = repeats.apart s t h

many_only : {S : Type 0} (may : S → Bool) (cs : List Class) (L : S → List Spot → S → Type 0) (r : S → List Spot → Result (S × List Spot) (List Spot)) (q : S → List Class) → Repeats may cs L r q
    → (n k : ℕ) (s : S) (prefix : List Spot) (e : S) (more : List Spot) → length (prefix ++ more) < n → Times may L k s prefix e → Stops (on_many may cs q e) more → many_in n may cs r s (prefix ++ more) ≡ Ok (e, more)
unfolding many_in
many_only may cs L r q repeats zero k s prefix e more short is stops = absurd (omega (arith, short))
many_only may cs L r q repeats (suc n) zero s prefix e more short is stops =
    let ends = (stops_many (may e) cs (q e) more stops).0 in
    rw is.0 (rw (← is.1) (rw ends refl))
many_only may cs L r q repeats (suc n) (suc k) s prefix e more short is stops =
    let first = is.1 in
    let whole : prefix ++ more ≡ first.prefix ++ (first.rest ++ more) = ap (λ t. t ++ more) (sym first.parts) ∙ append_assoc first.prefix first.rest more in
    let goes = repeats.begins s first.prefix first.value first.first in
    let b = and_both (may s) (next_among cs (first.prefix ++ (first.rest ++ more))) is.0 (next_prefix cs first.prefix (first.rest ++ more) goes) in
    let e1 = (repeats.each s is.0).only first.prefix first.value (first.rest ++ more) first.first (times_stops may cs L r q repeats k first.value first.rest e more first.second stops) in
    let few = fewer cs first.prefix (first.rest ++ more) (prefix ++ more) n goes (sym whole) short in
    let e2 = many_only may cs L r q repeats n k first.value first.rest e more few first.second stops in
    rw whole (rw b (rw e1 e2))

-- as FaultsAt, with any number of turns that is enough
record ManyFault {S : Type 0} (may : S → Bool) (cs : List Class) (L : S → List Spot → S → Type 0) (r : S → List Spot → Result (S × List Spot) (List Spot)) (s : S) (ts : List Spot) (n : List Spot) : Type 0 where
  prefix : List Spot
  rest : List Spot
  parts : prefix ++ rest ≡ ts
  place : n ≡ rest
  blocked : (t : Spot) (later more : List Spot) (m : ℕ) → rest ≡ t ∷ later → length (prefix ++ t ∷ more) < m → many_in m may cs r s (prefix ++ t ∷ more) ≡ Err (t ∷ more)
  begins : Begins (Many may L s) prefix

blocked_first : {S : Type 0} (may : S → Bool) (cs : List Class) (r : S → List Spot → Result (S × List Spot) (List Spot)) (s : S) (prefix more : List Spot) (t : Spot) (m : ℕ) → may s && next_among cs (prefix ++ t ∷ more) ≡ true
    → r s (prefix ++ t ∷ more) ≡ Err (t ∷ more) → length (prefix ++ t ∷ more) < m → many_in m may cs r s (prefix ++ t ∷ more) ≡ Err (t ∷ more)
unfolding many_in
blocked_first may cs r s prefix more t zero b e short = absurd (omega (arith, short))
blocked_first may cs r s prefix more t (suc m) b e short = rw b (rw e refl)

blocked_later : {S : Type 0} (may : S → Bool) (cs : List Class) (r : S → List Spot → Result (S × List Spot) (List Spot)) (s a : S) (one prefix more : List Spot) (t : Spot) (m : ℕ) → may s ≡ true → next_among cs one ≡ true
    → r s (one ++ (prefix ++ t ∷ more)) ≡ Ok (a, prefix ++ t ∷ more)
    → ((k : ℕ) → length (prefix ++ t ∷ more) < k → many_in k may cs r a (prefix ++ t ∷ more) ≡ Err (t ∷ more))
    → length (one ++ (prefix ++ t ∷ more)) < m → many_in m may cs r s (one ++ (prefix ++ t ∷ more)) ≡ Err (t ∷ more)
unfolding many_in
blocked_later may cs r s a one prefix more t zero lets goes e later short = absurd (omega (arith, short))
blocked_later may cs r s a one prefix more t (suc m) lets goes e later short =
    let b = and_both (may s) (next_among cs (one ++ (prefix ++ t ∷ more))) lets (next_prefix cs one (prefix ++ t ∷ more) goes) in
    rw b (rw e (later m (fewer cs one (prefix ++ t ∷ more) (one ++ (prefix ++ t ∷ more)) m goes refl short)))

many_faults : {S : Type 0} (may : S → Bool) (cs : List Class) (L : S → List Spot → S → Type 0) (r : S → List Spot → Result (S × List Spot) (List Spot)) (q : S → List Class) → Repeats may cs L r q
    → (n : ℕ) (s : S) (ts : List Spot) (k : List Spot) → length ts < n → many_in n may cs r s ts ≡ Err k → ManyFault may cs L r s ts k
unfolding many_in
many_faults may cs L r q repeats zero s ts k short h = absurd (omega (arith, short))
many_faults {S} may cs L r q repeats (suc n) s ts k short h =
    elim (tested (may s && next_among cs ts) (r s ts >>= λ x. many_in n may cs r x.0 x.1) (Ok (s, ts)) _ h) [
      | inl (b, e) ↦
          let lets = and_left (may s) (next_among cs ts) b in
          let here = and_right (may s) (next_among cs ts) b in
          elim (bind_err _ _ k e) [
            | inl e1 ↦
                let f = (repeats.each s lets).faults ts k e1 in
                record {
                  prefix = f.prefix;
                  rest = f.rest;
                  parts = f.parts;
                  place = f.place;
                  blocked = λ t later more m is few. blocked_first may cs r s f.prefix more t m (and_both (may s) (next_among cs (f.prefix ++ t ∷ more)) lets (next_at cs true f.prefix f.rest ts t later more f.parts is here)) (f.blocked t later more is) few;
                  begins = record {
                    more = f.begins.more;
                    value = f.begins.value;
                    is = (suc zero, (lets, record { prefix = f.prefix ++ f.begins.more; rest = []; value = f.begins.value; parts = append-nil (f.prefix ++ f.begins.more); first = f.begins.is; second = (refl, refl) }));
                  };
                }
            | inr (x, e1, e2) ↦
                let f = (repeats.each s lets).found ts x.0 x.1 e1 in
                let goes = repeats.begins s f.prefix x.0 f.is in
                let g = many_faults may cs L r q repeats n x.0 x.1 k (fewer cs f.prefix x.1 ts n goes f.parts short) e2 in
                record {
                  prefix = f.prefix ++ g.prefix;
                  rest = g.rest;
                  parts = append_assoc f.prefix g.prefix g.rest ∙ ap (λ r. f.prefix ++ r) g.parts ∙ f.parts;
                  place = g.place;
                  blocked = λ t later more m at few.
                      (let whole = append_assoc f.prefix g.prefix (t ∷ more) in
                      let few2 = subst (λ l. length l < m) whole few in
                      let head : Stops (q x.0) (g.prefix ++ t ∷ later) = subst (Stops (q x.0)) (sym g.parts ∙ ap (λ r. g.prefix ++ r) at) f.stops in
                      let e4 = (repeats.each s lets).only f.prefix x.0 (g.prefix ++ t ∷ more) f.is (same_head (q x.0) g.prefix t later more head) in
                      rw whole (blocked_later may cs r s x.0 f.prefix g.prefix more t m lets goes e4 (λ j few3. g.blocked t later more j at few3) few2));
                  begins = record {
                    more = g.begins.more;
                    value = g.begins.value;
                    is = (suc g.begins.is.0, (lets, record { prefix = f.prefix; rest = g.prefix ++ g.begins.more; value = x.0; parts = sym (append_assoc f.prefix g.prefix g.begins.more); first = f.is; second = g.begins.is.1 }));
                  };
                }
          ]
      | inr (b, e) ↦ absurd cc
    ]

-- a form, and more of its kind after it
pub exact_chain : {S : Type 0} (K : List Spot → S → Type 0) (k : List Spot → Result (S × List Spot) (List Spot)) (may : S → Bool) (cs : List Class) (L : S → List Spot → S → Type 0) (r : S → List Spot → Result (S × List Spot) (List Spot)) (q : S → List Class)
    → Exact K k q → Repeats may cs L r q → Exact (Then K (λ s. Many may L s)) (λ ts. k ts >>= λ x. many_read may cs r x.0 x.1) (on_many may cs q)
exact_chain {S} K k may cs L r q first repeats = record {
  found = λ ts e rest h.
      let (x, e1, e2) = bind_ok _ _ _ h in
      let f = first.found ts x.0 x.1 e1 in
      let g = many_found may cs L r q repeats (suc (length x.1)) x.0 x.1 e rest (omega arith) f.stops e2 in
      record {
        prefix = f.prefix ++ g.prefix;
        parts = append_assoc f.prefix g.prefix rest ∙ ap (λ r. f.prefix ++ r) g.parts ∙ f.parts;
        is = record { prefix = f.prefix; rest = g.prefix; value = x.0; parts = refl; first = f.is; second = g.is };
        stops = g.stops;
      };
  only = λ line e more is stops.
      let e1 = first.only is.prefix is.value (is.rest ++ more) is.first (times_stops may cs L r q repeats is.second.0 is.value is.rest e more is.second.1 stops) in
      let e2 = many_only may cs L r q repeats (suc (length (is.rest ++ more))) is.second.0 is.value is.rest e more (omega arith) is.second.1 stops in
      let whole : line ++ more ≡ is.prefix ++ (is.rest ++ more) = ap (λ t. t ++ more) (sym is.parts) ∙ append_assoc is.prefix is.rest more in
      rw whole (bind_is _ _ _ e1 ∙ e2);
  faults = λ ts n h.
      elim (bind_err _ _ n h) [
        | inl e1 ↦
            let f = first.faults ts n e1 in
            record {
              prefix = f.prefix;
              rest = f.rest;
              parts = f.parts;
              place = f.place;
              blocked = λ t later more is. bind_fails _ _ _ (f.blocked t later more is);
              begins = record {
                more = f.begins.more;
                value = f.begins.value;
                is = record { prefix = f.prefix ++ f.begins.more; rest = []; value = f.begins.value; parts = append-nil (f.prefix ++ f.begins.more); first = f.begins.is; second = (zero, (refl, refl)) };
              };
            }
        | inr (x, e1, e2) ↦
            let f = first.found ts x.0 x.1 e1 in
            let g = many_faults may cs L r q repeats (suc (length x.1)) x.0 x.1 n (omega arith) e2 in
            record {
              prefix = f.prefix ++ g.prefix;
              rest = g.rest;
              parts = append_assoc f.prefix g.prefix g.rest ∙ ap (λ r. f.prefix ++ r) g.parts ∙ f.parts;
              place = g.place;
              blocked = λ t later more is.
                  (let head : Stops (q x.0) (g.prefix ++ t ∷ later) = subst (Stops (q x.0)) (sym g.parts ∙ ap (λ r. g.prefix ++ r) is) f.stops in
                  let e3 = first.only f.prefix x.0 (g.prefix ++ t ∷ more) f.is (same_head (q x.0) g.prefix t later more head) in
                  rw (append_assoc f.prefix g.prefix (t ∷ more)) (bind_is _ _ _ e3 ∙ g.blocked t later more (suc (length (g.prefix ++ t ∷ more))) is (omega arith)));
              begins = record {
                more = g.begins.more;
                value = g.begins.value;
                is = record { prefix = f.prefix; rest = g.prefix ++ g.begins.more; value = x.0; parts = sym (append_assoc f.prefix g.prefix g.begins.more); first = f.is; second = g.begins.is };
              };
            }
      ];
  some = record { more = first.some.more; value = first.some.value; is = record { prefix = first.some.more; rest = []; value = first.some.value; parts = append-nil first.some.more; first = first.some.is; second = (zero, (refl, refl)) } };
}

-- ---- another value for the same tokens

pub exact_map : {A B : Type 0} (f : A → B) (L : List Spot → A → Type 0) (r : List Spot → Result (A × List Spot) (List Spot)) (on : A → List Class) (after : B → List Class) → ((a : A) → after (f a) ≡ on a)
    → Exact L r on → Exact (Then L (λ a. Gives (f a))) (λ ts. r ts >>= λ x. Ok (f x.0, x.1)) after
exact_map {A} {B} f L r on after same exact = record {
  found = λ ts b rest h.
      let (x, e, e2) = bind_ok _ _ _ h in
      let found = exact.found ts x.0 x.1 e in
      let pair = pair_is (f x.0, x.1) (b, rest) _ refl e2 in
      subst (λ (y : B × List Spot). Found (Then L (λ a. Gives (f a))) after ts y.0 y.1) pair
      (record { prefix = found.prefix; parts = found.parts; is = record { prefix = found.prefix; rest = []; value = x.0; parts = append-nil found.prefix; first = found.is; second = (refl, refl) }; stops = subst (λ cs. Stops cs x.1) (sym (same x.0)) found.stops });
  only = λ prefix b more is stops.
      let whole : prefix ≡ is.prefix = sym is.parts ∙ ap (λ r. is.prefix ++ r) is.second.0 ∙ append-nil is.prefix in
      let here : Stops (on is.value) more = subst (λ cs. Stops cs more) (ap after is.second.1 ∙ same is.value) stops in
      let e = exact.only is.prefix is.value more is.first here in
      rw whole (rw e (rw is.second.1 refl));
  faults = λ ts n h. elim (bind_err _ _ n h) [
    | inl e ↦
        let g = exact.faults ts n e in
        record {
          prefix = g.prefix;
          rest = g.rest;
          parts = g.parts;
          place = g.place;
          blocked = λ t later more is. bind_fails _ _ _ (g.blocked t later more is);
          begins = record { more = g.begins.more; value = f g.begins.value; is = record { prefix = g.prefix ++ g.begins.more; rest = []; value = g.begins.value; parts = append-nil _; first = g.begins.is; second = (refl, refl) } };
        }
    | inr (x, e, e2) ↦ absurd cc
  ];
  some = record { more = exact.some.more; value = f exact.some.value; is = record { prefix = exact.some.more; rest = []; value = exact.some.value; parts = append-nil _; first = exact.some.is; second = (refl, refl) } };
}

-- ---- the place of a fault, in the form's terms

apart_results : {A : Type 0} (o : Result A (List Spot)) (x : A) (n : List Spot) → o ≡ Ok x → o ≡ Err n → ⊥
apart_results o x n h k = cc

pub exact_offset : {A : Type 0} (L : List Spot → A → Type 0) (r : List Spot → Result (A × List Spot) (List Spot)) → Exact L r never → (ts n : List Spot) → r ts ≡ Err n → IsOffset L ts (left_of n)
exact_offset L r exact ts n h =
    let f = exact.faults ts n h in
    record {
      prefix = f.prefix;
      rest = f.rest;
      parts = f.parts;
      place = ap left_of f.place;
      begins = f.begins;
      blocked = λ t later is more.
          (let whole : (f.prefix ++ t ∷ []) ++ more.more ≡ f.prefix ++ t ∷ more.more = append_assoc f.prefix (t ∷ []) more.more in
          let line = subst (λ l. L l more.value) whole more.is in
          let read = exact.only (f.prefix ++ t ∷ more.more) more.value [] line (stops_never more.value []) in
          apart_results _ _ _ (subst (λ l. r l ≡ Ok (more.value, [])) (append-nil (f.prefix ++ t ∷ more.more)) read) (f.blocked t later more.more is));
      no_line = λ line more a parts is. apart_results (r ts) _ _ (subst (λ l. r l ≡ Ok (a, more)) parts (exact.only line a more is (stops_never a more))) h;
    }
