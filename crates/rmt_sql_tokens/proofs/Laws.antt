-- Rules that are read exactly, with the classes of their first tokens; and how they are put together.
use Rattle.std.proofs.Common.{◌≡◌, ◌∙◌, List, [], ◌∷◌, ◌++◌, refl, ap, sym, subst, Bool, true, false, Option, Some, None, inl, inr, append_assoc, ◌⊎◌}
use Rattle.std.specs.Prelude.{◌||◌}
use Rattle.std.proofs.lemmas.List.{append-nil}
use Rattle.rmt_sql_tokens.specs.Tokens.{Spot}
use Rattle.rmt_sql_tokens.specs.Classes.{Class, among, next_among}
use Rattle.rmt_sql_tokens.specs.Exact.{IsExact, Found, Stops, never, One, Then, Gives, Maybe, Rule, token, ◌then◌, gives, maybe, either, many, item}
use Rattle.rmt_sql_tokens.proofs.Apart.{disjoint, disjoint_is}
use Rattle.rmt_sql_tokens.proofs.Closed.{exact_one, exact_seq, exact_then, exact_maybe, exact_either, exact_chain, exact_map, among_append, stops_never, pair_is, on_maybe, on_many}

-- the first token of each line is of these classes
abbrev pub Starts : {A : Type 0} → Rule A → List Class → Type 0
Starts {A} R cs = (prefix more : List Spot) (a : A) → R.form prefix a → next_among cs (prefix ++ more) ≡ true

pub record Law {A : Type 0} (R : Rule A) (on : A → List Class) (cs : List Class) : Type 0 where
  pub exact : IsExact R on
  pub starts : Starts R cs

pub law_token : {A : Type 0} (p : Spot → Option A) (cs : List Class) (example : Spot) (value : A) → p example ≡ Some value → ((s : Spot) (a : A) → p s ≡ Some a → among cs s ≡ true) → Law (token p) never cs
law_token {A} p cs example value is reads_as = record { exact = exact_one p example value is; starts = head }
  where
    head : (prefix more : List Spot) (a : A) → One p prefix a → next_among cs (prefix ++ more) ≡ true
    head [] more a h = absurd h
    head (s ∷ []) more a h = reads_as s a h
    head (s ∷ t ∷ ts) more a h = absurd h

then_starts : {A B : Type 0} (L : List Spot → A → Type 0) (M : A → List Spot → B → Type 0) (cs : List Class) → ((prefix more : List Spot) (a : A) → L prefix a → next_among cs (prefix ++ more) ≡ true)
    → (prefix more : List Spot) (b : B) → Then L M prefix b → next_among cs (prefix ++ more) ≡ true
then_starts L M cs starts prefix more b is =
    let whole : is.prefix ++ (is.rest ++ more) ≡ prefix ++ more = sym (append_assoc is.prefix is.rest more) ∙ ap (λ l. l ++ more) is.parts in
    subst (λ l. next_among cs l ≡ true) whole (starts is.prefix (is.rest ++ more) is.value is.first)

-- a form that ends with a definite token, and another
pub law_then : {A B : Type 0} (R : Rule A) (k : A → Rule B) (after : B → List Class) (cs : List Class) → Law R never cs → ((a : A) → IsExact (k a) after) → Law (R then k) after cs
law_then R k after cs first second = record {
  exact = exact_seq R.form R.read (λ a. (k a).form) (λ a. (k a).read) after first.exact second;
  starts = then_starts R.form (λ a. (k a).form) cs first.starts;
}

pub head_stops : (cs ds : List Class) → disjoint cs ds ≡ true → (ts : List Spot) → next_among cs ts ≡ true → Stops ds ts
head_stops cs ds apart [] h = tt
head_stops cs ds apart (s ∷ ss) h = disjoint_is cs ds apart s h

-- a form, and another that does not go on with it
pub law_on : {A B : Type 0} (R : Rule A) (k : A → Rule B) (before : A → List Class) (after : B → List Class) (cs : List Class) (ds : A → List Class) → Law R before cs → ((a : A) → Law (k a) after (ds a)) → ((a : A) → disjoint (ds a) (before a) ≡ true) → Law (R then k) after cs
law_on R k before after cs ds first second apart = record {
  exact = exact_then R.form R.read before (λ a. (k a).form) (λ a. (k a).read) after first.exact (λ a. (second a).exact)
      (λ a prefix more b is stops. head_stops (ds a) (before a) (apart a) (prefix ++ more) ((second a).starts prefix more b is));
  starts = then_starts R.form (λ a. (k a).form) cs first.starts;
}

-- another value for the same tokens
pub law_gives : {A B : Type 0} (R : Rule A) (f : A → B) (on : A → List Class) (after : B → List Class) (cs : List Class) → ((a : A) → after (f a) ≡ on a) → Law R on cs → Law (R then λ a. gives (f a)) after cs
law_gives R f on after cs same law = record {
  exact = exact_map f R.form R.read on after same law.exact;
  starts = then_starts R.form (λ a. Gives (f a)) cs law.starts;
}

among_left : (cs ds : List Class) (s : Spot) → among cs s ≡ true → among (cs ++ ds) s ≡ true
among_left cs ds s h = among_append cs ds s ∙ (rw h refl)

among_right : (cs ds : List Class) (s : Spot) → among ds s ≡ true → among (cs ++ ds) s ≡ true
among_right cs ds s h = among_append cs ds s ∙ (rw h (or_true (among cs s)))
  where
    or_true : (b : Bool) → b || true ≡ true
    or_true true = refl
    or_true false = refl

next_left : (cs ds : List Class) (ts : List Spot) → next_among cs ts ≡ true → next_among (cs ++ ds) ts ≡ true
next_left cs ds [] h = absurd cc
next_left cs ds (s ∷ ss) h = among_left cs ds s h

next_right : (cs ds : List Class) (ts : List Spot) → next_among ds ts ≡ true → next_among (cs ++ ds) ts ≡ true
next_right cs ds [] h = absurd cc
next_right cs ds (s ∷ ss) h = among_right cs ds s h

next_false : (cs ds : List Class) → disjoint ds cs ≡ true → (ts : List Spot) → next_among ds ts ≡ true → next_among cs ts ≡ false
next_false cs ds apart [] h = absurd cc
next_false cs ds apart (s ∷ ss) h = disjoint_is ds cs apart s h

alone : {A : Type 0} (R : Rule A) (cs : List Class) → Starts R cs → (prefix : List Spot) (a : A) → R.form prefix a → next_among cs prefix ≡ true
alone R cs starts prefix a is = subst (λ l. next_among cs l ≡ true) (append-nil prefix) (starts prefix [] a is)

pub law_either : {A : Type 0} (R Q : Rule A) (on : A → List Class) (cs ds : List Class) → Law R on cs → Law Q on ds → disjoint ds cs ≡ true → Law (either cs R Q) on (cs ++ ds)
law_either {A} R Q on cs ds first second apart = record {
  exact = exact_either cs R.form R.read Q.form Q.read on first.exact second.exact (alone R cs first.starts)
      (λ prefix a more is stops. next_false cs ds apart (prefix ++ more) (second.starts prefix more a is));
  starts = head;
}
  where
    head : (prefix more : List Spot) (a : A) → R.form prefix a ⊎ Q.form prefix a → next_among (cs ++ ds) (prefix ++ more) ≡ true
    head prefix more a (inl is) = next_left cs ds (prefix ++ more) (first.starts prefix more a is)
    head prefix more a (inr is) = next_right cs ds (prefix ++ more) (second.starts prefix more a is)

-- [x], and what comes after it in any case
pub law_maybe : {A B : Type 0} (R : Rule A) (k : Option A → Rule B) (on : A → List Class) (after : B → List Class) (cs ds : List Class) → Law R on cs → ((o : Option A) → Law (k o) after ds) → disjoint ds cs ≡ true → ((a : A) → disjoint ds (on a) ≡ true)
    → Law (maybe cs R then k) after (cs ++ ds)
law_maybe {A} {B} R k on after cs ds first second apart goes = record {
  exact = exact_then (Maybe R.form) (maybe cs R).read (on_maybe cs on) (λ o. (k o).form) (λ o. (k o).read) after
      (exact_maybe cs R.form R.read on first.exact (alone R cs first.starts)) (λ o. (second o).exact)
      (λ o prefix more b is stops. head_stops ds (on_maybe cs on o) (apart_o o) (prefix ++ more) ((second o).starts prefix more b is));
  starts = λ prefix more b is.
      (let whole : is.prefix ++ (is.rest ++ more) ≡ prefix ++ more = sym (append_assoc is.prefix is.rest more) ∙ ap (λ l. l ++ more) is.parts in
      subst (λ l. next_among (cs ++ ds) l ≡ true) whole (head is.value is.prefix is.rest more b is.first is.second));
}
  where
    apart_o : (o : Option A) → disjoint ds (on_maybe cs on o) ≡ true
    apart_o None = apart
    apart_o (Some a) = goes a

    head : (o : Option A) (prefix rest more : List Spot) (b : B) → Maybe R.form prefix o → (k o).form rest b → next_among (cs ++ ds) (prefix ++ (rest ++ more)) ≡ true
    head None prefix rest more b is later = rw is (next_right cs ds (rest ++ more) ((second None).starts rest more b later))
    head (Some a) prefix rest more b is later = next_left cs ds (prefix ++ (rest ++ more)) (first.starts prefix (rest ++ more) a is)

-- [x] at the end of what is read
pub exact_maybe_last : {A : Type 0} (R : Rule A) (on : A → List Class) (cs : List Class) → Law R on cs → IsExact (maybe cs R) (on_maybe cs on)
exact_maybe_last R on cs law = exact_maybe cs R.form R.read on law.exact (alone R cs law.starts)

-- a form, and more of its kind
pub law_chain : {S : Type 0} (K : Rule S) (may : S → Bool) (cs : List Class) (L : S → Rule S) (q : S → List Class) (fs : List Class) → Law K q fs → ((s : S) → may s ≡ true → IsExact (L s) q) → ((s : S) → Starts (L s) cs) → ((s : S) → disjoint cs (q s) ≡ true)
    → Law (K then λ s. many may cs L s) (on_many may cs q) fs
law_chain K may cs L q fs first each starts apart = record {
  exact = exact_chain K.form K.read may cs (λ s. (L s).form) (λ s. (L s).read) q first.exact
      (record { each = each; begins = λ s prefix e is. alone (L s) cs (starts s) prefix e is; apart = λ s t h. disjoint_is cs (q s) (apart s) t h });
  starts = then_starts K.form (λ s. (many may cs L s).form) fs first.starts;
}

-- ---- the same for parts, of which the first tokens don't matter

pub step : {A B : Type 0} (R : Rule A) (k : A → Rule B) (after : B → List Class) (cs : List Class) → Law R never cs → ((a : A) → IsExact (k a) after) → IsExact (R then k) after
step R k after cs first second = (law_then R k after cs first second).exact

pub step_on : {A B : Type 0} (R : Rule A) (k : A → Rule B) (before : A → List Class) (after : B → List Class) (cs : List Class) (ds : A → List Class) → Law R before cs → ((a : A) → Law (k a) after (ds a)) → ((a : A) → disjoint (ds a) (before a) ≡ true) → IsExact (R then k) after
step_on R k before after cs ds first second apart = (law_on R k before after cs ds first second apart).exact

pub step_maybe : {A B : Type 0} (R : Rule A) (k : Option A → Rule B) (on : A → List Class) (after : B → List Class) (cs ds : List Class) → Law R on cs → ((o : Option A) → Law (k o) after ds) → disjoint ds cs ≡ true → ((a : A) → disjoint ds (on a) ≡ true)
    → IsExact (maybe cs R then k) after
step_maybe R k on after cs ds first second apart goes = (law_maybe R k on after cs ds first second apart goes).exact

-- a value that stands for nothing goes on with nothing
pub exact_gives_on : {A : Type 0} (x : A) (on : A → List Class) → on x ≡ [] → IsExact (gives x) on
exact_gives_on {A} x on none = record {
  found = λ ts a rest h.
      (let same = pair_is (x, ts) (a, rest) _ refl h in
      subst (λ (y : A × List Spot). Found (Gives x) on ts y.0 y.1) same (record { prefix = []; parts = refl; is = (refl, refl); stops = subst (λ cs. Stops cs ts) (sym none) (stops_never x ts) }));
  only = λ prefix a more is stops. (rw is.0 (rw is.1 refl));
  faults = λ ts n h. absurd cc;
  some = record { more = []; value = x; is = (refl, refl) };
}

-- ---- x { , x }

-- what goes on with a list goes on with its last
abbrev pub on_last : {A : Type 0} → (A → List Class) → List A → List Class
on_last on [] = []
on_last on (a ∷ []) = on a
on_last on (a ∷ b ∷ more) = on_last on (b ∷ more)

pub on_last_is : {A : Type 0} (on : A → List Class) (all : List A) (a : A) → on_last on (all ++ a ∷ []) ≡ on a
on_last_is on [] a = refl
on_last_is on (b ∷ []) a = refl
on_last_is on (b ∷ c ∷ more) a = on_last_is on (c ∷ more) a

pub last_apart : {A : Type 0} (cs : List Class) (on : A → List Class) → disjoint cs [] ≡ true → ((a : A) → disjoint cs (on a) ≡ true) → (all : List A) → disjoint cs (on_last on all) ≡ true
last_apart cs on none apart [] = none
last_apart cs on none apart (a ∷ []) = apart a
last_apart cs on none apart (a ∷ b ∷ more) = last_apart cs on none apart (b ∷ more)

pub law_item : {A : Type 0} (R : Rule A) (all : List A) (on : A → List Class) (cs : List Class) → Law R on cs → Law (item R all) (on_last on) cs
law_item R all on cs law = law_gives R (λ a. all ++ a ∷ []) on (on_last on) cs (λ a. on_last_is on all a) law

-- more first tokens than there are
pub law_wider : {A : Type 0} (R : Rule A) (on : A → List Class) (ds cs : List Class) → Law R on cs → Law R on (ds ++ cs)
law_wider R on ds cs law = record { exact = law.exact; starts = λ prefix more a is. next_right ds cs (prefix ++ more) (law.starts prefix more a is) }

-- a form begins as its first part does
pub starts_then : {A B : Type 0} (R : Rule A) (k : A → Rule B) (on : A → List Class) (cs : List Class) → Law R on cs → Starts (R then k) cs
starts_then R k on cs law = then_starts R.form (λ a. (k a).form) cs law.starts
