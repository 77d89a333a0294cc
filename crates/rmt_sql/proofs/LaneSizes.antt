-- Lanes that are read have no more statements than bytes.
use Rattle.std.proofs.Common.{◌≡◌, ℕ, zero, suc, ◌+◌, ◌-◌, ◌≤◌, List, [], ◌∷◌, ◌++◌, length, drop, inl, inr, ap, sym, ◌∙◌, append_assoc, arith, Bool, true, false, cond, Option}
use Rattle.std.proofs.lemmas.List.{length-append}
use Rattle.rmt_statements.specs.declared.sent.Sent.{Sent}
use Rattle.rmt_statements.specs.declared.statement.Statement.{Statement}
use Rattle.rmt_statements.specs.declared.statement.Statement.TheVariants.{Lanes}
use Rattle.rmt_sql_tokens.specs.declared.context.Context.{Context}
use Rattle.rmt_sql_tokens.specs.declared.context.Context.TheVariants.{Plain, Format, Csv, Over}
use Rattle.rmt_sql_tokens.specs.Tokens.{Spot, Scanned, scan, with_spot, spots_from}
use Rattle.rmt_sql_tokens.specs.Exact.{One, Then, Gives, Times, Many, always, item, left_of}
use Rattle.rmt_sql_tokens.proofs.Falling.{spots_falling}
use Rattle.rmt_sql_acts.specs.Acts.{row_act}
use Rattle.rmt_sql_acts.proofs.Ends.{Ends}
use Rattle.rmt_sql_acts.proofs.ActEnds.{row_act_ends}
use Rattle.rmt_sql.specs.declared.parsed.Parsed.TheVariants as parsed
use Rattle.rmt_sql.specs.Grammar.{sent, lane_statement, lane, may_follow, some_lanes, lanes}
use Rattle.rmt_sql.specs.Script.{is_empty, passed, tokens_at, is_first, IsStatementAt, statements_in, HoldsLanes}
use Rattle.rmt_sql.proofs.StatementEnds.{sent_ends, statement_ends}
use Rattle.rmt_sql.proofs.StatementLimits.{read_is}
use Rattle.rmt_sql.proofs.Going.{tokens_within}

-- ---- the tokens of a line

-- the tokens of each line, with so many before them, are at least as many as is counted of its value
record HasTokens {A : Type 0} (before : ℕ) (count : A → ℕ) (L : List Spot → A → Type 0) : Type 0 where
  each : (ts : List Spot) (a : A) → L ts a → count a ≤ before + length ts

-- one form after the other
tokens_then : {A B : Type 0} (before : ℕ) (count : A → ℕ) (total : B → ℕ) (L : List Spot → A → Type 0) (M : A → List Spot → B → Type 0)
    → HasTokens before count L → ((a : A) → HasTokens (count a) total (M a)) → HasTokens before total (Then L M)
tokens_then before count total L M first second = record {
  each = λ ts b h.
      let one = first.each h.prefix h.value h.first in
      let two = (second h.value).each h.rest b h.second in
      let whole : length (h.prefix ++ h.rest) ≡ length ts = ap (λ l. length l) h.parts in
      omega (arith, one, two, whole, length-append h.prefix h.rest);
}

-- a form after another, whatever the first is
tokens_after : {A B : Type 0} (before : ℕ) (total : B → ℕ) (L : List Spot → A → Type 0) (M : A → List Spot → B → Type 0) → ((a : A) → HasTokens before total (M a)) → HasTokens before total (Then L M)
tokens_after before total L M second = tokens_then before (λ a. before) total L M (record { each = λ ts a h. omega arith }) second

-- one token
tokens_one : {A : Type 0} (before : ℕ) (p : Spot → Option A) → HasTokens before (λ a. before + 1) (One p)
tokens_one {A} before p = record { each = one }
  where
    one : (ts : List Spot) (a : A) → One p ts a → before + 1 ≤ before + length ts
    one [] a h = absurd h
    one (s ∷ ss) a h = omega arith

-- nothing, which gives a value
tokens_gives : {A : Type 0} (before : ℕ) (count : A → ℕ) (x : A) → count x ≤ before → HasTokens before count (Gives x)
tokens_gives before count x less = record { each = λ ts a h. (let same : count a ≡ count x = ap count h.1 in omega (arith, same, less)) }

-- so many turns, each of which has as many tokens as it adds to the count
times_tokens : {S : Type 0} (count : S → ℕ) (may : S → Bool) (L : S → List Spot → S → Type 0) → ((m : S) → HasTokens (count m) count (L m))
    → (n : ℕ) (s : S) (ts : List Spot) (e : S) → Times may L n s ts e → count e ≤ count s + length ts
times_tokens count may L each zero s ts e h = (let same : count e ≡ count s = ap count h.1 in omega (arith, same))
times_tokens count may L each (suc n) s ts e h =
    let t = h.1 in
    let one = (each s).each t.prefix t.value t.first in
    let two = times_tokens count may L each n t.value t.rest e t.second in
    let whole : length (t.prefix ++ t.rest) ≡ length ts = ap (λ l. length l) t.parts in
    omega (arith, one, two, whole, length-append t.prefix t.rest)

-- any number of such turns
tokens_many : {S : Type 0} (count : S → ℕ) (may : S → Bool) (L : S → List Spot → S → Type 0) (s : S) → ((m : S) → HasTokens (count m) count (L m)) → HasTokens (count s) count (Many may L s)
tokens_many count may L s each = record { each = λ ts e h. times_tokens count may L each h.0 s ts e h.1 }

-- a line with an end has a token at least
tokens_ends : {A : Type 0} (before : ℕ) (L : List Spot → A × ℕ → Type 0) → Ends L → HasTokens before (λ a. before + 1) L
tokens_ends before L ends = record {
  each = λ ts a h.
      let (some, s, parts, place) = ends.each ts a h in
      let whole : length (some ++ s ∷ []) ≡ length ts = ap (λ l. length l) parts in
      omega (arith, whole, length-append some (s ∷ []));
}

-- ---- the tokens of LANES

-- a statement of a lane has a token at least
statement_tokens : (before : ℕ) → HasTokens before (λ s. before + 1) lane_statement.form
unfolding lane_statement
statement_tokens before =
    tokens_then before (λ s. before + 1) (λ s. before + 1) (sent (row_act false)).form _ (tokens_ends before (sent (row_act false)).form (sent_ends (row_act false) (row_act_ends false))) (λ s.
    tokens_gives (before + 1) (λ s. before + 1) s.0 (omega arith))

-- a lane's statements, and so many tokens
abbrev lane_count : ℕ → List Sent → ℕ
lane_count before all = before + length all

-- one statement more
next_tokens : (before : ℕ) (all : List Sent) → HasTokens (lane_count before all) (lane_count before) (item lane_statement all).form
next_tokens before all =
    tokens_then (before + length all) (λ s. before + length all + 1) (lane_count before) lane_statement.form _ (statement_tokens (before + length all)) (λ s.
    tokens_gives (before + length all + 1) (lane_count before) (all ++ s ∷ []) (omega (arith, length-append all (s ∷ []))))

-- a lane
lane_tokens : (before : ℕ) → HasTokens before (lane_count before) lane.form
unfolding lane
lane_tokens before =
    tokens_then before (lane_count before) (lane_count before) _ _
    (tokens_after _ _ _ _ (λ _. tokens_after _ _ _ _ (λ _. tokens_gives before (lane_count before) [] (omega arith))))
    (λ none. tokens_many (lane_count before) always (λ all. (item lane_statement all).form) none (λ all. next_tokens before all))

-- one lane more has its statements more
statements_in-append : (all : List (List Sent)) (one : List Sent) → statements_in (all ++ one ∷ []) ≡ statements_in all + length one
statements_in-append [] one = omega arith
statements_in-append (first ∷ all) one = omega (arith, statements_in-append all one)

-- the statements of lanes, and the two tokens LANES and `;`
abbrev lanes_count : List (List Sent) → ℕ
lanes_count all = 2 + statements_in all

-- one lane more
next_lane_tokens : (all : List (List Sent)) → HasTokens (lanes_count all) lanes_count (item lane all).form
next_lane_tokens all =
    tokens_then (lanes_count all) (lane_count (lanes_count all)) lanes_count lane.form _ (lane_tokens (lanes_count all)) (λ one.
    tokens_gives (lane_count (lanes_count all) one) lanes_count (all ++ one ∷ []) (omega (arith, statements_in-append all one)))

-- lane { lane }
some_tokens : HasTokens 2 lanes_count some_lanes.form
unfolding some_lanes
some_tokens =
    tokens_then 2 lanes_count lanes_count (item lane []).form _ (next_lane_tokens []) (λ first.
    tokens_many lanes_count may_follow (λ all. (item lane all).form) first next_lane_tokens)

-- the statements in the lanes of a statement
abbrev statements_of : Statement → ℕ
statements_of (Lanes all) = statements_in all
statements_of found = 0

-- LANES has four tokens beside those of its lanes
lanes_tokens : HasTokens 0 (λ s. 4 + statements_of s.0) lanes.form
unfolding lanes
lanes_tokens =
    tokens_then 0 (λ _. 1) _ _ _ (tokens_one 0 _) (λ _. tokens_then 1 (λ _. 2) _ _ _ (tokens_one 1 _) (λ _. tokens_then 2 lanes_count _ some_lanes.form _ some_tokens (λ all.
    tokens_then (lanes_count all) (λ _. lanes_count all + 1) _ _ _ (tokens_one (lanes_count all) _) (λ _.
    tokens_then (lanes_count all + 1) (λ _. lanes_count all + 1 + 1) _ _ _ (tokens_one (lanes_count all + 1) _) (λ left.
    tokens_gives (lanes_count all + 1 + 1) (λ s. 4 + statements_of s.0) (Lanes all, left) (omega arith))))))

-- ---- the places of tokens

-- each token's place is greater than that of the next, except at the end, where two tokens may have the place 0
abbrev Spaced : List Spot → Type 0
Spaced [] = Unit {0}
Spaced (s ∷ ss) = ((left_of ss ≤ s.left - 1) × (length ss ≤ s.left + 1)) × Spaced ss

-- so there are few tokens
few_tokens : (ts : List Spot) → Spaced ts → length ts ≤ left_of ts + 2
few_tokens [] spaced = omega arith
few_tokens (s ∷ ss) spaced = omega (arith, spaced.0.1)

-- what is scanned, and the tokens after it
with_spaced : (f : Scanned) (n : ℕ) (rest : List Spot) → Spaced rest → left_of rest ≤ n → Spaced (with_spot f (suc n) rest)
with_spaced f n rest spaced below = go f.is_token
  where
    go : (b : Bool) → Spaced (cond b (record { token = f.token; left = suc n } ∷ rest) rest)
    go true = ((omega (arith, below), omega (arith, below, few_tokens rest spaced)), spaced)
    go false = spaced

-- the end of the bytes
end_spaced : (n : ℕ) (context : Context) → Spaced (spots_from n context [])
unfolding spots_from
end_spaced n Plain = ((omega arith, omega arith), tt)
end_spaced n Format = ((omega arith, omega arith), tt)
end_spaced n Csv = ((omega arith, omega arith), ((omega arith, omega arith), tt))
end_spaced n Over = tt

-- the tokens of bytes
spots_spaced : (n : ℕ) (context : Context) (bytes : List ℕ) → Spaced (spots_from n context bytes)
unfolding spots_from
spots_spaced n context [] = end_spaced n context
spots_spaced zero context (b ∷ bs) =
    let f = scan context b bs in
    let (falls, below) = spots_falling f.more f.context bs in
    with_spaced f (length bs) (spots_from f.more f.context bs) (spots_spaced f.more f.context bs) below
spots_spaced (suc n) context (b ∷ bs) = spots_spaced n context bs

-- the tokens after empty statements
passed_spaced : (ts : List Spot) → Spaced ts → Spaced (passed ts)
passed_spaced [] spaced = tt
passed_spaced (s ∷ ss) spaced = go (is_empty s) (passed_spaced ss spaced.1)
  where
    go : (b : Bool) → Spaced (passed ss) → Spaced (cond b (passed ss) (s ∷ ss))
    go true rest = rest
    go false rest = spaced

-- a token with so many before it begins as many bytes further on at least, but for one
place_after : (before : List Spot) (s : Spot) (more ts : List Spot) → Spaced ts → before ++ (s ∷ more) ≡ ts → (s.left ≤ left_of ts) × (length before + s.left ≤ left_of ts + 1)
place_after [] s more ts spaced same = rw (← same) (omega arith, omega arith)
place_after (b ∷ bs) s more [] spaced same = absurd cc
place_after (b ∷ bs) s more (t ∷ ts) spaced same =
    let tail : bs ++ (s ∷ more) ≡ ts = cc in
    let (less, far) = place_after bs s more ts spaced.1 tail in
    let many : length (bs ++ (s ∷ more)) ≡ length ts = ap (λ l. length l) tail in
    (omega (arith, less, spaced.0.0), omega (arith, less, far, many, length-append bs (s ∷ more), spaced.0.0, spaced.0.1))

-- lanes that are read have no more statements than bytes
pub lanes_hold : (script : List ℕ) (at : ℕ) (found : Statement) (start end : ℕ) → IsStatementAt script at found start end → HoldsLanes at (parsed.Statement found start end)
lanes_hold script at (Lanes all) start end h =
    let line : lanes.form h.prefix (Lanes all, h.left) = elim (read_is script at (Lanes all) start end h) [
      | inl line ↦ line
      | inr none ↦ absurd none
    ] in
    let many = lanes_tokens.each h.prefix (Lanes all, h.left) line in
    let (before, s, parts, place) = (statement_ends (is_first script at)).each h.prefix (Lanes all, h.left) h.line in
    let whole : before ++ (s ∷ h.more) ≡ passed (tokens_at script at) = sym (append_assoc before (s ∷ []) h.more) ∙ ap (λ l. l ++ h.more) parts ∙ h.parts in
    let (falls, within) = tokens_within script at in
    let (less, far) = place_after before s h.more (passed (tokens_at script at)) (passed_spaced (tokens_at script at) (spots_spaced 0 Plain (drop at script))) whole in
    let length_is : length (before ++ s ∷ []) ≡ length h.prefix = ap (λ l. length l) parts in
    grind (arith, many, place, within, far, length_is, length-append before (s ∷ []), h.ends)
lanes_hold script at _ start end h = tt
