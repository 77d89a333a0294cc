-- Reading goes on further on.
use Rattle.std.proofs.Common.{◌≡◌, ◌∙◌, ℕ, ◌-◌, ◌<◌, ◌≤◌, List, [], ◌∷◌, ◌++◌, length, drop, ap, sym, refl, Bool, true, false, cond, arith, append_assoc}
use Rattle.std.proofs.lemmas.List.{length-drop}
use Rattle.rmt_sql_tokens.specs.declared.context.Context.TheVariants.{Plain}
use Rattle.rmt_sql_tokens.specs.Tokens.{Spot, spots, spots_from}
use Rattle.rmt_sql_tokens.specs.Classes.{End, next_among}
use Rattle.rmt_sql_tokens.specs.Exact.{left_of}
use Rattle.rmt_sql_tokens.proofs.Falling.{Falling, spots_falling}
use Rattle.rmt_statements.specs.declared.statement.Statement.{Statement}
use Rattle.rmt_sql.specs.Script.{is_empty, passed, tokens_at, is_first, IsStatementAt, IsFaultAt}
use Rattle.rmt_sql.proofs.StatementEnds.{statement_ends}

-- an end of the tokens begins no further on
end_less : (prefix f ts : List Spot) → Falling ts → prefix ++ f ≡ ts → left_of f ≤ left_of ts
end_less [] f ts falls same = rw same (omega arith)
end_less (s ∷ ss) f [] falls same = absurd cc
end_less (s ∷ ss) f (t ∷ ts) falls same =
    let tail : ss ++ f ≡ ts = cc in
    let less = end_less ss f ts falls.1 tail in
    omega (arith, less, falls.0)

passed_falling : (ts : List Spot) → Falling ts → Falling (passed ts) × (left_of (passed ts) ≤ left_of ts)
passed_falling [] falls = (tt, omega arith)
passed_falling (s ∷ ss) falls = go (is_empty s) (passed_falling ss falls.1)
  where
    go : (b : Bool) → Falling (passed ss) × (left_of (passed ss) ≤ left_of ss) → Falling (cond b (passed ss) (s ∷ ss)) × (left_of (cond b (passed ss) (s ∷ ss)) ≤ s.left)
    go true rest = (rest.0, omega (arith, rest.1, falls.0))
    go false rest = (falls, omega arith)

-- the tokens from a place on begin no further to the left
pub tokens_within : (script : List ℕ) (at : ℕ) → Falling (passed (tokens_at script at)) × (left_of (passed (tokens_at script at)) ≤ length script - at)
tokens_within script at =
    let (falls, within) = spots_falling 0 Plain (drop at script) in
    let (falling, less) = passed_falling (tokens_at script at) falls in
    (falling, omega (arith, within, less, length-drop at script))

no_bytes : (bytes : List ℕ) → length bytes ≡ 0 → next_among (End ∷ []) (passed (spots Plain bytes)) ≡ true
unfolding spots_from
no_bytes [] h = refl
no_bytes (b ∷ bs) h = absurd (omega (arith, h))

-- where not the end comes next, some bytes are left
some_left : (script : List ℕ) (at : ℕ) → next_among (End ∷ []) (passed (tokens_at script at)) ≡ false → length script - at ≡ 0 → ⊥
some_left script at more none =
    let end = no_bytes (drop at script) (length-drop at script ∙ none) in
    absurd (let e : true ≡ false = sym end ∙ more in cc)

-- after a statement
pub statement_on : (script : List ℕ) (at : ℕ) (found : Statement) (start end : ℕ) → next_among (End ∷ []) (passed (tokens_at script at)) ≡ false → IsStatementAt script at found start end → (at < end) × (end ≤ length script)
statement_on script at found start end more found_there =
    let (falling, within) = tokens_within script at in
    let (before, s, parts, place) = (statement_ends (is_first script at)).each found_there.prefix (found, found_there.left) found_there.line in
    let whole : before ++ (s ∷ found_there.more) ≡ passed (tokens_at script at) = sym (append_assoc before (s ∷ []) found_there.more) ∙ ap (λ l. l ++ found_there.more) parts ∙ found_there.parts in
    let less : s.left ≤ left_of (passed (tokens_at script at)) = end_less before (s ∷ found_there.more) (passed (tokens_at script at)) falling whole in
    let some = some_left script at more in
    (grind (arith, place, less, within, some, found_there.ends), omega (arith, found_there.ends))

-- after what can't be read
pub fails_on : (script : List ℕ) (at offset end : ℕ) → next_among (End ∷ []) (passed (tokens_at script at)) ≡ false → IsFaultAt script at offset end → (at < end) × (end ≤ length script)
fails_on script at offset end more fails =
    let (falling, within) = tokens_within script at in
    let less : left_of fails.fault.rest ≤ left_of (passed (tokens_at script at)) = end_less fails.fault.prefix fails.fault.rest (passed (tokens_at script at)) falling fails.fault.parts in
    let some = some_left script at more in
    (grind (arith, fails.place, fails.fault.place, less, within, some, fails.resumes), omega (arith, fails.resumes))
