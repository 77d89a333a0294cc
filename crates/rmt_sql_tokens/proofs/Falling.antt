-- The places of tokens fall from the left to the right.
use Rattle.std.proofs.Common.{◌≡◌, ◌∙◌, ℕ, zero, suc, ◌≤◌, List, [], ◌∷◌, ◌++◌, length, ap, sym, subst, Bool, true, false, cond, arith}
use Rattle.std.proofs.lemmas.List.{length-append}
use Rattle.rmt_sql_tokens.specs.declared.context.Context.{Context}
use Rattle.rmt_sql_tokens.specs.declared.context.Context.TheVariants.{Plain, Format, Csv, Over}
use Rattle.rmt_sql_tokens.specs.Tokens.{Spot, Scanned, scan, with_spot, spots_from}
use Rattle.rmt_sql_tokens.specs.Exact.{left_of}

-- each token's place is no less than that of the next
abbrev pub Falling : List Spot → Type 0
Falling [] = Unit {0}
Falling (s ∷ ss) = (left_of ss ≤ s.left) × Falling ss

with_falling : (f : Scanned) (left : ℕ) (rest : List Spot) → Falling rest → left_of rest ≤ left → Falling (with_spot f left rest) × (left_of (with_spot f left rest) ≤ left)
with_falling f left rest falls below = go f.is_token
  where
    go : (b : Bool) → Falling (cond b (record { token = f.token; left = left } ∷ rest) rest) × (left_of (cond b (record { token = f.token; left = left } ∷ rest) rest) ≤ left)
    go true = ((below, falls), omega arith)
    go false = (falls, below)

end_falling : (n : ℕ) (context : Context) → Falling (spots_from n context []) × (left_of (spots_from n context []) ≤ 0)
unfolding spots_from
end_falling n Plain = ((omega arith, tt), omega arith)
end_falling n Format = ((omega arith, tt), omega arith)
end_falling n Csv = ((omega arith, (omega arith, tt)), omega arith)
end_falling n Over = (tt, omega arith)

pub spots_falling : (n : ℕ) (context : Context) (bytes : List ℕ) → Falling (spots_from n context bytes) × (left_of (spots_from n context bytes) ≤ length bytes)
unfolding spots_from
spots_falling n context [] = end_falling n context
spots_falling zero context (b ∷ bs) =
    let f = scan context b bs in
    let (falls, below) = spots_falling (scan context b bs).more (scan context b bs).context bs in
    with_falling (scan context b bs) (suc (length bs)) (spots_from (scan context b bs).more (scan context b bs).context bs) falls (omega (arith, below))
spots_falling (suc n) context (b ∷ bs) = (let (falls, below) = spots_falling n context bs in (falls, omega (arith, below)))

-- of two ends of the tokens the shorter one begins at no greater place
pub later_less : (ts before e prefix f : List Spot) → Falling ts → before ++ e ≡ ts → prefix ++ f ≡ ts → length f ≤ length e → left_of f ≤ left_of e
later_less ts before e prefix f falls parts parts2 shorter = go before prefix ts falls parts parts2
  where
    at_head : (prefix e : List Spot) → Falling e → prefix ++ f ≡ e → left_of f ≤ left_of e
    at_head [] e falls same = rw same (omega arith)
    at_head (s ∷ ss) [] falls same = absurd cc
    at_head (s ∷ ss) (t ∷ ts) falls same =
        let tail : ss ++ f ≡ ts = cc in
        let less = at_head ss ts falls.1 tail in
        omega (arith, less, falls.0)

    go : (before prefix ts : List Spot) → Falling ts → before ++ e ≡ ts → prefix ++ f ≡ ts → left_of f ≤ left_of e
    go [] prefix ts falls same same2 = at_head prefix e (subst Falling (sym same) falls) (same2 ∙ sym same)
    go (s ∷ ss) [] ts falls same same2 =
        absurd (let l : suc (length (ss ++ e)) ≡ length f = ap (λ l. length l) (same ∙ sym same2) in omega (arith, l, length-append ss e, shorter))
    go (s ∷ ss) (u ∷ us) [] falls same same2 = absurd cc
    go (s ∷ ss) (u ∷ us) (t ∷ ts) falls same same2 =
        let one : ss ++ e ≡ ts = cc in
        let two : us ++ f ≡ ts = cc in
        go ss us ts falls.1 one two
