-- What is at a place of a script is one thing: two readings of one place are the same.
use Rattle.std.proofs.Common.{◌≡◌, ◌∙◌, ℕ, ◌-◌, ◌<◌, List, [], ◌∷◌, ◌++◌, length, ap, sym, subst, refl, inl, inr, true, false, append_assoc, Ok, Err, Result}
use Rattle.std.proofs.lemmas.Bool.{cases_order}
use Rattle.rmt_sql_tokens.specs.Tokens.{Spot}
use Rattle.rmt_sql_tokens.specs.Classes.{End, next_among}
use Rattle.rmt_sql_tokens.specs.Exact.{IsOffset, Stops, left_of}
use Rattle.rmt_sql_tokens.proofs.Closed.{stops_never}
use Rattle.rmt_sql_tokens.proofs.Longest.{splits, same_rest}
use Rattle.rmt_statements.specs.declared.statement.Statement.{Statement}
use Rattle.rmt_sql.specs.declared.parsed.Parsed.{Parsed}
use Rattle.rmt_sql.specs.declared.parsed.Parsed.TheVariants as parsed
use Rattle.rmt_sql.specs.Grammar.{statement}
use Rattle.rmt_sql.specs.Script.{passed, tokens_at, is_first, IsStatementAt, IsFaultAt, ReadsAt, after_end}
use Rattle.rmt_sql.proofs.StatementLaws.{statement_exact, no_end}

-- no place of a fault comes before another
no_earlier : {A : Type 0} (L : List Spot → A → Type 0) (ts : List Spot) (l m : ℕ) (x : IsOffset L ts l) (y : IsOffset L ts m) → length y.rest < length x.rest → ⊥
no_earlier L ts l m x y less =
    let s = splits x.prefix x.rest y.prefix y.rest (x.parts ∙ sym y.parts) less in
    let more = y.begins.more in
    let whole : y.prefix ++ more ≡ (x.prefix ++ s.token ∷ []) ++ (s.between ++ more) =
    ap (λ l. l ++ more) s.prefix_is ∙ append_assoc x.prefix (s.token ∷ s.between) more ∙ sym (append_assoc x.prefix (s.token ∷ []) (s.between ++ more)) in
    x.blocked s.token (s.between ++ y.rest) s.rest_is (record { more = s.between ++ more; value = y.begins.value; is = subst (λ l. L l y.begins.value) whole y.begins.is })

one_offset : {A : Type 0} (L : List Spot → A → Type 0) (ts : List Spot) (l m : ℕ) → IsOffset L ts l → IsOffset L ts m → l ≡ m
one_offset L ts l m x y = elim (cases_order (length y.rest) (length x.rest)) [
  | inl equal ↦ x.place ∙ ap left_of (same_rest x.prefix x.rest y.prefix y.rest (x.parts ∙ sym y.parts) equal) ∙ sym y.place
  | inr apart ↦ elim apart [
    | inl less ↦ absurd (no_earlier L ts l m x y less)
    | inr less ↦ absurd (no_earlier L ts m l y x less)
  ]
]

one_fault : (script : List ℕ) (at o e p u : ℕ) → IsFaultAt script at o e → IsFaultAt script at p u → parsed.Syntax o e ≡ parsed.Syntax p u
one_fault script at o e p u x y =
    let left = one_offset (statement (is_first script at)).form (passed (tokens_at script at)) x.left y.left x.fault y.fault in
    let offset : o ≡ p = x.place ∙ ap (λ l. length script - l) left ∙ sym y.place in
    let end : e ≡ u = x.resumes ∙ ap (λ l. after_end script l) offset ∙ sym y.resumes in
    rw (offset, end) refl

abbrev taken : Statement × ℕ → List Spot → Result ((Statement × ℕ) × List Spot) (List Spot)
taken a more = Ok (a, more)

abbrev found_in : Result ((Statement × ℕ) × List Spot) (List Spot) → Statement × ℕ → Statement × ℕ
found_in (Ok x) a = x.0
found_in (Err e) a = a

one_statement : (script : List ℕ) (at : ℕ) (f g : Statement) (s e t u : ℕ) → IsStatementAt script at f s e → IsStatementAt script at g t u → parsed.Statement f s e ≡ parsed.Statement g t u
one_statement script at f g s e t u x y =
    let read = (statement (is_first script at)).read in
    let one : read (passed (tokens_at script at)) ≡ Ok ((f, x.left), x.more) = subst (λ l. read l ≡ Ok ((f, x.left), x.more)) x.parts ((statement_exact (is_first script at)).only x.prefix (f, x.left) x.more x.line (stops_never {A = Statement × ℕ} (f, x.left) x.more)) in
    let other : read (passed (tokens_at script at)) ≡ Ok ((g, y.left), y.more) = subst (λ l. read l ≡ Ok ((g, y.left), y.more)) y.parts ((statement_exact (is_first script at)).only y.prefix (g, y.left) y.more y.line (stops_never {A = Statement × ℕ} (g, y.left) y.more)) in
    let same : taken (f, x.left) x.more ≡ taken (g, y.left) y.more = sym one ∙ other in
    let found : f ≡ g = ap (λ r. (found_in r (f, x.left)).0) same in
    let left : x.left ≡ y.left = ap (λ r. (found_in r (f, x.left)).1) same in
    let start : s ≡ t = x.starts ∙ sym y.starts in
    let end : e ≡ u = x.ends ∙ ap (λ l. length script - l) left ∙ sym y.ends in
    rw (found, start, end) refl

not_next : (ts : List Spot) → Stops (End ∷ []) ts → next_among (End ∷ []) ts ≡ true → ⊥
not_next [] stops h = absurd cc
not_next (s ∷ ss) stops h = (let e : false ≡ true = sym stops ∙ h in cc)

no_statement : (script : List ℕ) (at : ℕ) (f : Statement) (s e : ℕ) → IsStatementAt script at f s e → next_among (End ∷ []) (passed (tokens_at script at)) ≡ true → ⊥
no_statement script at f s e x end =
    not_next (passed (tokens_at script at)) (subst (λ l. Stops (End ∷ []) l) x.parts (no_end (is_first script at) x.prefix x.more (f, x.left) x.line)) end

no_fault : (script : List ℕ) (at o e : ℕ) → IsFaultAt script at o e → next_among (End ∷ []) (passed (tokens_at script at)) ≡ true → ⊥
no_fault script at o e x end = (let same : false ≡ true = sym x.some ∙ end in cc)

never_both : (script : List ℕ) (at : ℕ) (f : Statement) (s e o u : ℕ) → IsStatementAt script at f s e → IsFaultAt script at o u → ⊥
never_both script at f s e o u x y = y.fault.no_line x.prefix x.more (f, x.left) x.parts x.line

pub one_reading : (script : List ℕ) (at : ℕ) (a b : Parsed) → ReadsAt script at a → ReadsAt script at b → a ≡ b
one_reading script at (parsed.Statement f s e) (parsed.Statement g t u) x y = one_statement script at f g s e t u x y
one_reading script at (parsed.Statement f s e) (parsed.Syntax o u) x y = absurd (never_both script at f s e o u x y)
one_reading script at (parsed.Statement f s e) parsed.End x y = absurd (no_statement script at f s e x y)
one_reading script at (parsed.Syntax o e) (parsed.Statement g t u) x y = absurd (never_both script at g t u o e y x)
one_reading script at (parsed.Syntax o e) (parsed.Syntax p u) x y = one_fault script at o e p u x y
one_reading script at (parsed.Syntax o e) parsed.End x y = absurd (no_fault script at o e x y)
one_reading script at parsed.End (parsed.Statement g t u) x y = absurd (no_statement script at g t u y x)
one_reading script at parsed.End (parsed.Syntax p u) x y = absurd (no_fault script at p u y x)
one_reading script at parsed.End parsed.End x y = refl
