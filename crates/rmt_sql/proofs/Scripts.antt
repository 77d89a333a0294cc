-- What the reader of statements says of a script.
use Rattle.std.proofs.Common.{◌≡◌, ◌∙◌, ℕ, ◌-◌, List, [], ◌∷◌, length, ap, sym, subst, Bool, false, Ok}
use Rattle.std.specs.Prelude.{IsErrAnd}
use Rattle.rmt_sql_tokens.specs.Tokens.{Spot}
use Rattle.rmt_sql_tokens.specs.Classes.{End, next_among}
use Rattle.rmt_sql_tokens.specs.Exact.{IsOffset, left_of}
use Rattle.rmt_sql_tokens.proofs.Closed.{exact_offset}
use Rattle.rmt_sql_tokens.proofs.Loops.{err_is}
use Rattle.rmt_statements.specs.declared.statement.Statement.{Statement}
use Rattle.rmt_sql.specs.Grammar.{statement}
use Rattle.rmt_sql.specs.Script.{passed, tokens_at, is_first, IsStatementAt, IsFaultAt, after_end}
use Rattle.rmt_sql.proofs.StatementLaws.{statement_exact}

pub statement_there : (script : List ℕ) (at : ℕ) (first : Bool) (ts : List Spot) (found : Statement) (left start end : ℕ) (rest : List Spot) → first ≡ is_first script at → ts ≡ passed (tokens_at script at)
    → (statement first).read ts ≡ Ok ((found, left), rest) → start ≡ length script - left_of ts → end ≡ length script - left → IsStatementAt script at found start end
statement_there script at first ts found left start end rest first_is ts_is read starts ends =
    let f = (statement_exact first).found ts (found, left) rest read in
    record {
      prefix = f.prefix;
      more = rest;
      left = left;
      parts = f.parts ∙ ts_is;
      line = subst (λ b. (statement b).form f.prefix (found, left)) first_is f.is;
      starts = starts ∙ ap (λ l. length script - left_of l) ts_is;
      ends = ends;
    }

pub fails_there : (script : List ℕ) (at : ℕ) (first : Bool) (ts : List Spot) (left offset end : ℕ) → first ≡ is_first script at → ts ≡ passed (tokens_at script at)
    → next_among (End ∷ []) (passed (tokens_at script at)) ≡ false → IsErrAnd ((statement first).read ts) (λ rest. left ≡ left_of rest) → offset ≡ length script - left → end ≡ after_end script offset → IsFaultAt script at offset end
fails_there script at first ts left offset end first_is ts_is some failed place resumes =
    let (k, read, left_is) = err_is ((statement first).read ts) left failed in
    let fault = exact_offset (statement first).form (statement first).read (statement_exact first) ts k read in
    let here : IsOffset (statement first).form ts left = subst (IsOffset (statement first).form ts) (sym left_is) fault in
    let there : IsOffset (statement (is_first script at)).form ts left = subst (λ b. IsOffset (statement b).form ts left) first_is here in
    record {
      left = left;
      some = some;
      fault = subst (λ l. IsOffset (statement (is_first script at)).form l left) ts_is there;
      place = place;
      resumes = resumes;
    }
