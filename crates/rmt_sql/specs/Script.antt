-- What is at a place of a script.
use Rattle.std.specs.Prelude.{◌≡◌, ℕ, ◌+◌, ◌-◌, ◌==◌, ◌&&◌, ◌++◌, ◌<◌, ◌≤◌, not, min, nat_lt, Bool, true, false, List, [], ◌∷◌, length, drop, if◌then◌else◌}
use Rattle.std.specs.List.{All, prefix_len}
use Rattle.rmt_sql_tokens.specs.declared.context.Context.TheVariants.{Plain}
use Rattle.rmt_sql_tokens.specs.Tokens.{Spot, spots}
use Rattle.rmt_sql_tokens.specs.Classes.{End, is_of, next_among}
use Rattle.rmt_sql_tokens.specs.Exact.{IsOffset, left_of}
use Rattle.rmt_statements.specs.declared.sent.Sent.{Sent}
use Rattle.rmt_statements.specs.declared.statement.Statement.{Statement}
use Rattle.rmt_statements.specs.declared.statement.Statement.TheVariants as statements
use Rattle.rmt_sql_acts.specs.Acts.{HasSmallCommand}
use Rattle.rmt_sql.specs.declared.parsed.Parsed.{Parsed}
use Rattle.rmt_sql.specs.declared.parsed.Parsed.TheVariants as parsed
use Rattle.rmt_sql.specs.Grammar.{statement}

-- a `;` of the script, before which nothing stands
abbrev pub is_empty : Spot → Bool
is_empty s = is_of End s.token && nat_lt 0 s.left

-- the tokens after empty statements
abbrev pub passed : List Spot → List Spot
passed [] = []
passed (s ∷ ss) = if is_empty s then passed ss else s ∷ ss

-- a `;` comes next
abbrev pub empty_next : List Spot → Bool
empty_next [] = false
empty_next (s ∷ ss) = is_empty s

-- the tokens from a place on
abbrev pub tokens_at : List ℕ → ℕ → List Spot
tokens_at script at = spots Plain (drop at script)

-- nothing but white space and comments comes before the first token
abbrev pub is_first : List ℕ → ℕ → Bool
is_first script at = at == 0 && not (empty_next (tokens_at script at))

-- a prefix of the tokens is a line of a statement; REPLICAS is one only at the script's start
pub record IsStatementAt (script : List ℕ) (at : ℕ) (found : Statement) (start end : ℕ) : Type 0 where
  pub prefix : List Spot
  pub more : List Spot
  pub left : ℕ
  pub parts : prefix ++ more ≡ passed (tokens_at script at)
  pub line : (statement (is_first script at)).form prefix (found, left)
  pub starts : start ≡ length script - left_of (passed (tokens_at script at))
  pub ends : end ≡ length script - left

-- after the first `;` from a place on, or the script's end
abbrev pub after_end : List ℕ → ℕ → ℕ
after_end script at = min (at + prefix_len (λ b. not (b == 59)) (drop at script) + 1) (length script)

-- something is there that begins no statement: the token at the offset can't follow those before it in any form
pub record IsFaultAt (script : List ℕ) (at offset end : ℕ) : Type 0 where
  pub left : ℕ
  pub some : next_among (End ∷ []) (passed (tokens_at script at)) ≡ false
  pub fault : IsOffset (statement (is_first script at)).form (passed (tokens_at script at)) left
  pub place : offset ≡ length script - left
  pub resumes : end ≡ after_end script offset

-- A statement, from its first token up to after its `;`; or the first token that can't follow; or no token is left.
-- White space, comments and empty statements are passed over.
abbrev pub ReadsAt : List ℕ → ℕ → Parsed → Type 0
ReadsAt script at (parsed.Statement found start end) = IsStatementAt script at found start end
ReadsAt script at (parsed.Syntax offset end) = IsFaultAt script at offset end
ReadsAt script at parsed.End = next_among (End ∷ []) (passed (tokens_at script at)) ≡ true

-- the statement keeps the limits of its form: a CREATE has a column, the command of an ALTER is small, and there are at most 8 lanes
abbrev pub KeepsLimits : Statement → Type 0
KeepsLimits (statements.Create table columns partition key granularity window) = 1 ≤ length columns
KeepsLimits (statements.Lanes lanes) = (length lanes ≤ 8) × All (All (λ sent. HasSmallCommand sent.act)) lanes
KeepsLimits (statements.At sent) = HasSmallCommand sent.act
KeepsLimits statement = Unit {0}

-- a statement that is read keeps the limits of its form
abbrev pub ReadsLimited : Parsed → Type 0
ReadsLimited (parsed.Statement found start end) = KeepsLimits found
ReadsLimited found = Unit {0}

-- how many statements lanes have
abbrev pub statements_in : List (List Sent) → ℕ
statements_in [] = 0
statements_in (lane ∷ lanes) = length lane + statements_in lanes

-- lanes that are read from a place on have no more statements than bytes
abbrev pub HoldsLanes : ℕ → Parsed → Type 0
HoldsLanes at (parsed.Statement (statements.Lanes lanes) start end) = at + statements_in lanes ≤ end
HoldsLanes at found = Unit {0}

-- after a statement, and after one that can't be read, reading goes on further on, at the script's end at the latest
abbrev pub Advances : List ℕ → ℕ → Parsed → Type 0
Advances script at (parsed.Statement found start end) = (at < end) × (end ≤ length script)
Advances script at (parsed.Syntax offset end) = (at < end) × (end ≤ length script)
Advances script at parsed.End = Unit {0}
