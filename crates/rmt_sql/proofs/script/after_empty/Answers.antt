use Rattle.std.proofs.Common.{◌≡◌, ◌∙◌, List, [], ◌∷◌, refl, sym, false}
use Rattle.rmt_sql_tokens.specs.Tokens.{Spot}
use Rattle.rmt_sql_tokens.specs.Lexing.{tokens}
use Rattle.rmt_sql.specs.Script.{passed, empty_next}
use Rattle.rmt_sql.proofs.script.after_empty.Goals as goal

passed_none : (ts : List Spot) → empty_next ts ≡ false → passed ts ≡ ts
passed_none [] h = refl
passed_none (s ∷ ss) h = rw h refl

pub returns-in_default : goal.returns-in_default
returns-in_default c = sym (passed_none (tokens c.empty.rest) c.in_default.ensures) ∙ c.empty.invariant
