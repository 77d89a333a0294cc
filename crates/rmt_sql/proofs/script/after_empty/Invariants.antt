use Rattle.std.proofs.Common.{◌≡◌, length}
use Rattle.rmt_sql_tokens.specs.Lexing.{tokens}
use Rattle.rmt_sql.specs.Script.{passed}
use Rattle.rmt_sql.proofs.script.after_empty.Given as goal

abbrev pub invariant-empty : goal.invariant-empty
invariant-empty l = passed (tokens l.rest) ≡ passed (tokens l.at)

abbrev pub decreases-empty : goal.decreases-empty
decreases-empty l = length (tokens l.rest)
