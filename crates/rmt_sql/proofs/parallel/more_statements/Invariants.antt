use Rattle.std.proofs.Common.{length}
use Rattle.rmt_sql_tokens.specs.Lexing.{tokens}
use Rattle.rmt_sql_tokens.specs.Exact.{many, always, item}
use Rattle.rmt_sql_tokens.proofs.Loops.{Left}
use Rattle.rmt_sql.specs.Grammar.{lane_firsts, lane_statement}
use Rattle.rmt_sql.proofs.parallel.more_statements.Given as goal

abbrev pub invariant-statements : goal.invariant-statements
invariant-statements l = Left always lane_firsts (λ all. (item lane_statement all).read) l.all.items (tokens l.rest) ((many always lane_firsts (item lane_statement) l.fn.all.items).read (tokens l.at))

abbrev pub decreases-statements : goal.decreases-statements
decreases-statements l = length (tokens l.rest)
