use Rattle.std.proofs.Common.{length}
use Rattle.rmt_sql_tokens.specs.Lexing.{tokens}
use Rattle.rmt_sql_tokens.specs.Exact.{many, always}
use Rattle.rmt_sql_tokens.proofs.Loops.{Left}
use Rattle.rmt_sql_acts.specs.Acts.{row_firsts, further_row}
use Rattle.rmt_sql_acts.proofs.inserts.more_rows.Given as goal

abbrev pub invariant-rows : goal.invariant-rows
invariant-rows l = Left always row_firsts (λ all. (further_row all).read) l.all.items (tokens l.rest) ((many always row_firsts further_row l.fn.all.items).read (tokens l.at))

abbrev pub decreases-rows : goal.decreases-rows
decreases-rows l = length (tokens l.rest)
