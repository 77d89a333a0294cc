use Rattle.rmt_sql_tokens.proofs.Gaps.{end_csv, end_over, end_other}
use Rattle.rmt_sql_tokens.proofs.lexing.last_token.Goals as goal

pub returns-in-Csv : goal.returns-in-Csv
returns-in-Csv c = rw (c.requires, c.in-Csv.is) end_csv

pub returns-in-Over : goal.returns-in-Over
returns-in-Over c = rw (c.requires, c.in-Over.is) end_over

pub returns-in_default : goal.returns-in_default
returns-in_default c = rw c.requires (end_other c.args.at.context c.in_default.not-Csv c.in_default.not-Over)
