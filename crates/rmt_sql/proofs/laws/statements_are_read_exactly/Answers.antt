use Rattle.rmt_sql.proofs.StatementLaws.{statement_exact}
use Rattle.rmt_sql.proofs.laws.statements_are_read_exactly.Goals as goal

pub returns : goal.returns
returns c = statement_exact c.args.is_first
