use Rattle.rmt_sql.specs.Grammar.{statement}
use Rattle.rmt_sql.proofs.statements.statement.Goals as goal

pub returns-then-is_first : goal.returns-then-is_first
returns-then-is_first c = rw c.if-is_first.true c.first_statement.ensures

pub returns : goal.returns
unfolding statement
returns c = rw c.if-is_first.false c.later_statement.ensures
