use Rattle.rmt_sql_tokens.specs.Lexing.{tokens}
use Rattle.rmt_sql_acts.proofs.FilterReads.{limit_fails}
use Rattle.rmt_sql_acts.proofs.filters.comparison.Goals as goal

pub returns-then-before-ge-MOST_COMPARISONS-clause-reads : goal.returns-then-before-ge-MOST_COMPARISONS-clause-reads
returns-then-before-ge-MOST_COMPARISONS-clause-reads c = limit_fails c.args.before c.left.result (tokens c.args.at) c.if-before-ge-MOST_COMPARISONS.true c.left.ensures.left c.left.ensures.within
