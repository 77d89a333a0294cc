use Rattle.std.proofs.Common.{length}
use Rattle.std.specs.Prelude.{codes}
use Rattle.rmt_sql_tokens.specs.Lexing.{tokens}
use Rattle.rmt_sql_tokens.specs.Exact.{many, item}
use Rattle.rmt_sql_tokens.proofs.Loops.{Left}
use Rattle.rmt_sql_acts.specs.Phrases.{word}
use Rattle.rmt_sql.specs.Grammar.{may_follow, lane}
use Rattle.rmt_sql.proofs.parallel.more_lanes.Given as goal

abbrev pub invariant-lanes : goal.invariant-lanes
invariant-lanes l = Left may_follow (word (codes "lane")) (λ all. (item lane all).read) l.all.items (tokens l.rest) ((many may_follow (word (codes "lane")) (item lane) l.fn.all.items).read (tokens l.at))

abbrev pub decreases-lanes : goal.decreases-lanes
decreases-lanes l = length (tokens l.rest)
