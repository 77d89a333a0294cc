use Rattle.std.proofs.Common.{length}
use Rattle.rmt_sql_tokens.specs.Lexing.{tokens}
use Rattle.rmt_sql_tokens.specs.Exact.{always}
use Rattle.rmt_sql_tokens.proofs.Loops.{Left}
use Rattle.rmt_sql_acts.specs.Phrases.{further, more_listed, comma}
use Rattle.rmt_sql_acts.proofs.list_item.more.Given as goal

abbrev pub invariant-items : goal.invariant-items
invariant-items g l = Left always comma (λ all. (further g.T.ListItem.rule all).read) l.all.items (tokens l.rest) ((more_listed g.T.ListItem.rule l.fn.all.items).read (tokens l.at))

abbrev pub decreases-items : goal.decreases-items
decreases-items g l = length (tokens l.rest)
