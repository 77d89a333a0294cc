use Rattle.std.proofs.Common.{length, map}
use Rattle.rmt_sql_tokens.specs.Lexing.{tokens}
use Rattle.rmt_sql_tokens.specs.Exact.{always}
use Rattle.rmt_sql_tokens.proofs.Loops.{Left}
use Rattle.rmt_sql_acts.specs.Phrases.{further, more_listed, comma}
use Rattle.rmt_sql_acts.specs.Views.{called_item}
use Rattle.rmt_sql_acts.specs.Acts.{select_item}
use Rattle.rmt_sql_acts.proofs.selects.more_select_items.Given as goal

abbrev pub invariant-items : goal.invariant-items
invariant-items l = Left always comma (λ all. (further select_item all).read) (map called_item l.all.items) (tokens l.rest) ((more_listed select_item (map called_item l.fn.all.items)).read (tokens l.at))

abbrev pub decreases-items : goal.decreases-items
decreases-items l = length (tokens l.rest)
