use Rattle.std.proofs.Common.{length}
use Rattle.rmt_sql_tokens.specs.Lexing.{tokens}
use Rattle.rmt_sql_tokens.specs.Exact.{many}
use Rattle.rmt_sql_tokens.proofs.Loops.{Left}
use Rattle.rmt_sql.specs.Grammar.{may_set, further_setting}
use Rattle.rmt_sql_acts.specs.Phrases.{comma}
use Rattle.rmt_sql.proofs.creates.more_settings.Given as goal

abbrev pub invariant-settings : goal.invariant-settings
invariant-settings l = Left may_set comma (λ s. (further_setting s).read) l.settings (tokens l.rest) ((many may_set comma further_setting l.fn.first).read (tokens l.at))

abbrev pub decreases-settings : goal.decreases-settings
decreases-settings l = length (tokens l.rest)
