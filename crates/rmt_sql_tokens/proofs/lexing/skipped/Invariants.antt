use Rattle.std.proofs.Common.{◌≡◌, length}
use Rattle.rmt_sql_tokens.specs.Tokens.{spots}
use Rattle.rmt_sql_tokens.proofs.lexing.skipped.Given as goal

abbrev pub invariant-gaps : goal.invariant-gaps
invariant-gaps l = spots l.fn.at.context l.rest ≡ spots l.fn.at.context l.fn.at.bytes.now

abbrev pub decreases-gaps : goal.decreases-gaps
decreases-gaps l = length l.rest
