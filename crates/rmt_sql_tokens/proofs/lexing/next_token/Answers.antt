use Rattle.std.proofs.Common.{arith}
use Rattle.std.proofs.lemmas.Bool.Decides.{nat_tests}
use Rattle.rmt_sql_tokens.proofs.Gaps.{nothing}
use Rattle.rmt_sql_tokens.proofs.lexing.next_token.Goals as goal

pub last_token-requires : goal.last_token-requires
last_token-requires c = nothing c.skipped-at.result.bytes.now (grind (arith, nat_tests, c.is_empty.ensures, c.if-is_empty.true))
