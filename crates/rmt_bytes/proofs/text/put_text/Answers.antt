use Rattle.std.proofs.Common.{arith}
use Rattle.rmt_bytes.proofs.ByteLemmas.{text_in_range}
use Rattle.rmt_bytes.proofs.text.put_text.Goals as goal

pub returns-clause-in_range : goal.returns-clause-in_range
returns-clause-in_range c = text_in_range c.args.text.now (λ i. omega (arith, c.type_inv.text i))
