use Rattle.std.proofs.Common.{rules}
use Rattle.std.proofs.lemmas.List.{append_assoc}
use Rattle.rmt_block.specs.Blocks.{head_bytes}
use Rattle.rmt_block.proofs.spelling.push_head.Goals as goal

pub returns : goal.returns
unfolding head_bytes
returns c = search (rules, append_assoc)
