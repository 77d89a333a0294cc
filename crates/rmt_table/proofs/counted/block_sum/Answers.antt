use Rattle.std.proofs.Common.{◌≡◌, ◌+◌, ◌∷◌, drop, arith}
use Rattle.std.proofs.lemmas.Grind.{common_steps}
use Rattle.std.proofs.lemmas.List.{drop_more}
use Rattle.rmt_model.specs.Words.{Has}
use Rattle.rmt_model.specs.Live.{live}
use Rattle.rmt_model.specs.Lawful.{block_count}
use Rattle.rmt_table.proofs.Recorded.{sum-next}
use Rattle.rmt_table.proofs.counted.block_sum.Goals as goal

pub names-preserved : goal.names-preserved
names-preserved c =
    let more : drop c.names.name-index c.args.names.now ≡ c.name-item.result ∷ drop (c.names.name-index + 1) c.args.names.now = grind (arith, common_steps, drop_more c.args.names.now c.names.name-index c.name-item.result) in
    sum-next (block_count c.args.copy.now.log) (Has (live c.args.copy.now.log)) _ _ c.name-item.result c.names.count c.block_count-count.result _ c.names.invariant more c.block_count-count.ensures
