use Rattle.std.specs.declared.option.Option.TheVariants.{None}
use Rattle.rmt_partitions.proofs.NextLemmas.{count-step}
use Rattle.rmt_partitions.proofs.partitions.count_up.Goals as goal

pub loop-pair-preserved : goal.loop-pair-preserved
loop-pair-preserved c = count-step c.args.pairs.now c.loop-pair.pair-index (None, 0) c.loop-pair-test.true _ c.loop-pair.invariant
