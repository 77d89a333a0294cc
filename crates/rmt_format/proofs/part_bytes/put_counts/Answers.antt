use Rattle.std.proofs.Common.{ap, length, arith}
use Rattle.rmt_format.proofs.GranuleLemmas.{few-granules}
use Rattle.rmt_format.proofs.part_bytes.put_counts.Goals as goal

pub overflow_cast-granules : goal.overflow_cast-granules
overflow_cast-granules c =
    let few = few-granules c.args.part.now c.marks-granules.ensures.part in
    omega (arith, few, ap length c.marks-granules.ensures.value, c.requires)
