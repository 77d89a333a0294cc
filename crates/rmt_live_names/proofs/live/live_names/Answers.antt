use Rattle.std.proofs.Common.{List, subst, sym}
use Rattle.rmt_names.specs.Names.{Name}
use Rattle.rmt_model.specs.Words.{Pairwise}
use Rattle.rmt_model.specs.Live.{Before}
use Rattle.rmt_model.proofs.LiveLaws.{Tight, tight}
use Rattle.rmt_live_names.proofs.live.live_names.Goals as goal

pub of_partition-requires : goal.of_partition-requires
of_partition-requires c = record {
  in_order = subst (λ (ns : List Name). Pairwise Before ns) (sym c.live.ensures) (Tight.apart (tight c.args.copy.now.schema c.args.copy.now.log c.len-entries.ensures.lawful));
}
