use Rattle.std.proofs.Common.{length}
use Rattle.rmt_granules.proofs.MergeLemmas.{AreOf-at, itself-at}
use Rattle.rmt_granules.proofs.merge.bytes_in.Goals as goal

pub cell_at-requires : goal.cell_at-requires
cell_at-requires c =
    AreOf-at (length c.args.parts.now) c.args.places.now c.places.place-index _ c.requires c.places-test.true (itself-at c.args.places.now c.places.place-index _ c.places-test.true)
