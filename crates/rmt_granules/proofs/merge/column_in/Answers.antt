use Rattle.std.proofs.Common.{length, map}
use Rattle.std.specs.Arc.{arc_value}
use Rattle.rmt_columns.specs.Columns.{value_of}
use Rattle.rmt_granules.proofs.ColumnLemmas.{cell-kind}
use Rattle.rmt_granules.proofs.MergeLemmas.{AreOf-at, itself-at}
use Rattle.rmt_granules.proofs.merge.column_in.Goals as goal

pub cell_at-requires : goal.cell_at-requires
cell_at-requires c =
    AreOf-at (length c.args.parts.now) c.args.places.now c.places.place-index _ c.requires.there c.places-test.true (itself-at c.args.places.now c.places.place-index _ c.places-test.true)

pub push-requires : goal.push-requires
push-requires c =
    cell-kind c.args.schema.now.columns (map arc_value c.args.parts.now) c.args.places.now c.places.place-index c.args.at _ (value_of c.in-Some.value) _
    c.requires.fit c.places-test.true (itself-at c.args.places.now c.places.place-index _ c.places-test.true) c.in-Some.ensures c.places.invariant.kind
