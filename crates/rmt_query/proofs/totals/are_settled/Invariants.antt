use Rattle.std.proofs.Common.{◌≡◌, ◌++◌, take, drop}
use Rattle.rmt_changes.specs.Changes.{entries_of}
use Rattle.rmt_partset.specs.Snapshots.{all_rows, data_in}
use Rattle.rmt_query.specs.ReadRows.{rows_read}
use Rattle.rmt_query.proofs.totals.are_settled.Given as goal

abbrev pub invariant-parts : goal.invariant-parts
invariant-parts l =
    rows_read (entries_of l.pending) l.parts
    ≡ all_rows (data_in (take l.part-index l.parts)) ++ rows_read (entries_of l.pending) (drop l.part-index l.parts)
