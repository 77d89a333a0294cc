use Rattle.std.proofs.Common.{◌≡◌, ◌++◌, take}
use Rattle.std.specs.List.{filter_map}
use Rattle.rmt_changes.specs.Changes.{entries_of}
use Rattle.rmt_query.specs.Answers.{matching}
use Rattle.rmt_query.specs.ReadRows.{row_read}
use Rattle.rmt_query.proofs.matches.add_matching.Given as goal

abbrev pub invariant-rows : goal.invariant-rows
invariant-rows l =
    l.rows.items
    ≡ l.fn.rows.items ++ matching l.filter (filter_map (row_read (entries_of l.pending) l.part.name) (take l.i l.part.rows.rows))
