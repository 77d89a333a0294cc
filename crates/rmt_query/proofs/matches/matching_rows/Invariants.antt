use Rattle.std.proofs.Common.{◌≡◌, ◌++◌, drop}
use Rattle.rmt_changes.specs.Changes.{entries_of}
use Rattle.rmt_query.specs.Answers.{matching}
use Rattle.rmt_query.specs.ReadRows.{rows_read}
use Rattle.rmt_query.proofs.matches.matching_rows.Given as goal

abbrev pub invariant-parts : goal.invariant-parts
invariant-parts l =
    l.rows.items ++ matching l.filter (rows_read (entries_of l.pending) (drop l.part-index l.parts))
    ≡ matching l.filter (rows_read (entries_of l.pending) l.parts)
