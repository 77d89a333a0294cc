-- The rows that a query reads of parts, with mutations that are still to be applied to some of them.
-- ClickHouse documentation: `apply_mutations_on_fly`.
use Rattle.std.specs.Prelude.{nat_lt, List, [], ◌∷◌, ◌++◌}
use Rattle.std.specs.List.{filter_map}
use Rattle.std.specs.declared.option.Option.{Option}
use Rattle.rmt_names.specs.Names.{Name, data_version}
use Rattle.rmt_entries.specs.declared.entry.Entry.{Entry}
use Rattle.rmt_model.specs.Content.{Row, changed}
use Rattle.rmt_partset.specs.Snapshots.{NamedData}

-- a row of a part of this name, after the mutations that have a number in its partition above its data version; the
-- entries are in the order of the log, the newest first
abbrev pub row_read : List Entry → Name → Row → Option Row
row_read pending name row = changed pending name.partition (λ k. nat_lt (data_version name) k) row

-- the rows of a part after them, without those that one of them deletes
abbrev pub rows_of_part : List Entry → NamedData → List Row
rows_of_part pending part = filter_map (row_read pending part.name) part.rows.rows

-- the rows of parts after them, one part after the other
abbrev pub rows_read : List Entry → List NamedData → List Row
rows_read pending [] = []
rows_read pending (part ∷ parts) = rows_of_part pending part ++ rows_read pending parts
