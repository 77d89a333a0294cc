-- What a query reads at a replica of a cluster.
-- ClickHouse documentation, MergeTree, "Data storage": a query reads the parts that are active as it begins.
use Rattle.std.specs.Prelude.{List, [], ◌∷◌}
use Rattle.rmt_values.specs.Rows.{Shape}
use Rattle.rmt_granules.specs.MadePart.{data_of}
use Rattle.rmt_model.specs.CopiedParts.{Copied}
use Rattle.rmt_partset.specs.Snapshots.{NamedData}

-- the parts as a query reads them: each with its name, and its rows in granules
abbrev pub parts_read : Shape → List Copied → List NamedData
parts_read schema [] = []
parts_read schema (part ∷ parts) = record { name = part.name; rows = data_of schema part.rows } ∷ parts_read schema parts
