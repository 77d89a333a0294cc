-- A part as a cluster sees it.
-- ClickHouse documentation, Data Replication: a part has the same rows at each replica, whether it was made there or fetched.
use Rattle.std.specs.Prelude.{map}
use Rattle.rmt_model.specs.CopiedParts.{Copied}
use Rattle.rmt_part.specs.Lineages.{PartValue, numbered}

-- the part without its tokens and its mutations
abbrev pub copied : PartValue → Copied
copied part = record { place = part.made.place; name = part.name; lineage = map numbered part.blocks; rows = part.body.rows }
