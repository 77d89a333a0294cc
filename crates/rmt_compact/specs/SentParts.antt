-- A part that one replica sends to another, as its bytes.
-- ClickHouse documentation, Data Replication: a replica fetches a part from another one. Which bytes a part has is this
-- program's own.
use Rattle.std.specs.Prelude.{◌≡◌, ℕ, List}
use Rattle.rmt_format.specs.PartBytes.{AreInRange, HasPartBytes, part_bytes}
use Rattle.rmt_part.specs.Lineages.{PartValue}

-- the bytes are those of a part, whose values its types can hold
pub record AreBytesOf (part : PartValue) (bytes : List ℕ) : Type 0 where
  pub has_bytes : HasPartBytes part.schema part.body
  pub in_range : AreInRange part.body.rows
  pub spelled : bytes ≡ part_bytes part.schema part.body
