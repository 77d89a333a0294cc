-- What a client needs of a table for one more block.
-- ClickHouse documentation, Data Replication: a block takes a number, and is told by its checksum. The limits are this program's own.
use Rattle.std.specs.Prelude.{◌≡◌, ℕ, Bool, List}
use Rattle.std.specs.declared.option.Option.{Option}
use Rattle.std.specs.declared.option.Option.TheVariants.{None}
use Rattle.rmt_values.specs.declared.limit.Limit.{Limit}
use Rattle.rmt_model.specs.EntryLimits.{commit_limit}
use Rattle.rmt_events.specs.Views.{Block}
use Rattle.rmt_events.specs.Clusters.{Accepted, values_of, values_in}
use Rattle.rmt_statement_model.specs.Inserts.{Asked, IsNew, number_limit}
use Rattle.rmt_clients.specs.Clients.{Client, AreAccepted, known_table}

-- the block is new to the table as the client has seen it, and gets the next number of its partition
pub record TakesNumber (up : ℕ → Bool) (p : Client) (a : Asked) (b : Block) : Type 0 where
  pub is_new : IsNew up (known_table p) a b
  pub number : number_limit (known_table p) b ≡ None

-- whatever blocks were accepted, one more of these rows meets this limit, or none
abbrev pub MeetsLimit : (Block → Type 0) → Client → Block → Option (Limit × ℕ) → Type 0
MeetsLimit O p b limit = (blocks : List Accepted) → AreAccepted O p.log blocks → commit_limit p.log (values_in p.schema blocks) (values_of p.schema b.rows) ≡ limit
