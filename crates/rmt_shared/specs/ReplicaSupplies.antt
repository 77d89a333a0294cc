-- What an entry is done with, taken out of a replica under its lock, and what is still known of it with no lock held.
-- ClickHouse documentation, Data Replication: a replica makes a part from the block or from its own parts, or fetches it from
-- another replica. That both are done between two locks is this program's own.
use Rattle.std.specs.Prelude.{◌≡◌, ◌<◌, ◌^◌, length, map, MatchOption}
use Rattle.std.specs.Arc.{arc_value}
use Rattle.std.specs.declared.option.Option.{Option}
use Rattle.rmt_values.specs.Rows.{Shape}
use Rattle.rmt_row.specs.Token.{IsOf}
use Rattle.rmt_block.specs.Blocks.{BlockView}
use Rattle.rmt_model.specs.Words.{Each}
use Rattle.rmt_events.specs.Views.{Block}
use Rattle.rmt_events.specs.Clusters.{without_kinds}
use Rattle.rmt_part.specs.Lineages.{PartValue}
use Rattle.rmt_part.specs.CellRows.{IsPartOfRow}
use Rattle.rmt_compact.specs.NewParts.{GetsBlock}
use Rattle.rmt_replica.specs.Supplies.{supplied}
use Rattle.rmt_replica.specs.declared.supply.Supply.{Supply}
use Rattle.rmt_replica.specs.declared.supply.Supply.TheVariants as supplies
use Rattle.rmt_supply.specs.TakenParts.{BuildsPart, SendsPart, IsSupplyOf}
use Rattle.rmt_supply.specs.declared.taken.Taken.{Taken}
use Rattle.rmt_supply.specs.declared.taken.Taken.TheVariants as taken
use Rattle.rmt_supply.specs.declared.held.Held.{Held}
use Rattle.rmt_supply.specs.declared.held.Held.TheVariants as held
use Rattle.rmt_shared.specs.SharedTables.{NamedTable}
use Rattle.rmt_shared.specs.SharedReplicas.{IsMadeOf, FitsColumns}

-- ---- of a table

-- the block is offered to the table, and fits its columns
pub record IsBlockOfNamed (name : NamedTable) (Offered : Block → Type 0) (b : BlockView) : Type 0 where
  pub offered : Offered (without_kinds b)
  pub fit : FitsColumns name.schema b

-- the part is of the table's schema and of its cells, and each block that it was made from is offered to it
pub record IsPartOfNamed (name : NamedTable) (Offered : Block → Type 0) (part : PartValue) : Type 0 where
  pub schema : part.schema ≡ name.schema
  pub row : IsPartOfRow name.row part
  pub made_of : IsMadeOf Offered part

-- what was taken out of a replica of the table for an entry: blocks and parts of the table, and tokens of its cells
abbrev pub IsTakenFrom : NamedTable → (Block → Type 0) → Taken → Type 0
IsTakenFrom name Offered taken.Nothing = Unit {0}
IsTakenFrom name Offered (taken.Block block get) = IsOf name.row get × IsBlockOfNamed name Offered (arc_value block)
IsTakenFrom name Offered (taken.Sources sources merge) = IsOf name.row merge × Each (IsPartOfNamed name Offered) (map arc_value sources.items)
IsTakenFrom name Offered (taken.Old old mutations mutate) = IsOf name.row mutate × IsPartOfNamed name Offered (arc_value old) × Each (IsOf name.row) (arc_value mutations)
IsTakenFrom name Offered (taken.Missing a) = Unit {0}

-- what was taken out of a replica of the table for a Get of another one: a part of the table, or a block and a token of its cells
abbrev pub IsHeldFrom : NamedTable → (Block → Type 0) → Held → Type 0
IsHeldFrom name Offered (held.Part part) = IsPartOfNamed name Offered (arc_value part)
IsHeldFrom name Offered (held.Block block get) = IsOf name.row get × IsBlockOfNamed name Offered (arc_value block)

-- ---- built

-- no part is missing, and a block that was taken is the one of its Get
abbrev pub IsWhole : Taken → Type 0
IsWhole taken.Nothing = Unit {0}
IsWhole (taken.Block block get) = GetsBlock get.value (arc_value block)
IsWhole (taken.Sources sources merge) = Unit {0}
IsWhole (taken.Old old mutations mutate) = Unit {0}
IsWhole (taken.Missing a) = ⊥

-- the supply is of the part that is built of what was taken, and of no part where none is needed
pub record SuppliesBuilt (schema : Shape) (t : Taken) (supply : Supply) : Type 0 where
  pub whole : IsWhole t
  pub builds : BuildsPart schema t (supplied supply)
  pub kind : IsSupplyOf (supplied supply) supply

-- such a supply; none where a part is missing, or the block isn't the one of its Get
abbrev pub IsBuiltOf : Shape → Taken → Option Supply → Type 0
IsBuiltOf schema t supply = MatchOption supply (IsWhole t → ⊥) (SuppliesBuilt schema t)

-- ---- sent

-- a block that was taken is the one of its Get
abbrev pub IsWholeHeld : Held → Type 0
IsWholeHeld (held.Part part) = Unit {0}
IsWholeHeld (held.Block block get) = GetsBlock get.value (arc_value block)

-- the part that is sent of what was taken, as one that another replica has
abbrev pub SendsSupply : Shape → Held → Supply → Type 0
SendsSupply schema h supplies.Nothing = ⊥
SendsSupply schema h (supplies.Built part) = ⊥
SendsSupply schema h (supplies.Fetched part) = SendsPart schema h (arc_value part)

-- the supply is of the part that is sent of what was taken
pub record SuppliesSent (schema : Shape) (h : Held) (supply : Supply) : Type 0 where
  pub whole : IsWholeHeld h
  pub sends : SendsSupply schema h supply

-- such a supply; none where the block isn't the one of its Get
abbrev pub IsSentOf : Shape → Held → Option Supply → Type 0
IsSentOf schema h supply = MatchOption supply (IsWholeHeld h → ⊥) (SuppliesSent schema h)

-- ---- what only private functions cite

-- a part that was taken has fewer than 2^32 rows
abbrev pub HasFewRows : Held → Type 0
HasFewRows (held.Part part) = length (arc_value part).body.rows < 2 ^ 32
HasFewRows (held.Block block get) = Unit {0}
