-- Which blocks the statements of a script may bring to tables.
-- ClickHouse documentation: INSERT INTO; MergeTree, custom partitioning key: rows of different partitions go into different
-- blocks.
use Rattle.std.specs.Prelude.{ℕ, List, map}
use Rattle.std.specs.List.{All}
use Rattle.rmt_values.specs.Rows.{Shape}
use Rattle.rmt_block.specs.Blocks.{BlockView}
use Rattle.rmt_block.specs.Splits.{IsSplit}
use Rattle.rmt_model.specs.Words.{Has}
use Rattle.rmt_model.specs.Content.{Row}
use Rattle.rmt_events.specs.Views.{Block}
use Rattle.rmt_events.specs.Clusters.{without_kinds}
use Rattle.rmt_sql.specs.declared.parsed.Parsed.TheVariants as parsed
use Rattle.rmt_sql.specs.Script.{ReadsAt}
use Rattle.rmt_sql_rows.specs.InsertedRows.{all_names}
use Rattle.rmt_sql_rows.specs.Inserts.{AreInsertedRows}
use Rattle.rmt_statements.specs.declared.act.Act.{Act}
use Rattle.rmt_statements.specs.declared.act.Act.TheVariants as acts
use Rattle.rmt_statements.specs.declared.insert.Insert.{Insert}
use Rattle.rmt_statements.specs.declared.sent.Sent.{Sent}
use Rattle.rmt_statements.specs.declared.statement.Statement.{Statement}
use Rattle.rmt_statements.specs.declared.statement.Statement.TheVariants as statements

-- this is one of the blocks of the INSERT in a table of this schema
pub record IsInsertedBlock (schema : Shape) (insert : Insert) (b : Block) : Type 0 where
  pub rows : List Row
  pub read : AreInsertedRows schema.columns (all_names schema.columns insert.columns) insert.rows rows
  pub blocks : List BlockView
  pub split : IsSplit schema rows blocks
  pub is_in : Has (map without_kinds blocks) b

-- the act brings the block to a table of this schema
abbrev pub BringsBlock : Shape → Act → Block → Type 0
BringsBlock schema (acts.Insert insert) b = IsInsertedBlock schema insert b
BringsBlock schema act b = ⊥

-- so does a statement of one of the lanes
pub record BringsInLanes (schema : Shape) (lanes : List (List Sent)) (b : Block) : Type 0 where
  pub lane : List Sent
  pub among : Has lanes lane
  pub sent : Sent
  pub in_lane : Has lane sent
  pub brings : BringsBlock schema sent.act b

-- so does the statement
abbrev pub SendsBlock : Shape → Statement → Block → Type 0
SendsBlock schema (statements.Lanes lanes) b = BringsInLanes schema lanes b
SendsBlock schema (statements.At sent) b = BringsBlock schema sent.act b
SendsBlock schema statement b = ⊥

-- a statement that is read at some place of the script brings the block to a table of this schema
pub record IsOfferedBy (script : List ℕ) (schema : Shape) (b : Block) : Type 0 where
  pub at : ℕ
  pub statement : Statement
  pub start : ℕ
  pub end : ℕ
  pub reads : ReadsAt script at (parsed.Statement statement start end)
  pub brings : SendsBlock schema statement b

-- ---- what only private functions cite

-- each block that rows are split into is one of these
abbrev pub OffersRows : (Shape → Block → Type 0) → Shape → List Row → Type 0
OffersRows Offers schema rows = (blocks : List BlockView) → IsSplit schema rows blocks → All (λ b. Offers schema (without_kinds b)) blocks

-- each block that the act brings is one of these
abbrev pub OffersAct : (Shape → Block → Type 0) → Act → Type 0
OffersAct Offers act = (schema : Shape) (b : Block) → BringsBlock schema act b → Offers schema b

-- so does each statement of a lane
abbrev pub OffersLane : (Shape → Block → Type 0) → List Sent → Type 0
OffersLane Offers lane = All (λ sent. OffersAct Offers sent.act) lane

-- each block that the statement brings is one of these
abbrev pub OffersStatement : (Shape → Block → Type 0) → Statement → Type 0
OffersStatement Offers statement = (schema : Shape) (b : Block) → SendsBlock schema statement b → Offers schema b

-- so it is with each statement that is read at some place of the script
abbrev pub OffersScript : (Shape → Block → Type 0) → List ℕ → Type 0
OffersScript Offers script =
    (at : ℕ) (statement : Statement) (start end : ℕ) → ReadsAt script at (parsed.Statement statement start end) → OffersStatement Offers statement
