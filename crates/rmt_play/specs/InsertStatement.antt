-- INSERT INTO.
-- ClickHouse documentation: INSERT INTO; MergeTree, custom partitioning key: rows of different partitions go into different
-- blocks; settings, `insert_quorum`: fewer than 2 are no quorum.
use Rattle.std.specs.Prelude.{◌≡◌, ◌⊎◌, ℕ, cond, nat_le, Bool, true, false, List, map}
use Rattle.std.specs.declared.option.Option.{Option}
use Rattle.std.specs.declared.option.Option.TheVariants.{Some, None}
use Rattle.rmt_block.specs.Blocks.{BlockView}
use Rattle.rmt_block.specs.Splits.{IsSplit}
use Rattle.rmt_model.specs.Content.{Row}
use Rattle.rmt_events.specs.Clusters.{without_kinds}
use Rattle.rmt_statement_model.specs.TableStates.{TableState}
use Rattle.rmt_statement_model.specs.Inserts.{Asked, asked_at, InsertsAll}
use Rattle.rmt_statements.specs.declared.insert.Insert.{Insert}
use Rattle.rmt_sql_rows.specs.declared.rows_error.RowsError.TheVariants as errors
use Rattle.rmt_sql_rows.specs.InsertedRows.{all_names}
use Rattle.rmt_sql_rows.specs.Inserts.{AreInsertedRows, IsBadInsertRow}
use Rattle.rmt_reply.specs.declared.line.Line.{Line}
use Rattle.rmt_reply.specs.declared.line.Line.TheVariants as lines
use Rattle.rmt_reply.specs.declared.piece.Piece.{Piece}
use Rattle.rmt_reply.specs.declared.refusal.Refusal.{Refusal}
use Rattle.rmt_reply.specs.declared.refusal.Refusal.TheVariants.{BadRow, ReplicaDown}

-- how many replicas an INSERT asks for; fewer than 2 are no quorum
abbrev pub need_of : Option ℕ → ℕ
need_of None = 0
need_of (Some n) = cond (nat_le 2 n) n 0

-- the rows are split into a block for each partition, and the blocks go in one after the other, until one is refused
pub record InsertsRows (workers : Bool) (up : ℕ → Bool) (t : TableState) (a : Asked) (rows : List Row) (line : Line) (u : TableState) : Type 0 where
  pub blocks : List BlockView
  pub split : IsSplit t.schema rows blocks
  pub all : List Piece
  pub refused : Option Refusal
  pub inserts : InsertsAll workers up t a (map without_kinds blocks) all refused u
  pub reply : line ≡ lines.Inserted all refused

-- the rows of the INSERT are inserted
pub record Takes (workers : Bool) (up : ℕ → Bool) (t : TableState) (r : ℕ) (insert : Insert) (line : Line) (u : TableState) : Type 0 where
  pub rows : List Row
  pub read : AreInsertedRows t.schema.columns (all_names t.schema.columns insert.columns) insert.rows rows
  pub inserts : InsertsRows workers up t (asked_at r (need_of insert.quorum)) rows line u

-- one of the rows of the INSERT is bad, and this is the first; nothing changes
pub record MeetsBadRow (t : TableState) (insert : Insert) (line : Line) (u : TableState) : Type 0 where
  pub row : ℕ
  pub refused : IsBadInsertRow t.schema.columns (all_names t.schema.columns insert.columns) insert.rows (errors.BadRow row)
  pub reply : line ≡ lines.Refused (BadRow row)
  pub unchanged : u ≡ t

-- no row of the INSERT is bad, but the replica is down; nothing changes
pub record MeetsDown (up : ℕ → Bool) (t : TableState) (r : ℕ) (insert : Insert) (line : Line) (u : TableState) : Type 0 where
  pub down : up r ≡ false
  pub rows : List Row
  pub read : AreInsertedRows t.schema.columns (all_names t.schema.columns insert.columns) insert.rows rows
  pub reply : line ≡ lines.Refused (ReplicaDown r)
  pub unchanged : u ≡ t

-- INSERT at the replica of a number, where these replicas are up
abbrev pub InsertsInto : Bool → (ℕ → Bool) → TableState → ℕ → Insert → Line → TableState → Type 0
InsertsInto workers up t r insert line u = ((up r ≡ true) × Takes workers up t r insert line u) ⊎ (MeetsBadRow t insert line u ⊎ MeetsDown up t r insert line u)
