-- SELECT, with and without SYNC, and a sequential one.
-- ClickHouse documentation: SELECT; Data Replication, on what a replica has; settings, `select_sequential_consistency`.
use Rattle.std.specs.Prelude.{◌≡◌, ◌⊎◌, ℕ, zero, suc, Bool, true, List, map}
use Rattle.std.specs.declared.option.Option.TheVariants.{Some}
use Rattle.rmt_values.specs.declared.query.Query.{Query}
use Rattle.rmt_values.specs.declared.checked_query.CheckedQuery.{CheckedQuery}
use Rattle.rmt_expr.specs.Queries.{IsCheckedQuery}
use Rattle.rmt_names.specs.Names.{Name}
use Rattle.rmt_model.specs.Fair.{AreFair}
use Rattle.rmt_partset.specs.Snapshots.{all_rows}
use Rattle.rmt_query.specs.Answers.{answer_of}
use Rattle.rmt_statement_model.specs.TableStates.{TableState, covered_by, data_at, plain_rows, synced, shown_at}
use Rattle.rmt_statement_model.specs.Reads.{LacksLast, waiting_part, without_part}
use Rattle.rmt_reply.specs.declared.refusal.Refusal.{Refusal}
use Rattle.rmt_play.specs.LostParts.{LacksSome}
use Rattle.rmt_reply.specs.declared.line.Line.{Line}
use Rattle.rmt_reply.specs.declared.line.Line.TheVariants as lines

-- SELECT .. SYNC: every place of the log is known at the replica then; the answer is the plain query over the rows of
-- the accepted blocks, each once
pub record ReadsAll (t : TableState) (r : ℕ) (query : Query) (line : Line) (u : TableState) : Type 0 where
  pub checked : CheckedQuery
  pub is : IsCheckedQuery t.schema query checked
  pub reply : line ≡ lines.Rows (answer_of t.schema checked (plain_rows t))
  pub change : u ≡ synced r t

-- SELECT .. SYNC: all is read, or the replica lacks a part
abbrev pub Syncs : (ℕ → Bool) → TableState → ℕ → Query → Line → TableState → Type 0
Syncs up t r query line u = ReadsAll t r query line u ⊎ LacksSome up t r line u

-- SELECT: the answer is the query over what parts hold whose names are fair for the places known at the replica; what they hold is
-- known there then
pub record Reads (t : TableState) (r : ℕ) (query : Query) (line : Line) (u : TableState) : Type 0 where
  pub checked : CheckedQuery
  pub is : IsCheckedQuery t.schema query checked
  pub names : List Name
  pub fair : AreFair t.log (t.known r) names
  pub reply : line ≡ lines.Read names (answer_of t.schema checked (all_rows (map (data_at t) names)))
  pub change : u ≡ shown_at r names t

-- a sequential SELECT: the answer is the query over what parts hold none of which waits for its quorum, and one of which covers the
-- last part whose quorum was met; their names are among those that are fair for the places known at the replica, and what they hold
-- is known there then
pub record ReadsInQuorum (t : TableState) (r : ℕ) (query : Query) (line : Line) (u : TableState) : Type 0 where
  pub checked : CheckedQuery
  pub is : IsCheckedQuery t.schema query checked
  pub names : List Name
  pub active : List Name
  pub fair : AreFair t.log (t.known r) active
  pub read : names ≡ without_part (waiting_part t.quorum) active
  pub last : (part : Name) → t.quorum.last ≡ Some part → covered_by names (Some part) ≡ true
  pub reply : line ≡ lines.Read names (answer_of t.schema checked (all_rows (map (data_at t) names)))
  pub change : u ≡ shown_at r names t

-- none of them covers the last part, and nothing changes
pub record MeetsNoQuorum (t : TableState) (r : ℕ) (line : Line) (u : TableState) : Type 0 where
  pub refusal : Refusal
  pub lacks : LacksLast t r refusal
  pub reply : line ≡ lines.Refused refusal
  pub unchanged : u ≡ t

-- a SELECT with the number of that setting: 0 asks for nothing
abbrev pub ReadsWith : ℕ → TableState → ℕ → Query → Line → TableState → Type 0
ReadsWith zero t r query line u = Reads t r query line u
ReadsWith (suc n) t r query line u = ReadsInQuorum t r query line u ⊎ MeetsNoQuorum t r line u
