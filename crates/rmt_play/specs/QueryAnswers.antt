-- What queries answer over a replica's active parts. No public clause cites this module.
use Rattle.std.specs.Prelude.{◌≡◌, ℕ, zero, suc, List}
use Rattle.rmt_values.specs.declared.cell.Cell.{Cell}
use Rattle.rmt_values.specs.declared.checked_query.CheckedQuery.{CheckedQuery}
use Rattle.rmt_values.specs.Rows.{Shape}
use Rattle.rmt_names.specs.Names.{Name}
use Rattle.rmt_partset.specs.Snapshots.{NamedData, names_in, data_in, all_rows}
use Rattle.rmt_query.specs.Answers.{answer_of}
use Rattle.rmt_query.specs.Explained.{AreExplained}
use Rattle.rmt_statement_model.specs.TableStates.{TableState}
use Rattle.rmt_reply.specs.declared.line.Line.{Line}
use Rattle.rmt_reply.specs.declared.line.Line.TheVariants as lines
use Rattle.rmt_statement_model.specs.ActOutcomes.{ReadsParts, ReadsInQuorum, MeetsNone}

-- the names of parts that are read at the replica, and the answer over their rows
pub record Selects (schema : Shape) (r : ℕ) (query : CheckedQuery) (names : List Name) (rows : List (List Cell)) (t u : TableState) : Type 0 where
  pub parts : List NamedData
  pub reads : ReadsParts r parts t u
  pub named : names ≡ names_in parts
  pub answered : rows ≡ answer_of schema query (all_rows (data_in parts))

-- the names of parts that are in a quorum, and the answer over their rows
pub record SelectsInQuorum (schema : Shape) (r : ℕ) (query : CheckedQuery) (names : List Name) (rows : List (List Cell)) (t u : TableState) : Type 0 where
  pub parts : List NamedData
  pub reads : ReadsInQuorum r parts t u
  pub named : names ≡ names_in parts
  pub answered : rows ≡ answer_of schema query (all_rows (data_in parts))

-- the reply to a sequential SELECT
abbrev pub SelectsLast : Shape → ℕ → CheckedQuery → Line → TableState → TableState → Type 0
SelectsLast schema r query (lines.Read names rows) t u = SelectsInQuorum schema r query names rows t u
SelectsLast schema r query (lines.Refused refusal) t u = MeetsNone r refusal t u
SelectsLast schema r query line t u = ⊥

-- the reply to a SELECT with the number of that setting
abbrev pub SelectsWith : ℕ → Shape → ℕ → CheckedQuery → Line → TableState → TableState → Type 0
SelectsWith zero schema r query (lines.Read names rows) t u = Selects schema r query names rows t u
SelectsWith zero schema r query line t u = ⊥
SelectsWith (suc n) schema r query line t u = SelectsLast schema r query line t u

-- parts that are read at the replica, with their counts of granules
pub record CountsGranules (r : ℕ) (query : CheckedQuery) (all : List (Name × ℕ × ℕ)) (t u : TableState) : Type 0 where
  pub parts : List NamedData
  pub reads : ReadsParts r parts t u
  pub counted : AreExplained query.filter (names_in parts) (data_in parts) all
