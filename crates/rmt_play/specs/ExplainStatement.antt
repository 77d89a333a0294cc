-- EXPLAIN.
-- ClickHouse documentation: EXPLAIN, `indexes`.
use Rattle.std.specs.Prelude.{◌≡◌, ℕ, List, map}
use Rattle.rmt_values.specs.declared.query.Query.{Query}
use Rattle.rmt_values.specs.declared.checked_query.CheckedQuery.{CheckedQuery}
use Rattle.rmt_expr.specs.Queries.{IsCheckedQuery}
use Rattle.rmt_names.specs.Names.{Name}
use Rattle.rmt_model.specs.Fair.{AreFair}
use Rattle.rmt_query.specs.Explained.{AreExplained}
use Rattle.rmt_statement_model.specs.TableStates.{TableState, data_at, shown_at}
use Rattle.rmt_reply.specs.declared.line.Line.{Line}
use Rattle.rmt_reply.specs.declared.line.Line.TheVariants as lines

-- EXPLAIN: for parts whose names are fair for the places known at the replica, the granules that the query's filter
-- chooses, and all; what the parts hold is known there then
pub record Explains (t : TableState) (r : ℕ) (query : Query) (line : Line) (u : TableState) : Type 0 where
  pub checked : CheckedQuery
  pub is : IsCheckedQuery t.schema query checked
  pub names : List Name
  pub fair : AreFair t.log (t.known r) names
  pub counts : List (Name × ℕ × ℕ)
  pub counted : AreExplained checked.filter names (map (data_at t) names) counts
  pub reply : line ≡ lines.Granules counts
  pub change : u ≡ shown_at r names t
