-- SHOW PARTS.
-- ClickHouse documentation, system.parts: the active parts that a replica has. The statement is this program's own.
use Rattle.std.specs.Prelude.{◌≡◌, ℕ, List}
use Rattle.rmt_names.specs.Names.{Name}
use Rattle.rmt_model.specs.Fair.{AreFair}
use Rattle.rmt_statement_model.specs.TableStates.{TableState, shown_at}
use Rattle.rmt_reply.specs.declared.line.Line.{Line}
use Rattle.rmt_reply.specs.declared.line.Line.TheVariants as lines

-- names that are fair for the places known at the replica; what they hold is known there then
pub record ShowsParts (t : TableState) (r : ℕ) (line : Line) (u : TableState) : Type 0 where
  pub names : List Name
  pub fair : AreFair t.log (t.known r) names
  pub reply : line ≡ lines.Parts names
  pub change : u ≡ shown_at r names t
