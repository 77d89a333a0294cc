-- ALTER .. UPDATE and ALTER .. DELETE.
-- ClickHouse documentation, ALTER, "Mutations": a mutation is made, and changes parts later.
use Rattle.rmt_values.specs.declared.mutation.Mutation.{Mutation}
use Rattle.rmt_values.specs.declared.checked_mutation.CheckedMutation.{CheckedMutation}
use Rattle.rmt_expr.specs.Mutations.{IsCheckedMutation}
use Rattle.rmt_statement_model.specs.TableStates.{TableState}
use Rattle.rmt_statement_model.specs.Mutations.{Mutates, LacksMutation}
use Rattle.rmt_reply.specs.declared.line.Line.{Line}
use Rattle.rmt_reply.specs.declared.line.Line.TheVariants as lines

-- the mutation is made, and its id is the reply; or it would pass a limit
abbrev pub Alters : TableState → CheckedMutation → Line → TableState → Type 0
Alters t command (lines.Mutation id) u = Mutates t command id u
Alters t command (lines.Refused refusal) u = LacksMutation t refusal u
Alters t command line u = ⊥

-- the command as it was written, its columns by their places
pub record AltersBy (t : TableState) (written : Mutation) (line : Line) (u : TableState) : Type 0 where
  pub command : CheckedMutation
  pub is : IsCheckedMutation t.schema written command
  pub alters : Alters t command line u
