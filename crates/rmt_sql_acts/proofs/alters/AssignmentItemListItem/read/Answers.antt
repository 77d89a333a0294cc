use Rattle.std.proofs.Common.{[], ◌∷◌}
use Rattle.rmt_sql_tokens.specs.Classes.{AnyWord}
use Rattle.rmt_sql_tokens.specs.Lexing.{tokens}
use Rattle.rmt_sql_acts.specs.Acts.{assignment}
use Rattle.rmt_sql_acts.proofs.PhraseLaws.{read_takes}
use Rattle.rmt_sql_acts.proofs.SelectLaws.{on_assignment, assignment_law}
use Rattle.rmt_sql_acts.proofs.alters.AssignmentItemListItem.read.Goals as goal

pub returns-clause-takes : goal.returns-clause-takes
returns-clause-takes c = read_takes assignment on_assignment (AnyWord ∷ []) assignment_law (tokens c.args.at) c.assignment.result c.assignment.ensures
