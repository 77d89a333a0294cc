use Rattle.std.proofs.Common.{[], ◌∷◌}
use Rattle.rmt_sql_tokens.specs.Classes.{AnyWord}
use Rattle.rmt_sql_tokens.specs.Lexing.{tokens}
use Rattle.rmt_sql_tokens.specs.Exact.{never}
use Rattle.rmt_sql_acts.proofs.PhraseLaws.{read_takes}
use Rattle.rmt_sql.specs.Grammar.{column}
use Rattle.rmt_sql.proofs.CreateLaws.{column_law}
use Rattle.rmt_sql.proofs.creates.ColumnItemListItem.read.Goals as goal

pub returns-clause-takes : goal.returns-clause-takes
returns-clause-takes c = read_takes column never (AnyWord ∷ []) column_law (tokens c.args.at) c.column.result c.column.ensures
