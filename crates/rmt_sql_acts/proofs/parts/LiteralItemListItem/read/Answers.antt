use Rattle.rmt_sql_tokens.specs.Lexing.{tokens}
use Rattle.rmt_sql_tokens.specs.Exact.{never}
use Rattle.rmt_sql_acts.specs.Phrases.{literal}
use Rattle.rmt_sql_acts.proofs.PhraseLaws.{read_takes, literal_firsts, literal_law}
use Rattle.rmt_sql_acts.proofs.parts.LiteralItemListItem.read.Goals as goal

pub returns-clause-takes : goal.returns-clause-takes
returns-clause-takes c = read_takes literal never literal_firsts literal_law (tokens c.args.at) c.literal.result c.literal.ensures
