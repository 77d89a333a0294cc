use Rattle.rmt_sql_tokens.proofs.Lexemes.{number_scanned}
use Rattle.rmt_sql_tokens.proofs.lexing.first_number.Goals as goal

pub returns : goal.returns
returns c = rw (c.number.ensures, c.split_at.ensures.front, c.split_at.ensures.back, c.digits_len.ensures.len) (number_scanned c.args.at.context c.args.at.bytes.now c.requires.csv c.requires.some c.requires.begins)
