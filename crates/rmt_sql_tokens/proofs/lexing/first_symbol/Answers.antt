use Rattle.rmt_sql_tokens.proofs.Lexemes.{symbol_scanned}
use Rattle.rmt_sql_tokens.proofs.lexing.first_symbol.Goals as goal

pub returns : goal.returns
returns c = rw (c.symbol-len.ensures.token, c.split_at.ensures.back) (symbol_scanned c.args.at.context c.args.at.bytes.now c.symbol-len.result.1 c.requires.csv c.requires.some c.requires.begins c.requires.no_word c.requires.no_number c.requires.no_text c.symbol-len.ensures.len)
