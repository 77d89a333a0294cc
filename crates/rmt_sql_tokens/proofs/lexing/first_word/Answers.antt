use Rattle.rmt_sql_tokens.proofs.Lexemes.{word_scanned}
use Rattle.rmt_sql_tokens.proofs.lexing.first_word.Goals as goal

pub returns : goal.returns
returns c = rw (c.word.ensures, c.after_word.ensures, c.split_at.ensures.front, c.split_at.ensures.back, c.word_len.ensures.len) (word_scanned c.args.at.context c.args.at.bytes.now c.requires.csv c.requires.some c.requires.begins)
