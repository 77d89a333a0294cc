use Rattle.rmt_sql_tokens.specs.Lexing.{BeginsToken}
use Rattle.rmt_sql_tokens.specs.declared.context.Context.TheVariants.{Csv}
use Rattle.rmt_sql_tokens.proofs.Lexemes.{data_scanned, csv_scanned}
use Rattle.rmt_sql_tokens.proofs.lexing.first_data.Goals as goal

pub returns-then-at-ne10 : goal.returns-then-at-ne10
returns-then-at-ne10 c = (let begins : BeginsToken Csv c.args.at.bytes.now = rw c.requires.csv at c.requires.begins in
    rw (c.requires.csv, c.split_at.ensures.back) (csv_scanned c.args.at.bytes.now c.requires.some begins c.if-at-ne10.true))

pub returns : goal.returns
returns c = rw (c.requires.csv, c.split_at-2.ensures.front, c.split_at-2.ensures.back, c.data_len.ensures.len, c.split_at.ensures.back) (data_scanned c.args.at.bytes.now c.requires.some c.if-at-ne10.false)
