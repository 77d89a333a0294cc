use Rattle.std.proofs.Common.{◌≡◌, true, length}
use Rattle.rmt_values.specs.Rows.{AllBelow}
use Rattle.rmt_sql_tokens.specs.Tokens.{data_len}
use Rattle.rmt_sql_tokens.proofs.DataEnds.{first_end}
use Rattle.rmt_sql_tokens.proofs.lines.data_len.Given as goal

abbrev pub invariant-lines : goal.invariant-lines
invariant-lines l = (data_len true l.bytes ≡ first_end l.bytes l.end-iterator) × AllBelow (length l.bytes) l.end-iterator
