use Rattle.std.proofs.Common.{rules, inr}
use Rattle.rmt_sql_rows.proofs.records.rows_of_data.Goals as goal

pub push_records-requires-clause-start : goal.push_records-requires-clause-start
push_records-requires-clause-start c = record {
  config = search rules;
  source = search rules;
  state = search rules;
  ready = inr (inr (search rules, search rules));
  untrimmed = search rules;
  flexible = search rules;
}
