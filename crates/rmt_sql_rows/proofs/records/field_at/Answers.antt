use Rattle.std.proofs.Common.{◌∙◌}
use Rattle.csv.specs.Records.{fields_of}
use Rattle.rmt_sql_rows.proofs.Fields.{field_is}
use Rattle.rmt_sql_rows.proofs.records.field_at.Goals as goal

pub returns : goal.returns
returns c = c.get.ensures.value ∙ field_is (fields_of c.args.fields.now) c.args.place
