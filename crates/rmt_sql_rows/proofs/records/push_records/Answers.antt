use Rattle.std.proofs.Common.{rules, ◌≡◌, ◌∙◌, ◌+◌, ◌++◌, [], ◌∷◌, None, Ok, length, refl, ap, sym, inr, length-append, arith}
use Rattle.csv.specs.Records.{fields_of}
use Rattle.csv.specs.Reading.{reader_state}
use Rattle.rmt_columns.specs.RowsByColumn.{BegunView}
use Rattle.rmt_sql_rows.specs.InsertedRows.{field_value, row_of, rows_from}
use Rattle.rmt_sql_rows.proofs.Steps.{read_all, read_end, read_first, read_more}
use Rattle.rmt_sql_rows.proofs.Fields.{row_more, row_bad}
use Rattle.rmt_sql_rows.proofs.Puts.{puts-none, puts-some}
use Rattle.rmt_sql_rows.proofs.records.push_records.Goals as goal

pub records-init : goal.records-init
records-init c =
    let begun = c.requires.empty in
    let start = c.requires.start in
    let empty : rows_from (row_of field_value c.args.columns.now c.args.places.now c.args.named) 1 [] ≡ Ok c.args.builder.now.rows = ap (λ (v : BegunView). Ok v.rows) (sym begun) in (
      [],
      read_first _ _ [] start.config start.source start.state start.ready start.untrimmed start.flexible,
      empty,
      ap (λ (v : BegunView). v.begun) begun,
      ap (λ (v : BegunView). v.kinds) begun,
      refl,
      ap (λ (v : BegunView). length v.rows) begun,
    )

pub returns-then-not-branch-clause-ok : goal.returns-then-not-branch-clause-ok
returns-then-not-branch-clause-ok c =
    let (records, read, made, begun, kinds, count, number) = c.records.invariant in (
      records,
      read_end c.args.bytes.now records c.records.reader c.read_record.new.reader c.in_ok-read_record.field-0 c.read_record.new.row read (search rules) c.in_ok-read_record.ensures.reads,
      made,
    )

pub returns-then-not-branch-2-clause-refused : goal.returns-then-not-branch-2-clause-refused
returns-then-not-branch-2-clause-refused c =
    let (records, read, made, begun, kinds, count, number) = c.records.invariant in
    let later = read_more c.args.bytes.now records c.records.reader c.read_record.new.reader c.in_ok-read_record.field-0 c.read_record.new.row read (search rules) c.in_ok-read_record.ensures.reads c.in_ok-read_record.ensures.ready c.in_ok-read_record.ensures.flexible in
    let fields = fields_of c.read_record.new.row in
    let none : row_of field_value c.args.columns.now c.args.places.now c.args.named fields ≡ None = puts-none c.in_ok-push_row.field-0 _ c.records.builder c.push_row.new.builder (search rules) c.in_ok-push_row.ensures in
    inr (
      records ++ fields ∷ [],
      reader_state c.read_record.new.reader,
      later.rest,
      later.reached,
      row_bad (row_of field_value c.args.columns.now c.args.places.now c.args.named) 1 (c.records.i + 1) records fields c.records.builder.rows made none (omega (arith, number)),
    )

pub records-preserved : goal.records-preserved
records-preserved c =
    let (records, read, made, begun, kinds, count, number) = c.records.invariant in
    let fields = fields_of c.read_record.new.row in
    let (row, is, put) = puts-some c.in_ok-push_row.field-0 (row_of field_value c.args.columns.now c.args.places.now c.args.named fields) c.records.builder c.push_row.new.builder (search rules) c.in_ok-push_row.ensures in
    let rows : c.push_row.new.builder.rows ≡ c.records.builder.rows ++ row ∷ [] = ap (λ (v : BegunView). v.rows) put in (
      records ++ fields ∷ [],
      read_more c.args.bytes.now records c.records.reader c.read_record.new.reader c.in_ok-read_record.field-0 c.read_record.new.row read (search rules) c.in_ok-read_record.ensures.reads c.in_ok-read_record.ensures.ready c.in_ok-read_record.ensures.flexible,
      rw rows (row_more (row_of field_value c.args.columns.now c.args.places.now c.args.named) 1 records fields c.records.builder.rows row made is),
      ap (λ (v : BegunView). v.begun) put ∙ begun,
      ap (λ (v : BegunView). v.kinds) put ∙ kinds,
      omega (arith, length-append records (fields ∷ []), count),
      rw rows (omega (arith, length-append c.records.builder.rows (row ∷ []), number)),
    )

pub returns-clause-ok : goal.returns-clause-ok
returns-clause-ok c =
    let (records, read, made, begun, kinds, count, number) = c.records.invariant in
    (records, read_all c.args.bytes.now records c.records.reader read (omega (arith, count, c.records-test.false)), made)
