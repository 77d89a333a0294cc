use Rattle.std.proofs.Common.{◌≢◌}
use Rattle.csv.specs.Records.{fields_of}
use Rattle.csv.specs.Writing.{writer_setup}
use Rattle.csv.specs.declared.writer.QuoteStyle.TheVariants as style
use Rattle.rmt_reply.proofs.WriterLemmas.{row_text-flexible}
use Rattle.rmt_reply.proofs.records.write.Goals as goal

pub returns-clause-text : goal.returns-clause-text
returns-clause-text c =
    let plain : (writer_setup c.args.writer.now).style ≢ style.NonNumeric = rw c.requires.setup (λ e. cc e) in
    let written = (rw c.in-Ok.is at c.write_byte_record.ensures.bytes) c.requires.fields c.requires.wrote plain in
    rw (c.requires.setup, row_text-flexible (fields_of c.args.fields.now)) at written
