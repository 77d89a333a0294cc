use Rattle.std.proofs.Common.{◌≡◌, take}
use Rattle.rmt_reply.specs.RecordWriters.{IsBetweenRecords, text_in}
use Rattle.rmt_reply.specs.Printed.{records_text}
use Rattle.rmt_reply.proofs.records.records.Given as goal

abbrev pub invariant-rows : goal.invariant-rows
invariant-rows l = IsBetweenRecords l.writer × (text_in l.writer ≡ records_text (take l.row-index l.rows))
