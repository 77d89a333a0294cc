use Rattle.std.proofs.Common.{◌≡◌, take, drop}
use Rattle.rmt_bytes.proofs.ManyLemmas.{with_front}
use Rattle.rmt_format.specs.PartDecoding.{decode_columns}
use Rattle.rmt_format.proofs.rows.read_columns.Given as goal

abbrev pub invariant-columns : goal.invariant-columns
invariant-columns l =
    with_front (take l.i l.columns) (decode_columns (drop l.i l.columns) l.count l.rest) ≡ decode_columns l.fn.columns l.count l.bytes
