use Rattle.std.proofs.Common.{◌≡◌, ◌-◌}
use Rattle.rmt_bytes.specs.Decoding.{decode_many}
use Rattle.rmt_bytes.proofs.ManyLemmas.{with_front}
use Rattle.rmt_entries.proofs.encoded.read_many.Given as goal

abbrev pub invariant-items : goal.invariant-items
invariant-items g l = with_front l.items.items (decode_many g.T.Encoded.decoding (l.count - l.counter) l.rest) ≡ decode_many g.T.Encoded.decoding l.count l.bytes
