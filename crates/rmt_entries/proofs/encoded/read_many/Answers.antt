use Rattle.std.proofs.Common.{◌≡◌, ◌-◌, ◌+◌, subst, sym}
use Rattle.std.proofs.lemmas.Result.{err_from_is_err_and}
use Rattle.rmt_bytes.specs.Decoding.{decode_many}
use Rattle.rmt_bytes.proofs.ManyLemmas.{goes_on, ends, is_done, with_front}
use Rattle.rmt_entries.proofs.encoded.read_many.Goals as goal

pub returns-in_err-item : goal.returns-in_err-item
returns-in_err-item g c =
    let p = err_from_is_err_and c.from_residual.result c.from_residual.ensures.1 in
    rw (p.1, p.2) (ends g.T.Encoded.decoding c.in_err-item.field-0.0 c.items.items.items c.args.count c.items.counter c.items.rest.now (decode_many g.T.Encoded.decoding c.args.count c.args.bytes.now) c.items-test.true c.in_err-item.ensures c.items.invariant)

pub items-preserved : goal.items-preserved
items-preserved g c =
    subst (λ xs. with_front xs (decode_many g.T.Encoded.decoding (c.args.count - (c.items.counter + 1)) c.in_ok-item.after.now) ≡ decode_many g.T.Encoded.decoding c.args.count c.args.bytes.now) (sym c.in_ok-push.ensures.items) (goes_on g.T.Encoded.decoding c.items.items.items c.args.count c.items.counter c.items.rest.now c.in_ok-item.item c.in_ok-item.after.now (decode_many g.T.Encoded.decoding c.args.count c.args.bytes.now) c.items-test.true c.in_ok-item.ensures c.items.invariant)

pub returns : goal.returns
returns g c = is_done g.T.Encoded.decoding c.items.items.items c.args.count c.items.counter c.items.rest.now (decode_many g.T.Encoded.decoding c.args.count c.args.bytes.now) c.items-test.false c.items.invariant
