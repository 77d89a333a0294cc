use Rattle.std.proofs.Common.{arith}
use Rattle.rmt_partset.specs.Snapshots.{names_in}
use Rattle.rmt_known.proofs.MarkLemmas.{all-shown}
use Rattle.rmt_known.proofs.marks.mark_shown_from.Goals as goal

pub returns : goal.returns
returns c =
    let t = c.places-test.false in
    let e = c.len-i-end.ensures.len in
    all-shown c.args.copy.now.log (names_in c.args.parts.now) c.args.marks.now c.places.marks c.args.from c.places.i (omega (arith, t, e)) c.places.invariant.marks
