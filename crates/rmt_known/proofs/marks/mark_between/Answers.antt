use Rattle.std.proofs.Common.{arith}
use Rattle.rmt_known.proofs.MarkLemmas.{end-between}
use Rattle.rmt_known.proofs.marks.mark_between.Goals as goal

pub returns : goal.returns
returns c = let t = c.places-test.false in end-between c.args.marks.now c.places.marks c.args.from c.places.i c.args.to (omega (arith, t)) c.places.invariant.upto c.places.invariant.marks
