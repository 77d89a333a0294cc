use Rattle.std.proofs.lemmas.Result.{IfOk-weaker}
use Rattle.rmt_threaded.proofs.ReadLemmas.{digests-read}
use Rattle.rmt_threaded.proofs.access.Access.digests.Goals as goal

pub returns-clause-digests : goal.returns-clause-digests
returns-clause-digests g c =
    IfOk-weaker c.digests_of.result _ _
    (λ all f. digests-read g.N.Naming.offered c.args.pass.now c.args.table c.args.replica c.snapshot.new.pass c.in_ok-snapshot.snapshot c.parts.result.now c.args.schema.now all.items c.parts.ensures.all c.requires.schema f c.in_ok-snapshot.ensures.reads)
    c.digests_of.ensures
