use Rattle.std.proofs.Common.{◌≡◌, ◌+◌, ◌-◌, arith, sym, ap, subst, ◌∙◌}
use Rattle.std.proofs.lemmas.Bool.Decides.{nat_tests}
use Rattle.rmt_replica.specs.Replicas.{IsStandingReplica, ReplicaView}
use Rattle.rmt_workers.specs.Settled.{IsTakenBack}
use Rattle.rmt_workers.proofs.CloseLemmas.{taken-back}
use Rattle.rmt_workers.proofs.crew.close.take_back.Goals as goal

pub has_all_known-requires-clause-of : goal.has_all_known-requires-clause-of
has_all_known-requires-clause-of g c =
    let a = c.insist.ensures in
    let same : c.table.result ≡ c.args.table = grind (arith, nat_tests) in
    c.set_as_known.ensures.is.table ∙ (sym c.table.ensures ∙ same)

pub returns : goal.returns
returns g c =
    let a = c.insist.ensures in
    let b = c.insist-2.ensures in
    let same : c.table.result ≡ c.args.table = grind (arith, nat_tests) in
    let at = c.in_ok-has_all.ensures.table ∙ (c.set_as_known.ensures.is.table ∙ (sym c.table.ensures ∙ same)) in
    let after : c.from.result - 1 ≡ c.args.before = grind (arith, nat_tests) in
    let number : c.into_inner-here.result.replica.number - 1 ≡ c.args.before =
    ap (λ n. n - 1) (sym (ap (λ (r : ReplicaView). r.number) c.replica.ensures.same) ∙ (sym c.number.ensures ∙ sym c.from.ensures)) ∙ after in
    subst (λ (r : ReplicaView). IsTakenBack g.N.Naming.offered c.args.pass.now c.args.table c.args.tree.now (c.args.before + 1) r) (sym c.into_replica.ensures)
    (taken-back g.N.Naming.tables g.N.Naming.replicas g.N.Naming.offered c.args.pass.now c.args.table c.args.tree.now c.requires.settled c.has_all_known.new.here c.replica-replica.ensures.shared at
    c.into_inner-here.result c.set_as_known.new.here c.args.before c.set_as_known.ensures.is c.in_ok-has_all.ensures.replica number (c.in_ok-has_all.ensures.has c.insist-3.ensures)
    (subst (λ (r : ReplicaView). IsStandingReplica r) c.replica-replica.ensures.same c.copy-copy.ensures.standing))
