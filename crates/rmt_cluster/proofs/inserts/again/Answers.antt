use Rattle.std.proofs.Common.{◌∙◌, inr, refl, sym, ap, subst}
use Rattle.std.specs.Prelude.{IfSome}
use Rattle.rmt_table.specs.Causes.{allocate_cause}
use Rattle.rmt_events.specs.TableRefusals.{HasQuorum, NoNumber}
use Rattle.rmt_table.specs.TableTrees.{table_at}
use Rattle.rmt_state.specs.States.{StateView, cluster_of}
use Rattle.rmt_cluster.proofs.InsertActs.{renews-acts}
use Rattle.rmt_cluster.proofs.CauseLemmas.{locked-back, no-other}
use Rattle.rmt_cluster.proofs.inserts.again.Goals as goal

pub returns-in-Ok-clause-ok : goal.returns-in-Ok-clause-ok
returns-in-Ok-clause-ok c =
    let f = c.in-Some.ensures in
    let k = c.lock.result.now in
    let h = c.lock.ensures in
    renews-acts c.args.state.now c.allocate.new.self c.args.attempts.now c.renew.new.self c.args.attempt c.in-Ok.lock.number k.replica k.id.partition k.id.digest c.in-Some.found.now f.0 f.1 (subst (λ m. HasQuorum (table_at c.args.state.now.tree) m) c.need-need.ensures.value c.in-Ok.ensures.has_quorum)
    (λ l. let t = c.if-branch.false in let g = c.in_ok-has_lock.ensures.1 (locked-back (table_at c.args.state.now.tree) k c.in-Some.found.now h.holds h.number l) in absurd (cc))
    h.replica h.holds.partition h.holds.digest c.in-Ok.ensures.allocates c.allocate.ensures.replicas c.renew.ensures.made c.renew.ensures.renews

pub returns-in-Some-cause-clause-ok : goal.returns-in-Some-cause-clause-ok
returns-in-Some-cause-clause-ok c = λ events.
    let f = c.in-Some.ensures in
    let k = c.lock.result.now in
    let h = c.lock.ensures in
    let a = c.args.attempts.now in
    inr (record {
      why = c.in-Some-cause.why;
      cause = no-other (allocate_cause c.in-Err.error) c.in-Some-cause.why (cluster_of c.args.state.now a.made a.open_ones events) c.args.attempt c.in-Some.found.now k.id (record { is_in = f.0; id_is = f.1 })
          (λ l. let t = c.if-branch.false in let g = c.in_ok-has_lock.ensures.1 (locked-back (table_at c.args.state.now.tree) k c.in-Some.found.now h.holds h.number l) in absurd (cc))
          h.holds.partition h.holds.digest (subst (λ m. IfSome (allocate_cause c.in-Err.error) (NoNumber (table_at c.args.state.now.tree) c.in-Some.found.now.replica k.id.partition k.id.digest m)) c.need-need.ensures.value
          (subst (λ r. IfSome (allocate_cause c.in-Err.error) (NoNumber (table_at c.args.state.now.tree) r k.id.partition k.id.digest c.need-need.result)) h.replica c.in-Err.ensures.refused)) (sym c.cause.ensures ∙ c.in-Some-cause.is);
      answer = refl;
      unchanged = ap (λ (v : StateView). cluster_of v a.made a.open_ones events) c.in-Err.ensures.err;
    })
