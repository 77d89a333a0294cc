use Rattle.std.proofs.Common.{rules, ◌≡◌, ◌∙◌, sym, subst}
use Rattle.std.specs.Prelude.{IfSome}
use Rattle.rmt_table.specs.TableTrees.{table_at}
use Rattle.rmt_table.specs.Causes.{commit_cause}
use Rattle.rmt_table.specs.Refusals.{NoCommit}
use Rattle.rmt_events.specs.TableCalls.{Commits}
use Rattle.rmt_events.specs.TableRefusals.{HasQuorum}
use Rattle.rmt_events.specs.Clusters.{values_of}
use Rattle.rmt_state.specs.States.{cluster_of}
use Rattle.rmt_cluster.proofs.CauseLemmas.{lost-for, gone-for}
use Rattle.rmt_cluster.proofs.InsertActs.{accepts-acts, loses-acts, gone-acts}
use Rattle.rmt_cluster.proofs.inserts.commit.Goals as goal

pub returns-in-Ok-clause-ok : goal.returns-in-Ok-clause-ok
returns-in-Ok-clause-ok c =
    let f = c.in-Some.ensures in
    let h = c.lock.ensures in
    let s = c.args.state.now in
    let k = c.lock.result.now in
    let v : c.values_of-values.result ≡ values_of s.tree.schema c.in-Some.found.now.block.rows = search rules in
    accepts-acts s c.commit.new.self c.args.attempts.now c.end.new.self c.args.attempt c.in-Ok.place c.values_of-values.result c.in-Some.found.now c.lock.result.now c.requires.suit f.0 f.1
    (subst (λ m. HasQuorum (table_at s.tree) m) c.need-need.ensures.value c.in-Ok.ensures.has_quorum) h.holds h.number h.replica
    (c.has_staged.ensures.0 c.if-not-has_staged.false) v c.in-Ok.ensures.place
    (subst (λ m. Commits (table_at s.tree) k.id.partition k.number k.id.digest k.replica m c.values_of-values.result (table_at c.commit.new.self.tree)) c.need-need.ensures.value c.in-Ok.ensures.commits) c.commit.ensures.replicas c.end.ensures.made c.end.ensures.ends

pub returns-then-not-is_final-clause-ok : goal.returns-then-not-is_final-clause-ok
returns-then-not-is_final-clause-ok c =
    let f = c.in-Some.ensures in
    let h = c.lock.ensures in
    let s = c.args.state.now in
    let a = c.args.attempts.now in
    gone-acts s c.commit.new.self a c.args.attempt c.in-Some-cause.why c.in-Some.found.now c.lock.result.now c.requires.suit f.0 f.1 h.holds h.number h.replica (c.has_staged.ensures.0 c.if-not-has_staged.false)
    (λ events. gone-for c.in-Err.error c.in-Some-cause.why (cluster_of s a.made a.open_ones events) c.in-Some.found.now c.lock.result.now c.values_of-values.result s.tree c.commit.new.self.tree h.holds h.number
    (subst (λ m. IfSome (commit_cause c.in-Err.error) (NoCommit (table_at s.tree) c.lock.result.now m c.values_of-values.result)) c.need-need.ensures.value c.in-Err.ensures.refused) c.in-Err.ensures.err (sym c.is_final.ensures ∙ c.if-not-is_final.true) (sym c.cause.ensures ∙ c.in-Some-cause.is))
    c.commit.ensures.replicas

pub returns-else-not-is_final-clause-ok : goal.returns-else-not-is_final-clause-ok
returns-else-not-is_final-clause-ok c =
    let f = c.in-Some.ensures in
    let h = c.lock.ensures in
    let s = c.args.state.now in
    let a = c.args.attempts.now in
    let v : c.values_of-values.result ≡ values_of s.tree.schema c.in-Some.found.now.block.rows = search rules in
    loses-acts s c.commit.new.self c.end-in-Err.new.state a c.end-in-Err.new.attempts c.args.attempt c.in-Some-cause.why c.in-Some.found.now c.lock.result.now c.requires.suit f.0 f.1 h.holds h.number h.replica (c.has_staged.ensures.0 c.if-not-has_staged.false)
    (λ events. lost-for c.in-Err.error c.in-Some-cause.why (cluster_of s a.made a.open_ones events) c.in-Some.found.now c.lock.result.now c.values_of-values.result s.tree c.commit.new.self.tree h.holds h.number v
    (subst (λ m. IfSome (commit_cause c.in-Err.error) (NoCommit (table_at s.tree) c.lock.result.now m c.values_of-values.result)) c.need-need.ensures.value c.in-Err.ensures.refused) c.in-Err.ensures.err (sym c.is_final.ensures ∙ c.if-not-is_final.false) (sym c.cause.ensures ∙ c.in-Some-cause.is))
    c.commit.ensures.replicas c.end-in-Err.ensures
