use Rattle.std.proofs.Common.{arith}
use Rattle.std.proofs.lemmas.Result.{err_from_is_err_and}
use Rattle.rmt_cluster.proofs.SyncLemmas.{next-none, sync-done, sync-stopped, pull-stopped, syncing-begins, syncing-on, none-lost}
use Rattle.rmt_cluster.proofs.cluster.Cluster.drain.Goals as goal

pub returns-in_err-pull_all-clause-drains : goal.returns-in_err-pull_all-clause-drains
returns-in_err-pull_all-clause-drains c =
    let p = err_from_is_err_and c.from_residual.result c.from_residual.ensures.1 in
    rw (p.1, p.2) (pull-stopped c.args.self.now c.pull_all.new.self c.args.replica c.in_err-pull_all.field-0.0 c.in_err-pull_all.ensures.pulls)

pub returns-in_err-pull_all-clause-complete : goal.returns-in_err-pull_all-clause-complete
returns-in_err-pull_all-clause-complete c =
    let p = err_from_is_err_and c.from_residual.result c.from_residual.ensures.1 in
    rw (p.1, p.2) (none-lost c.args.self.now c.pull_all.new.self c.args.replica c.in_err-pull_all.field-0.0 c.pull_all.ensures.whole (pull-stopped c.args.self.now c.pull_all.new.self c.args.replica c.in_err-pull_all.field-0.0 c.in_err-pull_all.ensures.pulls))

pub returns-in_err-do_next-clause-drains : goal.returns-in_err-do_next-clause-drains
returns-in_err-do_next-clause-drains c =
    let p = err_from_is_err_and c.from_residual-in_err-do_next.result c.from_residual-in_err-do_next.ensures.1 in
    rw (p.1, p.2) (sync-stopped c.args.self.now c.entries.self c.do_next.new.self c.args.replica c.entries.from c.in-Some.i c.in_err-do_next.field-0.0 c.entries.invariant c.in-Some.ensures.next c.in_err-do_next.ensures.does)

pub returns-in_err-do_next-clause-complete : goal.returns-in_err-do_next-clause-complete
returns-in_err-do_next-clause-complete c =
    let p = err_from_is_err_and c.from_residual-in_err-do_next.result c.from_residual-in_err-do_next.ensures.1 in
    rw (p.1, p.2) (none-lost c.args.self.now c.do_next.new.self c.args.replica c.in_err-do_next.field-0.0 c.pull_all.ensures.whole
    (sync-stopped c.args.self.now c.entries.self c.do_next.new.self c.args.replica c.entries.from c.in-Some.i c.in_err-do_next.field-0.0 c.entries.invariant c.in-Some.ensures.next c.in_err-do_next.ensures.does))

pub returns-clause-drains : goal.returns-clause-drains
returns-clause-drains c = sync-done c.args.self.now c.entries.self c.args.replica c.entries.from c.entries.invariant (next-none c.entries.self c.args.replica c.entries.from c.next_entry.result c.in_default.not-Some c.next_entry.ensures.next)

pub overflow_add-from : goal.overflow_add-from
overflow_add-from c = let l = c.in-Some.ensures.few in grind (arith, l)

pub entries-init : goal.entries-init
entries-init c = syncing-begins c.args.self.now c.pull_all.new.self c.args.replica c.pull_all.ensures.whole c.in_ok-pull_all.ensures.pulls c.in_ok-pull_all.ensures.keeps.schema c.in_ok-pull_all.ensures.keeps.replicas

pub entries-preserved : goal.entries-preserved
entries-preserved c = syncing-on c.args.self.now c.entries.self c.do_next.new.self c.args.replica c.entries.from c.in-Some.i c.entries.invariant c.in-Some.ensures.next c.in_ok-do_next.ensures.does c.in_ok-do_next.ensures.log c.in_ok-do_next.ensures.keeps.schema c.in_ok-do_next.ensures.keeps.replicas
