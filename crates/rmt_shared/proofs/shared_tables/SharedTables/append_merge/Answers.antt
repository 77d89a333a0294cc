use Rattle.std.proofs.Common.{◌<◌, List, true, length, sym, subst}
use Rattle.std.proofs.lemmas.Result.{err_from_is_err_and}
use Rattle.rmt_events.specs.TableRefusals.{NotMerged}
use Rattle.rmt_table_model.specs.Held.{Held}
use Rattle.rmt_table.specs.TableTrees.{IsCopyOf, table_at}
use Rattle.rmt_table.specs.Causes.{merge_cause}
use Rattle.rmt_shared.specs.SharedTables.{GainsMerge}
use Rattle.rmt_shared.proofs.CallLemmas.{merge-follows, tables-still, changed, has-cause, is-so-there}
use Rattle.rmt_shared.proofs.shared_tables.SharedTables.append_merge.Goals as goal

pub assign_merge-requires-clause-of : goal.assign_merge-requires-clause-of
assign_merge-requires-clause-of g c =
    let h = subst (λ (ts : List Held). c.args.table < length ts) (sym c.self.view_is) c.requires.table in
    is-so-there c.self.inside.tables.items c.args.self.now c.self.view_is c.args.table c.index_mut.result.now c.index_mut.ensures.value (λ t. IsCopyOf t c.args.copy.now) h c.requires.of

pub returns-in_err-_token-clause-refused : goal.returns-in_err-_token-clause-refused
returns-in_err-_token-clause-refused g c =
    let p = err_from_is_err_and c.from_residual.result c.from_residual.ensures.1 in
    rw (p.1, p.2) (has-cause c.self.inside.tables.items c.args.self.now c.self.view_is c.args.table c.index_mut.result.now c.index_mut.ensures.value (merge_cause c.in_err-_token.field-0.0) (λ t why. NotMerged (table_at t) (length c.args.copy.now.log) c.args.sources.now why) c.in_err-_token.ensures.refused)

pub invariant_of-self-2 : goal.invariant_of-self-2
invariant_of-self-2 g c =
    let h = subst (λ (ts : List Held). c.args.table < length ts) (sym c.self.view_is) c.requires.table in
    tables-still g.N.Naming.tables g.N.Naming.replicas g.N.Naming.offered c.self.inside.tables.items c.self.inside.entries.total c.args.table c.index_mut.result.now c.assign_merge.new.self c.self.invariant h c.index_mut.ensures.value
    (merge-follows (g.N.Naming.offered c.args.table) c.index_mut.result.now c.assign_merge.new.self c.assign_merge.ensures.row c.assign_merge.ensures.replicas true c.args.sources.now (record { name = c.in_ok-_token.ensures.done.name; count = c.in_ok-_token.ensures.done.count; assigns = c.in_ok-_token.ensures.done.seen }))

pub returns-clause-ok : goal.returns-clause-ok
returns-clause-ok g c =
    changed c.self.inside.tables.items c.args.self.now c.self.view_is c.args.table c.index_mut.result.now c.index_mut.ensures.value (λ t u. GainsMerge t c.args.sources.now u) c.assign_merge.new.self (record { name = c.in_ok-_token.ensures.done.name; count = c.in_ok-_token.ensures.done.count; assigns = c.in_ok-_token.ensures.done.seen })
