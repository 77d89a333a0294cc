use Rattle.std.proofs.Common.{◌<◌, List, length, sym, subst, ◌∙◌}
use Rattle.std.proofs.lemmas.Result.{err_from_is_err_and}
use Rattle.std.specs.declared.option.Option.{Option}
use Rattle.rmt_row.specs.Token.{Token}
use Rattle.rmt_entries.specs.declared.entry.Entry.{Entry}
use Rattle.rmt_model.specs.BlockNumbers.{next_number}
use Rattle.rmt_events.specs.TableRefusals.{NoDrop}
use Rattle.rmt_table_model.specs.Held.{Held}
use Rattle.rmt_table.specs.TableTrees.{table_at, IsDrop}
use Rattle.rmt_table.specs.Causes.{change_cause}
use Rattle.rmt_shared.proofs.CallLemmas.{drop-follows, tables-with, drops-in, drops-nothing, has-cause}
use Rattle.rmt_shared.proofs.shared_tables.SharedTables.drop_partition.Goals as goal

pub returns-in_err-dropped-clause-refused : goal.returns-in_err-dropped-clause-refused
returns-in_err-dropped-clause-refused g c =
    let p = err_from_is_err_and c.from_residual.result c.from_residual.ensures.1 in
    rw (p.1, p.2) (has-cause c.self.inside.tables.items c.args.self.now c.self.view_is c.args.table c.index_mut.result.now c.index_mut.ensures.value (change_cause c.in_err-dropped.field-0.0) (λ t why. NoDrop (table_at t) c.args.partition why) c.in_err-dropped.ensures.refused)

pub returns-in_default-clause-ok : goal.returns-in_default-clause-ok
returns-in_default-clause-ok g c =
    let h = subst (λ (ts : List Held). c.args.table < length ts) (sym c.self.view_is) c.requires.table in
    let d = subst (λ (o : Option (Token Entry)). IsDrop c.index_mut.result.now c.args.partition o c.drop_partition.new.self) c.in_default.is c.in_ok-dropped.ensures.done in
    drops-nothing c.self.inside.tables.items c.args.self.now c.self.view_is c.args.table c.index_mut.result.now c.index_mut.ensures.value h c.drop_partition.new.self c.args.partition d

pub invariant_of-self-2 : goal.invariant_of-self-2
invariant_of-self-2 g c =
    let h = subst (λ (ts : List Held). c.args.table < length ts) (sym c.self.view_is) c.requires.table in
    let d = subst (λ (o : Option (Token Entry)). IsDrop c.index_mut.result.now c.args.partition o c.drop_partition.new.self) c.in-Some.is c.in_ok-dropped.ensures.done in
    tables-with g.N.Naming.tables g.N.Naming.replicas g.N.Naming.offered c.self.inside.tables.items c.self.inside.entries.total 1 c.add.new.self.total c.args.table c.index_mut.result.now c.drop_partition.new.self c.self.invariant h c.index_mut.ensures.value
    (drop-follows (g.N.Naming.offered c.args.table) c.index_mut.result.now c.drop_partition.new.self c.drop_partition.ensures.row c.drop_partition.ensures.replicas c.args.partition (next_number c.index_mut.result.now.next c.args.partition) d.seen) c.add.ensures.total

pub returns-clause-ok : goal.returns-clause-ok
returns-clause-ok g c =
    let d = subst (λ (o : Option (Token Entry)). IsDrop c.index_mut.result.now c.args.partition o c.drop_partition.new.self) c.in-Some.is c.in_ok-dropped.ensures.done in
    drops-in c.self.inside.tables.items c.args.self.now c.self.view_is c.args.table c.index_mut.result.now c.index_mut.ensures.value c.drop_partition.new.self c.args.partition c.in-DropRange.partition c.in-DropRange.number c.in-Some.token d (sym c.value.ensures ∙ c.in-DropRange.is)
