use Rattle.std.proofs.Common.{◌<◌, List, length, sym, subst}
use Rattle.std.proofs.lemmas.Result.{err_from_is_err_and}
use Rattle.rmt_values.specs.Commands.{CommandFits}
use Rattle.rmt_events.specs.TableCalls.{CreatesMutation}
use Rattle.rmt_events.specs.TableRefusals.{NoMutation}
use Rattle.rmt_table_model.specs.Held.{Held}
use Rattle.rmt_table.specs.TableTrees.{table_at}
use Rattle.rmt_table.specs.Causes.{change_cause}
use Rattle.rmt_shared.specs.SharedTables.{NamedTable}
use Rattle.rmt_shared.proofs.CallLemmas.{mutation-follows, tables-with, named-at, changed, has-cause}
use Rattle.rmt_shared.proofs.shared_tables.SharedTables.create_mutation.Goals as goal

pub create_mutation-requires-clause-fits : goal.create_mutation-requires-clause-fits
create_mutation-requires-clause-fits g c =
    let h = subst (λ (ts : List Held). c.args.table < length ts) (sym c.self.view_is) c.requires.table in
    subst (λ (n : NamedTable). CommandFits n.schema c.args.command) (sym (named-at g.N.Naming.tables c.self.inside.tables.items c.args.table c.index_mut.result.now c.self.invariant.are_named h c.index_mut.ensures.value)) c.requires.fits

pub returns-in_err-create_mutation-clause-refused : goal.returns-in_err-create_mutation-clause-refused
returns-in_err-create_mutation-clause-refused g c =
    let p = err_from_is_err_and c.from_residual.result c.from_residual.ensures.1 in
    rw (p.1, p.2) (has-cause c.self.inside.tables.items c.args.self.now c.self.view_is c.args.table c.index_mut.result.now c.index_mut.ensures.value (change_cause c.in_err-create_mutation.field-0.0) (λ t why. NoMutation (table_at t) why) c.in_err-create_mutation.ensures.refused)

pub invariant_of-self-2 : goal.invariant_of-self-2
invariant_of-self-2 g c =
    let h = subst (λ (ts : List Held). c.args.table < length ts) (sym c.self.view_is) c.requires.table in
    tables-with g.N.Naming.tables g.N.Naming.replicas g.N.Naming.offered c.self.inside.tables.items c.self.inside.entries.total 1 c.add.new.self.total c.args.table c.index_mut.result.now c.create_mutation.new.self c.self.invariant h c.index_mut.ensures.value
    (mutation-follows (g.N.Naming.offered c.args.table) c.index_mut.result.now c.create_mutation.new.self c.create_mutation.ensures.row c.create_mutation.ensures.replicas c.args.command c.in_ok-create_mutation.ensures.creates) c.add.ensures.total

pub returns-clause-ok : goal.returns-clause-ok
returns-clause-ok g c =
    changed c.self.inside.tables.items c.args.self.now c.self.view_is c.args.table c.index_mut.result.now c.index_mut.ensures.value (λ t u. CreatesMutation (table_at t) c.args.command (table_at u)) c.create_mutation.new.self c.in_ok-create_mutation.ensures.creates
