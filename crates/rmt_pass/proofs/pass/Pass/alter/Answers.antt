use Rattle.std.proofs.Common.{◌≡◌, ℕ, ◌+◌, ◌<◌, false, length, sym, ap, subst, ◌∙◌}
use Rattle.std.specs.declared.result.Result.TheVariants.{Ok}
use Rattle.rmt_model.specs.Lawful.{mutation_count}
use Rattle.rmt_events.specs.TableCalls.{CreatesMutation}
use Rattle.rmt_table_model.specs.Held.{Held}
use Rattle.rmt_table.specs.TableTrees.{table_at}
use Rattle.rmt_statement_model.specs.ActOutcomes.{MutatesOr}
use Rattle.rmt_pass.specs.Passes.{PassView, IsCurrent, TakesStep}
use Rattle.rmt_pass.proofs.TakingLemmas.{one-there}
use Rattle.rmt_pass.proofs.OwnLemmas.{knowing, altered, altered-now, altered-counted, mutation-goes-on, others, others-stay}
use Rattle.rmt_pass.proofs.pass.Pass.alter.Goals as goal

pub table-requires : goal.table-requires
table-requires g c = record { place = c.requires.current.there }

pub create_mutation-requires-clause-table : goal.create_mutation-requires-clause-table
create_mutation-requires-clause-table g c = c.requires.current.there

pub take_over-requires-clause-prefix : goal.take_over-requires-clause-prefix
take_over-requires-clause-prefix g c =
    let P : PassView = record { tables = c.self.inside.tables.items; up = c.self.inside.up.items; gave_up = c.self.inside.gave_up } in
    let k = c.args.table in
    let now : IsCurrent P k c.args.tables.now = subst (λ (p : PassView). IsCurrent p k c.args.tables.now) (sym c.self.view_is) c.requires.current in
    mutation-goes-on P k c.args.tables.now c.create_mutation.new.self c.args.command now.there now c.in-Ok.ensures.ok

pub returns-in_err-take_over-in-Ok-clause-others : goal.returns-in_err-take_over-in-Ok-clause-others
returns-in_err-take_over-in-Ok-clause-others g c = others c.args.tables.now c.args.table (λ t u. CreatesMutation (table_at t) c.args.command (table_at u)) c.create_mutation.new.self c.in-Ok.ensures.ok

pub invariant_of-self-in-Ok : goal.invariant_of-self-in-Ok
invariant_of-self-in-Ok g c =
    let P : PassView = record { tables = c.self.inside.tables.items; up = c.self.inside.up.items; gave_up = c.self.inside.gave_up } in
    let k = c.args.table in
    let now : IsCurrent P k c.args.tables.now = subst (λ (p : PassView). IsCurrent p k c.args.tables.now) (sym c.self.view_is) c.requires.current in
    let here : k < length P.tables = subst (λ (p : PassView). k < length p.tables) (sym c.self.view_is) c.requires.table in
    record {
      known = c.take_over.ensures.known;
      ups = c.self.invariant.ups;
      whole = c.create_mutation.ensures.parts ∙ c.self.invariant.whole;
      some = c.self.invariant.some;
      counted = λ e. c.in-Ok.ensures.counted ∙ (ap (λ (n : ℕ). n + 1) (c.self.invariant.counted now.goes)
          ∙ sym (altered-counted g.N.Naming.offered P k here c.args.tables.now c.create_mutation.new.self now.there now c.args.command c.in-Ok.ensures.ok c.take_over.new.known.items c.in_ok-take_over-in-Ok.ensures.ok));
    }

pub returns-in_ok-take_over-in-Ok-clause-done : goal.returns-in_ok-take_over-in-Ok-clause-done
returns-in_ok-take_over-in-Ok-clause-done g c =
    let P : PassView = record { tables = c.self.inside.tables.items; up = c.self.inside.up.items; gave_up = c.self.inside.gave_up } in
    let k = c.args.table in
    let now : IsCurrent P k c.args.tables.now = subst (λ (p : PassView). IsCurrent p k c.args.tables.now) (sym c.self.view_is) c.requires.current in
    let here : k < length P.tables = subst (λ (p : PassView). k < length p.tables) (sym c.self.view_is) c.requires.table in
    let tree : c.table.result.now ≡ now.table = one-there c.args.tables.now k c.table.result.now now.table now.there (c.table.ensures.same c.table.result.now) now.is in
    subst (λ (p : PassView). TakesStep g.N.Naming.offered p k (MutatesOr c.args.command (Ok c.mutations-id.result)) (knowing P c.take_over.new.known.items false)) c.self.view_is
    (altered g.N.Naming.offered P k here c.args.tables.now c.create_mutation.new.self now.there now c.args.command c.in-Ok.ensures.ok c.take_over.new.known.items c.in_ok-take_over-in-Ok.ensures.ok c.mutations-id.result
    (c.mutations-id.ensures ∙ ap (λ (h : Held). mutation_count h.log) tree))

pub returns-in_ok-take_over-in-Ok-clause-current : goal.returns-in_ok-take_over-in-Ok-clause-current
returns-in_ok-take_over-in-Ok-clause-current g c =
    let P : PassView = record { tables = c.self.inside.tables.items; up = c.self.inside.up.items; gave_up = c.self.inside.gave_up } in
    let k = c.args.table in
    let now : IsCurrent P k c.args.tables.now = subst (λ (p : PassView). IsCurrent p k c.args.tables.now) (sym c.self.view_is) c.requires.current in
    let here : k < length P.tables = subst (λ (p : PassView). k < length p.tables) (sym c.self.view_is) c.requires.table in
    altered-now g.N.Naming.offered P k here c.args.tables.now c.create_mutation.new.self now.there now c.args.command c.in-Ok.ensures.ok c.take_over.new.known.items c.in_ok-take_over-in-Ok.ensures.ok

pub returns-in_ok-take_over-in-Ok-clause-others : goal.returns-in_ok-take_over-in-Ok-clause-others
returns-in_ok-take_over-in-Ok-clause-others g c = others c.args.tables.now c.args.table (λ t u. CreatesMutation (table_at t) c.args.command (table_at u)) c.create_mutation.new.self c.in-Ok.ensures.ok

pub returns-in-Err-LimitReached-clause-others : goal.returns-in-Err-LimitReached-clause-others
returns-in-Err-LimitReached-clause-others g c = others-stay c.args.tables.now c.create_mutation.new.self c.args.table c.table.result.now c.in-Err-LimitReached.ensures.err

pub returns-in-Err-Memory-clause-others : goal.returns-in-Err-Memory-clause-others
returns-in-Err-Memory-clause-others g c = others-stay c.args.tables.now c.create_mutation.new.self c.args.table c.table.result.now c.in-Err-Memory.ensures.err
