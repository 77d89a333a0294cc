use Rattle.std.proofs.Common.{◌<◌, false, length, sym, subst, ◌∙◌}
use Rattle.rmt_events.specs.TableRefusals.{NoNumber}
use Rattle.rmt_table.specs.Causes.{allocate_cause}
use Rattle.rmt_table.specs.TableTrees.{table_at}
use Rattle.rmt_statement_model.specs.Inserts.{asked_at}
use Rattle.rmt_known.specs.KnownTables.{client_of}
use Rattle.rmt_shared.specs.ClientCalls.{HasTable}
use Rattle.rmt_pass.specs.Passes.{PassView, IsCurrent, KeepsPass, client_at, known_in, up_in}
use Rattle.rmt_pass.specs.InsertSteps.{AreOpen, HoldsNumber, Numbers}
use Rattle.rmt_pass.proofs.KnownLemmas.{if-some}
use Rattle.rmt_pass.proofs.OwnLemmas.{knowing, of-current, others-stay}
use Rattle.rmt_pass.proofs.InsertLemmas.{none-locked, of-each, unnumbered-so}
use Rattle.rmt_pass.proofs.InsertSeen.{number-goes-on, number-count, number-now, number-keeps, number-locked, number-taken}
use Rattle.rmt_pass.proofs.pass.Pass.allocate.Goals as goal

pub take_over-requires-clause-prefix : goal.take_over-requires-clause-prefix
take_over-requires-clause-prefix g c =
    let P : PassView = record { tables = c.self.inside.tables.items; up = c.self.inside.up.items; gave_up = c.self.inside.gave_up } in
    let k = c.args.table in
    let now : IsCurrent P k c.args.tables.now = subst (λ (p : PassView). IsCurrent p k c.args.tables.now) (sym c.self.view_is) c.requires.current in
    number-goes-on P k c.args.tables.now c.allocate.new.self now.there now c.args.replica c.args.need c.args.id.now c.in-Ok.lock c.in-Ok.ensures.ok

pub invariant_of-self-in-Ok : goal.invariant_of-self-in-Ok
invariant_of-self-in-Ok g c =
    let P : PassView = record { tables = c.self.inside.tables.items; up = c.self.inside.up.items; gave_up = c.self.inside.gave_up } in
    let k = c.args.table in
    let now : IsCurrent P k c.args.tables.now = subst (λ (p : PassView). IsCurrent p k c.args.tables.now) (sym c.self.view_is) c.requires.current in
    let here : k < length P.tables = subst (λ (p : PassView). k < length p.tables) (sym c.self.view_is) c.requires.table in
    record {
      known = c.take_over.ensures.known;
      ups = c.self.invariant.ups;
      whole = c.self.invariant.whole;
      some = c.self.invariant.some;
      counted = λ e. c.self.invariant.counted now.goes ∙ sym (number-count P k c.args.tables.now c.allocate.new.self now.there now c.args.replica c.args.need c.args.id.now c.in-Ok.lock c.in-Ok.ensures.ok here c.take_over.new.known.items c.in_ok-take_over-in-Ok.ensures.ok);
    }

pub returns-in_ok-take_over-in-Ok-clause-current : goal.returns-in_ok-take_over-in-Ok-clause-current
returns-in_ok-take_over-in-Ok-clause-current g c =
    let P : PassView = record { tables = c.self.inside.tables.items; up = c.self.inside.up.items; gave_up = c.self.inside.gave_up } in
    let k = c.args.table in
    let now : IsCurrent P k c.args.tables.now = subst (λ (p : PassView). IsCurrent p k c.args.tables.now) (sym c.self.view_is) c.requires.current in
    let here : k < length P.tables = subst (λ (p : PassView). k < length p.tables) (sym c.self.view_is) c.requires.table in
    number-now P k c.args.tables.now c.allocate.new.self now.there now c.args.replica c.args.need c.args.id.now c.in-Ok.lock c.in-Ok.ensures.ok here c.take_over.new.known.items c.in_ok-take_over-in-Ok.ensures.ok

pub returns-in_ok-take_over-in-Ok-clause-done : goal.returns-in_ok-take_over-in-Ok-clause-done
returns-in_ok-take_over-in-Ok-clause-done g c = λ b i.
    let P : PassView = record { tables = c.self.inside.tables.items; up = c.self.inside.up.items; gave_up = c.self.inside.gave_up } in
    let k = c.args.table in
    let now : IsCurrent P k c.args.tables.now = subst (λ (p : PassView). IsCurrent p k c.args.tables.now) (sym c.self.view_is) c.requires.current in
    let here : k < length P.tables = subst (λ (p : PassView). k < length p.tables) (sym c.self.view_is) c.requires.table in
    let opened : AreOpen (up_in P.up) now.table = of-current P k c.args.tables.now (AreOpen (up_in P.up)) now.there now (subst (λ (p : PassView). HasTable c.args.tables.now k (AreOpen (up_in p.up))) (sym c.self.view_is) c.requires.open) in (
      subst (λ (p : PassView). HoldsNumber (up_in p.up) (asked_at c.args.replica c.args.need) b c.in-Ok.lock (client_at p k) (client_of (known_in c.take_over.new.known.items k))) c.self.view_is
          (number-taken P k c.args.tables.now c.allocate.new.self now.there now c.args.replica c.args.need c.args.id.now c.in-Ok.lock c.in-Ok.ensures.ok here c.take_over.new.known.items c.in_ok-take_over-in-Ok.ensures.ok (up_in P.up) b opened i),
      subst (λ (p : PassView). KeepsPass p k (knowing P c.take_over.new.known.items false)) c.self.view_is (number-keeps P k c.args.tables.now c.allocate.new.self now.there now c.args.replica c.args.need c.args.id.now c.in-Ok.lock c.in-Ok.ensures.ok here c.take_over.new.known.items c.in_ok-take_over-in-Ok.ensures.ok),
    )

pub returns-in-Err-clause-done : goal.returns-in-Err-clause-done
returns-in-Err-clause-done g c =
    let p = c.args.self.now in
    let k = c.args.table in
    let now = c.requires.current in
    of-each c.args.id.now c.unnumbered.result (λ b n. Numbers g.N.Naming.offered p k (asked_at c.args.replica c.args.need) b n p) (λ b i.
    unnumbered-so g.N.Naming.offered p k now.table (asked_at c.args.replica c.args.need) b c.args.id.now c.in-Err.error c.unnumbered.result now.goes now.now
    (of-current p k c.args.tables.now (AreOpen (up_in p.up)) now.there now c.requires.open) i
    (if-some (allocate_cause c.in-Err.error) _ (NoNumber (table_at now.table) c.args.replica c.args.id.now.partition c.args.id.now.digest c.args.need)
    (λ why h. of-current p k c.args.tables.now (λ t. NoNumber (table_at t) c.args.replica c.args.id.now.partition c.args.id.now.digest c.args.need why) now.there now h) c.in-Err.ensures.refused)
    c.unnumbered.ensures)

pub returns-in-Err-clause-others : goal.returns-in-Err-clause-others
returns-in-Err-clause-others g c = others-stay c.args.tables.now c.allocate.new.self c.args.table c.requires.current.table c.in-Err.ensures.err

pub returns-in_ok-take_over-in-Ok-clause-lock : goal.returns-in_ok-take_over-in-Ok-clause-lock
returns-in_ok-take_over-in-Ok-clause-lock g c =
    let k = c.args.table in
    let now = c.requires.current in
    number-locked c.args.self.now k c.args.tables.now c.allocate.new.self now.there now c.args.replica c.args.need c.args.id.now c.in-Ok.lock c.in-Ok.ensures.ok

pub returns-in-Err-clause-lock : goal.returns-in-Err-clause-lock
returns-in-Err-clause-lock g c = none-locked c.allocate.new.self c.args.table c.in-Err.error c.unnumbered.result c.unnumbered.ensures
