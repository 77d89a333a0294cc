use Rattle.std.proofs.Common.{◌<◌, length, set, sym, subst}
use Rattle.rmt_clients.specs.Clients.{KnowsTable, known_table}
use Rattle.rmt_known.specs.KnownTables.{client_of}
use Rattle.rmt_pass.specs.DrainSteps.{noted_with}
use Rattle.rmt_pass.specs.Passes.{PassView, IsCurrent, client_at, known_in}
use Rattle.rmt_pass.proofs.OwnLemmas.{others-stay}
use Rattle.rmt_pass.proofs.DrainLemmas.{replica-there, pass-noted, knows-noted, note-now}
use Rattle.rmt_pass.proofs.pass.Pass.note_with.Goals as goal

pub returns-in_err-note_in-clause-others : goal.returns-in_err-note_in-clause-others
returns-in_err-note_in-clause-others g c = others-stay c.args.tables.now c.note_in.new.tables c.args.table c.requires.current.table c.in_err-note_in.ensures.err

pub learn_noted-requires : goal.learn_noted-requires
learn_noted-requires g c =
    let P : PassView = record { tables = c.self.inside.tables.items; up = c.self.inside.up.items; gave_up = c.self.inside.gave_up } in
    let here : c.args.table < length P.tables = subst (λ (p : PassView). c.args.table < length p.tables) (sym c.self.view_is) c.requires.table in
    replica-there g.N.Naming.replicas g.N.Naming.tables P.tables c.args.table c.args.replica c.index_mut.result.now c.self.invariant.known here c.index_mut.ensures.value c.requires.here

pub invariant_of-self : goal.invariant_of-self
invariant_of-self g c =
    let P : PassView = record { tables = c.self.inside.tables.items; up = c.self.inside.up.items; gave_up = c.self.inside.gave_up } in
    let here : c.args.table < length P.tables = subst (λ (p : PassView). c.args.table < length p.tables) (sym c.self.view_is) c.requires.table in
    pass-noted P c.args.table here c.index_mut.result.now c.learn_noted.new.known c.index_mut.ensures.value c.learn_noted.ensures.keeps g.N.Naming.tables g.N.Naming.replicas g.N.Naming.parts c.self.inside.entries.parts c.self.inside.entries.amount c.self.invariant

pub invariant_of-self-2 : goal.invariant_of-self-2
invariant_of-self-2 g c =
    let P : PassView = record { tables = c.self.inside.tables.items; up = c.self.inside.up.items; gave_up = c.self.inside.gave_up } in
    let here : c.args.table < length P.tables = subst (λ (p : PassView). c.args.table < length p.tables) (sym c.self.view_is) c.requires.table in
    pass-noted P c.args.table here c.index_mut.result.now c.learn_noted.new.known c.index_mut.ensures.value c.learn_noted.ensures.keeps g.N.Naming.tables g.N.Naming.replicas g.N.Naming.parts c.self.inside.entries.parts c.self.inside.entries.amount c.self.invariant

pub returns-clause-current : goal.returns-clause-current
returns-clause-current g c =
    let P : PassView = record { tables = c.self.inside.tables.items; up = c.self.inside.up.items; gave_up = c.self.inside.gave_up } in
    let here : c.args.table < length P.tables = subst (λ (p : PassView). c.args.table < length p.tables) (sym c.self.view_is) c.requires.table in
    let now : IsCurrent P c.args.table c.args.tables.now = subst (λ (p : PassView). IsCurrent p c.args.table c.args.tables.now) (sym c.self.view_is) c.requires.current in
    note-now P c.args.table here c.args.tables.now c.note_in.new.tables now.there now c.args.replica c.in_ok-note_in.ensures.ok c.args.learned c.index_mut.result.now c.learn_noted.new.known c.index_mut.ensures.value c.learn_noted.ensures.keeps c.in_ok-learn_noted.ensures.ok

pub returns-clause-knows : goal.returns-clause-knows
returns-clause-knows g c =
    let P : PassView = record { tables = c.self.inside.tables.items; up = c.self.inside.up.items; gave_up = c.self.inside.gave_up } in
    let k = c.args.table in
    let here : k < length P.tables = subst (λ (p : PassView). k < length p.tables) (sym c.self.view_is) c.requires.table in
    subst (λ (p : PassView). KnowsTable (client_of (known_in (set P.tables k c.learn_noted.new.known) k)) (noted_with c.args.learned c.args.replica (known_table (client_at p k)))) c.self.view_is
    (knows-noted P k here c.index_mut.result.now c.learn_noted.new.known c.index_mut.ensures.value c.learn_noted.ensures.keeps (noted_with c.args.learned c.args.replica) c.in_ok-learn_noted.ensures.ok)
