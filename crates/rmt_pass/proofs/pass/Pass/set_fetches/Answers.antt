use Rattle.std.proofs.Common.{◌≡◌, ◌<◌, false, length, set, refl, sym, ap, subst, ◌∙◌}
use Rattle.rmt_statement_model.specs.TableStates.{with_switch}
use Rattle.rmt_pass.specs.Passes.{PassView, IsCurrent, TakesStep}
use Rattle.rmt_pass.proofs.OwnLemmas.{knowing}
use Rattle.rmt_pass.proofs.DrainLemmas.{replica-there, pass-noted, current-still}
use Rattle.rmt_pass.proofs.SwitchLemmas.{switch-done}
use Rattle.rmt_pass.proofs.pass.Pass.set_fetches.Goals as goal

pub set_fetches-requires : goal.set_fetches-requires
set_fetches-requires g c =
    let P : PassView = record { tables = c.self.inside.tables.items; up = c.self.inside.up.items; gave_up = c.self.inside.gave_up } in
    let here : c.args.table < length P.tables = subst (λ (p : PassView). c.args.table < length p.tables) (sym c.self.view_is) c.requires.table in
    replica-there g.N.Naming.replicas g.N.Naming.tables P.tables c.args.table c.args.replica c.index_mut.result.now c.self.invariant.known here c.index_mut.ensures.value c.requires.here

pub invariant_of-self : goal.invariant_of-self
invariant_of-self g c =
    let P : PassView = record { tables = c.self.inside.tables.items; up = c.self.inside.up.items; gave_up = c.self.inside.gave_up } in
    let here : c.args.table < length P.tables = subst (λ (p : PassView). c.args.table < length p.tables) (sym c.self.view_is) c.requires.table in
    pass-noted P c.args.table here c.index_mut.result.now c.set_fetches.new.self c.index_mut.ensures.value c.set_fetches.ensures.keeps g.N.Naming.tables g.N.Naming.replicas g.N.Naming.parts c.self.inside.entries.parts c.self.inside.entries.amount c.self.invariant

pub returns-clause-ok : goal.returns-clause-ok
returns-clause-ok g c =
    let P : PassView = record { tables = c.self.inside.tables.items; up = c.self.inside.up.items; gave_up = c.self.inside.gave_up } in
    let k = c.args.table in
    let here : k < length P.tables = subst (λ (p : PassView). k < length p.tables) (sym c.self.view_is) c.requires.table in
    let goes : P.gave_up ≡ false = ap (λ (p : PassView). p.gave_up) c.self.view_is ∙ c.requires.goes in
    subst (λ (p : PassView). TakesStep g.N.Naming.offered p k (λ t u. u ≡ with_switch t c.args.replica c.args.allowed) (knowing P (set P.tables k c.set_fetches.new.self) P.gave_up)) c.self.view_is
    (switch-done g.N.Naming.offered P k here goes c.args.replica c.args.allowed c.index_mut.result.now c.set_fetches.new.self c.index_mut.ensures.value c.set_fetches.ensures.keeps c.set_fetches.ensures.switches)

pub returns-clause-seen : goal.returns-clause-seen
returns-clause-seen g c = λ ts now.
    let P : PassView = record { tables = c.self.inside.tables.items; up = c.self.inside.up.items; gave_up = c.self.inside.gave_up } in
    let k = c.args.table in
    let here : k < length P.tables = subst (λ (p : PassView). k < length p.tables) (sym c.self.view_is) c.requires.table in
    current-still P k here c.index_mut.result.now c.set_fetches.new.self c.index_mut.ensures.value c.set_fetches.ensures.keeps (λ t. with_switch t c.args.replica c.args.allowed) c.set_fetches.ensures.switches refl refl refl refl ts
    (subst (λ (p : PassView). IsCurrent p k ts) (sym c.self.view_is) now)
