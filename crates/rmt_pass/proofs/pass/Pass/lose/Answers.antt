use Rattle.std.proofs.Common.{◌≡◌, ◌<◌, false, length, set, refl, sym, ap, subst, ◌∙◌}
use Rattle.rmt_reply.specs.declared.refusal.Refusal.TheVariants.{NoSource}
use Rattle.rmt_statement_model.specs.LostSources.{LacksSource}
use Rattle.rmt_clients.proofs.ClientDrains.{known_below}
use Rattle.rmt_pass.specs.Passes.{PassView, IsCurrent, TakesStep, client_at, up_in}
use Rattle.rmt_pass.specs.DrainSteps.{IsLostPart}
use Rattle.rmt_pass.proofs.OwnLemmas.{knowing}
use Rattle.rmt_pass.proofs.DrainLemmas.{replica-there, pass-noted, lost-done, current-still}
use Rattle.rmt_pass.proofs.pass.Pass.lose.Goals as goal

pub learn_below-requires : goal.learn_below-requires
learn_below-requires g c =
    let P : PassView = record { tables = c.self.inside.tables.items; up = c.self.inside.up.items; gave_up = c.self.inside.gave_up } in
    let here : c.args.table < length P.tables = subst (λ (p : PassView). c.args.table < length p.tables) (sym c.self.view_is) c.requires.table in
    replica-there g.N.Naming.replicas g.N.Naming.tables P.tables c.args.table c.args.replica c.index_mut.result.now c.self.invariant.known here c.index_mut.ensures.value c.requires.here

pub invariant_of-self-2 : goal.invariant_of-self-2
invariant_of-self-2 g c =
    let P : PassView = record { tables = c.self.inside.tables.items; up = c.self.inside.up.items; gave_up = c.self.inside.gave_up } in
    let here : c.args.table < length P.tables = subst (λ (p : PassView). c.args.table < length p.tables) (sym c.self.view_is) c.requires.table in
    pass-noted P c.args.table here c.index_mut.result.now c.learn_below.new.self c.index_mut.ensures.value c.learn_below.ensures.keeps g.N.Naming.tables g.N.Naming.replicas g.N.Naming.parts c.self.inside.entries.parts c.self.inside.entries.amount c.self.invariant

pub returns-clause-ok : goal.returns-clause-ok
returns-clause-ok g c =
    let P : PassView = record { tables = c.self.inside.tables.items; up = c.self.inside.up.items; gave_up = c.self.inside.gave_up } in
    let k = c.args.table in
    let here : k < length P.tables = subst (λ (p : PassView). k < length p.tables) (sym c.self.view_is) c.requires.table in
    let goes : P.gave_up ≡ false = ap (λ (p : PassView). p.gave_up) c.self.view_is ∙ c.requires.goes in
    let lost : IsLostPart (up_in P.up) (client_at P k) c.args.replica c.args.place c.in-Some.lost = subst (λ (p : PassView). IsLostPart (up_in p.up) (client_at p k) c.args.replica c.args.place c.in-Some.lost) (sym c.self.view_is) c.in-Some.ensures in
    subst (λ (p : PassView). TakesStep g.N.Naming.offered p k (λ t u. LacksSource (up_in p.up) t c.args.replica (NoSource c.in-Some.lost.part c.in-Some.lost.source) u) (knowing P (set P.tables k c.learn_below.new.self) P.gave_up)) c.self.view_is
    (lost-done g.N.Naming.offered P k here goes c.args.replica c.args.place c.in-Some.lost lost c.index_mut.result.now c.learn_below.new.self c.index_mut.ensures.value c.learn_below.ensures.keeps c.in_ok-learn_below.ensures.ok)

pub returns-clause-seen : goal.returns-clause-seen
returns-clause-seen g c = λ ts now.
    let P : PassView = record { tables = c.self.inside.tables.items; up = c.self.inside.up.items; gave_up = c.self.inside.gave_up } in
    let k = c.args.table in
    let here : k < length P.tables = subst (λ (p : PassView). k < length p.tables) (sym c.self.view_is) c.requires.table in
    current-still P k here c.index_mut.result.now c.learn_below.new.self c.index_mut.ensures.value c.learn_below.ensures.keeps (known_below c.args.replica c.args.place) c.in_ok-learn_below.ensures.ok refl refl refl refl ts
    (subst (λ (p : PassView). IsCurrent p k ts) (sym c.self.view_is) now)
