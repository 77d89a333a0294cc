use Rattle.std.proofs.Common.{◌<◌, length, sym, subst, ◌∙◌}
use Rattle.rmt_shared.specs.SharedTables.{name_at}
use Rattle.rmt_pass.specs.Passes.{PassView, IsKnownOf}
use Rattle.rmt_pass.proofs.KnownLemmas.{known-at, known-learned}
use Rattle.rmt_pass.proofs.ReadLemmas.{replica-in, shown-counted}
use Rattle.rmt_pass.proofs.pass.Pass.note_shown.Goals as goal

pub show-requires : goal.show-requires
show-requires g c =
    let k = c.args.table in
    let known = c.self.inside.tables.items in
    let here : k < length known = subst (λ (p : PassView). k < length p.tables) (sym c.self.view_is) c.requires.table in
    let of : IsKnownOf g.N.Naming.replicas (name_at g.N.Naming.tables k) c.index_mut.result.now =
    subst (IsKnownOf g.N.Naming.replicas (name_at g.N.Naming.tables k)) (sym c.index_mut.ensures.value) (known-at g.N.Naming.replicas g.N.Naming.tables known k c.index_mut.result.now c.self.invariant.known here) in
    replica-in g.N.Naming.replicas (name_at g.N.Naming.tables k) c.index_mut.result.now c.args.replica c.requires.here of

pub invariant_of-self-2 : goal.invariant_of-self-2
invariant_of-self-2 g c =
    let P : PassView = record { tables = c.self.inside.tables.items; up = c.self.inside.up.items; gave_up = c.self.inside.gave_up } in
    let k = c.args.table in
    let here : k < length P.tables = subst (λ (p : PassView). k < length p.tables) (sym c.self.view_is) c.requires.table in
    record {
      known = known-learned g.N.Naming.replicas g.N.Naming.tables P.tables k c.index_mut.result.now c.show.new.self c.self.invariant.known here c.index_mut.ensures.value c.show.ensures.keeps;
      ups = c.self.invariant.ups;
      whole = c.self.invariant.whole;
      some = c.self.invariant.some;
      counted = λ e. c.self.invariant.counted e ∙ sym (shown-counted P k here c.index_mut.result.now c.show.new.self c.index_mut.ensures.value c.show.ensures.keeps);
    }
