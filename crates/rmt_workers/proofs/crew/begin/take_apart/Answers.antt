use Rattle.std.proofs.Common.{◌≡◌, ◌∷◌, ℕ, List, length, arith, sym, subst}
use Rattle.std.proofs.lemmas.Grind.{common_steps}
use Rattle.rmt_model.specs.Words.{Each}
use Rattle.rmt_replica.specs.Replicas.{ReplicaView}
use Rattle.rmt_state.specs.States.{StateView}
use Rattle.rmt_shared.specs.SharedTables.{name_at}
use Rattle.rmt_workers.specs.Settled.{MayShare, MayShareAt}
use Rattle.rmt_workers.proofs.BeginLemmas.{left-first, left-more, moved-more}
use Rattle.rmt_workers.proofs.crew.begin.take_apart.Goals as goal

pub lock_each-requires : goal.lock_each-requires
lock_each-requires g c =
    let step : c.states.state-iterator.rest.items ≡ c.in-Some.state ∷ c.next.new.self.rest.items = grind (arith, common_steps) in
    let P = MayShareAt g.N.Naming.tables g.N.Naming.replicas g.N.Naming.offered in
    let k = length c.states.trees.items in
    let n : c.len-table.result ≡ k = grind (arith, common_steps) in
    subst (λ (j : ℕ). Each (MayShare (name_at g.N.Naming.tables j) g.N.Naming.replicas (g.N.Naming.offered j)) c.into_parts-tree.result.1.items) (sym n)
    (subst (λ (rs : List ReplicaView). Each (MayShare (name_at g.N.Naming.tables k) g.N.Naming.replicas (g.N.Naming.offered k)) rs) (sym c.into_parts-tree.ensures.replicas)
    (left-first P k c.states.state-iterator.rest.items c.next.new.self.rest.items c.in-Some.state c.states.invariant.rest step))

pub states-preserved : goal.states-preserved
states-preserved g c =
    let step : c.states.state-iterator.rest.items ≡ c.in-Some.state ∷ c.next.new.self.rest.items = grind (arith, common_steps) in
    let P = MayShareAt g.N.Naming.tables g.N.Naming.replicas g.N.Naming.offered in
    record {
      moved = moved-more (λ (s : StateView). s.tree) c.states.trees.items c.push.new.self.items _ c.states.state-iterator.rest.items c.next.new.self.rest.items c.in-Some.state c.into_parts-tree.result.0 c.states.invariant.moved step c.in_ok-push.ensures.items c.into_parts-tree.ensures.tree;
      rest = left-more P c.states.trees.items c.push.new.self.items c.states.state-iterator.rest.items c.next.new.self.rest.items c.in-Some.state c.into_parts-tree.result.0 c.states.invariant.rest step c.in_ok-push.ensures.items;
    }
