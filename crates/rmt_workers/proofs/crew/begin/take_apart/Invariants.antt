use Rattle.std.proofs.Common.{◌≡◌, ◌++◌, length, map}
use Rattle.rmt_state.specs.States.{StateView}
use Rattle.rmt_workers.specs.Settled.{EachFrom, MayShareAt}
use Rattle.rmt_workers.proofs.crew.begin.take_apart.Given as goal

abbrev pub invariant-states : goal.invariant-states
invariant-states g l = record {
  moved : l.trees.items ++ map (λ (s : StateView). s.tree) l.state-iterator.rest.items ≡ map (λ (s : StateView). s.tree) l.fn.states.items;
  rest : EachFrom (MayShareAt g.N.Naming.tables g.N.Naming.replicas g.N.Naming.offered) (length l.trees.items) l.state-iterator.rest.items;
}
