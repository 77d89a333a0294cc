use Rattle.std.proofs.Common.{◌≡◌, ◌++◌, length, map}
use Rattle.rmt_table_model.specs.Held.{Held}
use Rattle.rmt_state.specs.States.{StateView}
use Rattle.rmt_workers.specs.Settled.{EachFrom, IsHandedBack, IsSettled}
use Rattle.rmt_workers.proofs.crew.close.hand_all_back.Given as goal

abbrev pub invariant-tables : goal.invariant-tables
invariant-tables g l = record {
  moved : map (λ (s : StateView). s.tree) l.states.items ++ l.tree-iterator.rest.items ≡ l.fn.trees.items;
  settled : EachFrom (IsSettled g.N.Naming.tables g.N.Naming.replicas g.N.Naming.offered l.pass) (length l.states.items) l.tree-iterator.rest.items;
  back : EachFrom (IsHandedBack g.N.Naming.tables g.N.Naming.replicas g.N.Naming.offered l.pass) 0 l.states.items;
}
