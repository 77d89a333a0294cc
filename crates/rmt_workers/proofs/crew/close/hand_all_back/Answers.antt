use Rattle.std.proofs.Common.{◌≡◌, ◌∷◌, ◌++◌, ◌+◌, ◌<◌, ℕ, List, length, arith, map, sym, ap, subst, ◌∙◌}
use Rattle.std.proofs.lemmas.Grind.{common_steps}
use Rattle.rmt_table_model.specs.Held.{Held}
use Rattle.rmt_state.specs.States.{StateView}
use Rattle.rmt_workers.specs.Settled.{EachFrom, IsHandedBack, IsSettled}
use Rattle.rmt_workers.proofs.BeginLemmas.{each-more, left-first, left-more, made-before, made-more}
use Rattle.rmt_workers.proofs.crew.close.hand_all_back.Goals as goal

pub hand_back-requires-clause-table : goal.hand_back-requires-clause-table
hand_back-requires-clause-table g c =
    let step : c.tables.tree-iterator.rest.items ≡ c.in-Some.tree ∷ c.next.new.self.rest.items = grind (arith, common_steps) in
    let l = made-before (λ (s : StateView). s.tree) c.tables.states.items c.args.trees.items c.tables.tree-iterator.rest.items c.next.new.self.rest.items c.in-Some.tree c.tables.invariant.moved step in
    let n : c.len-in-tables.result ≡ length c.tables.states.items = grind (arith, common_steps) in
    let all = c.requires.tables in
    omega (arith, l, n, all)

pub hand_back-requires-clause-settled : goal.hand_back-requires-clause-settled
hand_back-requires-clause-settled g c =
    let step : c.tables.tree-iterator.rest.items ≡ c.in-Some.tree ∷ c.next.new.self.rest.items = grind (arith, common_steps) in
    let n : c.len-in-tables.result ≡ length c.tables.states.items = grind (arith, common_steps) in
    let P = IsSettled g.N.Naming.tables g.N.Naming.replicas g.N.Naming.offered c.args.pass.now in
    subst (λ (k : ℕ). P k c.in-Some.tree) (sym n) (left-first P (length c.tables.states.items) c.tables.tree-iterator.rest.items c.next.new.self.rest.items c.in-Some.tree c.tables.invariant.settled step)

pub tables-preserved : goal.tables-preserved
tables-preserved g c =
    let step : c.tables.tree-iterator.rest.items ≡ c.in-Some.tree ∷ c.next.new.self.rest.items = grind (arith, common_steps) in
    let n : c.len-in-tables.result ≡ length c.tables.states.items = grind (arith, common_steps) in
    let made = c.tables.states.items in
    let P = IsHandedBack g.N.Naming.tables g.N.Naming.replicas g.N.Naming.offered c.args.pass.now in
    record {
      moved = made-more (λ (s : StateView). s.tree) made c.push.new.self.items c.args.trees.items c.tables.tree-iterator.rest.items c.next.new.self.rest.items c.in-Some.tree c.in_ok-state.state c.tables.invariant.moved step c.in_ok-push.ensures.items c.in_ok-state.ensures.tree;
      settled = left-more (IsSettled g.N.Naming.tables g.N.Naming.replicas g.N.Naming.offered c.args.pass.now) made c.push.new.self.items c.tables.tree-iterator.rest.items c.next.new.self.rest.items c.in-Some.tree c.in_ok-state.state c.tables.invariant.settled step c.in_ok-push.ensures.items;
      back = subst (λ (ss : List StateView). EachFrom P 0 ss) (sym c.in_ok-push.ensures.items)
          (each-more P 0 made c.in_ok-state.state c.tables.invariant.back (subst (λ (k : ℕ). P k c.in_ok-state.state) (let q : c.len-in-tables.result ≡ 0 + length made = omega (arith, n) in q) c.in_ok-state.ensures.back));
    }
