use Rattle.std.proofs.Common.{List, sym, subst}
use Rattle.rmt_table_model.specs.Held.{Held}
use Rattle.rmt_pass.specs.Passes.{IsCurrent, KeepsOthers, SeesTable}
use Rattle.rmt_workers.proofs.StepLemmas.{saw-of, sees-current}
use Rattle.rmt_workers.proofs.CloseLemmas.{from-met, settled-there}
use Rattle.rmt_workers.proofs.crew.close.settle.Goals as goal

pub open_sessions-requires-clause-current : goal.open_sessions-requires-clause-current
open_sessions-requires-clause-current g c =
    let saw = from-met c.in_ok-has_seen.has_seen (SeesTable c.args.pass.now c.args.table c.args.tables.now c.see.new.self) _ c.insist.ensures c.in_ok-has_seen.ensures.ok in
    subst (λ (ts : List Held). IsCurrent c.see.new.self c.args.table ts) (sym c.see.ensures.tables) (sees-current c.args.pass.now c.args.table c.args.tables.now c.see.new.self saw)

pub returns : goal.returns
returns g c =
    let saw = from-met c.in_ok-has_seen.has_seen (SeesTable c.args.pass.now c.args.table c.args.tables.now c.see.new.self) _ c.insist.ensures c.in_ok-has_seen.ensures.ok in
    let h = c.table-tree.result.now in
    record {
      saw = saw-of c.args.pass.now c.args.table c.args.tables.now c.see.new.self saw;
      settled = settled-there g.N.Naming.tables g.N.Naming.replicas g.N.Naming.offered c.see.new.self c.args.table c.open_sessions.new.tables h c.open_sessions.ensures.current c.in_ok-open_sessions.ensures.ok
          (c.table-tree.ensures.same h) c.table-tree.ensures.named c.table-tree.ensures.sessions c.table-tree.ensures.blocks;
      others = subst (λ (ts : List Held). KeepsOthers ts c.args.table c.open_sessions.new.tables) c.see.ensures.tables c.open_sessions.ensures.others;
    }
