use Rattle.std.proofs.Common.{true, map}
use Rattle.std.specs.Arc.{arc_value}
use Rattle.rmt_events.specs.Clusters.{without_kinds}
use Rattle.rmt_statement_model.specs.Inserts.{InsertsAll, asked_at}
use Rattle.rmt_pass.specs.Passes.{up_in}
use Rattle.rmt_threaded.proofs.ThreadedLemmas.{comes-brings-if}
use Rattle.rmt_threaded.proofs.acting.ThreadedTableActing.insert_blocks.Goals as goal

pub returns-clause-inserts : goal.returns-clause-inserts
returns-clause-inserts g c =
    comes-brings-if c.insert_all.result g.O.Offers.blocks g.N.Naming.tables g.N.Naming.offered (arc_value c.self.inside.schema) g.N.Naming.replicas c.self.inside.table c.self.inside.pass c.insert_all.new.pass c.args.self.now
    (λ i v t u. InsertsAll true (up_in v.pass.up) t (asked_at c.args.replica c.args.need) (map without_kinds c.args.blocks.items) i.pieces i.refused u) c.self.view_is c.self.invariant c.insert_all.ensures.keeps c.insert_all.ensures.inserts
