use Rattle.std.proofs.Common.{false, map}
use Rattle.std.proofs.lemmas.Result.{IfOk-weaker}
use Rattle.rmt_events.specs.Clusters.{without_kinds}
use Rattle.rmt_statement_model.specs.Inserts.{InsertsAll, asked_at}
use Rattle.rmt_statement_model.specs.Shows.{ups}
use Rattle.rmt_acting.proofs.Bringing.{brings, goes-idle, keeps}
use Rattle.rmt_acting.proofs.stepped.ClusterActing.insert_blocks.Goals as goal

pub returns-clause-inserts : goal.returns-clause-inserts
returns-clause-inserts c = IfOk-weaker c.insert_blocks.result _ _ (λ i f. brings c.args.self.now c.insert_blocks.new.cluster
    (λ t. InsertsAll false (ups c.args.self.now) t (asked_at c.args.replica c.args.need) (map without_kinds c.args.blocks.items) i.pieces i.refused) f) c.insert_blocks.ensures.inserts

pub returns-clause-goes_on : goal.returns-clause-goes_on
returns-clause-goes_on c = goes-idle c.insert_blocks.result c.args.self.now c.insert_blocks.new.cluster c.args.replica c.insert_blocks.ensures.idle c.insert_blocks.ensures.keeps

pub returns-clause-keeps : goal.returns-clause-keeps
returns-clause-keeps c = keeps c.args.self.now c.insert_blocks.new.cluster c.insert_blocks.ensures.keeps.table
