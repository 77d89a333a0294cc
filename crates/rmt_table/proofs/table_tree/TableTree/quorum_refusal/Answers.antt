use Rattle.rmt_table.specs.TableTrees.{table_at}
use Rattle.rmt_table.proofs.QuorumLemmas.{too-few, asks-none, none-waits, one-waits}
use Rattle.rmt_table.proofs.table_tree.TableTree.quorum_refusal.Goals as goal

pub returns-then-live-need : goal.returns-then-live-need
returns-then-live-need c = too-few (table_at c.args.self.now) c.args.need c.live-live.result c.live-live.ensures c.small-live.result c.small-live.ensures c.if-live-need.true

pub returns-then-need-lt2 : goal.returns-then-need-lt2
returns-then-need-lt2 c = asks-none (table_at c.args.self.now) c.args.need c.live-live.result c.live-live.ensures c.if-live-need.false c.if-need-lt2.true

pub returns-in_default : goal.returns-in_default
returns-in_default c = none-waits (table_at c.args.self.now) c.args.need c.live-live.result c.live-live.ensures c.if-live-need.false c.pending_part.result c.pending_part.ensures c.in_default.is

pub returns : goal.returns
returns c = one-waits (table_at c.args.self.now) c.args.need c.live-live.result c.live-live.ensures c.if-live-need.false c.if-need-lt2.false c.pending_part.result c.in-Some.part c.pending_part.ensures c.in-Some.is
