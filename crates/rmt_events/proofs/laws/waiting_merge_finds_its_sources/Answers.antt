use Rattle.rmt_model.proofs.Lists.{Each-at}
use Rattle.rmt_events.specs.Whole.{Follows}
use Rattle.rmt_events.proofs.Drains.{merge-ready, mutate-ready}
use Rattle.rmt_events.proofs.laws.waiting_merge_finds_its_sources.Goals as goal

pub returns-clause-merge : goal.returns-clause-merge
returns-clause-merge c = λ s w x h i v done new sources count q. merge-ready s.table.schema x i new sources count (Follows.stands (Each-at (Follows s) s.replicas x w.follow h)) v done q

pub returns-clause-mutate : goal.returns-clause-mutate
returns-clause-mutate c = λ s w x h i v done old new upto count mcount q. mutate-ready s.table.schema x i old new upto count mcount (Follows.stands (Each-at (Follows s) s.replicas x w.follow h)) v done q
