use Rattle.rmt_cluster.proofs.NoteLemmas.{note-told}
use Rattle.rmt_cluster.proofs.cluster.Cluster.note.Goals as goal

pub returns-in-Ok-clause-notes : goal.returns-in-Ok-clause-notes
returns-in-Ok-clause-notes c = note-told c.args.self.now c.step.new.self c.args.replica _ c.step.ensures.whole c.requires.done c.in-Ok.ensures.ok
