use Rattle.std.proofs.Common.{refl}
use Rattle.rmt_acting.proofs.Bringing.{reads-ok}
use Rattle.rmt_acting.proofs.stepped.ClusterActing.read_parts.Goals as goal

pub returns-clause-reads : goal.returns-clause-reads
returns-clause-reads c = reads-ok c.args.self.now c.args.replica c.read_parts.result c.read_parts.ensures.reading c.read_parts.ensures.known

pub returns-clause-leaves : goal.returns-clause-leaves
returns-clause-leaves c = record { free = λ f. f; ups = refl; events = λ n. refl }

pub returns-clause-keeps : goal.returns-clause-keeps
returns-clause-keeps c = record { shape = refl; count = refl; place = refl; others = λ k n. refl }
