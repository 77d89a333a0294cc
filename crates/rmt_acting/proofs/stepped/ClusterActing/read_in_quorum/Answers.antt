use Rattle.std.proofs.Common.{refl}
use Rattle.rmt_acting.proofs.Bringing.{quorum-ok}
use Rattle.rmt_acting.proofs.stepped.ClusterActing.read_in_quorum.Goals as goal

pub returns-clause-reads : goal.returns-clause-reads
returns-clause-reads c = quorum-ok c.args.self.now c.args.replica c.read_in_quorum.result c.read_in_quorum.ensures.reading c.read_in_quorum.ensures.known c.read_in_quorum.ensures.refused

pub returns-clause-leaves : goal.returns-clause-leaves
returns-clause-leaves c = record { free = λ f. f; ups = refl; events = λ n. refl }

pub returns-clause-keeps : goal.returns-clause-keeps
returns-clause-keeps c = record { shape = refl; count = refl; place = refl; others = λ k n. refl }
