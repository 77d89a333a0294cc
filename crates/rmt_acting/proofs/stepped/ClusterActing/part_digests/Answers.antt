use Rattle.std.proofs.Common.{refl}
use Rattle.std.proofs.lemmas.Result.{IfOk-weaker}
use Rattle.rmt_acts.specs.Checking.{AreDigests}
use Rattle.rmt_acting.proofs.Bringing.{brings}
use Rattle.rmt_acting.proofs.stepped.ClusterActing.part_digests.Goals as goal

pub returns-clause-digests : goal.returns-clause-digests
returns-clause-digests c = IfOk-weaker c.part_digests.result _ _ (λ all f. brings c.args.self.now c.args.self.now (λ t. AreDigests t c.args.replica all.items) f) c.part_digests.ensures

pub returns-clause-leaves : goal.returns-clause-leaves
returns-clause-leaves c = record { free = λ f. f; ups = refl; events = λ n. refl }

pub returns-clause-keeps : goal.returns-clause-keeps
returns-clause-keeps c = record { shape = refl; count = refl; place = refl; others = λ k n. refl }
