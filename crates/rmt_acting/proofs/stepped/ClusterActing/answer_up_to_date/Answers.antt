use Rattle.std.proofs.Common.{refl}
use Rattle.rmt_acting.proofs.Bringing.{stays-ok}
use Rattle.rmt_acting.proofs.stepped.ClusterActing.answer_up_to_date.Goals as goal

pub returns-clause-leaves : goal.returns-clause-leaves
returns-clause-leaves c = record { free = λ f. f; ups = refl; events = λ n. refl }

pub returns-clause-keeps : goal.returns-clause-keeps
returns-clause-keeps c = record { shape = refl; count = refl; place = refl; others = λ k n. refl }

pub returns-clause-shown : goal.returns-clause-shown
returns-clause-shown c = stays-ok c.answer_up_to_date.result c.args.self.now
