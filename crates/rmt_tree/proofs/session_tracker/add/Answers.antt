use Rattle.rmt_paths.specs.PathOrder.{path_equiv}
use Rattle.rmt_tree.proofs.OwnedLemmas.{added}
use Rattle.rmt_tree.proofs.session_tracker.add.Goals as goal

pub returns-clause-more : goal.returns-clause-more
returns-clause-more c = λ p has. added _ _ _ _ (path_equiv.symm p c.args.place) (c.in_ok-insert.ensures.updates.0 p) has
