use Rattle.std.proofs.Common.{◌∷◌, ◌++◌, [], ◌∙◌, ◌+◌, List, sym, ap, subst, if◌then◌else◌}
use Rattle.std.specs.Result.{is_ok}
use Rattle.rmt_events.specs.Clusters.{Attempt}
use Rattle.rmt_cluster.specs.Attempts.{AreInOrder}
use Rattle.rmt_cluster.proofs.AttemptLemmas.{in-order-more}
use Rattle.rmt_cluster.proofs.attempts.Attempts.begin.Goals as goal

pub invariant_of-self : goal.invariant_of-self
invariant_of-self c =
    subst (λ (xs : List Attempt). AreInOrder (c.self.inside.made + 1) xs) (sym (c.push.ensures.items ∙ ap (λ r. if is_ok r then c.self.inside.attempts.items ++ c.new.result ∷ [] else c.self.inside.attempts.items) c.unwrap.ensures))
    (in-order-more c.self.inside.made c.self.inside.attempts.items c.new.result (ap (λ (a : Attempt). a.id) c.new.ensures) c.self.invariant)
