use Rattle.std.proofs.Common.{◌∙◌, List, ap, subst, ℕ}
use Rattle.std.specs.Prelude.{◌↔◌, IsTrue}
use Rattle.rmt_model.specs.Words.{Has}
use Rattle.rmt_model.specs.Quorum.{Pending}
use Rattle.rmt_quorum.proofs.NotedLemmas.{fact-of}
use Rattle.rmt_quorum.proofs.pending_part.PendingPart.has_noted.Goals as goal

pub returns-clause-fact : goal.returns-clause-fact
returns-clause-fact c =
    subst (λ (ns : List ℕ). IsTrue c.has.result ↔ Has ns c.args.replica) (c.deref.ensures.value ∙ ap (λ (p : Pending). p.noted) c.self.view_is) (fact-of c.has.result c.has.ensures.there c.has.ensures.not_there)
