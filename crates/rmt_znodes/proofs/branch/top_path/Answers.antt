use Rattle.std.proofs.Common.{[], ◌∷◌, ◌∙◌}
use Rattle.rmt_znodes.proofs.PathLemmas.{IsPath-top}
use Rattle.rmt_znodes.proofs.branch.top_path.Goals as goal

pub returns-in-Ok : goal.returns-in-Ok
returns-in-Ok c = λ name is e. c.one_spelling.ensures c.in-Ok.path (name ∷ []) (c.in-Ok.ensures.ok.1) (IsPath-top name is) (c.in-Ok.ensures.ok.0 ∙ e)
