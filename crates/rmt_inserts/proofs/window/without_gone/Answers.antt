use Rattle.std.proofs.Common.{sym, subst}
use Rattle.rmt_inserts.specs.Windows.{AreOfParts}
use Rattle.rmt_inserts.proofs.WindowLemmas.{AreOfParts-drop}
use Rattle.rmt_inserts.proofs.window.without_gone.Goals as goal

pub returns-clause-parts : goal.returns-clause-parts
returns-clause-parts c all = subst AreOfParts (sym c.settle.ensures.rest) (AreOfParts-drop c.args.gone c.args.blocks.now.entries all)
