use Rattle.std.proofs.Common.{subst}
use Rattle.std.specs.declared.option.Option.{Option}
use Rattle.rmt_names.specs.Names.{Covers}
use Rattle.rmt_model.specs.Quorum.{Pending}
use Rattle.rmt_model.proofs.Lists.{Each-at}
use Rattle.rmt_events.specs.TableCalls.{AreQuiet}
use Rattle.rmt_events_tests.proofs.excluded.a_part_that_waits_keeps_a_merge_out.Goals as goal

pub returns : goal.returns
returns c = λ old new a d sources count q e h k m.
    Each-at (λ b. Covers b q.part → ⊥) sources d (subst (λ (o : Option Pending). AreQuiet o sources) e m.quiet) h k
