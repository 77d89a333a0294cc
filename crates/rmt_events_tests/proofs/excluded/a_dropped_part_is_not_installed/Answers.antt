use Rattle.rmt_model.proofs.Lists.{Each-at}
use Rattle.rmt_model.specs.CopiedParts.{names_of}
use Rattle.rmt_model.specs.Fair.{DroppedAtMark}
use Rattle.rmt_queue.specs.Marks.{done_at}
use Rattle.rmt_events_tests.proofs.excluded.a_dropped_part_is_not_installed.Goals as goal

pub returns-clause-no_step : goal.returns-clause-no_step
returns-clause-no_step c = λ s i x y a m d k. k.does.fits.waits.not_dropped (record { name = a; makes = m; dropped = d })

pub returns-clause-not_standing : goal.returns-clause-not_standing
returns-clause-not_standing c = λ schema x a h d s. Each-at (λ a. DroppedAtMark x.log (done_at x.done) a → ⊥) (names_of x.parts) a s.fair.kept h d
