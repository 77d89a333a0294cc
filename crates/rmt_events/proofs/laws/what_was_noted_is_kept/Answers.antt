use Rattle.rmt_model.proofs.Lists.{Each-at}
use Rattle.rmt_events.specs.ReplicaCalls.{IsStanding, IsKeptNote}
use Rattle.rmt_events.specs.Whole.{Follows, IsWhole, KeepNotes}
use Rattle.rmt_events.proofs.laws.what_was_noted_is_kept.Goals as goal

pub returns : goal.returns
returns c = record {
  kept = λ s w x h a m. (Each-at (IsKeptNote x) x.noted a (IsStanding.notes (Follows.stands (Each-at (Follows s) s.replicas x (IsWhole.follow w) h))) m).1;
  met = λ s w a e. KeepNotes.last (IsWhole.notes w) a e;
}
