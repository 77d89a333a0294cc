use Rattle.std.proofs.Common.{◌≡◌}
use Rattle.std.specs.FinMap as map
use Rattle.rmt_tree.specs.SessionTracker.{open_sessions, OwnedStayListed, TrackChanged}
use Rattle.rmt_tree.proofs.slots.untrack_all.Given as goal

abbrev pub invariant-changes : goal.invariant-changes
invariant-changes l = record {
  sessions : open_sessions l.tracker.items ≡ open_sessions l.initial.tracker.items;
  stay : OwnedStayListed (map.entries l.slots) l.initial.tracker.items l.tracker.items;
  exact : TrackChanged l.tracker.items (map.entries l.slots) l.place-iterator;
}
