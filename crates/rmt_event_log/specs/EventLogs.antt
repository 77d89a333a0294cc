-- The events of a table, each with its reply.
-- No public source: that a table stores its events is this program's own.
use Rattle.std.specs.Prelude.{◌≡◌, ℕ, ◌≤◌, List, length, reverse, slice_get, MatchOption}
use Rattle.std.specs.Arc.{arc_value}
use Rattle.std.specs.declared.option.Option.{Option}
use Rattle.std.specs.declared.option.Option.TheVariants.{Some}
use Rattle.rmt_names.specs.Names.{block_name}
use Rattle.rmt_events.specs.declared.event.Event.{Event}
use Rattle.rmt_events.specs.declared.event.Event.TheVariants as ev
use Rattle.rmt_events.specs.declared.reply.Reply.{Reply}
use Rattle.rmt_events.specs.declared.reply.Reply.TheVariants as rp
use Rattle.rmt_events.specs.declared.step_refused.StepRefused.TheVariants as rf

-- the events with their replies, the newest first, how many of them are rare, and how many more there is room for
pub record LoggedEvents : Type 0 where
  pub events : List (Event × Reply)
  pub rare : ℕ
  pub room : ℕ

-- the reply is one that the event often gets: it is stored in 32 bytes. A block that is kept already is so where its part's name
-- is that of one block
abbrev pub IsFrequent : Event → Reply → Type 0
IsFrequent (ev.Allocate k b need) (rp.Attempt id n) = Unit {0}
IsFrequent (ev.Allocate k b need) (rp.Refused (rf.Duplicate part)) = part ≡ block_name (arc_value b).partition part.min
IsFrequent (ev.Stage id) rp.Done = Unit {0}
IsFrequent (ev.Stage id) (rp.Refused rf.Down) = Unit {0}
IsFrequent (ev.Commit id) (rp.Entry i) = Unit {0}
IsFrequent (ev.Commit id) (rp.Refused rf.Down) = Unit {0}
IsFrequent (ev.Abandon id) rp.Done = Unit {0}
IsFrequent (ev.Pull k) (rp.Pulled n) = Unit {0}
IsFrequent (ev.Pull k) (rp.Refused rf.Down) = Unit {0}
IsFrequent (ev.Apply k i) (rp.Applied d) = Unit {0}
IsFrequent (ev.Apply k i) (rp.Refused rf.Down) = Unit {0}
IsFrequent (ev.Apply k i) (rp.Refused (rf.NeedsPart part)) = Unit {0}
IsFrequent (ev.Kill k) rp.Done = Unit {0}
IsFrequent (ev.Restart k) rp.Done = Unit {0}
IsFrequent (ev.Note k) (rp.Noted b) = Unit {0}
IsFrequent event reply = ⊥

-- the same event, whose block may have another owner
abbrev pub IsSameEvent : Event → Event → Type 0
IsSameEvent (ev.Allocate k b need) (ev.Allocate l c other) = (l ≡ k) × (arc_value c ≡ arc_value b) × (other ≡ need)
IsSameEvent event other = other ≡ event

-- the same event with the same reply
pub record IsSamePair (pair other : Event × Reply) : Type 0 where
  pub event : IsSameEvent pair.0 other.0
  pub reply : other.1 ≡ pair.1

-- what is read is the pair at a place, counted from 0, the oldest
pub record IsPairAt (events : List (Event × Reply)) (i : ℕ) (read : Event × Reply) : Type 0 where
  pub pair : Event × Reply
  pub stands : slice_get (reverse events) i ≡ Some pair
  pub same : IsSamePair pair read

-- the pair at a place; none past the newest
abbrev pub IsReadAt : List (Event × Reply) → ℕ → Option (Event × Reply) → Type 0
IsReadAt events i found = MatchOption found (length events ≤ i) (IsPairAt events i)
