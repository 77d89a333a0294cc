-- How an event is stored with its reply.
-- No public clause cites this module.
use Rattle.std.specs.Prelude.{◌≡◌, ℕ, ◌<◌, ◌≤◌, cond, List, slice_index_or, MatchOption, MatchResult}
use Rattle.std.specs.Arc.{arc_value}
use Rattle.std.specs.declared.option.Option.{Option}
use Rattle.std.specs.declared.option.Option.TheVariants.{Some, None}
use Rattle.std.specs.declared.result.Result.{Result}
use Rattle.rmt_names.specs.Names.{block_name}
use Rattle.rmt_events.specs.declared.event.Event.{Event}
use Rattle.rmt_events.specs.declared.event.Event.TheVariants as ev
use Rattle.rmt_events.specs.declared.reply.Reply.{Reply}
use Rattle.rmt_events.specs.declared.reply.Reply.TheVariants as rp
use Rattle.rmt_events.specs.declared.step_refused.StepRefused.TheVariants as rf
use Rattle.rmt_event_log.specs.declared.stored.Stored.{Stored}
use Rattle.rmt_event_log.specs.declared.stored.Stored.TheVariants as st
use Rattle.rmt_event_log.specs.EventLogs.{IsFrequent}

-- the pair that is stored so; a rare one is among these
abbrev pub pair_of : List (Event × Reply) → Stored → Event × Reply
pair_of rare (st.Numbered k need id n b) = (ev.Allocate k b need, rp.Attempt id n)
pair_of rare (st.Repeated k need n b) = (ev.Allocate k b need, rp.Refused (rf.Duplicate (block_name (arc_value b).partition n)))
pair_of rare (st.Staged id) = (ev.Stage id, rp.Done)
pair_of rare (st.StagedDown id) = (ev.Stage id, rp.Refused rf.Down)
pair_of rare (st.Committed id i) = (ev.Commit id, rp.Entry i)
pair_of rare (st.CommittedDown id) = (ev.Commit id, rp.Refused rf.Down)
pair_of rare (st.Abandoned id) = (ev.Abandon id, rp.Done)
pair_of rare (st.Pulled k n) = (ev.Pull k, rp.Pulled n)
pair_of rare (st.PulledDown k) = (ev.Pull k, rp.Refused rf.Down)
pair_of rare (st.Applied k d i) = (ev.Apply k i, rp.Applied d)
pair_of rare (st.AppliedDown k i) = (ev.Apply k i, rp.Refused rf.Down)
pair_of rare (st.Missing k has_one i p low high level mutation) =
    (ev.Apply k i, rp.Refused (rf.NeedsPart (record { partition = cond has_one (Some p) None; min = low; max = high; level = level; mutation = mutation })))
pair_of rare (st.Killed k) = (ev.Kill k, rp.Done)
pair_of rare (st.Restarted k) = (ev.Restart k, rp.Done)
pair_of rare (st.Noted k b) = (ev.Note k, rp.Noted b)
pair_of rare (st.Rare i) = slice_index_or rare i (ev.Pull 0, rp.Done)

-- a rare pair has its place among so many, and a missing part a name
abbrev pub IsSound : ℕ → Stored → Type 0
IsSound count (st.Missing k has_one i p low high level mutation) = low ≤ high
IsSound count (st.Rare i) = i < count
IsSound count stored = Unit {0}

-- the pair isn't rare, and its event has no block
abbrev pub IsPlainForm : Stored → Type 0
IsPlainForm (st.Numbered k need id n b) = ⊥
IsPlainForm (st.Repeated k need n b) = ⊥
IsPlainForm (st.Rare i) = ⊥
IsPlainForm stored = Unit {0}

-- the event has no block
abbrev pub IsPlain : Event → Type 0
IsPlain (ev.Allocate k b need) = ⊥
IsPlain event = Unit {0}

-- the pair is stored so, whatever pairs are rare
pub record IsStoredAs (event : Event) (reply : Reply) (stored : Stored) : Type 0 where
  pub pair : (rare : List (Event × Reply)) → pair_of rare stored ≡ (event, reply)
  pub sound : (count : ℕ) → IsSound count stored

-- how the pair is stored; none where it is rare
abbrev pub IsSorted : Event → Reply → Option Stored → Type 0
IsSorted event reply found = MatchOption found (IsFrequent event reply → ⊥) (IsStoredAs event reply)

-- the pair that is rare
pub record IsLeft (event : Event) (reply : Reply) (pair : Event × Reply) : Type 0 where
  pub is_pair : pair ≡ (event, reply)
  pub rare : IsFrequent event reply → ⊥

-- how the pair is stored; the pair itself where it is rare
abbrev pub IsSortedOrLeft : Event → Reply → Result Stored (Event × Reply) → Type 0
IsSortedOrLeft event reply found = MatchResult found (IsStoredAs event reply) (IsLeft event reply)
