-- Background events that a generator draws, each from the state before it.
-- The generator is the example of rand() in the C standard (ISO/IEC 9899, section on pseudo-random sequences), modulo 2^31
-- and with draws below 2^15. Which event a draw gives, and which parts are merged, is this program's own.
use Rattle.std.specs.Prelude.{◌≡◌, ℕ, zero, suc, ◌+◌, ◌*◌, ◌/◌, ◌%◌, ◌^◌, ◌&&◌, Bool, true, false, not, cond, nat_eq, nat_le, List, [], ◌∷◌, length, slice_get, slice_index_or}
use Rattle.std.specs.List.{list_any}
use Rattle.std.specs.declared.option.Option.{Option}
use Rattle.std.specs.declared.option.Option.TheVariants.{Some, None}
use Rattle.rmt_names.specs.Names.{Name, covers}
use Rattle.rmt_entries.specs.declared.entry.Entry.{Entry}
use Rattle.rmt_model.specs.Live.{live}
use Rattle.rmt_model.specs.Quorum.{Pending}
use Rattle.rmt_model.specs.Choices.{best_run, next_among}
use Rattle.rmt_events.specs.Views.{Replica}
use Rattle.rmt_events.specs.Clusters.{Cluster}
use Rattle.rmt_events.specs.Steps.{Step}
use Rattle.rmt_events.specs.declared.event.Event.{Event}
use Rattle.rmt_events.specs.declared.reply.Reply.{Reply}
use Rattle.rmt_events.specs.declared.event.Event.TheVariants as ev

-- ---- the generator

-- its state after one step
abbrev pub stepped : ℕ → ℕ
stepped x = (x * 1103515245 + 12345) % 2 ^ 31

-- the draw that a state gives
abbrev pub drawn : ℕ → ℕ
drawn x = x / 65536

-- so many draws from a state on
abbrev pub draws : ℕ → ℕ → List ℕ
draws zero x = []
draws (suc n) x = drawn (stepped x) ∷ draws n (stepped x)

-- ---- what is asked of a replica's copy

-- the places below a length that have no mark, lowest first, from a place on
abbrev pub pending_from : List Bool → ℕ → List ℕ
pending_from [] i = []
pending_from (true ∷ done) i = pending_from done (i + 1)
pending_from (false ∷ done) i = i ∷ pending_from done (i + 1)

-- the places of a replica's copy that aren't done, lowest first
abbrev pub pending : Replica → List ℕ
pending r = pending_from r.done 0

-- the run to merge among the live names, of at most so many
abbrev pub chosen : List Entry → ℕ → Option (List Name)
chosen log most = best_run log most (live log)

-- the first live name for which a mutation is pending, and the last place of such a mutation
abbrev pub next_mutation : List Entry → Option (Name × ℕ)
next_mutation log = next_among log (length log) (live log)

-- ---- a turn

-- the event of a turn, and the generator's state after it
pub record Turn : Type 0 where
  pub event : Event
  pub state : ℕ

-- a merge where there is a run to merge, else a pull
abbrev pub merge_or_pull : ℕ → Option (List Name) → Event
merge_or_pull k None = ev.Pull k
merge_or_pull k (Some names) = ev.Merge k names

-- a mutate where a mutation is pending, else a pull
abbrev pub mutate_or_pull : ℕ → Option (Name × ℕ) → Event
mutate_or_pull k None = ev.Pull k
mutate_or_pull k (Some m) = ev.Mutate k m.0 m.1

-- the entry that is drawn of those that are pending; the draw is made only where there are any
abbrev pub apply_or_pull : ℕ → ℕ → List ℕ → Turn
apply_or_pull x k [] = record { event = ev.Pull k; state = x }
apply_or_pull x k (i ∷ is) = record { event = ev.Apply k (slice_index_or (i ∷ is) (drawn (stepped x) % length (i ∷ is)) i); state = stepped x }

-- what is done at a replica by the first draw: 0 and 1 pull, 2 to 4 apply, 5 merge, 6 mutate, 7 restart
abbrev pub turn_at : ℕ → ℕ → Replica → Turn
turn_at a x r =
    cond (nat_le a 1) (record { event = ev.Pull r.number; state = x })
    (cond (nat_le a 4) (apply_or_pull x r.number (pending r))
    (cond (nat_eq a 5) (record { event = merge_or_pull r.number (chosen r.log 10); state = x })
    (cond (nat_eq a 6) (record { event = mutate_or_pull r.number (next_mutation r.log); state = x })
    (record { event = cond r.up (ev.Restart r.number) (ev.Pull r.number); state = x }))))

-- what is done at the replica that the second draw gives
abbrev pub turn_with : ℕ → ℕ → Option Replica → Turn
turn_with a x None = record { event = ev.Pull 0; state = x }
turn_with a x (Some r) = turn_at a x r

-- the turn in a state: the first draw gives the kind of event, the second the replica
abbrev pub turn : Cluster → ℕ → Turn
turn s x = turn_with (drawn (stepped x) % 8) (stepped (stepped x)) (slice_get s.replicas (drawn (stepped (stepped x)) % length s.replicas))

-- ---- the note after a turn

-- whether an active part of the replica covers the part that waits for its quorum
abbrev pub has_pending_part : Option Pending → Replica → Bool
has_pending_part None x = false
has_pending_part (Some q) x = list_any (λ part. covers part.name q.part) x.parts

-- the same of the replica of a number
abbrev pub pending_part_at : Option Pending → List Replica → ℕ → Bool
pending_part_at pending [] k = false
pending_part_at pending (x ∷ xs) k = cond (nat_eq x.number k) (has_pending_part pending x) (pending_part_at pending xs k)

-- the replica of the number has it in the cluster
abbrev pub covers_pending : Cluster → ℕ → Bool
covers_pending s k = pending_part_at s.table.quorum.pending s.replicas k

-- the replica that notes the part after an event: the one that an Apply has made cover it
abbrev pub noting : Cluster → Event → Cluster → Option ℕ
noting s (ev.Apply k i) t = cond (not (covers_pending s k) && covers_pending t k) (Some k) None
noting s event t = None

-- its note, where there is one
abbrev pub NotesAfter : Option ℕ → Cluster → Cluster → Type 0
NotesAfter None s t = t ≡ s
NotesAfter (Some k) s t = (reply : Reply) × Step s (ev.Note k) reply t

-- an event of a turn, and the note after it
pub record TurnsTo (s : Cluster) (event : Event) (t : Cluster) : Type 0 where
  pub mid : Cluster
  pub reply : Reply
  pub step : Step s event reply mid
  pub notes : NotesAfter (noting s event mid) mid t

-- so many turns from one state lead to another, each drawn from the state before it
abbrev pub Runs : Cluster → ℕ → ℕ → Cluster → ℕ → Type 0
Runs s seed zero t x = (t ≡ s) × (x ≡ seed)
Runs s seed (suc n) t x =
    (mid : Cluster) × (y : ℕ) × Runs s seed n mid y × TurnsTo mid (turn mid y).event t × (x ≡ (turn mid y).state)
