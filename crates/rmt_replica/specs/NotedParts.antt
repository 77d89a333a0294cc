-- The parts that a replica notes for their quorum, and what a note changes.
-- ClickHouse documentation, Data Replication: insert_quorum. That a replica keeps a list of what it noted is this program's
-- own.
use Rattle.std.specs.Prelude.{◌≡◌, ◌⊎◌, Bool, true, false, List, [], ◌∷◌, ◌++◌}
use Rattle.std.specs.declared.option.Option.TheVariants.{Some}
use Rattle.rmt_names.specs.Names.{Name}
use Rattle.rmt_model.specs.Words.{Has}
use Rattle.rmt_model.specs.Fair.{CoveredBy}
use Rattle.rmt_model.specs.Quorum.{Pending}
use Rattle.rmt_partset.specs.ActiveParts.{part_names}
use Rattle.rmt_table_model.specs.Held.{Held}
use Rattle.rmt_table.specs.Quorums.{NotesAt}
use Rattle.rmt_replica.specs.Replicas.{ReplicaView}

-- the noted parts with one more at their end, where it isn't among them
abbrev pub ListsPart : List Name → Name → List Name → Type 0
ListsPart old a new = (Has old a × (new ≡ old)) ⊎ ((Has old a → ⊥) × (new ≡ old ++ a ∷ []))

-- an active part covers the one that waits for its quorum: the table has the replica's note of it, and the replica lists it
pub record NotesWaiting (old : ReplicaView) (table : Held) (new : ReplicaView) (after : Held) : Type 0 where
  pub waiting : Pending
  pub waits : table.quorum.pending ≡ Some waiting
  pub covered : CoveredBy (part_names old.parts) waiting.part
  pub call : NotesAt table old.number waiting.part after
  pub lists : ListsPart old.noted waiting.part new.noted
  pub others : new ≡ record old { noted = new.noted }

-- no part waits for its quorum that an active part covers
abbrev pub HasNoNote : ReplicaView → Held → Type 0
HasNoNote r table = (q : Pending) → table.quorum.pending ≡ Some q → CoveredBy (part_names r.parts) q.part → ⊥

-- what a note answers and changes; where it answers false nothing changes
abbrev pub IsNote : ReplicaView → Held → Bool → ReplicaView → Held → Type 0
IsNote old table true new after = NotesWaiting old table new after
IsNote old table false new after = HasNoNote old table × (new ≡ old) × (after ≡ table)
