-- What a background worker does next at a replica.
-- ClickHouse documentation, Data Replication: a replica works through its copy of the log, and fetches a missing part from
-- another replica; MergeTree, "Data storage": parts are merged in the background; ALTER, "Mutations". The order of the jobs
-- is this program's own.
use Rattle.std.specs.Prelude.{◌≡◌, ◌⊎◌, ℕ, ◌<◌, ◌≤◌, true, false, List, length}
use Rattle.std.specs.declared.option.Option.TheVariants.{Some, None}
use Rattle.rmt_names.specs.Names.{Name}
use Rattle.rmt_entries.specs.declared.entry.Entry.{Entry}
use Rattle.rmt_model.specs.Lawful.{entry_at}
use Rattle.rmt_queue.specs.Marks.{done_at}
use Rattle.rmt_table_model.specs.Kept.{is_get}
use Rattle.rmt_events.specs.Draws.{chosen, next_mutation as mutation_next}
use Rattle.rmt_replica.specs.declared.why.Why.TheVariants as whys
use Rattle.rmt_replica.specs.Replicas.{ReplicaView}
use Rattle.rmt_replica.specs.Answers.{IsWhy}
use Rattle.rmt_jobs.specs.declared.job.Job.{Job}
use Rattle.rmt_jobs.specs.declared.job.Job.TheVariants as jobs

-- ---- entries

-- the entry at the place waits for a part that isn't here
pub record WaitsForPart (r : ReplicaView) (i : ℕ) : Type 0 where
  pub part : Name
  pub why : IsWhy r i (whys.NeedsPart part)

-- the entry at the place is a Get
pub record IsGetEntry (log : List Entry) (i : ℕ) : Type 0 where
  pub entry : Entry
  pub stands : entry_at log i ≡ Some entry
  pub is : is_get entry ≡ true

-- the entry waits for no part, or it is a Get whose part may be fetched
abbrev pub CanApply : ReplicaView → ℕ → Type 0
CanApply r i = (WaitsForPart r i → ⊥) ⊎ ((r.fetches ≡ true) × IsGetEntry r.log i)

-- the entry at this place of the copy isn't done, and can be
pub record IsToApply (r : ReplicaView) (i : ℕ) : Type 0 where
  pub within : i < length r.log
  pub pending : done_at r.done i ≡ false
  pub can : CanApply r i

-- no entry of the copy that isn't done can be
abbrev pub NoneToApply : ReplicaView → Type 0
NoneToApply r = (i : ℕ) → IsToApply r i → ⊥

-- the lowest place of such an entry
pub record IsFirstToApply (r : ReplicaView) (i : ℕ) : Type 0 where
  pub applies : IsToApply r i
  pub lowest : (k : ℕ) → k < i → IsToApply r k → ⊥

-- ---- jobs

-- the replica is up, and its copy is no shorter than a log of this length
pub record HasPulled (r : ReplicaView) (len : ℕ) : Type 0 where
  pub up : r.up ≡ true
  pub whole : len ≤ length r.log

-- the replica has neither to pull nor to apply
pub record HasNothingToApply (r : ReplicaView) (len : ℕ) : Type 0 where
  pub pulled : HasPulled r len
  pub none : NoneToApply r

-- The job is the one that comes next at the replica, where the table's log has this length. A merge is of at most 10 parts.
abbrev pub IsJob : ReplicaView → ℕ → Job → Type 0
IsJob r len jobs.Idle =
    (r.up ≡ false) ⊎ (HasNothingToApply r len × (chosen r.log 10 ≡ None) × (mutation_next r.log ≡ None))
IsJob r len jobs.Pull = (r.up ≡ true) × (length r.log < len)
IsJob r len (jobs.Apply i) = HasPulled r len × IsFirstToApply r i
IsJob r len (jobs.Merge names) = HasNothingToApply r len × (chosen r.log 10 ≡ Some names)
IsJob r len (jobs.Mutate old upto) =
    HasNothingToApply r len × (chosen r.log 10 ≡ None) × (mutation_next r.log ≡ Some (old, upto))
