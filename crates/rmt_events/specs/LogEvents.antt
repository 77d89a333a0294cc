-- What the events do that append an entry to the log without a block: Merge, Mutate, DropPartition; and why those of a
-- worker are refused.
-- ClickHouse documentation, Data Replication: merges and mutations are assigned through the log. ALTER, "Mutations" and
-- "DROP PARTITION".
use Rattle.std.specs.Prelude.{◌≡◌, ℕ, ◌<◌, List, [], ◌∷◌, length}
use Rattle.std.specs.declared.option.Option.{Option}
use Rattle.rmt_names.specs.Names.{Name}
use Rattle.rmt_entries.specs.declared.entry.Entry.{Entry}
use Rattle.rmt_model.specs.Words.{Has, Each}
use Rattle.rmt_model.specs.Lawful.{entry_at, ver, AreNeighbours, IsMutationWith}
use Rattle.rmt_model.specs.Live.{live}
use Rattle.rmt_events.specs.Views.{Replica}
use Rattle.rmt_model.specs.BlockNumbers.{next_number}
use Rattle.rmt_events.specs.TableCalls.{AssignsMerge, AssignsMutate}
use Rattle.rmt_events.specs.TableRefusals.{NotMerged, NotMutated}
use Rattle.rmt_events.specs.Clusters.{Cluster}
use Rattle.rmt_events.specs.ClusterChanges.{IsUp, IsDown, Appends}
use Rattle.rmt_events.specs.declared.reply.Reply.{Reply}
use Rattle.rmt_events.specs.declared.reply.Reply.TheVariants as rp
use Rattle.rmt_events.specs.declared.step_refused.StepRefused.{StepRefused}
use Rattle.rmt_events.specs.declared.step_refused.StepRefused.TheVariants as rf

-- ---- what a worker's event asks of its replica

-- two or more names of one partition that are neighbours among the live ones of a copy
abbrev pub AreMergeable : List Entry → List Name → Type 0
AreMergeable log [] = ⊥
AreMergeable log (a ∷ []) = ⊥
AreMergeable log (a ∷ b ∷ rest) = AreNeighbours log (a ∷ b ∷ rest) × Each (λ c. c.partition ≡ a.partition) (b ∷ rest)

-- the name is live in a copy, and the entry at the place is a mutation that is pending for it
pub record IsMutable (log : List Entry) (old : Name) (upto : ℕ) : Type 0 where
  pub is_live : Has (live log) old
  pub number : ℕ
  pub at : IsMutationWith (entry_at log upto) old.partition number
  pub pending : ver log old < number

-- a replica that is up, with a copy of the whole log that meets the condition
pub record IsCaughtUp (s : Cluster) (k : ℕ) (Meets : List Entry → Type 0) : Type 0 where
  pub replica : Replica
  pub is : IsUp s k replica
  pub meets : Meets replica.log
  pub whole : length replica.log ≡ length s.table.log

-- ---- Merge

-- a merge of the names enters the log
pub record MergesParts (s : Cluster) (k : ℕ) (sources : List Name) (reply : Reply) (t : Cluster) : Type 0 where
  pub caught_up : IsCaughtUp s k (λ log. AreMergeable log sources)
  pub name : Name
  pub count : ℕ
  pub appends : Appends s (λ u v. AssignsMerge u name sources count v) reply t

-- why a merge doesn't enter the log
abbrev pub NoMerge : Cluster → ℕ → List Name → StepRefused → Type 0
NoMerge s k names rf.Down = IsDown s k
NoMerge s k names rf.NotLive = (x : Replica) × IsUp s k x × (AreMergeable x.log names → ⊥)
NoMerge s k names why = (x : Replica) × IsUp s k x × AreMergeable x.log names × NotMerged s.table (length x.log) names why

-- ---- Mutate

-- a mutate of the part, up to the mutation at a place, enters the log
pub record MutatesPart (s : Cluster) (k : ℕ) (old : Name) (upto : ℕ) (reply : Reply) (t : Cluster) : Type 0 where
  pub caught_up : IsCaughtUp s k (λ log. IsMutable log old upto)
  pub name : Name
  pub count : ℕ
  pub mcount : ℕ
  pub appends : Appends s (λ u v. AssignsMutate u old name upto count mcount v) reply t

-- why a mutate doesn't enter the log
abbrev pub NoMutate : Cluster → ℕ → Name → ℕ → StepRefused → Type 0
NoMutate s k old upto rf.Down = IsDown s k
NoMutate s k old upto rf.NotLive = (x : Replica) × IsUp s k x × (IsMutable x.log old upto → ⊥)
NoMutate s k old upto why = (x : Replica) × IsUp s k x × IsMutable x.log old upto × NotMutated s.table (length x.log) why

-- ---- DropPartition

-- there is nothing to drop: the partition doesn't exist
pub record DropsNothing (s : Cluster) (p : Option ℕ) (reply : Reply) (t : Cluster) : Type 0 where
  pub absent : next_number s.table.next p ≡ 0
  pub answer : reply ≡ rp.Done
  pub unchanged : t ≡ s
