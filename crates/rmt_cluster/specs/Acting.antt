-- What an event of an insert does to a state and the open attempts.
use Rattle.std.specs.Prelude.{◌≡◌, ℕ, List, map, IfSome}
use Rattle.std.specs.declared.option.Option.TheVariants.{Some}
use Rattle.rmt_entries.specs.declared.entry.Entry.{Entry}
use Rattle.rmt_model.specs.Words.{Has}
use Rattle.rmt_model.specs.Lawful.{entry_at}
use Rattle.rmt_replica.specs.Replicas.{ReplicaView, IsStandingReplica}
use Rattle.rmt_replica.specs.SeenReplica.{shown}
use Rattle.rmt_supply.specs.PartSources.{staged_for, IsAccepted}
use Rattle.rmt_events.specs.Views.{Replica, Staged}
use Rattle.rmt_events.specs.Clusters.{Attempt}
use Rattle.rmt_events.specs.ReplicaCalls.{Unstages}
use Rattle.rmt_events.specs.ClusterChanges.{attempts_without}
use Rattle.rmt_events.specs.Steps.{Does}
use Rattle.rmt_events.specs.declared.event.Event.{Event}
use Rattle.rmt_events.specs.declared.reply.Reply.{Reply}
use Rattle.rmt_table.specs.declared.lock.Lock.{Lock}
use Rattle.rmt_table.specs.TableTrees.{IsReplica}
use Rattle.rmt_state.specs.States.{StateView, cluster_of, ChangesAt}
use Rattle.rmt_cluster.specs.Attempts.{OpenAttempts}

-- the event was done, whatever events there are
abbrev pub ActsWith : StateView → OpenAttempts → Event → Reply → StateView → OpenAttempts → Type 0
ActsWith s a event reply t b = (events : List (Event × Reply)) → Does (cluster_of s a.made a.open_ones events) event reply (cluster_of t b.made b.open_ones events)

-- the attempts are as they were, but for the room
pub record AreSame (a b : OpenAttempts) : Type 0 where
  pub made : b.made ≡ a.made
  pub open_ones : b.open_ones ≡ a.open_ones

-- what is staged at a replica for an entry of the log is the block that it accepted
abbrev pub KeepsAccepted : StateView → Type 0
KeepsAccepted s = (r : ReplicaView) → Has s.replicas r → IsStandingReplica r → (i : ℕ) (e : Entry) → entry_at s.tree.log i ≡ Some e → IfSome (staged_for r e) (IsAccepted s.tree.schema e)

-- each attempt is made at a replica of the table; what is staged under its number at a replica is its block
pub record SuitAttempts (s : StateView) (a : OpenAttempts) : Type 0 where
  pub here : (x : Attempt) → Has a.open_ones x → IsReplica s.tree x.replica
  pub staged : (r : Replica) → Has (map shown s.replicas) r → (z : Staged) → Has r.staged z → (x : Attempt) → Has a.open_ones x → x.block.partition ≡ z.block.partition → x.number ≡ z.number → z.block ≡ x.block

-- the block that is staged under a lock's number at its replica goes, and the attempt of the id ends
pub record EndsAt (s : StateView) (a : OpenAttempts) (id : ℕ) (lock : Lock) (t : StateView) (b : OpenAttempts) : Type 0 where
  pub unstages : ChangesAt s lock.replica (λ x y. Unstages x lock.id.partition lock.number y) t
  pub made : b.made ≡ a.made
  pub ends : b.open_ones ≡ attempts_without a.open_ones id
