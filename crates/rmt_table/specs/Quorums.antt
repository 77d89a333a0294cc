-- The quorum of a table's inserts: what is told of it, why a block isn't taken, and what a note changes.
-- ClickHouse documentation, Data Replication: insert_quorum. That one block waits at a time is as there; the errors are this
-- program's own.
use Rattle.std.specs.Prelude.{◌≡◌, ℕ, Bool, true, false, length}
use Rattle.std.specs.declared.option.Option.{Option}
use Rattle.std.specs.declared.option.Option.TheVariants.{Some, None}
use Rattle.rmt_names.specs.Names.{Name}
use Rattle.rmt_model.specs.Words.{Has}
use Rattle.rmt_model.specs.Quorum as own
use Rattle.rmt_tree.specs.Ops.{after_all}
use Rattle.rmt_table_model.specs.Nodes.{noted_ops}
use Rattle.rmt_table_model.specs.Held.{Held}
use Rattle.rmt_events.specs.Views.{Table}
use Rattle.rmt_events.specs.TableCalls.{Notes}
use Rattle.rmt_events.specs.TableRefusals.{AreTooFew, MeetsPending}
use Rattle.rmt_table.specs.TableTrees.{table_at}
use Rattle.rmt_table.specs.declared.quorum.Quorum.{Quorum}
use Rattle.rmt_table.specs.declared.quorum_error.QuorumError.{QuorumError}
use Rattle.rmt_table.specs.declared.quorum_error.QuorumError.TheVariants as quorum

-- why a block that needs so many replicas isn't taken
abbrev pub NoQuorum : Table → ℕ → QuorumError → Type 0
NoQuorum t need (quorum.TooFewLive live needed) = AreTooFew t need live needed
NoQuorum t need (quorum.QuorumPending a) = MeetsPending t need a

-- this part waits for its quorum
abbrev pub IsPendingPart : Option own.Pending → Name → Type 0
IsPendingPart None a = ⊥
IsPendingPart (Some q) a = q.part ≡ a

-- a part waits for its quorum, and the replica is noted for it
abbrev pub IsNotedAt : Option own.Pending → ℕ → Type 0
IsNotedAt None r = ⊥
IsNotedAt (Some q) r = Has q.noted r

-- what a note makes of the tree, where a part waits: nothing where the replica is noted for it already
pub record NotesTree (old : Held) (r : ℕ) (q : own.Pending) (new : Held) : Type 0 where
  pub again : Has q.noted r → new.tree ≡ old.tree
  pub first : (Has q.noted r → ⊥) → new.tree ≡ after_all old.tree (noted_ops q (own.noted_with r q.noted) old.quorum.last)

-- the replica is noted for the part, which waits for its quorum; another note changes nothing
pub record NotesAt (old : Held) (r : ℕ) (part : Name) (new : Held) : Type 0 where
  pub waits : IsPendingPart old.quorum.pending part
  pub seen : Notes (table_at old) r (table_at new)
  pub tree : (q : own.Pending) → old.quorum.pending ≡ Some q → NotesTree old r q new

-- the same, or the part doesn't wait for its quorum, and nothing changes
abbrev pub IsQuorumNote : Held → ℕ → Name → Bool → Held → Type 0
IsQuorumNote old r part true new = NotesAt old r part new
IsQuorumNote old r part false new = (IsPendingPart old.quorum.pending part → ⊥) × (new ≡ old)

-- what is told of the part that waits
abbrev pub IsShownPending : Option own.Pending → Quorum → Type 0
IsShownPending None q = (q.pending ≡ None) × (q.have ≡ 0) × (q.need ≡ 0)
IsShownPending (Some p) q = (q.pending ≡ Some p.part) × (q.have ≡ length p.noted) × (q.need ≡ p.need)

-- what is told of a quorum
pub record IsShownQuorum (own_quorum : own.Quorum) (q : Quorum) : Type 0 where
  pub waits : IsShownPending own_quorum.pending q
  pub last : q.last ≡ own_quorum.last
