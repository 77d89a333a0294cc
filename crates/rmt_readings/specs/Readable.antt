-- Which parts of a replica a client may read, why it may not, and what is answered over them.
-- No public source: that a client compares what it knows with what a replica has is this program's own.
use Rattle.std.specs.Prelude.{◌≡◌, ◌⊎◌, ◌<◌, ◌^◌, ℕ, false, List, filter, length}
use Rattle.rmt_values.specs.declared.checked_query.CheckedQuery.{CheckedQuery}
use Rattle.rmt_entries.specs.declared.entry.Entry.{Entry}
use Rattle.rmt_model.specs.Words.{Each}
use Rattle.rmt_model.specs.Lawful.{IsPrefix, is_mutation}
use Rattle.rmt_partset.specs.ActiveParts.{part_names, shown}
use Rattle.rmt_partset.specs.Snapshots.{NamedData}
use Rattle.rmt_query.specs.Answers.{answer_of}
use Rattle.rmt_query.specs.ReadRows.{rows_read}
use Rattle.rmt_events.specs.Views.{Block}
use Rattle.rmt_statement_model.specs.TableStates.{TableState, plain_rows}
use Rattle.rmt_clients.specs.Clients.{Client, AreClear, ClientsMarked, Fits}
use Rattle.rmt_clients.specs.ClientReadings.{IsChecked}
use Rattle.rmt_replica.specs.Replicas.{ReplicaView, IsStandingReplica}

-- the active parts of a replica have all that the client knows of it
abbrev pub HasKnown : Client → ReplicaView → Type 0
HasKnown p r = IsChecked p.log (p.known r.number) (part_names r.parts)

-- these are the active parts of a standing replica; its copy is a prefix of the client's, they have all that is known there, and each
-- has few enough rows to have bytes
pub record IsReadable (p : Client) (r : ReplicaView) (parts : List NamedData) : Type 0 where
  pub parts_shown : parts ≡ shown r.parts
  pub standing : IsStandingReplica r
  pub prefix : IsPrefix r.log p.log
  pub checked : HasKnown p r
  pub few : Each (λ part. length part.rows.rows < 2 ^ 32) parts

-- the replica isn't as the client knows it: it isn't up, it has more of the log than its table, or it lacks what is known there
abbrev pub IsUnread : Client → List Entry → ReplicaView → Type 0
IsUnread p log r = (r.up ≡ false) ⊎ ((length log < length r.log) ⊎ (HasKnown p r → ⊥))

-- where no two offered blocks of one id differ: whatever state fits what the client knows, and each client's entry of which is known at
-- the replica, each query answers over these parts, with the mutations of the client's log, what it answers over the plain rows
abbrev pub AnswersAll : (Block → Type 0) → Client → ℕ → List NamedData → Type 0
AnswersAll Offered p r parts = AreClear Offered → (t : TableState) → Fits Offered p t → ClientsMarked t.log (t.known r) → (query : CheckedQuery) → answer_of p.schema query (rows_read (filter is_mutation p.log) parts) ≡ answer_of t.schema query (plain_rows t)
