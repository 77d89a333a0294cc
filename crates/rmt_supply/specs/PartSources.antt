-- What an entry of the log is done with at a replica, and where the part comes from.
-- ClickHouse documentation, Data Replication: a replica makes the part of an inserted block from the block, or fetches it from
-- another replica; merges and mutations are done from its own parts. That the lowest-numbered holder is taken is this
-- program's own.
use Rattle.std.specs.Prelude.{◌≡◌, ◌⊎◌, ℕ, ◌+◌, ◌<◌, ◌^◌, List, length, map, slice_get, MatchOption, IfSome, IsSome}
use Rattle.std.specs.Prelude.{true, false}
use Rattle.std.specs.List.{All}
use Rattle.std.specs.Arc.{arc_value}
use Rattle.std.specs.declared.option.Option.{Option}
use Rattle.std.specs.declared.option.Option.TheVariants.{Some, None}
use Rattle.rmt_values.specs.Rows.{Shape, fits}
use Rattle.rmt_names.specs.Names.{Name, Covers, block_name}
use Rattle.rmt_entries.specs.declared.entry.Entry.{Entry}
use Rattle.rmt_entries.specs.declared.entry.Entry.TheVariants.{Get, Merge, Mutate, Mutation, DropRange}
use Rattle.rmt_row.specs.Token.{Token}
use Rattle.rmt_block.specs.Blocks.{BlockView}
use Rattle.rmt_model.specs.Words.{Has, Each}
use Rattle.rmt_model.specs.Lawful.{entry_at, IsPrefix, MakesAt}
use Rattle.rmt_model.specs.EntryStates.{IsDroppedEntry}
use Rattle.rmt_part.specs.Lineages.{AcceptedView, PartValue, IsPart, IsOfLog}
use Rattle.rmt_part.specs.CopiedPart.{copied}
use Rattle.rmt_partset.specs.ActiveParts.{part_names}
use Rattle.rmt_compact.specs.NewParts.{GetsBlock, IsOfBlock}
use Rattle.rmt_replica.specs.Replicas.{ReplicaView, IsStandingReplica}
use Rattle.rmt_replica.specs.StagedBlocks.{staged_at}
use Rattle.rmt_replica.specs.Answers as own
use Rattle.rmt_replica.specs.declared.supply.Supply.{Supply}
use Rattle.rmt_replica.specs.declared.supply.Supply.TheVariants.{Nothing, Built, Fetched}
use Rattle.rmt_events.specs.Views.{Replica}
use Rattle.rmt_events.specs.Clusters.{Cluster}
use Rattle.rmt_events.specs.ClusterChanges.{IsOther}
use Rattle.rmt_events.specs.ApplyEvents.{IsHolder, IsFromStage, IsFromParts, IsFetched, IsFetchedBlock, LacksPart, NeedsFetch}
use Rattle.rmt_replica.specs.SeenReplica.{shown}
use Rattle.rmt_supply.specs.declared.found.Found.{Found}
use Rattle.rmt_supply.specs.declared.found.Found.TheVariants as found

-- the block that is staged at a replica for an entry: under the number of a Get; none for other entries
abbrev pub staged_for : ReplicaView → Entry → Option BlockView
staged_for r (Get p n digest source need) = staged_at r.staged (record { partition = p; number = n })
staged_for r (Merge new sources count) = None
staged_for r (Mutate old new upto count mcount) = None
staged_for r (Mutation id numbers command) = None
staged_for r (DropRange p n) = None

-- the block is the one that the entry accepted, and fits the table's columns
pub record IsAccepted (schema : Shape) (e : Entry) (b : BlockView) : Type 0 where
  pub gets : GetsBlock e b
  pub fit : All (λ row. fits schema.columns row ≡ true) b.rows

-- replicas of one table: numbered from 1 in their order, each with a copy of one log. What is staged at any of them for the
-- entry at a place of the log is the block that it accepted
pub record AreOfOneTable (replicas : List ReplicaView) (i : ℕ) : Type 0 where
  pub schema : Shape
  pub log : List Entry
  pub numbered : (j : ℕ) (r : ReplicaView) → slice_get replicas j ≡ Some r → r.number ≡ 1 + j
  pub copies : (r : ReplicaView) → Has replicas r → (r.schema ≡ schema) × IsPrefix r.log log
  pub accepted : (r : ReplicaView) → Has replicas r → IsStandingReplica r → (e : Entry) → entry_at log i ≡ Some e → IfSome (staged_for r e) (IsAccepted schema e)

-- each active part of the replica has fewer than 2^32 rows
abbrev pub HasSmallParts : ReplicaView → Type 0
HasSmallParts r = Each (λ part. length part.body.rows < 2 ^ 32) r.parts

-- so have those of each of the replicas: their bytes can be sent
abbrev pub AreSmall : List ReplicaView → Type 0
AreSmall replicas = (r : ReplicaView) → Has replicas r → HasSmallParts r

-- a cluster of these replicas, and of this schema
pub record IsClusterOf (schema : Shape) (replicas : List ReplicaView) (s : Cluster) : Type 0 where
  pub schema_is : s.table.schema ≡ schema
  pub replicas_are : s.replicas ≡ map shown replicas

-- ---- a part that suits an entry

-- the part does the entry at a place, which waits: it is of the replica's table, covers what the entry makes, and was made
-- within the copy
pub record Does (x : ReplicaView) (i : ℕ) (part : PartValue) : Type 0 where
  pub waits : own.Waits x i
  pub name : Name
  pub makes : MakesAt x.log i name
  pub covers : Covers part.name name
  pub within : part.made.place < length x.log
  pub of_table : own.IsOfTable x part

-- the entry at a place needs no part
abbrev pub NeedsNone : ReplicaView → ℕ → Type 0
NeedsNone x i = (own.IsAlready x i ⊎ IsDroppedEntry x.log i) ⊎ ((p : Option ℕ) × (n : ℕ) × (entry_at x.log i ≡ Some (DropRange p n)))

-- built of the block that is staged here, or of active parts
abbrev pub IsBuilt : List ReplicaView → ReplicaView → ℕ → PartValue → Type 0
IsBuilt replicas x i part = (s : Cluster) → IsClusterOf x.schema replicas s → IsFromStage s (shown x) i (copied part) ⊎ IsFromParts s (shown x) i (copied part)

-- an active part of the lowest-numbered other live holder, or the part of the block that is staged there
abbrev pub IsFetchedPart : List ReplicaView → ReplicaView → ℕ → PartValue → Type 0
IsFetchedPart replicas x i part = (s : Cluster) → IsClusterOf x.schema replicas s → IsFetched s (shown x) i (copied part) ⊎ IsFetchedBlock s (shown x) i (copied part)

-- the supply does the entry at a place of a replica's copy, which may fetch where a fetched part is supplied
abbrev pub Suits : List ReplicaView → ReplicaView → ℕ → Supply → Type 0
Suits replicas x i Nothing = NeedsNone x i
Suits replicas x i (Built part) = Does x i (arc_value part) × IsBuilt replicas x i (arc_value part)
Suits replicas x i (Fetched part) = Does x i (arc_value part) × (x.fetches ≡ true) × IsFetchedPart replicas x i (arc_value part)

-- the entry at a place waits, and this part is missing
pub record IsMissing (replicas : List ReplicaView) (x : ReplicaView) (i : ℕ) (a : Name) : Type 0 where
  pub waits : own.Waits x i
  pub lacks : (s : Cluster) → IsClusterOf x.schema replicas s → (e : Entry) → entry_at x.log i ≡ Some e → LacksPart s x.number (shown x) e a

-- the entry at a place waits and its block isn't here; another live replica holds it, and this one may not fetch
pub record IsStopped (replicas : List ReplicaView) (x : ReplicaView) (i : ℕ) : Type 0 where
  pub waits : own.Waits x i
  pub stopped : x.fetches ≡ false
  pub needs : (s : Cluster) → IsClusterOf x.schema replicas s → (e : Entry) → entry_at x.log i ≡ Some e → NeedsFetch s x.number (shown x) e

-- what was found for the entry at a place of a replica's copy
abbrev pub IsFoundFor : List ReplicaView → ReplicaView → ℕ → Found → Type 0
IsFoundFor replicas x i (found.Ready supply) = Suits replicas x i supply
IsFoundFor replicas x i found.Stopped = IsStopped replicas x i
IsFoundFor replicas x i (found.Missing a) = IsMissing replicas x i a

-- ---- what only private functions cite

-- the active parts of these names
pub record AreActive (r : ReplicaView) (names : List Name) (parts : List PartValue) : Type 0 where
  pub named : part_names parts ≡ names
  pub active : Each (Has r.parts) parts

-- a part of the copy that was made for the entry at a place of active parts: each of its blocks is one of theirs
pub record IsMadeOfActive (r : ReplicaView) (i : ℕ) (part : PartValue) : Type 0 where
  pub is_part : IsPart part
  pub of_schema : part.schema ≡ r.schema
  pub of_log : IsOfLog r.log part
  pub place : part.made.place ≡ i
  pub named : MakesAt r.log i part.name
  pub blocks : (b : AcceptedView) → Has part.blocks b → (from : PartValue) × Has r.parts from × (from.name.partition ≡ part.name.partition) × Has from.blocks b

-- the part of the block that is staged at a holder for the token's entry
pub record IsOfStaged (schema : Shape) (holder : ReplicaView) (token : Token Entry) (part : PartValue) : Type 0 where
  pub block : BlockView
  pub staged : staged_for holder token.value ≡ Some block
  pub accepted : IsAccepted schema token.value block
  pub is : IsOfBlock schema token block part
  pub is_part : IsPart part

-- a Get waits at a place of a replica's copy, and its block isn't staged there
pub record WaitsForBlock (x : ReplicaView) (i : ℕ) : Type 0 where
  pub waits : own.Waits x i
  pub partition : Option ℕ
  pub number : ℕ
  pub source : ℕ
  pub need : ℕ
  pub digest : List ℕ
  pub at : entry_at x.log i ≡ Some (Get partition number digest source need)
  pub none : staged_for x (Get partition number digest source need) ≡ None

-- the token is of a Get that makes this name
pub record IsGetFor (token : Token Entry) (a : Name) : Type 0 where
  pub partition : Option ℕ
  pub number : ℕ
  pub source : ℕ
  pub need : ℕ
  pub digest : List ℕ
  pub value : token.value ≡ Get partition number digest source need
  pub named : a ≡ block_name partition number

-- an active part of the holder covers the name and was made at a place below this one
pub record HoldsPart (holder : ReplicaView) (a : Name) (len : ℕ) (part : PartValue) : Type 0 where
  pub is_in : Has holder.parts part
  pub covers : Covers part.name a
  pub within : part.made.place < len

-- the holder has neither such a part nor the block of the token's Get
pub record HoldsNothing (holder : ReplicaView) (token : Token Entry) (a : Name) (len : ℕ) : Type 0 where
  pub no_part : (part : PartValue) → HoldsPart holder a len part → ⊥
  pub no_block : staged_for holder token.value ≡ None

-- it has such a part, or that block
abbrev pub HoldsSome : ReplicaView → Token Entry → Name → ℕ → Type 0
HoldsSome holder token a len = ((part : PartValue) × HoldsPart holder a len part) ⊎ IsSome (staged_for holder token.value)

-- what a holder sends for the Get of a token
abbrev pub IsSent : Shape → ReplicaView → Token Entry → Name → ℕ → Option PartValue → Type 0
IsSent schema holder token a len part = MatchOption part (HoldsNothing holder token a len) (λ p. HoldsPart holder a len p ⊎ IsOfStaged schema holder token p)

-- no other live replica holds the block of the Get at a place
abbrev pub IsNowhere : List ReplicaView → ReplicaView → ℕ → Type 0
IsNowhere replicas x i = (p : Option ℕ) (n source need : ℕ) (digest : List ℕ) → entry_at x.log i ≡ Some (Get p n digest source need)
    → (s : Cluster) → IsClusterOf x.schema replicas s → (y : Replica) → IsOther s x.number y → IsHolder (length x.log) p n y → ⊥
