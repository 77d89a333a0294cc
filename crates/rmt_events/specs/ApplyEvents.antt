-- What Apply does: where the part of an entry comes from, and why an entry isn't done.
-- ClickHouse documentation, Data Replication: a replica makes the part of a Get of its own block or fetches it from
-- another replica; merges and mutations are done from its own parts. That the lowest-numbered holder is taken is this
-- program's own.
use Rattle.std.specs.Prelude.{◌≡◌, ◌⊎◌, ℕ, ◌<◌, ◌≤◌, true, false, List, [], ◌∷◌, length}
use Rattle.std.specs.declared.option.Option.{Option}
use Rattle.std.specs.declared.option.Option.TheVariants.{Some}
use Rattle.rmt_names.specs.Names.{Name, Covers, block_name}
use Rattle.rmt_entries.specs.declared.entry.Entry.{Entry}
use Rattle.rmt_entries.specs.declared.entry.Entry.TheVariants.{Get, Merge, Mutate, Mutation, DropRange}
use Rattle.rmt_model.specs.Words.{Has, Each}
use Rattle.rmt_model.specs.Lawful.{entry_at, MakesAt}
use Rattle.rmt_model.specs.Parts.{NumberedBlock}
use Rattle.rmt_model.specs.CopiedParts.{Copied, IsCopied, names_of}
use Rattle.rmt_events.specs.Views.{Block, Replica}
use Rattle.rmt_events.specs.ReplicaCalls.{IsStaged, Waits, Settles, DoesDrop, DoesPart, IsAlready}
use Rattle.rmt_events.specs.Clusters.{Cluster}
use Rattle.rmt_events.specs.ClusterChanges.{IsOther, IsUp, AtReplica, IsDown}
use Rattle.rmt_events.specs.declared.reply.Reply.{Reply}
use Rattle.rmt_events.specs.declared.reply.Reply.TheVariants as rp
use Rattle.rmt_events.specs.declared.applied.Applied.{Applied}
use Rattle.rmt_events.specs.declared.applied.Applied.TheVariants as ap_
use Rattle.rmt_events.specs.declared.step_refused.StepRefused.{StepRefused}
use Rattle.rmt_events.specs.declared.step_refused.StepRefused.TheVariants as rf

-- ---- who has what

-- the replica has a part that covers the block's and was made within a copy of this length, or the block staged
abbrev pub IsHolder : ℕ → Option ℕ → ℕ → Replica → Type 0
IsHolder len p n y = ((part : Copied) × Has y.parts part × Covers part.name (block_name p n) × (part.place < len)) ⊎ ((b : Block) × IsStaged y p n b)

-- no block is staged here under the number
abbrev pub LacksBlock : Replica → Option ℕ → ℕ → Type 0
LacksBlock x p n = (b : Block) → IsStaged x p n b → ⊥

-- the parts that the entry is made from are active here
abbrev pub HasSources : Entry → Replica → Type 0
HasSources (Merge name sources count) x = Each (Has (names_of x.parts)) sources
HasSources (Mutate old name upto count mcount) x = Has (names_of x.parts) old
HasSources (Get p n digest source need) x = ⊥
HasSources (Mutation id numbers command) x = ⊥
HasSources (DropRange p n) x = ⊥

-- ---- supplies

-- the part of one staged block, for the Get at the place
pub record IsOfBlock (x : Replica) (i : ℕ) (b : Block) (n : ℕ) (part : Copied) : Type 0 where
  pub source : ℕ
  pub need : ℕ
  pub entry : entry_at x.log i ≡ Some (Get b.partition n b.digest source need)
  pub place : part.place ≡ i
  pub named : part.name ≡ block_name b.partition n
  pub lineage : part.lineage ≡ record { number = n; digest = b.digest; rows = b.rows } ∷ []

-- the block is staged here
pub record IsFromStage (s : Cluster) (x : Replica) (i : ℕ) (part : Copied) : Type 0 where
  pub block : Block
  pub number : ℕ
  pub staged : IsStaged x block.partition number block
  pub is : IsOfBlock x i block number part
  pub holds : IsCopied s.table.schema x.log part

-- merged or mutated from active parts: its blocks are theirs
pub record IsFromParts (s : Cluster) (x : Replica) (i : ℕ) (part : Copied) : Type 0 where
  pub entry : Entry
  pub at : entry_at x.log i ≡ Some entry
  pub sources : HasSources entry x
  pub made_here : MakesAt x.log i part.name
  pub place : part.place ≡ i
  pub blocks : (b : NumberedBlock) → Has part.lineage b → (from : Copied) × Has x.parts from × (from.name.partition ≡ part.name.partition) × Has from.lineage b
  pub holds : IsCopied s.table.schema x.log part

-- the replica may fetch for the Get at the place, whose block isn't staged here, from the lowest-numbered other live holder
pub record MayFetch (s : Cluster) (x : Replica) (i : ℕ) (from : Replica) : Type 0 where
  pub partition : Option ℕ
  pub number : ℕ
  pub source : ℕ
  pub need : ℕ
  pub digest : List ℕ
  pub entry : entry_at x.log i ≡ Some (Get partition number digest source need)
  pub own : LacksBlock x partition number
  pub allowed : x.fetches ≡ true
  pub other : IsOther s x.number from
  pub lowest : (y : Replica) → IsOther s x.number y → IsHolder (length x.log) partition number y → from.number ≤ y.number

-- an active part of another replica, made within the copy
pub record IsFetched (s : Cluster) (x : Replica) (i : ℕ) (part : Copied) : Type 0 where
  pub from : Replica
  pub may : MayFetch s x i from
  pub is_in : Has from.parts part
  pub within : part.place < length x.log

-- the part of a block that is staged at another replica
pub record IsFetchedBlock (s : Cluster) (x : Replica) (i : ℕ) (part : Copied) : Type 0 where
  pub from : Replica
  pub may : MayFetch s x i from
  pub block : Block
  pub number : ℕ
  pub staged : IsStaged from block.partition number block
  pub is : IsOfBlock x i block number part
  pub holds : IsCopied s.table.schema x.log part

-- the part that an entry is done by
abbrev pub IsSupply : Cluster → Replica → ℕ → Copied → Type 0
IsSupply s x i part = IsFromStage s x i part ⊎ (IsFromParts s x i part ⊎ (IsFetched s x i part ⊎ IsFetchedBlock s x i part))

-- ---- the entry is looked at

-- an entry is done by a part that is supplied
pub record InstallsSupply (s : Cluster) (i : ℕ) (x y : Replica) : Type 0 where
  pub part : Copied
  pub supply : IsSupply s x i part
  pub does : DoesPart x i part y

-- what the entry at a place comes to
abbrev pub AppliesTo : Cluster → ℕ → Applied → Replica → Replica → Type 0
AppliesTo s i ap_.Already x y = IsAlready x i × Settles x i y
AppliesTo s i ap_.Dropped x y = (IsAlready x i → ⊥) × Settles x i y
AppliesTo s i ap_.Installed x y = (Waits x i × DoesDrop x i y) ⊎ InstallsSupply s i x y

-- an entry of the copy is looked at
pub record Applies (s : Cluster) (k i : ℕ) (reply : Reply) (t : Cluster) : Type 0 where
  pub comes : Applied
  pub at : AtReplica s k (λ x y. (i < length x.log) × AppliesTo s i comes x y) t
  pub answer : reply ≡ rp.Applied comes

-- ---- why an entry isn't done

-- the replica is up, and the entry at the place waits there
pub record WaitsAt (s : Cluster) (k i : ℕ) (x : Replica) (e : Entry) : Type 0 where
  pub is : IsUp s k x
  pub waits : Waits x i
  pub at : entry_at x.log i ≡ Some e

-- the first of these names that isn't active
abbrev pub IsFirstInactive : List Name → List Name → Name → Type 0
IsFirstInactive [] active a = ⊥
IsFirstInactive (c ∷ rest) active a = ((Has active c → ⊥) × (a ≡ c)) ⊎ (Has active c × IsFirstInactive rest active a)

-- what the entry is made from is nowhere that the replica may take it from; this part is the first that is missing
abbrev pub LacksPart : Cluster → ℕ → Replica → Entry → Name → Type 0
LacksPart s k x (Get p n digest source need) a = (a ≡ block_name p n) × LacksBlock x p n × ((y : Replica) → IsOther s k y → IsHolder (length x.log) p n y → ⊥)
LacksPart s k x (Merge name sources count) a = IsFirstInactive sources (names_of x.parts) a
LacksPart s k x (Mutate old name upto count mcount) a = IsFirstInactive (old ∷ []) (names_of x.parts) a
LacksPart s k x (Mutation id numbers command) a = ⊥
LacksPart s k x (DropRange p n) a = ⊥

-- the block isn't staged here, and another live replica holds it
abbrev pub NeedsFetch : Cluster → ℕ → Replica → Entry → Type 0
NeedsFetch s k x (Get p n digest source need) = LacksBlock x p n × (y : Replica) × IsOther s k y × IsHolder (length x.log) p n y
NeedsFetch s k x (Merge name sources count) = ⊥
NeedsFetch s k x (Mutate old name upto count mcount) = ⊥
NeedsFetch s k x (Mutation id numbers command) = ⊥
NeedsFetch s k x (DropRange p n) = ⊥

-- why an entry isn't done
abbrev pub NoApply : Cluster → ℕ → ℕ → StepRefused → Type 0
NoApply s k i rf.Down = IsDown s k
NoApply s k i rf.NotLive = (x : Replica) × IsUp s k x × (length x.log ≤ i)
NoApply s k i (rf.NeedsPart a) = (x : Replica) × (e : Entry) × WaitsAt s k i x e × LacksPart s k x e a
NoApply s k i rf.FetchesStopped = (x : Replica) × (e : Entry) × WaitsAt s k i x e × (x.fetches ≡ false) × NeedsFetch s k x e
NoApply s k i why = ⊥
