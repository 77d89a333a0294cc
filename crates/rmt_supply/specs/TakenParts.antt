-- What is taken out of one replica for an entry of its copy, and what is then built or sent of it, with no replica at hand.
-- ClickHouse documentation, Data Replication: merges and mutations are done from a replica's own parts; a part that is missing is
-- fetched from another replica. That all that is needed is taken out at once is this program's own.
use Rattle.std.specs.Prelude.{◌≡◌, ℕ, ◌+◌, ◌<◌, ◌^◌, List, length, map, slice_get, MatchOption}
use Rattle.std.specs.Arc.{arc_value}
use Rattle.std.specs.declared.option.Option.{Option}
use Rattle.std.specs.declared.option.Option.TheVariants.{Some, None}
use Rattle.rmt_values.specs.Rows.{Shape}
use Rattle.rmt_names.specs.Names.{Name}
use Rattle.rmt_entries.specs.declared.entry.Entry.{Entry}
use Rattle.rmt_entries.specs.declared.entry.Entry.TheVariants as entries
use Rattle.rmt_row.specs.Token.{Token}
use Rattle.rmt_block.specs.Blocks.{BlockView}
use Rattle.rmt_model.specs.Words.{Has, Each}
use Rattle.rmt_model.specs.Lawful.{entry_at}
use Rattle.rmt_history.specs.Mutations.{mutations_below, AreTokensBelow}
use Rattle.rmt_part.specs.Lineages.{PartValue}
use Rattle.rmt_partset.specs.ActiveParts.{part_names}
use Rattle.rmt_compact.specs.NewParts.{IsOfBlock, IsMergeOf, IsMerged, IsMutateOf, IsMutated}
use Rattle.rmt_replica.specs.Replicas.{ReplicaView, copy_of}
use Rattle.rmt_replica.specs.Answers.{IsWhy}
use Rattle.rmt_replica.specs.declared.why.Why.TheVariants as whys
use Rattle.rmt_replica.specs.declared.supply.Supply.{Supply}
use Rattle.rmt_replica.specs.declared.supply.Supply.TheVariants as supplies
use Rattle.rmt_supply.specs.PartSources.{staged_for, IsAccepted, NeedsNone, HoldsPart, HoldsNothing}
use Rattle.rmt_supply.specs.declared.taken.Taken.{Taken}
use Rattle.rmt_supply.specs.declared.taken.Taken.TheVariants as taken
use Rattle.rmt_supply.specs.declared.held.Held.{Held}
use Rattle.rmt_supply.specs.declared.held.Held.TheVariants as held

-- ---- taken for an entry

-- the token is of the entry and the cell at a place of the replica's copy
pub record IsTokenAt (r : ReplicaView) (i : ℕ) (token : Token Entry) : Type 0 where
  pub entry : entry_at r.log i ≡ Some token.value
  pub place : token.place ≡ i
  pub cell : slice_get r.cells i ≡ Some token.cell

-- the Get at a place is ready by this block, which is staged for it
pub record TakesBlock (r : ReplicaView) (i : ℕ) (block : BlockView) (get : Token Entry) : Type 0 where
  pub ready : IsWhy r i whys.Ready
  pub token : IsTokenAt r i get
  pub staged : staged_for r get.value ≡ Some block

-- the Merge at a place is ready by these active parts, its sources in order
pub record TakesSources (r : ReplicaView) (i : ℕ) (sources : List PartValue) (merge : Token Entry) : Type 0 where
  pub ready : IsWhy r i whys.Ready
  pub token : IsTokenAt r i merge
  pub new : Name
  pub count : ℕ
  pub entry : merge.value ≡ entries.Merge new (part_names sources) count
  pub active : Each (Has r.parts) sources

-- the Mutate at a place is ready by this active part, and the mutations are all of the copy up to its last
pub record TakesOld (r : ReplicaView) (i : ℕ) (old : PartValue) (mutations : List (Token Entry)) (mutate : Token Entry) : Type 0 where
  pub ready : IsWhy r i whys.Ready
  pub token : IsTokenAt r i mutate
  pub new : Name
  pub upto : ℕ
  pub count : ℕ
  pub mcount : ℕ
  pub entry : mutate.value ≡ entries.Mutate old.name new upto count mcount
  pub active : Has r.parts old
  pub below : AreTokensBelow (copy_of r) (upto + 1) (mutations_below r.log (upto + 1)) mutations

-- what is taken out of a replica for the entry at a place of its copy
abbrev pub IsTaken : ReplicaView → ℕ → Taken → Type 0
IsTaken r i taken.Nothing = NeedsNone r i
IsTaken r i (taken.Block block get) = TakesBlock r i (arc_value block) get
IsTaken r i (taken.Sources sources merge) = TakesSources r i (map arc_value sources.items) merge
IsTaken r i (taken.Old old mutations mutate) = TakesOld r i (arc_value old) (arc_value mutations) mutate
IsTaken r i (taken.Missing a) = IsWhy r i (whys.NeedsPart a)

-- ---- built of it

-- parts that were taken are what their entry merges or mutates
abbrev pub CanBuild : Taken → Type 0
CanBuild taken.Nothing = Unit {0}
CanBuild (taken.Block block get) = Unit {0}
CanBuild (taken.Sources sources merge) = IsMergeOf merge (map arc_value sources.items)
CanBuild (taken.Old old mutations mutate) = IsMutateOf mutate (arc_value old) (arc_value mutations)
CanBuild (taken.Missing a) = Unit {0}

-- a block that was taken is the one that its entry accepted
abbrev pub HasAccepted : Shape → Taken → Type 0
HasAccepted schema taken.Nothing = Unit {0}
HasAccepted schema (taken.Block block get) = IsAccepted schema get.value (arc_value block)
HasAccepted schema (taken.Sources sources merge) = Unit {0}
HasAccepted schema (taken.Old old mutations mutate) = Unit {0}
HasAccepted schema (taken.Missing a) = Unit {0}

-- the part that is built of what was taken; none where no part is needed or one is missing
abbrev pub BuildsPart : Shape → Taken → Option PartValue → Type 0
BuildsPart schema taken.Nothing part = part ≡ None
BuildsPart schema (taken.Block block get) part = MatchOption part ⊥ (IsOfBlock schema get (arc_value block))
BuildsPart schema (taken.Sources sources merge) part = MatchOption part ⊥ (IsMerged merge (map arc_value sources.items))
BuildsPart schema (taken.Old old mutations mutate) part = MatchOption part ⊥ (IsMutated mutate (arc_value old) (arc_value mutations))
BuildsPart schema (taken.Missing a) part = part ≡ None

-- the supply of a part that was built; no part where none was
abbrev pub IsSupplyOf : Option PartValue → Supply → Type 0
IsSupplyOf part supplies.Nothing = part ≡ None
IsSupplyOf part (supplies.Built built) = part ≡ Some (arc_value built)
IsSupplyOf part (supplies.Fetched fetched) = ⊥

-- ---- taken for a Get of another replica, and sent

-- the holder has no such part, but this block is staged there for the Get of the token
pub record HoldsBlock (holder : ReplicaView) (token : Token Entry) (a : Name) (len : ℕ) (block : BlockView) (get : Token Entry) : Type 0 where
  pub no_part : (part : PartValue) → HoldsPart holder a len part → ⊥
  pub staged : staged_for holder token.value ≡ Some block
  pub copied : get ≡ token

-- what is taken out of a holder for the Get of a token: an active part that covers the name and was made at a place below this
-- one, else the block
abbrev pub IsHeld : ReplicaView → Token Entry → Name → ℕ → Option Held → Type 0
IsHeld holder token a len None = HoldsNothing holder token a len
IsHeld holder token a len (Some (held.Part part)) = HoldsPart holder a len (arc_value part)
IsHeld holder token a len (Some (held.Block block get)) = HoldsBlock holder token a len (arc_value block) get

-- a part has fewer than 2^32 rows, and a block is the one that its Get accepted
abbrev pub CanSend : Shape → Held → Type 0
CanSend schema (held.Part part) = length (arc_value part).body.rows < 2 ^ 32
CanSend schema (held.Block block get) = IsAccepted schema get.value (arc_value block)

-- the part that comes of it: that part, or the block's
abbrev pub SendsPart : Shape → Held → PartValue → Type 0
SendsPart schema (held.Part part) other = other ≡ arc_value part
SendsPart schema (held.Block block get) other = IsOfBlock schema get (arc_value block) other
