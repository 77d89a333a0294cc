-- What a replica answers when an entry is to be done, why, and what changes.
-- ClickHouse documentation, Data Replication: a part that exists already or was dropped is not made again; a missing part is
-- fetched from another replica.
use Rattle.std.specs.Prelude.{◌≡◌, ◌⊎◌, ◌&&◌, ℕ, ◌<◌, Bool, true, false, List, not, filter, length, slice_set, MatchOption, IfSome}
use Rattle.std.specs.declared.option.Option.{Option}
use Rattle.std.specs.declared.option.Option.TheVariants.{Some, None}
use Rattle.std.specs.declared.result.Result.{Result}
use Rattle.std.specs.declared.result.Result.TheVariants.{Ok, Err}
use Rattle.rmt_names.specs.Names.{Name, Covers, block_name}
use Rattle.rmt_entries.specs.declared.entry.Entry.{Entry}
use Rattle.rmt_entries.specs.declared.entry.Entry.TheVariants.{Get, Merge, Mutate, Mutation, DropRange}
use Rattle.rmt_model.specs.Words.{Has, Each}
use Rattle.rmt_model.specs.Live.{in_drop}
use Rattle.rmt_model.specs.Lawful.{entry_at, MakesAt}
use Rattle.rmt_model.specs.EntryStates.{IsDroppedEntry}
use Rattle.rmt_model.specs.EntryStates as entries
use Rattle.rmt_queue.specs.Marks.{done_at}
use Rattle.rmt_replica.specs.declared.supply.Supply.{Supply}
use Rattle.rmt_replica.specs.Supplies.{supplied, is_fetched}
use Rattle.rmt_events.specs.declared.applied.Applied.{Applied}
use Rattle.rmt_events.specs.declared.applied.Applied.TheVariants as applied
use Rattle.rmt_replica.specs.declared.apply_error.ApplyError.{ApplyError}
use Rattle.rmt_replica.specs.declared.apply_error.ApplyError.TheVariants as errors
use Rattle.rmt_replica.specs.declared.entry_state.EntryState.{EntryState}
use Rattle.rmt_replica.specs.declared.entry_state.EntryState.TheVariants as states
use Rattle.rmt_replica.specs.declared.why.Why.{Why}
use Rattle.rmt_replica.specs.declared.why.Why.TheVariants as whys
use Rattle.rmt_part.specs.Lineages.{PartValue}
use Rattle.rmt_part.specs.Lineages as parts
use Rattle.rmt_partset.specs.ActiveParts.{Replace, Drop, after, part_names}
use Rattle.rmt_replica.specs.Parts.{IsMadeIn}
use Rattle.rmt_events.specs.ApplyEvents.{IsFirstInactive}
use Rattle.rmt_replica.specs.StagedBlocks.{Staged, staged_at, without}
use Rattle.rmt_replica.specs.Replicas.{ReplicaView}

-- ---- how an entry stands

-- nothing is left to do: the entry is done, a Mutation, or covered
abbrev pub IsAlready : ReplicaView → ℕ → Type 0
IsAlready r i = entries.IsAlready r.log (done_at r.done) (part_names r.parts) i

-- the entry is neither that nor dropped
abbrev pub Waits : ReplicaView → ℕ → Type 0
Waits r i = entries.Waits r.log (done_at r.done) (part_names r.parts) i

-- ---- supplies

-- the part is of the replica's table
pub record IsOfTable (r : ReplicaView) (part : PartValue) : Type 0 where
  pub of_schema : part.schema ≡ r.schema
  pub agrees : parts.IsOfTable r.log part

-- whether a fetched part is supplied while fetches are stopped
abbrev pub is_stopped : ReplicaView → Supply → Bool
is_stopped r supply = is_fetched supply && not r.fetches

-- the part that is supplied covers the name and was made within the copy
pub record Serves (r : ReplicaView) (a : Name) (supply : Supply) : Type 0 where
  pub part : PartValue
  pub given : supplied supply ≡ Some part
  pub covers : Covers part.name a
  pub within : part.made.place < length r.log

-- the entry is a drop, or makes a name that is supplied
abbrev pub CanBeDone : ReplicaView → ℕ → Supply → Type 0
CanBeDone r i supply = ((p : Option ℕ) × (n : ℕ) × (entry_at r.log i ≡ Some (DropRange p n))) ⊎ ((a : Name) × MakesAt r.log i a × Serves r a supply)

-- ---- apply

-- each answer and its cause; out of memory is free where the replica is up
abbrev pub IsAnswer : ReplicaView → ℕ → Supply → Result Applied ApplyError → Type 0
IsAnswer r i supply (Err errors.Down) = r.up ≡ false
IsAnswer r i supply (Err errors.Memory) = r.up ≡ true
IsAnswer r i supply (Ok applied.Already) = (r.up ≡ true) × IsAlready r i
IsAnswer r i supply (Ok applied.Dropped) = (r.up ≡ true) × (IsAlready r i → ⊥) × IsDroppedEntry r.log i
IsAnswer r i supply (Ok applied.Installed) = (r.up ≡ true) × Waits r i × (is_stopped r supply ≡ false) × CanBeDone r i supply
IsAnswer r i supply (Err errors.FetchesStopped) = (r.up ≡ true) × Waits r i × (is_stopped r supply ≡ true)
IsAnswer r i supply (Err (errors.NeedsPart a)) = (r.up ≡ true) × Waits r i × (is_stopped r supply ≡ false) × MakesAt r.log i a × (Serves r a supply → ⊥)

-- what is staged once the entry is done: without the block of its Get
abbrev pub released : Option Entry → Staged → Staged
released None staged = staged
released (Some (Get p n digest source need)) staged = without staged (record { partition = p; number = n })
released (Some (Merge new sources count)) staged = staged
released (Some (Mutate old new upto count mcount)) staged = staged
released (Some (Mutation id numbers command)) staged = staged
released (Some (DropRange p n)) staged = staged

-- the entry is marked as done
abbrev pub settled : ReplicaView → ℕ → ReplicaView
settled r i = record r { done = slice_set r.done i true; staged = released (entry_at r.log i) r.staged }

-- the active parts with the one that was supplied
abbrev pub InstallsSupplied : ReplicaView → Supply → List PartValue → Type 0
InstallsSupplied r supply new = MatchOption (supplied supply) ⊥ (λ part. new ≡ after (Replace part) r.parts)

-- the parts after the entry at a place was done: a drop takes its parts away that were made before it, and an entry that
-- makes a part has the one that was supplied
abbrev pub PartsAfter : Option Entry → ReplicaView → ℕ → Supply → List PartValue → Type 0
PartsAfter None r i supply new = ⊥
PartsAfter (Some (DropRange p n)) r i supply new = new ≡ after (Drop p n i) r.parts
PartsAfter (Some (Get p n digest source need)) r i supply new = InstallsSupplied r supply new
PartsAfter (Some (Merge name sources count)) r i supply new = InstallsSupplied r supply new
PartsAfter (Some (Mutate old name upto count mcount)) r i supply new = InstallsSupplied r supply new
PartsAfter (Some (Mutation id numbers command)) r i supply new = ⊥

-- the entry was done by what was supplied: nothing changes but its mark, what was staged for it, and the parts
pub record IsDoneBy (old : ReplicaView) (i : ℕ) (supply : Supply) (new : ReplicaView) : Type 0 where
  pub others : new ≡ record (settled old i) { parts = new.parts }
  pub parts : PartsAfter (entry_at old.log i) old i supply new.parts

-- what an answer of apply changes
abbrev pub IsChange : ReplicaView → ℕ → Supply → Result Applied ApplyError → ReplicaView → Type 0
IsChange old i supply (Err e) new = new ≡ old
IsChange old i supply (Ok applied.Already) new = new ≡ settled old i
IsChange old i supply (Ok applied.Dropped) new = new ≡ settled old i
IsChange old i supply (Ok applied.Installed) new = IsDoneBy old i supply new

-- ---- why

-- what the entry needs is here
abbrev pub IsReady : ReplicaView → Entry → Type 0
IsReady r (Get p n digest source need) = (staged_at r.staged (record { partition = p; number = n }) ≡ None) → ⊥
IsReady r (Merge new sources count) = Each (Has (part_names r.parts)) sources
IsReady r (Mutate old new upto count mcount) = Has (part_names r.parts) old
IsReady r (Mutation id numbers command) = Unit {0}
IsReady r (DropRange p n) = Unit {0}

-- the first part that it needs and that isn't here
abbrev pub Lacks : ReplicaView → Entry → Name → Type 0
Lacks r (Get p n digest source need) a = (staged_at r.staged (record { partition = p; number = n }) ≡ None) × (a ≡ block_name p n)
Lacks r (Merge new sources count) a = IsFirstInactive sources (part_names r.parts) a
Lacks r (Mutate old new upto count mcount) a = (a ≡ old) × (Has (part_names r.parts) old → ⊥)
Lacks r (Mutation id numbers command) a = ⊥
Lacks r (DropRange p n) a = ⊥

-- what an entry waits for, and why
abbrev pub IsWhy : ReplicaView → ℕ → Why → Type 0
IsWhy r i whys.Covered = IsAlready r i
IsWhy r i whys.Dropped = (IsAlready r i → ⊥) × IsDroppedEntry r.log i
IsWhy r i whys.Ready = Waits r i × IfSome (entry_at r.log i) (IsReady r)
IsWhy r i (whys.NeedsPart a) = Waits r i × IfSome (entry_at r.log i) (λ e. Lacks r e a)

-- how an entry stands
abbrev pub IsEntryState : ReplicaView → ℕ → EntryState → Type 0
IsEntryState r i states.Already = IsAlready r i
IsEntryState r i states.Dropped = (IsAlready r i → ⊥) × IsDroppedEntry r.log i
IsEntryState r i (states.Drops p n) = Waits r i × (entry_at r.log i ≡ Some (DropRange p n))
IsEntryState r i (states.Waits a) = Waits r i × MakesAt r.log i a

-- an entry that makes no part is a Mutation, or a drop
abbrev pub IsEntryStateWithout : Entry → EntryState → Type 0
IsEntryStateWithout (Mutation id numbers command) state = state ≡ states.Already
IsEntryStateWithout (DropRange p n) state = state ≡ states.Drops p n
IsEntryStateWithout (Get p n digest source need) state = ⊥
IsEntryStateWithout (Merge new sources count) state = ⊥
IsEntryStateWithout (Mutate old new upto count mcount) state = ⊥

-- the entry is a drop, and no active part is in its range
pub record IsEmptied (r : ReplicaView) (i : ℕ) : Type 0 where
  pub partition : Option ℕ
  pub number : ℕ
  pub entry : entry_at r.log i ≡ Some (DropRange partition number)
  pub empty : filter (λ a. not (in_drop partition number a)) (part_names r.parts) ≡ part_names r.parts

-- the entry may be marked as done
abbrev pub CanSettle : ReplicaView → ℕ → Type 0
CanSettle r i = IsAlready r i ⊎ (IsDroppedEntry r.log i ⊎ IsEmptied r i)

-- a part that was made within the copy and covers what the entry makes, where no active part does and no drop takes it away
pub record CanInstall (r : ReplicaView) (i : ℕ) (a : Name) (part : PartValue) : Type 0 where
  pub waits : Waits r i
  pub makes : MakesAt r.log i a
  pub covers : Covers part.name a
  pub made : IsMadeIn r.schema r.log part
