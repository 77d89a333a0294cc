-- WAIT MUTATION: every live part is brought to a mutation.
-- ClickHouse documentation, ALTER, "Mutations" (`mutations_sync`): a query can wait until a mutation is done. That it does the work
-- itself is this program's own.
use Rattle.std.specs.Prelude.{◌≡◌, ◌⊎◌, ℕ, ◌<◌, ◌≤◌, Bool, true, List, [], ◌++◌}
use Rattle.std.specs.declared.option.Option.{Option}
use Rattle.std.specs.declared.option.Option.TheVariants.{Some}
use Rattle.rmt_values.specs.declared.checked_mutation.CheckedMutation.{CheckedMutation}
use Rattle.rmt_values.specs.declared.limit.Limit.{Limit}
use Rattle.rmt_names.specs.Names.{Name, data_version}
use Rattle.rmt_entries.specs.declared.entry.Entry.{Entry}
use Rattle.rmt_entries.specs.declared.entry.Entry.TheVariants.{Get, Merge, Mutate, Mutation, DropRange}
use Rattle.rmt_model.specs.Words.{Has, Each}
use Rattle.rmt_model.specs.Live.{live}
use Rattle.rmt_model.specs.Lawful.{Lawful, entry_at}
use Rattle.rmt_model.specs.EntryLimits.{worker_limit}
use Rattle.rmt_reply.specs.declared.refusal.Refusal.{Refusal}
use Rattle.rmt_reply.specs.declared.refusal.Refusal.TheVariants.{LimitReached}
use Rattle.rmt_statement_model.specs.TableStates.{TableState, synced}
use Rattle.rmt_statement_model.specs.BackgroundWork.{HadRoom, quorum_after_notes}
use Rattle.rmt_statement_model.specs.Rests.{Rests, MayCome}

-- no mutation with an id up to this one has a number above the data version of the name
abbrev pub IsCarried : List Entry → ℕ → Name → Type 0
IsCarried log id a = (k n : ℕ) (numbers : List (Option ℕ × ℕ)) (command : CheckedMutation) → Has log (Mutation k numbers command) → k ≤ id → Has numbers (a.partition, n) → n ≤ data_version a

-- nor of any live name
abbrev pub NonePending : List Entry → ℕ → Type 0
NonePending log id = (a : Name) → Has (live log) a → IsCarried log id a

-- a mutation with an id up to this one has a number above the data version of a live name
pub record SomePending (log : List Entry) (id : ℕ) : Type 0 where
  pub mutation : ℕ
  pub number : ℕ
  pub numbers : List (Option ℕ × ℕ)
  pub command : CheckedMutation
  pub name : Name
  pub is_there : Has log (Mutation mutation numbers command)
  pub up_to : mutation ≤ id
  pub is_live : Has (live log) name
  pub numbered : Has numbers (name.partition, number)
  pub above : data_version name < number

-- the entry mutates a part up to a mutation that isn't past this place, and so that none up to the id is pending any more: each
-- part has one such entry at most
abbrev pub MutatesUpTo : List Entry → ℕ → ℕ → Entry → Type 0
MutatesUpTo log place id (Mutate old name upto count mcount) = (upto ≤ place) × IsCarried log id name
MutatesUpTo log place id (Merge name sources count) = ⊥
MutatesUpTo log place id (Get p n digest source need) = ⊥
MutatesUpTo log place id (Mutation k numbers command) = ⊥
MutatesUpTo log place id (DropRange p n) = ⊥

-- an entry of WAIT MUTATION, or one that may come in between
abbrev pub MutatesOrComes : Bool → List Entry → ℕ → ℕ → Entry → Type 0
MutatesOrComes workers log place id e = MutatesUpTo log place id e ⊎ MayCome workers e

-- parts are mutated up to the mutation of an id, within the limit of worker entries; where workers run, entries of theirs may come
-- in between, and replicas may be noted
pub record MutatesParts (workers : Bool) (t : TableState) (id : ℕ) (u : TableState) : Type 0 where
  pub numbers : List (Option ℕ × ℕ)
  pub command : CheckedMutation
  pub place : ℕ
  pub at : entry_at t.log place ≡ Some (Mutation id numbers command)
  pub gained : List Entry
  pub mutates : Each (MutatesOrComes workers t.log place id) gained
  pub room : HadRoom gained t.log
  pub lawful : Lawful t.schema (gained ++ t.log)
  pub noted : List ℕ
  pub by_workers : (noted ≡ []) ⊎ (workers ≡ true)
  pub change : u ≡ record t { log = gained ++ t.log; quorum = quorum_after_notes noted t.quorum }

-- no part waits for the mutation, or for one before it, at some length of the log; the replica is brought up to date before and
-- after
pub record WaitsFor (workers : Bool) (t : TableState) (r id : ℕ) (u : TableState) : Type 0 where
  pub mid : TableState
  pub mutates : MutatesParts workers t id mid
  pub carried : NonePending mid.log id
  pub end : TableState
  pub rests : Rests workers mid end
  pub change : u ≡ synced r end

-- a part waits still, and one more entry would pass a limit; what was mutated stays so, and the replica is up to date
pub record LacksEntries (workers : Bool) (t : TableState) (r id : ℕ) (refusal : Refusal) (u : TableState) : Type 0 where
  pub mid : TableState
  pub mutates : MutatesParts workers t id mid
  pub waits : SomePending mid.log id
  pub limit : Limit
  pub value : ℕ
  pub reached : worker_limit mid.log ≡ Some (limit, value)
  pub reply : refusal ≡ LimitReached limit value
  pub end : TableState
  pub rests : Rests workers mid end
  pub change : u ≡ synced r end
