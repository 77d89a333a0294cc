-- A client's WAIT MUTATION among workers, part by part. No public clause cites this module.
-- ClickHouse documentation, ALTER, "Mutations" (`mutations_sync`): a query can wait until a mutation is done. That it does the work
-- itself is this program's own.
use Rattle.std.specs.Prelude.{◌≡◌, ℕ, ◌≤◌, true, List, ◌++◌, MatchOption}
use Rattle.std.specs.declared.option.Option.{Option}
use Rattle.std.specs.declared.option.Option.TheVariants.{Some}
use Rattle.rmt_values.specs.declared.checked_mutation.CheckedMutation.{CheckedMutation}
use Rattle.rmt_entries.specs.declared.entry.Entry.{Entry}
use Rattle.rmt_entries.specs.declared.entry.Entry.TheVariants.{Mutation}
use Rattle.rmt_model.specs.Words.{Each}
use Rattle.rmt_model.specs.Lawful.{Lawful, entry_at}
use Rattle.rmt_model.specs.EntryLimits.{worker_count}
use Rattle.rmt_reply.specs.declared.refusal.Refusal.{Refusal}
use Rattle.rmt_statement_model.specs.Waits.{NonePending, MutatesOrComes}
use Rattle.rmt_clients.specs.Clients.{Client, seeing}
use Rattle.rmt_pass.specs.Passes.{PassView, client_at}
use Rattle.rmt_pass.specs.MutateSteps.{LacksEntry, MutatesNext}
use Rattle.rmt_pass.specs.declared.mutated.Mutated.{Mutated}
use Rattle.rmt_workers.specs.Crews.{Saw}

-- the client has seen the table at a place, and this became of the first part that waits for the mutation of an id
pub record MutatesSeen (old : PassView) (k id : ℕ) (m : Mutated) (new : PassView) : Type 0 where
  pub mid : PassView
  pub saw : Saw old k mid
  pub mutates : MutatesNext id m (client_at mid k) (client_at new k)

-- since the client knew the first, parts were mutated up to the mutation of an id, and workers did something: so it knows this now
pub record HasMutated (id : ℕ) (first now : Client) : Type 0 where
  pub numbers : List (Option ℕ × ℕ)
  pub command : CheckedMutation
  pub place : ℕ
  pub at : entry_at first.log place ≡ Some (Mutation id numbers command)
  pub gained : List Entry
  pub noted : List ℕ
  pub mutates : Each (MutatesOrComes true first.log place id) gained
  pub few : worker_count (gained ++ first.log) ≤ 32768
  pub lawful : Lawful first.schema (gained ++ first.log)
  pub seen : now ≡ seeing gained noted first

-- parts were mutated one after the other; at last none waits, or one entry more would pass a limit
pub record MutatesAll (old : PassView) (k id : ℕ) (refused : Option Refusal) (new : PassView) : Type 0 where
  pub since : (first : Client) → HasMutated id first (client_at old k) → HasMutated id first (client_at new k)
  pub ends : MatchOption refused (NonePending (client_at new k).log id) (LacksEntry (client_at new k) id)
