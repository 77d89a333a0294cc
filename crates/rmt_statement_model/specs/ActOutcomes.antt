-- What acts come to in a table, or why they are refused.
-- ClickHouse documentation: SYSTEM, "SYNC REPLICA"; ALTER; SELECT. The rows that are cited have theirs.
use Rattle.std.specs.Prelude.{◌≡◌, ◌⊎◌, ℕ, Bool, List}
use Rattle.std.specs.declared.option.Option.{Option}
use Rattle.std.specs.declared.option.Option.TheVariants.{Some, None}
use Rattle.std.specs.declared.result.Result.{Result}
use Rattle.std.specs.declared.result.Result.TheVariants.{Ok, Err}
use Rattle.rmt_values.specs.declared.checked_mutation.CheckedMutation.{CheckedMutation}
use Rattle.rmt_partset.specs.Snapshots.{NamedData, names_in}
use Rattle.rmt_reply.specs.declared.refusal.Refusal.{Refusal}
use Rattle.rmt_statement_model.specs.TableStates.{TableState, synced, shown_at}
use Rattle.rmt_statement_model.specs.Reads.{IsReading, IsSequentialReading, LacksLast}
use Rattle.rmt_statement_model.specs.LostSources.{LacksSource}
use Rattle.rmt_statement_model.specs.Mutations.{Mutates, LacksMutation}
use Rattle.rmt_statement_model.specs.Drops.{Drops, DropsNothing, LacksDrop}
use Rattle.rmt_statement_model.specs.Waits.{WaitsFor, LacksEntries}

-- the replica is up to date, or lacks a part
abbrev pub SyncsOr : (ℕ → Bool) → ℕ → Option Refusal → TableState → TableState → Type 0
SyncsOr up r None t u = u ≡ synced r t
SyncsOr up r (Some refusal) t u = LacksSource up t r refusal u

-- a mutation of this id is made, or refused
abbrev pub MutatesOr : CheckedMutation → Result ℕ Refusal → TableState → TableState → Type 0
MutatesOr command (Ok id) t u = Mutates t command id u
MutatesOr command (Err refusal) t u = LacksMutation t refusal u

-- a drop of a partition that exists, or of one that doesn't
abbrev pub DropsSome : TableState → ℕ → Option ℕ → ℕ → TableState → Type 0
DropsSome t r p below u = Drops t r p below u ⊎ DropsNothing t p below u

-- the blocks of a partition below this number are dropped, or the drop is refused
abbrev pub DropsOr : ℕ → Option ℕ → Result ℕ Refusal → TableState → TableState → Type 0
DropsOr r p (Ok below) t u = DropsSome t r p below u
DropsOr r p (Err refusal) t u = LacksDrop t p refusal u

-- no part waits for the mutation of this id any more; or the replica lacks a part, or one entry more would pass a limit
abbrev pub WaitsOr : Bool → (ℕ → Bool) → ℕ → ℕ → Option Refusal → TableState → TableState → Type 0
WaitsOr workers up r id None t u = WaitsFor workers t r id u
WaitsOr workers up r id (Some refusal) t u = LacksSource up t r refusal u ⊎ LacksEntries workers t r id refusal u

-- parts are read at the replica, and what they hold is known there then
pub record ReadsParts (r : ℕ) (parts : List NamedData) (t u : TableState) : Type 0 where
  pub reading : IsReading t r parts
  pub change : u ≡ shown_at r (names_in parts) t

-- the same of those that are in a quorum
pub record ReadsInQuorum (r : ℕ) (parts : List NamedData) (t u : TableState) : Type 0 where
  pub reading : IsSequentialReading t r parts
  pub change : u ≡ shown_at r (names_in parts) t

-- or none of them covers the last part whose quorum was met, and nothing changes
pub record MeetsNone (r : ℕ) (refusal : Refusal) (t u : TableState) : Type 0 where
  pub lacks : LacksLast t r refusal
  pub unchanged : u ≡ t

-- parts that are in a quorum are read, or none are
abbrev pub ReadsQuorum : ℕ → Result (List NamedData) Refusal → TableState → TableState → Type 0
ReadsQuorum r (Ok parts) t u = ReadsInQuorum r parts t u
ReadsQuorum r (Err refusal) t u = MeetsNone r refusal t u
