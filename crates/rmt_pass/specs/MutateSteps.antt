-- A client's WAIT MUTATION, one part: the first live part that waits for the mutation is mutated, or isn't.
-- ClickHouse documentation, ALTER, "Mutations" (`mutations_sync`): a query can wait until a mutation is done. That it does the work
-- itself is this program's own.
use Rattle.std.specs.Prelude.{◌≡◌, ℕ, ◌+◌, ◌≤◌, Bool, true, false, List, [], ◌∷◌, Result, Ok, Err}
use Rattle.std.specs.declared.option.Option.TheVariants.{Some}
use Rattle.std.specs.declared.alloc.AllocError.{AllocError}
use Rattle.rmt_values.specs.declared.limit.Limit.{Limit}
use Rattle.rmt_names.specs.Names.{Name}
use Rattle.rmt_entries.specs.declared.entry.Entry.{Entry}
use Rattle.rmt_model.specs.Words.{Has}
use Rattle.rmt_model.specs.Live.{live}
use Rattle.rmt_model.specs.Lawful.{Lawful}
use Rattle.rmt_model.specs.Choices.{last_pending}
use Rattle.rmt_model.specs.EntryLimits.{worker_count, worker_limit}
use Rattle.rmt_table_model.specs.Held.{Held}
use Rattle.rmt_table.specs.declared.mutate_error.MutateError.{MutateError}
use Rattle.rmt_table.specs.declared.mutate_error.MutateError.TheVariants as mutate
use Rattle.rmt_reply.specs.declared.refusal.Refusal.{Refusal}
use Rattle.rmt_reply.specs.declared.refusal.Refusal.TheVariants.{LimitReached}
use Rattle.rmt_statement_model.specs.Waits.{NonePending, SomePending, MutatesUpTo}
use Rattle.rmt_live_names.specs.Places.{IsPlaceOf}
use Rattle.rmt_clients.specs.Clients.{Client, seeing}
use Rattle.rmt_shared.specs.SharedTables.{AppendsMutate}
use Rattle.rmt_pass.specs.declared.mutated.Mutated.{Mutated}
use Rattle.rmt_pass.specs.declared.mutated.Mutated.TheVariants as mutated

-- the log has one entry more, which mutates a part up to the mutation of an id, and the client has seen it
pub record MutatesOneMore (id : ℕ) (old new : Client) : Type 0 where
  pub place : ℕ
  pub is_place : IsPlaceOf old.log id place
  pub entry : Entry
  pub mutates : MutatesUpTo old.log place id entry
  pub few : worker_count (entry ∷ old.log) ≤ 32768
  pub lawful : Lawful old.schema (entry ∷ old.log)
  pub seen : new ≡ seeing (entry ∷ []) [] old

-- a part waits for the mutation of an id, or for one before it, and one more entry would pass the limit that is told
pub record LacksEntry (p : Client) (id : ℕ) (refusal : Refusal) : Type 0 where
  pub waits : SomePending p.log id
  pub limit : Limit
  pub value : ℕ
  pub reached : worker_limit p.log ≡ Some (limit, value)
  pub reply : refusal ≡ LimitReached limit value

-- what becomes of the first part that waits for the mutation of an id
abbrev pub MutatesNext : ℕ → Mutated → Client → Client → Type 0
MutatesNext id mutated.Part old new = MutatesOneMore id old new
MutatesNext id mutated.NonePending old new = (new ≡ old) × NonePending old.log id
MutatesNext id (mutated.Refused why) old new = (new ≡ old) × LacksEntry old id why

-- ---- what only private functions cite

-- a mutate of a part for which a mutation up to that of an id is pending enters the log of the table at a place
pub record AppendsPending (old : List Held) (k : ℕ) (log : List Entry) (id : ℕ) (new : List Held) : Type 0 where
  pub place : ℕ
  pub is_place : IsPlaceOf log id place
  pub part : Name
  pub last : ℕ
  pub pending : last_pending log part (place + 1) ≡ Some last
  pub is_live : Has (live log) part
  pub appends : AppendsMutate old k part last new

-- such a mutate does, or no part waits, and nothing changes
abbrev pub AppendsNext : List Held → ℕ → List Entry → ℕ → Bool → List Held → Type 0
AppendsNext old k log id true new = AppendsPending old k log id new
AppendsNext old k log id false new = NonePending log id × (new ≡ old)

-- what becomes of a part that waits and wasn't mutated
abbrev pub IsLeftWaiting : MutateError → Result Mutated AllocError → Type 0
IsLeftWaiting (mutate.LogMoved seen found) r = ⊥
IsLeftWaiting (mutate.LimitReached limit value) r = r ≡ Ok (mutated.Refused (LimitReached limit value))
IsLeftWaiting mutate.Memory r = r ≡ Err record {}
