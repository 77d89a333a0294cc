-- A replica is brought up to date, or lacks a part whose source is lost.
-- ClickHouse documentation, Data Replication: a replica that lacks a part fetches it from another one that has it; SYSTEM, "SYNC
-- REPLICA". That a statement is refused where no replica that is up has the part is this program's own.
use Rattle.std.specs.Prelude.{◌≡◌, ℕ, Bool, true, false, List}
use Rattle.std.specs.declared.option.Option.{Option}
use Rattle.std.specs.declared.option.Option.TheVariants.{Some}
use Rattle.rmt_names.specs.Names.{block_name}
use Rattle.rmt_entries.specs.declared.entry.Entry.TheVariants.{Get}
use Rattle.rmt_model.specs.Lawful.{entry_at}
use Rattle.rmt_model.specs.Live.{Dropped}
use Rattle.rmt_reply.specs.declared.refusal.Refusal.{Refusal}
use Rattle.rmt_reply.specs.declared.refusal.Refusal.TheVariants.{NoSource}
use Rattle.rmt_statement_model.specs.TableStates.{TableState, learned_to}

-- the replica lacks the part of a Get that isn't dropped, whose source is down; the Get is known neither there nor at any replica
-- that is up. What stands before it in the log is known at the replica then, and nothing else changes
pub record LacksSource (up : ℕ → Bool) (t : TableState) (r : ℕ) (refusal : Refusal) (u : TableState) : Type 0 where
  pub place : ℕ
  pub partition : Option ℕ
  pub number : ℕ
  pub digest : List ℕ
  pub source : ℕ
  pub need : ℕ
  pub entry : entry_at t.log place ≡ Some (Get partition number digest source need)
  pub kept : Dropped t.log (block_name partition number) → ⊥
  pub down : up source ≡ false
  pub unknown : t.known r place ≡ false
  pub nowhere : (k : ℕ) → up k ≡ true → t.known k place ≡ false
  pub reply : refusal ≡ NoSource (block_name partition number) source
  pub change : u ≡ record t { known = learned_to t.known r place }
