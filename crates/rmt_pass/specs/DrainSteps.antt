-- A client's steps once a replica was brought up to date, or can't be, once copies were made for a quorum, and once replicas are switched.
-- ClickHouse documentation: SYSTEM, "SYNC REPLICA"; settings, `insert_quorum`. When a part counts as lost is this program's own.
use Rattle.std.specs.Prelude.{◌≡◌, ◌≢◌, ℕ, Bool, true, false, List, length}
use Rattle.std.specs.declared.option.Option.{Option}
use Rattle.std.specs.declared.option.Option.TheVariants.{Some}
use Rattle.rmt_names.specs.Names.{block_name}
use Rattle.rmt_entries.specs.declared.entry.Entry.{Entry}
use Rattle.rmt_entries.specs.declared.entry.Entry.TheVariants.{Get}
use Rattle.rmt_model.specs.Words.{Has}
use Rattle.rmt_model.specs.Lawful.{entry_at}
use Rattle.rmt_model.specs.Live.{Dropped}
use Rattle.rmt_model.specs.Quorum.{quorum_after_note}
use Rattle.rmt_table_model.specs.Held.{Held}
use Rattle.rmt_table.specs.TableTrees.{table_at}
use Rattle.rmt_statement_model.specs.TableStates.{TableState, learned as learned_at, learned_to}
use Rattle.rmt_clients.specs.Clients.{Client}
use Rattle.rmt_pass.specs.declared.learned.Learned.{Learned}
use Rattle.rmt_pass.specs.declared.learned.Learned.TheVariants as learned
use Rattle.rmt_pass.specs.declared.lost_part.LostPart.{LostPart}

-- a Get that isn't dropped is at this place of the log
pub record IsGetAt (log : List Entry) (place : ℕ) : Type 0 where
  pub partition : Option ℕ
  pub number : ℕ
  pub digest : List ℕ
  pub source : ℕ
  pub need : ℕ
  pub entry : entry_at log place ≡ Some (Get partition number digest source need)
  pub stays : Dropped log (block_name partition number) → ⊥

-- the Get at a place is lost to a replica, for what the client knows: it isn't dropped, its source is down, and the place is known
-- neither at the replica nor at any that is up
pub record IsLostAt (up : ℕ → Bool) (p : Client) (r place : ℕ) : Type 0 where
  pub get : IsGetAt p.log place
  pub down : up get.source ≡ false
  pub unknown : p.known r place ≡ false
  pub nowhere : (k : ℕ) → up k ≡ true → p.known k place ≡ false

-- ---- what only private functions cite

-- the part of a Get, and its source
abbrev pub part_of : (log : List Entry) (place : ℕ) → IsGetAt log place → LostPart
part_of log place get = record { part = block_name get.partition get.number; source = get.source }

-- this is the part of the Get at a place, which isn't dropped
pub record IsPartOf (log : List Entry) (place : ℕ) (part : LostPart) : Type 0 where
  pub get : IsGetAt log place
  pub is : part ≡ part_of log place get

-- this is the part of the Get at a place, which is lost to a replica
pub record IsLostPart (up : ℕ → Bool) (p : Client) (r place : ℕ) (part : LostPart) : Type 0 where
  pub lost : IsLostAt up p r place
  pub is : part ≡ part_of p.log place lost.get

-- what is known at a replica that is noted, in a log of this length
abbrev pub known_with : Learned → ℕ → (ℕ → ℕ → Bool) → ℕ → ℕ → ℕ → Bool
known_with learned.Nothing r known len = known
known_with learned.All r known len = learned_to known r len
known_with (learned.Place i) r known len = learned_at known r i

-- the table, a replica noted for the part that waits, and what else is known at it
abbrev pub noted_with : Learned → ℕ → TableState → TableState
noted_with l r t = record t { known = known_with l r t.known (length t.log); quorum = quorum_after_note r t.quorum }

-- a replica has a session in the table, or has none
abbrev pub HasSession : Held → ℕ → Bool → Type 0
HasSession t r true = Has (table_at t).sessions r
HasSession t r false = Has (table_at t).sessions r → ⊥

-- so it is of a replica now; of the others it is as before, and nothing changes that a client knows of the table
pub record SetsSession (old : Held) (r : ℕ) (is_up : Bool) (new : Held) : Type 0 where
  pub this : HasSession new r is_up
  pub others : (k : ℕ) (b : Bool) → k ≢ r → HasSession old k b → HasSession new k b
  pub schema : new.schema ≡ old.schema
  pub log : new.log ≡ old.log
  pub next : new.next ≡ old.next
  pub quorum : new.quorum ≡ old.quorum
