-- A table beside its tree: what is so of one at each moment.
-- ClickHouse documentation, Data Replication: a replicated table. What it has beside its tree is this program's own.
use Rattle.std.specs.Prelude.{◌≡◌, ◌⊎◌, ℕ, ◌≤◌, List, length, slice_index_or}
use Rattle.std.specs.declared.option.Option.{Option}
use Rattle.std.specs.declared.option.Option.TheVariants.{Some, None}
use Rattle.rmt_values.specs.Rows.{Shape}
use Rattle.rmt_entries.specs.declared.entry.Entry.{Entry}
use Rattle.rmt_model.specs.Words.{Has}
use Rattle.rmt_model.specs.EntryLimits.{client_count, worker_count}
use Rattle.rmt_model.specs.Lawful.{Lawful, Used, IsFresh, mutation_count}
use Rattle.rmt_table_model.specs.Numbers.{Nexts, Holders, IsLocked, IsPast, AreNexts}
use Rattle.rmt_znodes.specs.Znodes.{IsPartition}
use Rattle.rmt_model.specs.Quorum.{Quorum, IsQuorum}
use Rattle.rmt_table_model.specs.Kept.{AreKept}

-- what a table has: its schema, its log, the newest entry first, its numbers and locks, the session of each replica that
-- has one, the length that each replica has pulled, its quorum, and the values of its blocks
pub record TableView : Type 0 where
  pub schema : Shape
  pub log : List Entry
  pub next : Nexts
  pub holders : Holders
  pub sessions : List (Option ℕ)
  pub pulled : List ℕ
  pub quorum : Quorum
  pub values : ℕ

-- the session of a replica, counted from 0; none where it has none
abbrev pub session_of : List (Option ℕ) → ℕ → Option ℕ
session_of sessions r = slice_index_or sessions r None

-- each replica's session is its own
abbrev pub AreOwn : List (Option ℕ) → Type 0
AreOwn sessions = (r t s : ℕ) → session_of sessions r ≡ Some s → session_of sessions t ≡ Some s → r ≡ t

-- the session is a replica's
abbrev pub IsOpen : List (Option ℕ) → ℕ → Type 0
IsOpen sessions s = (r : ℕ) × (session_of sessions r ≡ Some s)

-- no count is above its limit
pub record IsWithin (v : TableView) : Type 0 where
  pub partitions : length v.next ≤ 1024
  pub numbers : (p : Option ℕ) (m : ℕ) → Has v.next (p, m) → m ≤ 65536
  pub mutations : mutation_count v.log ≤ 1024
  pub client_entries : client_count v.log ≤ 32768
  pub worker_entries : worker_count v.log ≤ 32768
  pub values : v.values ≤ 8388608

-- the log is lawful; a number that is used or locked is one that its partition has given; a lock's number is free for its
-- block, and its session is open; the quorum is that of the log, and kept blocks differ; and no count is above its limit
pub record IsSound (v : TableView) : Type 0 where
  pub lawful : Lawful v.schema v.log
  pub nexts : AreNexts v.next
  pub given : (p : Option ℕ) (n : ℕ) → Used v.log p n ⊎ IsLocked v.holders p n → IsPast v.next p n
  pub free : (p : Option ℕ) (n : ℕ) → IsLocked v.holders p n → IsFresh v.log p n
  pub held : (p : Option ℕ) (n s : ℕ) → v.holders p n ≡ Some s → IsOpen v.sessions s
  pub own : AreOwn v.sessions
  pub pulled : (r : ℕ) → slice_index_or v.pulled r 0 ≤ length v.log
  pub quorum : IsQuorum v.log v.quorum
  pub kept : AreKept v.schema.window v.log
  pub partitions : (p : Option ℕ) (m : ℕ) → Has v.next (p, m) → IsPartition p
  pub within : IsWithin v
