-- The state of a table that statements change: its log, the blocks that were accepted, the next block numbers, its quorum, and
-- which entries of the log are known at each replica.
-- ClickHouse documentation, Data Replication: a block that a replica accepts becomes an entry of the table's log; another
-- replica has it once it has done that entry.
use Rattle.std.specs.Prelude.{ℕ, ◌&&◌, ◌||◌, Bool, true, false, cond, nat_eq, nat_lt, List, [], ◌∷◌, length}
use Rattle.std.specs.List.{list_any}
use Rattle.std.specs.Option.{option_and_then}
use Rattle.std.specs.declared.option.Option.{Option}
use Rattle.std.specs.declared.option.Option.TheVariants.{Some, None}
use Rattle.rmt_values.specs.Rows.{Shape}
use Rattle.rmt_names.specs.Names.{Name, covers}
use Rattle.rmt_entries.specs.declared.entry.Entry.{Entry}
use Rattle.rmt_entries.specs.Entries.{result_name}
use Rattle.rmt_granules.specs.Granules.{PartView}
use Rattle.rmt_granules.specs.MadePart.{data_of}
use Rattle.rmt_model.specs.Content.{Row, content, rows}
use Rattle.rmt_model.specs.Lawful.{entry_at}
use Rattle.rmt_model.specs.Quorum.{Quorum, quorum_after_note}
use Rattle.rmt_model.specs.Window.{kept}
use Rattle.rmt_events.specs.Views.{Block}
use Rattle.rmt_events.specs.TableCalls.{kept_part}
use Rattle.rmt_events.specs.Clusters.{Accepted, rows_at}

-- a table: its schema, its log and the accepted blocks, both newest first, the next number of each partition that exists,
-- the part that waits for its quorum and the last one whose quorum was met, and for each replica, by its number, whether it may
-- fetch, and the places of the log that are known there
pub record TableState : Type 0 where
  pub schema : Shape
  pub log : List Entry
  pub blocks : List Accepted
  pub next : List (Option ℕ × ℕ)
  pub quorum : Quorum
  pub fetching : ℕ → Bool
  pub known : ℕ → ℕ → Bool

-- a table without rows
abbrev pub empty_table : Shape → TableState
empty_table schema = record { schema = schema; log = []; blocks = []; next = []; quorum = record { pending = None; last = None }; fetching = λ r. true; known = λ r i. false }

-- with one more place known at a replica
abbrev pub learned : (ℕ → ℕ → Bool) → ℕ → ℕ → ℕ → ℕ → Bool
learned known r i s j = (nat_eq s r && nat_eq j i) || known s j

-- with every place below a length known at a replica
abbrev pub learned_to : (ℕ → ℕ → Bool) → ℕ → ℕ → ℕ → ℕ → Bool
learned_to known r len s j = (nat_eq s r && nat_lt j len) || known s j

-- the table with one more entry, whose place is known at a replica
abbrev pub gains_at : ℕ → Entry → TableState → TableState
gains_at r e t = record t { log = e ∷ t.log; known = learned t.known r (length t.log) }

-- the table, every place of its log known at a replica, which is noted where a part waits for its quorum
abbrev pub synced : ℕ → TableState → TableState
synced r t = record t { known = learned_to t.known r (length t.log); quorum = quorum_after_note r t.quorum }

-- the table, a replica of which may fetch from now on, or not
abbrev pub with_switch : TableState → ℕ → Bool → TableState
with_switch t r allowed = record t { fetching = λ k. cond (nat_eq r k) allowed (t.fetching k) }

-- one of the names covers this one, where there is one
abbrev pub covered_by : List Name → Option Name → Bool
covered_by names None = false
covered_by names (Some a) = list_any (λ b. covers b a) names

-- one of the names covers what the entry at a place of the log makes
abbrev pub is_shown : List Entry → List Name → ℕ → Bool
is_shown log names i = covered_by names (option_and_then result_name (entry_at log i))

-- with every place known at a replica whose result one of the names covers
abbrev pub learned_shown : List Entry → List Name → (ℕ → ℕ → Bool) → ℕ → ℕ → ℕ → Bool
learned_shown log names known r s j = (nat_eq s r && is_shown log names j) || known s j

-- the table, where a replica has shown parts of these names: what they hold is known there from then on
abbrev pub shown_at : ℕ → List Name → TableState → TableState
shown_at r names t = record t { known = learned_shown t.log names t.known r }

-- the part that a block's id is kept with, among those of the last accepted blocks
abbrev pub kept_with : TableState → Block → Option Name
kept_with t b = kept_part (kept t.schema.window t.log) b.partition b.digest

-- the rows of the accepted blocks, each counted once, with every mutation applied to the blocks of lower number, and without
-- the blocks that a drop takes away
abbrev pub plain_rows : TableState → List Row
plain_rows t = rows t.log (rows_at t.blocks)

-- the part of this name: the content of the name, in granules
abbrev pub data_at : TableState → Name → PartView
data_at t a = data_of t.schema (content t.schema t.log (rows_at t.blocks) a)
