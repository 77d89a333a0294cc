-- The world that a script's statements change: its replicas and tables.
use Rattle.std.specs.Prelude.{ℕ, ◌&&◌, cond, nat_eq, nat_le, Bool, List, []}
use Rattle.rmt_values.specs.Rows.{Shape}
use Rattle.rmt_events.specs.Clusters.{Cluster}
use Rattle.rmt_statement_model.specs.TableStates.{TableState, empty_table}

-- a table: its name; its schema, log, blocks and next numbers, and what is known at each replica; and its cluster, as the events
-- of its statements made it. Where workers run there is no cluster, and the field says nothing.
pub record Table : Type 0 where
  pub name : List ℕ
  pub state : TableState
  pub cluster : Cluster

-- how many replicas there are, which of them are up, and the tables in the order in which they were created
pub record World : Type 0 where
  pub replicas : ℕ
  pub up : ℕ → Bool
  pub tables : List Table

-- so many replicas are up, numbered from 1
abbrev pub all_up : ℕ → ℕ → Bool
all_up count k = nat_le 1 k && nat_le k count

-- the replica of a number is up, or down, and the others are as they were
abbrev pub with_up : (ℕ → Bool) → ℕ → Bool → ℕ → Bool
with_up up r is_up k = cond (nat_eq r k) is_up (up k)

-- two replicas, and no table
abbrev pub start : World
start = record { replicas = 2; up = all_up 2; tables = [] }

-- a table without rows
abbrev pub new_table : List ℕ → Shape → Cluster → Table
new_table name schema cluster = record { name = name; state = empty_table schema; cluster = cluster }
