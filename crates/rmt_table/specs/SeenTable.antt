-- A table with its tree, as a cluster sees it: its locks and its open sessions as lists in order, by replica.
-- No public source: this program's own.
use Rattle.std.specs.Prelude.{◌≡◌, true, ℕ, zero, suc, ◌+◌, cond, nat_eq, List, [], ◌∷◌, ◌++◌}
use Rattle.std.specs.declared.option.Option.{Option}
use Rattle.std.specs.declared.option.Option.TheVariants.{Some, None}
use Rattle.rmt_model.specs.Window.{kept}
use Rattle.rmt_table_model.specs.Numbers.{Nexts, Holders}
use Rattle.rmt_table_model.specs.Tables.{TableView, session_of}
use Rattle.rmt_events.specs.Views.{Lock, Table}
use Rattle.rmt_events.specs.TableCalls.{precedes}

-- the replica that has the session, where k is the number of the first one; 0 where none has it
abbrev pub owner_from : ℕ → List (Option ℕ) → ℕ → ℕ
owner_from k [] s = 0
owner_from k (None ∷ os) s = owner_from (k + 1) os s
owner_from k (Some t ∷ os) s = cond (nat_eq t s) k (owner_from (k + 1) os s)

-- the replicas that have a session, where k is the number of the first one
abbrev pub opened_from : ℕ → List (Option ℕ) → List ℕ
opened_from k [] = []
opened_from k (None ∷ os) = opened_from (k + 1) os
opened_from k (Some t ∷ os) = k ∷ opened_from (k + 1) os

-- the lock of a holder
abbrev pub lock_of : List (Option ℕ) → Option ℕ → ℕ → Option ℕ → List Lock
lock_of sessions p n None = []
lock_of sessions p n (Some s) = record { partition = p; number = n; owner = owner_from 1 sessions s } ∷ []

-- the locks on the numbers of p below n
abbrev pub locks_below : Holders → List (Option ℕ) → Option ℕ → ℕ → List Lock
locks_below holders sessions p zero = []
locks_below holders sessions p (suc n) = locks_below holders sessions p n ++ lock_of sessions p n (holders p n)

-- the locks on all numbers that were given
abbrev pub locks_in : Holders → List (Option ℕ) → Nexts → List Lock
locks_in holders sessions [] = []
locks_in holders sessions (x ∷ next) = locks_below holders sessions x.0 x.1 ++ locks_in holders sessions next

-- the table that a cluster sees
abbrev pub shown : TableView → Table
shown v = record {
  schema = v.schema;
  log = v.log;
  next = v.next;
  locks = locks_in v.holders v.sessions v.next;
  window = kept v.schema.window v.log;
  sessions = opened_from 1 v.sessions;
  quorum = v.quorum;
  values = v.values;
}

-- a lock of a table, seen by replica: its holder is the session of its owner
pub record Holds (v : TableView) (k : Lock) : Type 0 where
  pub session : ℕ
  pub replica : ℕ
  pub held : v.holders k.partition k.number ≡ Some session
  pub opened : session_of v.sessions replica ≡ Some session
  pub owner : k.owner ≡ replica + 1

-- one lock stands before the other
abbrev pub Precedes : Lock → Lock → Type 0
Precedes k l = precedes k l ≡ true
