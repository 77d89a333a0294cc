-- What a client knows of the tables, and its steps.
-- No public source: that a client goes on from what it has seen is this program's own.
use Rattle.std.specs.Prelude.{◌≡◌, ◌⊎◌, ◌<◌, ◌≤◌, ℕ, zero, suc, Bool, false, List, [], ◌∷◌, length, map, slice_set, slice_index_or}
use Rattle.std.specs.declared.option.Option.TheVariants.{None}
use Rattle.rmt_values.specs.Rows.{Shape}
use Rattle.rmt_entries.specs.declared.entry.Entry.{Entry}
use Rattle.rmt_model.specs.Lawful.{IsPrefix}
use Rattle.rmt_events.specs.Views.{Block}
use Rattle.rmt_table_model.specs.Held.{Held}
use Rattle.rmt_statement_model.specs.TableStates.{TableState}
use Rattle.rmt_statement_model.specs.Books.{all_clients, GainWork}
use Rattle.rmt_clients.specs.Clients.{Client, seeing, SeesHere, StepsTo}
use Rattle.rmt_known.specs.KnownTables.{Known, copy_in, client_of, new_known, seen_of, with_copy, GoesOnFromKnown}
use Rattle.rmt_shared.specs.SharedTables.{NamedTable, logs_of, IsCopyOfNamed}

-- a schema without columns, which no table has
abbrev pub no_schema : Shape
no_schema = record { columns = []; key = []; partition = None; granularity = 0; window = 0 }

-- ---- what a client knows

-- what is known is of this table, which has so many replicas, and whose log is within its limit
pub record IsKnownOf (replicas : ℕ) (name : NamedTable) (known : Known) : Type 0 where
  pub copy : IsCopyOfNamed name (copy_in known)
  pub few : length known.log ≤ 65536
  pub fetching : length known.fetching ≡ replicas
  pub marks : length known.marks ≡ replicas

-- so it is of each table
abbrev pub AreKnownOf : ℕ → List NamedTable → List Known → Type 0
AreKnownOf replicas [] [] = Unit {0}
AreKnownOf replicas (n ∷ names) (k ∷ known) = IsKnownOf replicas n k × AreKnownOf replicas names known
AreKnownOf replicas names known = ⊥

-- the logs as far as the client has seen them
abbrev pub logs_in : List Known → List (List Entry)
logs_in known = map (λ (k : Known). k.log) known

-- what a client knows: of each table what it has seen; which replicas are up, the first one first; and whether it gave up, since
-- it couldn't note an entry of its own
pub record PassView : Type 0 where
  pub tables : List Known
  pub up : List Bool
  pub gave_up : Bool

-- what is known of the table at a place
abbrev pub known_in : List Known → ℕ → Known
known_in known k = slice_index_or known k (new_known no_schema 0)

-- what the client knows of the table at a place
abbrev pub known_at : PassView → ℕ → Known
known_at p k = known_in p.tables k

-- the client of the table at a place
abbrev pub client_at : PassView → ℕ → Client
client_at p k = client_of (known_at p k)

-- whether the replica of a number is up; one that isn't there isn't
abbrev pub up_in : List Bool → ℕ → Bool
up_in up zero = false
up_in up (suc n) = slice_index_or up n false

-- what is known is of the named tables, and the client has all parts of the book, in which the entries of clients that it has
-- seen are counted unless it gave up
pub record IsPass (names : List NamedTable) (replicas all : ℕ) (p : PassView) (parts amount : ℕ) : Type 0 where
  pub known : AreKnownOf replicas names p.tables
  pub ups : length p.up ≡ replicas
  pub whole : parts ≡ all
  pub some : 0 < all
  pub counted : p.gave_up ≡ false → amount ≡ all_clients (logs_in p.tables)

-- ---- what it finds

-- each log goes on from its copy by background work alone, and the table at a place goes on from what is known of it
pub record Meets (p : PassView) (k : ℕ) (tables : List Held) : Type 0 where
  pub gained : GainWork (logs_in p.tables) (logs_of tables)
  pub table : Held
  pub is : table ≡ slice_index_or tables k table
  pub goes_on : GoesOnFromKnown (known_at p k) table

-- the log of some table is shorter than the copy of it
pub record IsShorter (copies logs : List (List Entry)) : Type 0 where
  pub table : ℕ
  pub shorter : length (slice_index_or logs table []) < length (slice_index_or copies table [])

-- why the client doesn't go on: some log is shorter than its copy, or the table at a place doesn't go on from what is known of it
abbrev pub IsUnmet : PassView → ℕ → List Held → Type 0
IsUnmet p k tables =
    IsShorter (logs_in p.tables) (logs_of tables)
    ⊎ ((table : Held) → table ≡ slice_index_or tables k table → GoesOnFromKnown (known_at p k) table → ⊥)

-- nothing changes but what is known of the table at a place, of which the schema and the count of its replicas stay
pub record KeepsPass (old : PassView) (k : ℕ) (new : PassView) : Type 0 where
  pub rest : new ≡ record old { tables = slice_set old.tables k (known_at new k); gave_up = new.gave_up }
  pub schema : (known_at new k).schema ≡ (known_at old k).schema
  pub fetching : length (known_at new k).fetching ≡ length (known_at old k).fetching
  pub marks : length (known_at new k).marks ≡ length (known_at old k).marks

-- what the client knows of the schema, the log, the next numbers and the quorum is what the table has
pub record SeesAs (p : Client) (table : Held) : Type 0 where
  pub schema : p.schema ≡ table.schema
  pub log : p.log ≡ table.log
  pub next : p.next ≡ table.next
  pub quorum : p.quorum ≡ table.quorum

-- the client has taken over what workers appended to the table, and which replicas were noted
pub record Sees (old : PassView) (k : ℕ) (table : Held) (new : PassView) : Type 0 where
  pub gained : List Entry
  pub noted : List ℕ
  pub sees : SeesHere (client_at old k) gained
  pub seen : client_at new k ≡ seeing gained noted (client_at old k)
  pub now : SeesAs (client_at new k) table
  pub keeps : KeepsPass old k new

-- it has done so at the table at a place
pub record SeesTable (old : PassView) (k : ℕ) (tables : List Held) (new : PassView) : Type 0 where
  pub there : k < length tables
  pub table : Held
  pub is : table ≡ slice_index_or tables k table
  pub all : Sees old k table new
  pub goes : new.gave_up ≡ false

-- the client knows the table at a place as it is
pub record IsCurrent (p : PassView) (k : ℕ) (tables : List Held) : Type 0 where
  pub there : k < length tables
  pub table : Held
  pub is : table ≡ slice_index_or tables k table
  pub now : SeesAs (client_at p k) table
  pub goes : p.gave_up ≡ false

-- no table but the one at a place changes
pub record KeepsOthers (old : List Held) (k : ℕ) (new : List Held) : Type 0 where
  pub table : Held
  pub rest : new ≡ slice_set old k table

-- ---- what it does

-- a step of the client at the table at a place
pub record TakesStep (Offered : ℕ → Block → Type 0) (old : PassView) (k : ℕ) (Change : TableState → TableState → Type 0) (new : PassView) : Type 0 where
  pub steps : StepsTo (Offered k) (client_at old k) Change (client_at new k)
  pub keeps : KeepsPass old k new
  pub goes : new.gave_up ≡ false

-- ---- what only private functions cite

-- what is known of the table at a place is what the table has
pub record TakesOver (old : List Known) (k : ℕ) (table : Held) (new : List Known) : Type 0 where
  pub cells : List ℕ
  pub change : new ≡ slice_set old k (seen_of table cells (known_in old k))

-- the copy of its log may have more of the table's, and nothing else changes
pub record TakesSome (old : List Known) (k : ℕ) (table : Held) (new : List Known) : Type 0 where
  pub log : List Entry
  pub cells : List ℕ
  pub longer : IsPrefix (known_in old k).log log
  pub within : IsPrefix log table.log
  pub change : new ≡ slice_set old k (with_copy log cells (known_in old k))
