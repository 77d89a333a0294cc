-- What lies under the lock of all tables, and what the types of locks name of it.
-- No public source: the locks are this program's own.
use Rattle.std.specs.Prelude.{◌≡◌, ◌<◌, ◌⊎◌, ℕ, suc, List, [], ◌∷◌, length, map, slice_index_or, slice_set}
use Rattle.std.specs.declared.option.Option.TheVariants.{None}
use Rattle.rmt_values.specs.Rows.{Shape}
use Rattle.rmt_names.specs.Names.{Name}
use Rattle.rmt_entries.specs.declared.entry.Entry.{Entry}
use Rattle.rmt_model.specs.Words.{Each}
use Rattle.rmt_events.specs.Views.{Block, Table}
use Rattle.rmt_events.specs.Clusters.{Accepted, values_in}
use Rattle.rmt_events.specs.LogEvents.{AreMergeable, IsMutable}
use Rattle.rmt_events.specs.TableCalls.{AssignsMerge, AssignsMutate}
use Rattle.rmt_events.specs.TableRefusals.{NotMerged, NotMutated}
use Rattle.rmt_history.specs.Copies.{History, IsLogOf}
use Rattle.rmt_events.specs.declared.step_refused.StepRefused.{StepRefused}
use Rattle.rmt_table_model.specs.Held.{Held}
use Rattle.rmt_table.specs.TableTrees.{table_at}
use Rattle.rmt_statement_model.specs.Books.{all_clients}
use Rattle.rmt_clients.specs.Clients.{AreAccepted}

-- what stays of a table for good: its schema, and the names of the cells of its log
pub record NamedTable : Type 0 where
  pub schema : Shape
  pub row : List ℕ

-- what stays of this table
abbrev pub named : Held → NamedTable
named h = record { schema = h.schema; row = h.row }

-- the names of the table at a place
abbrev pub name_at : List NamedTable → ℕ → NamedTable
name_at names k = slice_index_or names k (record { schema = record { columns = []; key = []; partition = None; granularity = 0; window = 0 }; row = [] })

-- the copy is of the log of this table
pub record IsCopyOfNamed (name : NamedTable) (copy : History) : Type 0 where
  pub schema : copy.schema ≡ name.schema
  pub row : IsLogOf name.row copy

-- the tables as events see them
abbrev pub views_of : List Held → List Table
views_of tables = map table_at tables

-- the logs of tables, each with its newest entry first
abbrev pub logs_of : List Held → List (List Entry)
logs_of tables = map (λ (h : Held). h.log) tables

-- the log of the table at a place
abbrev pub log_in : List Held → ℕ → List Entry
log_in tables k = slice_index_or (logs_of tables) k []

-- the accepted blocks of a table are offered ones, one for each Get, and the table has the count of their values
pub record HasBlocks (Offered : Block → Type 0) (h : Held) : Type 0 where
  pub blocks : List Accepted
  pub accepted : AreAccepted Offered h.log blocks
  pub counted : h.values ≡ values_in h.schema blocks

-- each table has blocks that are offered to it, by its place
abbrev pub HaveBlocks : (ℕ → Block → Type 0) → List Held → Type 0
HaveBlocks Offered [] = Unit {0}
HaveBlocks Offered (h ∷ tables) = HasBlocks (Offered 0) h × HaveBlocks (λ k. Offered (suc k)) tables

-- the tables are those that are named, each has so many replicas and blocks that are offered to it, and the book has counted the
-- entries of clients in their logs
pub record AreSharedTables (names : List NamedTable) (replicas : ℕ) (Offered : ℕ → Block → Type 0) (tables : List Held) (total : ℕ) : Type 0 where
  pub are_named : map named tables ≡ names
  pub sessions : Each (λ h. length h.sessions ≡ replicas) tables
  pub counted : total ≡ all_clients (logs_of tables)
  pub blocks : HaveBlocks Offered tables

-- the table at a place changes so, and nothing else does
pub record ChangesTable (old : List Held) (k : ℕ) (Change : Held → Held → Type 0) (new : List Held) : Type 0 where
  pub table : Held
  pub is : table ≡ slice_index_or old k table
  pub after : Held
  pub change : Change table after
  pub rest : new ≡ slice_set old k after

-- a merge of these names enters the table's log, and nothing else of the table changes
pub record GainsMerge (old : Held) (sources : List Name) (new : Held) : Type 0 where
  pub name : Name
  pub count : ℕ
  pub assigns : AssignsMerge (table_at old) name sources count (table_at new)

-- the mutate of this part, up to the mutation at a place, enters the table's log, and nothing else of the table changes
pub record GainsMutate (old : Held) (part : Name) (upto : ℕ) (new : Held) : Type 0 where
  pub name : Name
  pub count : ℕ
  pub mcount : ℕ
  pub assigns : AssignsMutate (table_at old) part name upto count mcount (table_at new)

-- such a merge enters the log of the table at a place, and nothing else changes
abbrev pub AppendsMerge : List Held → ℕ → List Name → List Held → Type 0
AppendsMerge old k sources new = ChangesTable old k (λ t u. GainsMerge t sources u) new

-- such a mutate enters the log of the table at a place, and nothing else changes
abbrev pub AppendsMutate : List Held → ℕ → Name → ℕ → List Held → Type 0
AppendsMutate old k part upto new = ChangesTable old k (λ t u. GainsMutate t part upto u) new

-- the table refuses the merge of these names, which was chosen from a copy of this length
abbrev pub RefusesMerge : Held → ℕ → List Name → Type 0
RefusesMerge h len sources = (why : StepRefused) × NotMerged (table_at h) len sources why

-- the table refuses the mutate of a part, which was chosen from a copy of this length
abbrev pub RefusesMutate : Held → ℕ → Type 0
RefusesMutate h len = (why : StepRefused) × NotMutated (table_at h) len why

-- why the merge of these names doesn't enter the log of the table at a place: that log is shorter than the copy that they
-- were chosen from, they are no neighbours there, or the table refuses it
pub record IsUnmerged (tables : List Held) (k : ℕ) (copy : List Entry) (sources : List Name) : Type 0 where
  pub table : Held
  pub is : table ≡ slice_index_or tables k table
  pub why : (length table.log < length copy) ⊎ ((AreMergeable copy sources → ⊥) ⊎ RefusesMerge table (length copy) sources)

-- why the mutate of a part doesn't enter the log of the table at a place: that log is shorter than the copy that it was chosen
-- from, no mutation there is pending for the part, or the table refuses it
pub record IsUnmutated (tables : List Held) (k : ℕ) (copy : List Entry) (part : Name) (upto : ℕ) : Type 0 where
  pub table : Held
  pub is : table ≡ slice_index_or tables k table
  pub why : (length table.log < length copy) ⊎ ((IsMutable copy part upto → ⊥) ⊎ RefusesMutate table (length copy))
