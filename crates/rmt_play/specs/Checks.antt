-- Why a statement is refused. Each refusal has its test, and a statement meets the first in the order of the checks.
-- ClickHouse documentation: CREATE TABLE, INSERT INTO, SELECT, EXPLAIN, ALTER, OPTIMIZE, SYSTEM. The refusals and their order
-- are this program's own.
use Rattle.std.specs.Prelude.{ℕ, zero, suc, ◌-◌, ◌^◌, cond, nat_eq, nat_le, nat_lt, ◌&&◌, Bool, true, List, [], ◌∷◌, length, codes}
use Rattle.std.specs.declared.option.Option.{Option}
use Rattle.std.specs.declared.option.Option.TheVariants.{Some, None}
use Rattle.std.specs.Str.{bytes_eq}
use Rattle.rmt_values.specs.declared.column.Column.{Column}
use Rattle.rmt_values.specs.declared.limit.Limit.TheVariants as limits
use Rattle.rmt_values.specs.declared.schema_error.SchemaError.{SchemaError}
use Rattle.rmt_values.specs.declared.schema_error.SchemaError.TheVariants as schemas
use Rattle.rmt_values.specs.Rows.{Shape}
use Rattle.rmt_values.specs.Schemas.{schema_refusal, shape_of}
use Rattle.rmt_statements.specs.declared.act.Act.{Act}
use Rattle.rmt_statements.specs.declared.act.Act.TheVariants as acts
use Rattle.rmt_statements.specs.declared.sent.Sent.{Sent}
use Rattle.rmt_statements.specs.declared.statement.Statement.{Statement}
use Rattle.rmt_statements.specs.declared.statement.Statement.TheVariants as statements
use Rattle.rmt_reply.specs.declared.refusal.Refusal.{Refusal}
use Rattle.rmt_reply.specs.declared.refusal.Refusal.TheVariants.{Syntax, UnknownTable, TableExists, UnknownReplica, UnknownColumn, WrongType, LimitReached, DoubleColumn}
use Rattle.rmt_reply.specs.Printed.{replica_text}
use Rattle.rmt_play.specs.World.{Table, World}
use Rattle.rmt_play.specs.ActRefusals.{act_refusals, refused_down, refused_up}

-- the first of the refusals that are met
abbrev pub first_of : List (Option Refusal) → Option Refusal
first_of [] = None
first_of (None ∷ rest) = first_of rest
first_of (Some refusal ∷ rest) = Some refusal

-- ---- REPLICAS

-- REPLICAS is played with 1 to 8 replicas and before all tables, each other statement anywhere; so many tables there are
abbrev pub is_played : ℕ → Statement → Bool
is_played tables (statements.Replicas count) = (nat_le 1 count && nat_le count 8) && nat_eq tables 0
is_played tables statement = true

-- a statement that isn't played, at its first token
abbrev pub unplayed : ℕ → Statement → ℕ → Option Refusal
unplayed tables statement start = cond (is_played tables statement) None (Some (Syntax start))

-- ---- names

-- the table of this name
abbrev pub table_of : List Table → List ℕ → Option Table
table_of [] name = None
table_of (t ∷ others) name = cond (bytes_eq t.name name) (Some t) (table_of others name)

-- the refusal of a name that no table has
abbrev pub refused_without : Option Table → List ℕ → Option Refusal
refused_without None name = Some (UnknownTable name)
refused_without (Some t) name = None

-- no table of this name was created
abbrev pub unknown_table : World → List ℕ → Option Refusal
unknown_table world name = refused_without (table_of world.tables name) name

-- the refusal of a name that a table has
abbrev pub refused_with : Option Table → List ℕ → Option Refusal
refused_with None name = None
refused_with (Some t) name = Some (TableExists name)

-- a table of this name was created
abbrev pub table_exists : World → List ℕ → Option Refusal
table_exists world name = refused_with (table_of world.tables name) name

-- the number of the replica of this name, among so many; they are called r1, r2 and so on
abbrev pub replica_of : ℕ → List ℕ → Option ℕ
replica_of zero name = None
replica_of (suc n) name = cond (bytes_eq name (replica_text (suc n))) (Some (suc n)) (replica_of n name)

-- the number of the replica that a statement is sent to: the first, where none is named
abbrev pub replica_at : ℕ → Option (List ℕ) → Option ℕ
replica_at count None = Some 1
replica_at count (Some name) = replica_of count name

-- the refusal of a replica's name that has no number
abbrev pub refused_name : Option ℕ → Option (List ℕ) → Option Refusal
refused_name (Some number) name = None
refused_name None None = None
refused_name None (Some name) = Some (UnknownReplica name)

-- the name is none of a replica's
abbrev pub unknown_replica : ℕ → Option (List ℕ) → Option Refusal
unknown_replica count name = refused_name (replica_at count name) name

-- ---- CREATE

-- the number of a setting, where it is given; one of more than 32 bits counts as the greatest, which is out of range
abbrev pub setting_of : ℕ → Option ℕ → ℕ
setting_of default None = default
setting_of default (Some n) = cond (nat_lt n (2 ^ 32)) n (2 ^ 32 - 1)

-- the rows of a granule
abbrev pub granularity_of : Option ℕ → ℕ
granularity_of number = setting_of 8192 number

-- how many blocks the window of insert deduplication keeps
abbrev pub window_of : Option ℕ → ℕ
window_of number = setting_of 100 number

-- the partition rule; a divisor of more than 64 bits counts as 0, which is out of range
abbrev pub rule_given : Option (List ℕ × ℕ) → Option (List ℕ × ℕ)
rule_given None = None
rule_given (Some rule) = Some (rule.0, cond (nat_lt rule.1 (2 ^ 64)) rule.1 0)

-- a schema's refusal, apart from that of too many columns; a CREATE without columns has no form
abbrev pub refused_schema : Option SchemaError → Option Refusal
refused_schema (Some (schemas.UnknownColumn name)) = Some (UnknownColumn name)
refused_schema (Some (schemas.DoubleColumn name)) = Some (DoubleColumn name)
refused_schema (Some (schemas.WrongType name)) = Some (WrongType name)
refused_schema refusal = None

-- there is room for four tables
abbrev pub too_many_tables : ℕ → Option Refusal
too_many_tables count = cond (nat_le 4 count) (Some (LimitReached limits.Tables count)) None

-- too many columns
abbrev pub refused_columns : Option SchemaError → Option Refusal
refused_columns (Some (schemas.LimitReached limit value)) = Some (LimitReached limit value)
refused_columns refusal = None

-- why a CREATE is refused whose schema has this refusal
abbrev pub create_refusals : World → List ℕ → Option SchemaError → List (Option Refusal)
create_refusals world table refusal =
    table_exists world table ∷ refused_schema refusal ∷ too_many_tables (length world.tables) ∷ refused_columns refusal ∷ []

-- ---- what is sent to a replica

-- the table that an act names
abbrev pub table_named : Act → List ℕ
table_named (acts.Insert insert) = insert.table
table_named (acts.Select table query mode) = table
table_named (acts.Explain table query) = table
table_named (acts.Mutate table command) = table
table_named (acts.DropPartition table partition) = table
table_named (acts.Optimize table partition) = table
table_named (acts.ShowParts table) = table
table_named (acts.CheckTable table) = table
table_named (acts.WaitMutation table id) = table
table_named (acts.SyncReplica table) = table
table_named (acts.RestartReplica table) = table
table_named (acts.StopFetches table) = table
table_named (acts.StartFetches table) = table

-- why an act is refused over the table that it names, at the replica that it is sent to, where there are both
abbrev pub refused_act : (ℕ → Bool) → Option Table → Option ℕ → Act → Option Refusal
refused_act up (Some t) (Some r) act = first_of (act_refusals up t.state r act)
refused_act up t r act = None

-- the refusals of what is sent to a replica, in their order
abbrev pub sent_refusals : World → Sent → List (Option Refusal)
sent_refusals world sent =
    unknown_table world (table_named sent.act)
    ∷ unknown_replica world.replicas sent.replica
    ∷ refused_act world.up (table_of world.tables (table_named sent.act)) (replica_at world.replicas sent.replica) sent.act ∷ []

-- ---- KILL and RESTART

-- the refusals of a KILL, in their order
abbrev pub kill_refusals : World → List ℕ → List (Option Refusal)
kill_refusals world name = unknown_replica world.replicas (Some name) ∷ refused_down world.up (replica_of world.replicas name) ∷ []

-- the refusals of a RESTART, in their order
abbrev pub restart_refusals : World → List ℕ → List (Option Refusal)
restart_refusals world name = unknown_replica world.replicas (Some name) ∷ refused_up world.up (replica_of world.replicas name) ∷ []

-- ---- RUN

-- there are more than 1,000,000 turns, or the seed isn't below 2^31
abbrev pub refused_turns : ℕ → ℕ → Option Refusal
refused_turns turns seed = cond (nat_le turns 1000000 && nat_lt seed (2 ^ 31)) None (Some (WrongType (codes "RUN")))

-- the refusals of RUN, in their order
abbrev pub run_refusals : World → List ℕ → ℕ → ℕ → List (Option Refusal)
run_refusals world table turns seed = unknown_table world table ∷ refused_turns turns seed ∷ []

-- ---- a statement

-- why a CREATE of these columns, partition rule, key and settings has no schema
abbrev pub schema_refused : List Column → Option (List ℕ × ℕ) → List (List ℕ) → Option ℕ → Option ℕ → Option SchemaError
schema_refused columns partition key granularity window =
    schema_refusal columns key (rule_given partition) (granularity_of granularity) (window_of window)

-- the schema of a CREATE
abbrev pub schema_made : List Column → Option (List ℕ × ℕ) → List (List ℕ) → Option ℕ → Option ℕ → Shape
schema_made columns partition key granularity window =
    shape_of columns key (rule_given partition) (granularity_of granularity) (window_of window)

-- the refusals of a statement that is played, in their order
abbrev pub refusals : World → Statement → List (Option Refusal)
refusals world (statements.Create table columns partition key granularity window) =
    create_refusals world table (schema_refused columns partition key granularity window)
refusals world (statements.Kill name) = kill_refusals world name
refusals world (statements.Restart name) = restart_refusals world name
refusals world (statements.Run table turns seed) = run_refusals world table turns seed
refusals world (statements.At sent) = sent_refusals world sent
refusals world statement = []

-- the refusal of a statement that begins at this place
abbrev pub refusal_of : World → Statement → ℕ → Option Refusal
refusal_of world statement start = first_of (unplayed (length world.tables) statement start ∷ refusals world statement)
