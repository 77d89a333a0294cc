-- Why an act is refused in its table.
-- ClickHouse documentation: INSERT INTO, SELECT, ALTER, OPTIMIZE. The refusals are this program's own.
use Rattle.std.specs.Prelude.{ℕ, Bool, true, false, ◌^◌, cond, nat_le, nat_lt, List, [], ◌∷◌, codes}
use Rattle.std.specs.declared.option.Option.{Option}
use Rattle.std.specs.declared.option.Option.TheVariants.{Some, None}
use Rattle.rmt_values.specs.declared.partition_rule.PartitionRule.{PartitionRule}
use Rattle.rmt_expr.specs.declared.check_error.CheckError.{CheckError}
use Rattle.rmt_expr.specs.declared.check_error.CheckError.TheVariants as checks
use Rattle.rmt_expr.specs.declared.mutation_error.MutationError.{MutationError}
use Rattle.rmt_expr.specs.declared.mutation_error.MutationError.TheVariants as commands
use Rattle.rmt_expr.specs.Queries.{query_refusal}
use Rattle.rmt_expr.specs.Mutations.{mutation_refusal}
use Rattle.rmt_model.specs.Lawful.{mutation_count}
use Rattle.rmt_statement_model.specs.TableStates.{TableState}
use Rattle.rmt_statements.specs.declared.act.Act.{Act}
use Rattle.rmt_statements.specs.declared.act.Act.TheVariants as acts
use Rattle.rmt_statements.specs.declared.mode.Mode.TheVariants as modes
use Rattle.rmt_statements.specs.declared.partition_word.PartitionWord.{PartitionWord}
use Rattle.rmt_statements.specs.Partitions.{partition_named}
use Rattle.rmt_sql_rows.specs.declared.rows_error.RowsError.{RowsError}
use Rattle.rmt_sql_rows.specs.declared.rows_error.RowsError.TheVariants as errors
use Rattle.rmt_sql_rows.specs.InsertedRows.{names_refusal}
use Rattle.rmt_reply.specs.declared.refusal.Refusal.{Refusal}
use Rattle.rmt_reply.specs.declared.refusal.Refusal.TheVariants.{UnknownColumn, WrongType, KeyColumn, ReplicaDown, ReplicaUp, FetchesStopped, UnknownMutation, DoubleColumn}

-- the refusal of the columns that an INSERT names
abbrev pub refused_names : Option RowsError → Option Refusal
refused_names (Some (errors.UnknownColumn name)) = Some (UnknownColumn name)
refused_names (Some (errors.DoubleColumn name)) = Some (DoubleColumn name)
refused_names refusal = None

-- one refusal, or else another one
abbrev pub or_else : Option Refusal → Option Refusal → Option Refusal
or_else None other = other
or_else (Some refusal) other = Some refusal

-- the refusal of the number of replicas that an INSERT asks for: it has more than 32 bits
abbrev pub refused_quorum : Option ℕ → Option Refusal
refused_quorum None = None
refused_quorum (Some n) = cond (nat_lt n (2 ^ 32)) None (Some (WrongType (codes "insert_quorum")))

-- the refusal of a SELECT's setting: it is neither 0 nor 1
abbrev pub refused_setting : ℕ → Option Refusal
refused_setting n = cond (nat_le n 1) None (Some (WrongType (codes "select_sequential_consistency")))

-- the refusal of a query
abbrev pub refused_query : Option CheckError → Option Refusal
refused_query (Some (checks.UnknownColumn name)) = Some (UnknownColumn name)
refused_query (Some (checks.WrongType name)) = Some (WrongType name)
refused_query refusal = None

-- the refusal of a command
abbrev pub refused_command : Option MutationError → Option Refusal
refused_command (Some (commands.UnknownColumn name)) = Some (UnknownColumn name)
refused_command (Some (commands.DoubleColumn name)) = Some (DoubleColumn name)
refused_command (Some (commands.WrongType name)) = Some (WrongType name)
refused_command (Some (commands.KeyColumn name)) = Some (KeyColumn name)
refused_command refusal = None

-- the refusal of a word that names no partition
abbrev pub refused_partition : Option (Option ℕ) → Option Refusal
refused_partition None = Some (WrongType (codes "partition"))
refused_partition (Some partition) = None

-- the refusal of a partition that a statement may name
abbrev pub refused_asked : Option PartitionRule → Option PartitionWord → Option Refusal
refused_asked rule None = None
refused_asked rule (Some word) = refused_partition (partition_named rule word)

-- the refusal of a mutation that wasn't made; so many were
abbrev pub refused_id : ℕ → ℕ → Option Refusal
refused_id made id = cond (nat_lt id made) None (Some (UnknownMutation id))

-- ---- replicas

-- the refusal of a replica that is down, where there is one
abbrev pub refused_down : (ℕ → Bool) → Option ℕ → Option Refusal
refused_down up None = None
refused_down up (Some r) = cond (up r) None (Some (ReplicaDown r))

-- the refusal of a replica that is up
abbrev pub refused_up : (ℕ → Bool) → Option ℕ → Option Refusal
refused_up up None = None
refused_up up (Some r) = cond (up r) (Some (ReplicaUp r)) None

-- the refusal of a replica that may not fetch
abbrev pub refused_stopped : (ℕ → Bool) → ℕ → Option Refusal
refused_stopped fetching r = cond (fetching r) None (Some (FetchesStopped r))

-- ---- acts

-- why an act is refused in a table, whatever replica it is sent to
abbrev pub act_refusal : TableState → Act → Option Refusal
act_refusal t (acts.Insert insert) = or_else (refused_names (names_refusal t.schema.columns insert.columns)) (refused_quorum insert.quorum)
act_refusal t (acts.Select table query modes.Plain) = refused_query (query_refusal t.schema query)
act_refusal t (acts.Select table query modes.Sync) = refused_query (query_refusal t.schema query)
act_refusal t (acts.Select table query (modes.Sequential n)) = or_else (refused_query (query_refusal t.schema query)) (refused_setting n)
act_refusal t (acts.Explain table query) = refused_query (query_refusal t.schema query)
act_refusal t (acts.Mutate table command) = refused_command (mutation_refusal t.schema command)
act_refusal t (acts.DropPartition table word) = refused_partition (partition_named t.schema.partition word)
act_refusal t (acts.Optimize table word) = refused_asked t.schema.partition word
act_refusal t act = None

-- the refusal of what is sent to a replica that is down; the rows of an INSERT are read before
abbrev pub down_refusal : (ℕ → Bool) → ℕ → Act → Option Refusal
down_refusal up r (acts.Insert insert) = None
down_refusal up r act = refused_down up (Some r)

-- the act brings its replica up to date first
abbrev pub syncs_first : Act → Bool
syncs_first (acts.Select table query modes.Sync) = true
syncs_first (acts.Optimize table word) = true
syncs_first (acts.WaitMutation table id) = true
syncs_first (acts.SyncReplica table) = true
syncs_first act = false

-- the refusal of what would bring a replica up to date that may not fetch
-- ClickHouse documentation, SYSTEM: "STOP FETCHES" stops the fetches of a replicated table.
abbrev pub stopped_refusal : (ℕ → Bool) → ℕ → Act → Option Refusal
stopped_refusal fetching r act = cond (syncs_first act) (refused_stopped fetching r) None

-- the refusal of a mutation that is waited for and wasn't made
abbrev pub id_refusal : TableState → Act → Option Refusal
id_refusal t (acts.WaitMutation table id) = refused_id (mutation_count t.log) id
id_refusal t act = None

-- why an act is refused at a replica, in order
abbrev pub act_refusals : (ℕ → Bool) → TableState → ℕ → Act → List (Option Refusal)
act_refusals up t r act = act_refusal t act ∷ down_refusal up r act ∷ stopped_refusal t.fetching r act ∷ id_refusal t act ∷ []
