-- The events that an act makes in its table's cluster, and no others. They are those of the stepped player alone.
-- No public source: the events are this program's own.
use Rattle.std.specs.Prelude.{◌≡◌, ℕ, true, false, [], ◌∷◌}
use Rattle.std.specs.declared.option.Option.{Option}
use Rattle.std.specs.declared.option.Option.TheVariants.{Some, None}
use Rattle.rmt_values.specs.declared.checked_mutation.CheckedMutation.{CheckedMutation}
use Rattle.rmt_expr.specs.Mutations.{IsCheckedMutation}
use Rattle.rmt_statements.specs.declared.act.Act.{Act}
use Rattle.rmt_statements.specs.declared.act.Act.TheVariants as acts
use Rattle.rmt_statements.specs.declared.mode.Mode.TheVariants as modes
use Rattle.rmt_statements.specs.declared.partition_word.PartitionWord.{PartitionWord}
use Rattle.rmt_statements.specs.Partitions.{partition_named}
use Rattle.rmt_values.specs.declared.mutation.Mutation.{Mutation}
use Rattle.rmt_events.specs.Clusters.{Cluster}
use Rattle.rmt_events.specs.declared.event.Event.TheVariants as ev
use Rattle.rmt_reply.specs.declared.line.Line.{Line}
use Rattle.rmt_reply.specs.declared.line.Line.TheVariants as lines
use Rattle.rmt_reply.specs.declared.refusal.Refusal.{Refusal}
use Rattle.rmt_statement_model.specs.Inserts.{Asked, asked_at}
use Rattle.rmt_play.specs.InsertStatement.{need_of}
use Rattle.rmt_acts.specs.StatementEvents.{Makes, SyncEvents, InsertEvents, DropEvents, OptimizeEvents, WaitEvents}

-- the refusal that a reply tells, where it tells one
abbrev pub refusal_told : Line → Option Refusal
refusal_told (lines.Refused refusal) = Some refusal
refusal_told line = None

-- ALTER .. UPDATE and ALTER .. DELETE: a mutation of the command as it was written, its columns by their places
pub record AlterEvents (s : Cluster) (written : Mutation) (u : Cluster) : Type 0 where
  pub command : CheckedMutation
  pub is : IsCheckedMutation s.table.schema written command
  pub makes : Makes s (ev.CreateMutation command ∷ []) u

-- ALTER .. DROP PARTITION
pub record DropsBy (s : Cluster) (r : ℕ) (word : PartitionWord) (u : Cluster) : Type 0 where
  pub partition : Option ℕ
  pub named : partition_named s.table.schema.partition word ≡ Some partition
  pub makes : DropEvents s r partition u

-- an INSERT, whose pieces and refusal the reply has
abbrev pub InsertsBy : Cluster → Asked → Line → Cluster → Type 0
InsertsBy s a (lines.Inserted pieces refused) u = InsertEvents s a pieces refused u
InsertsBy s a (lines.Refused refusal) u = u ≡ s
InsertsBy s a line u = ⊥

-- an OPTIMIZE, whose names and refusal the reply has
abbrev pub OptimizesBy : Cluster → ℕ → Line → Cluster → Type 0
OptimizesBy s r (lines.Optimized names refused) u = OptimizeEvents s r names refused u
OptimizesBy s r line u = ⊥

-- the events of an act at a replica that has this reply
abbrev pub ActEvents : Cluster → ℕ → Act → Line → Cluster → Type 0
ActEvents s r (acts.Insert insert) line u = InsertsBy s (asked_at r (need_of insert.quorum)) line u
ActEvents s r (acts.Select table query modes.Sync) line u = SyncEvents s r (refusal_told line) u
ActEvents s r (acts.Select table query modes.Plain) line u = u ≡ s
ActEvents s r (acts.Select table query (modes.Sequential n)) line u = u ≡ s
ActEvents s r (acts.Explain table query) line u = u ≡ s
ActEvents s r (acts.Mutate table command) line u = AlterEvents s command u
ActEvents s r (acts.DropPartition table word) line u = DropsBy s r word u
ActEvents s r (acts.Optimize table word) line u = OptimizesBy s r line u
ActEvents s r (acts.ShowParts table) line u = u ≡ s
ActEvents s r (acts.CheckTable table) line u = u ≡ s
ActEvents s r (acts.WaitMutation table id) line u = WaitEvents s r (refusal_told line) u
ActEvents s r (acts.SyncReplica table) line u = SyncEvents s r (refusal_told line) u
ActEvents s r (acts.RestartReplica table) line u = Makes s (ev.Kill r ∷ ev.Restart r ∷ []) u
ActEvents s r (acts.StopFetches table) line u = Makes s (ev.Fetches r false ∷ []) u
ActEvents s r (acts.StartFetches table) line u = Makes s (ev.Fetches r true ∷ []) u
