-- A script without workers: what it means at `false` is what it means with no word of workers, and no less. The other way holds
-- where workers run too: what is played without them may be played among them.
use Rattle.std.proofs.Common.{◌≡◌, ◌⊎◌, inl, inr, ℕ, suc, Bool, true, false, List, [], ◌∷◌, ◌++◌, map, refl, sym, ap, subst, ◌∙◌}
use Rattle.std.specs.Prelude.{MatchOption}
use Rattle.std.specs.declared.option.Option.{Option}
use Rattle.std.specs.declared.option.Option.TheVariants.{Some, None}
use Rattle.rmt_block.specs.Blocks.{BlockView}
use Rattle.rmt_block.specs.Splits.{IsSplit}
use Rattle.rmt_names.specs.Names.{Name}
use Rattle.rmt_model.specs.Words.{Each}
use Rattle.rmt_model.specs.Content.{Row}
use Rattle.rmt_events.specs.Clusters.{Cluster, without_kinds}
use Rattle.rmt_events.specs.declared.event.Event.{Event}
use Rattle.rmt_cluster.specs.Runs.{RunsAll}
use Rattle.rmt_acts.specs.StatementEvents.{Makes}
use Rattle.rmt_sql.specs.declared.parsed.Parsed.{Parsed}
use Rattle.rmt_sql.specs.declared.parsed.Parsed.TheVariants as parsed
use Rattle.rmt_sql.specs.Script.{ReadsAt}
use Rattle.rmt_sql_rows.specs.InsertedRows.{all_names}
use Rattle.rmt_sql_rows.specs.Inserts.{AreInsertedRows}
use Rattle.rmt_statements.specs.declared.act.Act.{Act}
use Rattle.rmt_statements.specs.declared.act.Act.TheVariants as acts
use Rattle.rmt_statements.specs.declared.mode.Mode.TheVariants as modes
use Rattle.rmt_statements.specs.declared.insert.Insert.{Insert}
use Rattle.rmt_statements.specs.declared.partition_word.PartitionWord.{PartitionWord}
use Rattle.rmt_statements.specs.declared.sent.Sent.{Sent}
use Rattle.rmt_statements.specs.declared.statement.Statement.{Statement}
use Rattle.rmt_statements.specs.declared.statement.Statement.TheVariants as statements
use Rattle.rmt_reply.specs.declared.line.Line.{Line}
use Rattle.rmt_reply.specs.declared.line.Line.TheVariants as lines
use Rattle.rmt_reply.specs.declared.piece.Piece.{Piece}
use Rattle.rmt_reply.specs.declared.refusal.Refusal.{Refusal}
use Rattle.rmt_reply.specs.declared.refusal.Refusal.TheVariants.{Syntax}
use Rattle.rmt_statement_model.specs.TableStates.{TableState}
use Rattle.rmt_statement_model.specs.BackgroundWork.{Works}
use Rattle.rmt_statement_model.specs.Inserts.{Asked, asked_at}
use Rattle.rmt_statement_model.specs.LostSources.{LacksSource}
use Rattle.rmt_statement_model.proofs.RestLaws.{rests-none}
use Rattle.rmt_statement_model.proofs.SteppedLaws.{SteppedInsertsAll, SteppedOptimizesTable, SteppedWaitsFor, SteppedLacksEntries, inserts-among, inserts-alone, optimizes-among, optimizes-alone, waits-among, waits-alone, lacks-among, lacks-alone, runs-among, runs-alone}
use Rattle.rmt_play.specs.declared.end.End.{End}
use Rattle.rmt_play.specs.World.{Table, World, with_up, start}
use Rattle.rmt_play.specs.WorldRests.{AreRested, RestsAll}
use Rattle.rmt_play.specs.Checks.{schema_made, table_of, replica_of, replica_at, table_named, first_of, sent_refusals, refusal_of}
use Rattle.rmt_play.specs.InsertStatement.{need_of, InsertsRows, MeetsBadRow, MeetsDown, InsertsInto}
use Rattle.rmt_play.specs.SelectStatement.{Syncs, Reads, ReadsWith}
use Rattle.rmt_play.specs.ExplainStatement.{Explains}
use Rattle.rmt_play.specs.MutationStatement.{AltersBy}
use Rattle.rmt_play.specs.DropStatement.{DropsNamed}
use Rattle.rmt_play.specs.OptimizeStatement.{IsAsked, OptimizesNamed}
use Rattle.rmt_play.specs.ShowParts.{ShowsParts}
use Rattle.rmt_play.specs.CheckTable.{ChecksTable}
use Rattle.rmt_play.specs.WaitStatement.{Waits}
use Rattle.rmt_play.specs.SystemStatements.{SyncsReplica, RestartsReplica, SwitchesFetches}
use Rattle.rmt_play.specs.RunStatement.{RunsTurns}
use Rattle.rmt_play.specs.Acts.{Acts}
use Rattle.rmt_play.specs.ActEvents.{ActEvents}
use Rattle.rmt_play.specs.Plays.{Refuses, Counts, Creates, with_table, InTable, session_event, InEach, Turns, PerformsSent, Performs, ExecutesStatement, OneLine, ExecutesSent, PlaysLane, PlaysEach, RepliesTo, Executes, EndsAt, Step, Played}
use Rattle.rmt_play.specs.Shown.{AreShown, HasReplicas, Agrees, HandsBack}
use Rattle.rmt_play.specs.Runs.{refusals_in, PlayedSome, PlayedWhole, PlayedToEnd}
use Rattle.rmt_play.proofs.TableLemmas.{rests-all-none}

-- ---- INSERT

pub record SteppedInsertsRows (up : ℕ → Bool) (t : TableState) (a : Asked) (rows : List Row) (line : Line) (u : TableState) : Type 0 where
  pub blocks : List BlockView
  pub split : IsSplit t.schema rows blocks
  pub all : List Piece
  pub refused : Option Refusal
  pub inserts : SteppedInsertsAll up t a (map without_kinds blocks) all refused u
  pub reply : line ≡ lines.Inserted all refused

pub record SteppedTakes (up : ℕ → Bool) (t : TableState) (r : ℕ) (insert : Insert) (line : Line) (u : TableState) : Type 0 where
  pub rows : List Row
  pub read : AreInsertedRows t.schema.columns (all_names t.schema.columns insert.columns) insert.rows rows
  pub inserts : SteppedInsertsRows up t (asked_at r (need_of insert.quorum)) rows line u

abbrev pub SteppedInsertsInto : (ℕ → Bool) → TableState → ℕ → Insert → Line → TableState → Type 0
SteppedInsertsInto up t r insert line u = ((up r ≡ true) × SteppedTakes up t r insert line u) ⊎ (MeetsBadRow t insert line u ⊎ MeetsDown up t r insert line u)

rows-among : (w : Bool) (up : ℕ → Bool) (t : TableState) (a : Asked) (rows : List Row) (line : Line) (u : TableState) → SteppedInsertsRows up t a rows line u → InsertsRows w up t a rows line u
rows-among w up t a rows line u k = record { blocks = k.blocks; split = k.split; all = k.all; refused = k.refused; inserts = inserts-among w up t a (map without_kinds k.blocks) k.all k.refused u k.inserts; reply = k.reply }

rows-alone : (up : ℕ → Bool) (t : TableState) (a : Asked) (rows : List Row) (line : Line) (u : TableState) → InsertsRows false up t a rows line u → SteppedInsertsRows up t a rows line u
rows-alone up t a rows line u k = record { blocks = k.blocks; split = k.split; all = k.all; refused = k.refused; inserts = inserts-alone up t a (map without_kinds k.blocks) k.all k.refused u k.inserts; reply = k.reply }

insert-among : (w : Bool) (up : ℕ → Bool) (t : TableState) (r : ℕ) (insert : Insert) (line : Line) (u : TableState) → SteppedInsertsInto up t r insert line u → InsertsInto w up t r insert line u
insert-among w up t r insert line u (inr k) = inr k
insert-among w up t r insert line u (inl k) = inl (k.0, record { rows = k.1.rows; read = k.1.read; inserts = rows-among w up t (asked_at r (need_of insert.quorum)) k.1.rows line u k.1.inserts })

insert-alone : (up : ℕ → Bool) (t : TableState) (r : ℕ) (insert : Insert) (line : Line) (u : TableState) → InsertsInto false up t r insert line u → SteppedInsertsInto up t r insert line u
insert-alone up t r insert line u (inr k) = inr k
insert-alone up t r insert line u (inl k) = inl (k.0, record { rows = k.1.rows; read = k.1.read; inserts = rows-alone up t (asked_at r (need_of insert.quorum)) k.1.rows line u k.1.inserts })

-- ---- OPTIMIZE

pub record SteppedOptimizesNamed (up : ℕ → Bool) (t : TableState) (r : ℕ) (word : Option PartitionWord) (line : Line) (u : TableState) : Type 0 where
  pub asked : Option (Option ℕ)
  pub named : IsAsked t.schema.partition word asked
  pub names : List Name
  pub refused : Option Refusal
  pub optimizes : SteppedOptimizesTable up t r asked names refused u
  pub reply : line ≡ lines.Optimized names refused

optimize-among : (w : Bool) (up : ℕ → Bool) (t : TableState) (r : ℕ) (word : Option PartitionWord) (line : Line) (u : TableState) → SteppedOptimizesNamed up t r word line u → OptimizesNamed w up t r word line u
optimize-among w up t r word line u k = record { asked = k.asked; named = k.named; names = k.names; refused = k.refused; optimizes = optimizes-among w up t r k.asked k.names k.refused u k.optimizes; reply = k.reply }

optimize-alone : (up : ℕ → Bool) (t : TableState) (r : ℕ) (word : Option PartitionWord) (line : Line) (u : TableState) → OptimizesNamed false up t r word line u → SteppedOptimizesNamed up t r word line u
optimize-alone up t r word line u k = record { asked = k.asked; named = k.named; names = k.names; refused = k.refused; optimizes = optimizes-alone up t r k.asked k.names k.refused u k.optimizes; reply = k.reply }

-- ---- WAIT MUTATION

abbrev pub SteppedWaits : (ℕ → Bool) → TableState → ℕ → ℕ → Line → TableState → Type 0
SteppedWaits up t r id (lines.Done done) u = (done ≡ id) × SteppedWaitsFor t r id u
SteppedWaits up t r id (lines.Refused refusal) u = LacksSource up t r refusal u ⊎ SteppedLacksEntries t r id refusal u
SteppedWaits up t r id line u = ⊥

wait-among : (w : Bool) (up : ℕ → Bool) (t : TableState) (r id : ℕ) (line : Line) (u : TableState) → SteppedWaits up t r id line u → Waits w up t r id line u
wait-among w up t r id (lines.Done done) u k = (k.0, waits-among w t u r id k.1)
wait-among w up t r id (lines.Refused refusal) u (inl k) = inl k
wait-among w up t r id (lines.Refused refusal) u (inr k) = inr (lacks-among w t u r id refusal k)
wait-among w up t r id line u k = absurd k

wait-alone : (up : ℕ → Bool) (t : TableState) (r id : ℕ) (line : Line) (u : TableState) → Waits false up t r id line u → SteppedWaits up t r id line u
wait-alone up t r id (lines.Done done) u k = (k.0, waits-alone t u r id k.1)
wait-alone up t r id (lines.Refused refusal) u (inl k) = inl k
wait-alone up t r id (lines.Refused refusal) u (inr k) = inr (lacks-alone t u r id refusal k)
wait-alone up t r id line u k = absurd k

-- ---- acts

abbrev pub SteppedActs : (ℕ → Bool) → TableState → ℕ → Act → Line → TableState → Type 0
SteppedActs up t r (acts.Insert insert) line u = SteppedInsertsInto up t r insert line u
SteppedActs up t r (acts.Select table query modes.Sync) line u = Syncs up t r query line u
SteppedActs up t r (acts.Select table query modes.Plain) line u = Reads t r query line u
SteppedActs up t r (acts.Select table query (modes.Sequential n)) line u = ReadsWith n t r query line u
SteppedActs up t r (acts.Explain table query) line u = Explains t r query line u
SteppedActs up t r (acts.Mutate table command) line u = AltersBy t command line u
SteppedActs up t r (acts.DropPartition table word) line u = DropsNamed t r word line u
SteppedActs up t r (acts.Optimize table word) line u = SteppedOptimizesNamed up t r word line u
SteppedActs up t r (acts.ShowParts table) line u = ShowsParts t r line u
SteppedActs up t r (acts.CheckTable table) line u = ChecksTable t r line u
SteppedActs up t r (acts.WaitMutation table id) line u = SteppedWaits up t r id line u
SteppedActs up t r (acts.SyncReplica table) line u = SyncsReplica up t r line u
SteppedActs up t r (acts.RestartReplica table) line u = RestartsReplica t line u
SteppedActs up t r (acts.StopFetches table) line u = SwitchesFetches t r false line u
SteppedActs up t r (acts.StartFetches table) line u = SwitchesFetches t r true line u

acts-among : (w : Bool) (up : ℕ → Bool) (t : TableState) (r : ℕ) (act : Act) (line : Line) (u : TableState) → SteppedActs up t r act line u → Acts w up t r act line u
acts-among w up t r (acts.Insert insert) line u k = insert-among w up t r insert line u k
acts-among w up t r (acts.Select table query modes.Sync) line u k = k
acts-among w up t r (acts.Select table query modes.Plain) line u k = k
acts-among w up t r (acts.Select table query (modes.Sequential n)) line u k = k
acts-among w up t r (acts.Explain table query) line u k = k
acts-among w up t r (acts.Mutate table command) line u k = k
acts-among w up t r (acts.DropPartition table word) line u k = k
acts-among w up t r (acts.Optimize table word) line u k = optimize-among w up t r word line u k
acts-among w up t r (acts.ShowParts table) line u k = k
acts-among w up t r (acts.CheckTable table) line u k = k
acts-among w up t r (acts.WaitMutation table id) line u k = wait-among w up t r id line u k
acts-among w up t r (acts.SyncReplica table) line u k = k
acts-among w up t r (acts.RestartReplica table) line u k = k
acts-among w up t r (acts.StopFetches table) line u k = k
acts-among w up t r (acts.StartFetches table) line u k = k

acts-alone : (up : ℕ → Bool) (t : TableState) (r : ℕ) (act : Act) (line : Line) (u : TableState) → Acts false up t r act line u → SteppedActs up t r act line u
acts-alone up t r (acts.Insert insert) line u k = insert-alone up t r insert line u k
acts-alone up t r (acts.Select table query modes.Sync) line u k = k
acts-alone up t r (acts.Select table query modes.Plain) line u k = k
acts-alone up t r (acts.Select table query (modes.Sequential n)) line u k = k
acts-alone up t r (acts.Explain table query) line u k = k
acts-alone up t r (acts.Mutate table command) line u k = k
acts-alone up t r (acts.DropPartition table word) line u k = k
acts-alone up t r (acts.Optimize table word) line u k = optimize-alone up t r word line u k
acts-alone up t r (acts.ShowParts table) line u k = k
acts-alone up t r (acts.CheckTable table) line u k = k
acts-alone up t r (acts.WaitMutation table id) line u k = wait-alone up t r id line u k
acts-alone up t r (acts.SyncReplica table) line u k = k
acts-alone up t r (acts.RestartReplica table) line u k = k
acts-alone up t r (acts.StopFetches table) line u k = k
acts-alone up t r (acts.StartFetches table) line u k = k

-- ---- RUN

pub record SteppedRunsTurns (up : ℕ → Bool) (t : TableState) (turns : ℕ) (line : Line) (u : TableState) : Type 0 where
  pub works : Works up turns t u
  pub reply : line ≡ lines.Ran turns

run-among : (w : Bool) (up : ℕ → Bool) (t : TableState) (turns : ℕ) (line : Line) (u : TableState) → SteppedRunsTurns up t turns line u → RunsTurns w up t turns line u
run-among w up t turns line u k = record { runs = runs-among w up turns t u k.works; reply = k.reply }

run-alone : (up : ℕ → Bool) (t : TableState) (turns : ℕ) (line : Line) (u : TableState) → RunsTurns false up t turns line u → SteppedRunsTurns up t turns line u
run-alone up t turns line u k = record { works = runs-alone up turns t u k.runs; reply = k.reply }

-- ---- a table

pub record SteppedInTable (old : World) (name : List ℕ) (Change : TableState → TableState → Type 0) (Events : Cluster → Cluster → Type 0) (new : World) : Type 0 where
  pub table : Table
  pub found : table_of old.tables name ≡ Some table
  pub after : TableState
  pub changes : Change table.state after
  pub cluster : Cluster
  pub events : Events table.cluster cluster
  pub rest : new ≡ record old { tables = with_table old.tables name (record table { state = after; cluster = cluster }) }

table-among : (w : Bool) (old new : World) (name : List ℕ) (P Q : TableState → TableState → Type 0) (E : Cluster → Cluster → Type 0) → ((t u : TableState) → P t u → Q t u) → SteppedInTable old name P E new → InTable w old name Q E new
table-among w old new name P Q E f k = record { table = k.table; found = k.found; after = k.after; changes = f k.table.state k.after k.changes; cluster = k.cluster; events = λ e. k.events; rest = k.rest }

table-alone : (old new : World) (name : List ℕ) (P Q : TableState → TableState → Type 0) (E : Cluster → Cluster → Type 0) → ((t u : TableState) → Q t u → P t u) → InTable false old name Q E new → SteppedInTable old name P E new
table-alone old new name P Q E f k = record { table = k.table; found = k.found; after = k.after; changes = f k.table.state k.after k.changes; cluster = k.cluster; events = k.events refl; rest = k.rest }

-- ---- statements

pub record SteppedPerformsSent (old : World) (sent : Sent) (line : Line) (new : World) : Type 0 where
  pub replica : ℕ
  pub at : replica_at old.replicas sent.replica ≡ Some replica
  pub acts : SteppedInTable old (table_named sent.act) (λ t u. SteppedActs old.up t replica sent.act line u) (λ s u. ActEvents s replica sent.act line u) new

abbrev pub SteppedInEach : Event → List Table → List Table → Type 0
SteppedInEach event [] [] = Unit {0}
SteppedInEach event (t ∷ olds) (u ∷ news) = (u ≡ record t { cluster = u.cluster }) × Makes t.cluster (event ∷ []) u.cluster × SteppedInEach event olds news
SteppedInEach event olds news = ⊥

pub record SteppedTurns (old : World) (name : List ℕ) (is_up : Bool) (line : Line) (new : World) : Type 0 where
  pub replica : ℕ
  pub at : replica_of old.replicas name ≡ Some replica
  pub reply : line ≡ lines.Okay
  pub tables : List Table
  pub events : SteppedInEach (session_event replica is_up) old.tables tables
  pub change : new ≡ record old { up = with_up old.up replica is_up; tables = tables }

abbrev pub SteppedRunsIn : World → List ℕ → ℕ → ℕ → Line → World → Type 0
SteppedRunsIn old table turns seed line new = SteppedInTable old table (λ t u. SteppedRunsTurns old.up t turns line u) (λ s u. RunsAll s seed turns u) new

abbrev pub SteppedPerforms : World → Statement → Line → World → Type 0
SteppedPerforms old (statements.Replicas count) line new = Counts old count line new
SteppedPerforms old (statements.Create table columns partition key granularity window) line new =
    Creates old table (schema_made columns partition key granularity window) line new
SteppedPerforms old (statements.Kill name) line new = SteppedTurns old name false line new
SteppedPerforms old (statements.Restart name) line new = SteppedTurns old name true line new
SteppedPerforms old (statements.Run table turns seed) line new = SteppedRunsIn old table turns seed line new
SteppedPerforms old (statements.At sent) line new = SteppedPerformsSent old sent line new
SteppedPerforms old statement line new = ⊥

each-among : (w : Bool) (event : Event) (olds news : List Table) → SteppedInEach event olds news → InEach w event olds news
each-among w event [] [] k = tt
each-among w event [] (u ∷ news) k = absurd k
each-among w event (t ∷ olds) [] k = absurd k
each-among w event (t ∷ olds) (u ∷ news) k = (k.0, λ e. k.1, each-among w event olds news k.2)

each-alone : (event : Event) (olds news : List Table) → InEach false event olds news → SteppedInEach event olds news
each-alone event [] [] k = tt
each-alone event [] (u ∷ news) k = absurd k
each-alone event (t ∷ olds) [] k = absurd k
each-alone event (t ∷ olds) (u ∷ news) k = (k.0, k.1 refl, each-alone event olds news k.2)

turns-among : (w : Bool) (old : World) (name : List ℕ) (is_up : Bool) (line : Line) (new : World) → SteppedTurns old name is_up line new → Turns w old name is_up line new
turns-among w old name is_up line new k = record { replica = k.replica; at = k.at; reply = k.reply; tables = k.tables; events = each-among w (session_event k.replica is_up) old.tables k.tables k.events; change = k.change }

turns-alone : (old : World) (name : List ℕ) (is_up : Bool) (line : Line) (new : World) → Turns false old name is_up line new → SteppedTurns old name is_up line new
turns-alone old name is_up line new k = record { replica = k.replica; at = k.at; reply = k.reply; tables = k.tables; events = each-alone (session_event k.replica is_up) old.tables k.tables k.events; change = k.change }

performs-among : (w : Bool) (old : World) (statement : Statement) (line : Line) (new : World) → SteppedPerforms old statement line new → Performs w old statement line new
performs-among w old (statements.Run table turns seed) line new k =
    table-among w old new table (λ t u. SteppedRunsTurns old.up t turns line u) (λ t u. RunsTurns w old.up t turns line u) (λ s u. RunsAll s seed turns u) (λ t u h. run-among w old.up t turns line u h) k
performs-among w old (statements.At sent) line new k = record {
  replica = k.replica;
  at = k.at;
  acts = table-among w old new (table_named sent.act) (λ t u. SteppedActs old.up t k.replica sent.act line u) (λ t u. Acts w old.up t k.replica sent.act line u) (λ s u. ActEvents s k.replica sent.act line u)
      (λ t u h. acts-among w old.up t k.replica sent.act line u h) k.acts;
}
performs-among w old (statements.Replicas count) line new k = k
performs-among w old (statements.Create table columns partition key granularity window) line new k = k
performs-among w old (statements.Kill name) line new k = turns-among w old name false line new k
performs-among w old (statements.Restart name) line new k = turns-among w old name true line new k
performs-among w old (statements.Lanes lanes) line new k = absurd k

performs-alone : (old : World) (statement : Statement) (line : Line) (new : World) → Performs false old statement line new → SteppedPerforms old statement line new
performs-alone old (statements.Run table turns seed) line new k =
    table-alone old new table (λ t u. SteppedRunsTurns old.up t turns line u) (λ t u. RunsTurns false old.up t turns line u) (λ s u. RunsAll s seed turns u) (λ t u h. run-alone old.up t turns line u h) k
performs-alone old (statements.At sent) line new k = record {
  replica = k.replica;
  at = k.at;
  acts = table-alone old new (table_named sent.act) (λ t u. SteppedActs old.up t k.replica sent.act line u) (λ t u. Acts false old.up t k.replica sent.act line u) (λ s u. ActEvents s k.replica sent.act line u)
      (λ t u h. acts-alone old.up t k.replica sent.act line u h) k.acts;
}
performs-alone old (statements.Replicas count) line new k = k
performs-alone old (statements.Create table columns partition key granularity window) line new k = k
performs-alone old (statements.Kill name) line new k = turns-alone old name false line new k
performs-alone old (statements.Restart name) line new k = turns-alone old name true line new k
performs-alone old (statements.Lanes lanes) line new k = absurd k

-- ---- a script

abbrev pub SteppedExecutesStatement : World → Statement → ℕ → Line → World → Type 0
SteppedExecutesStatement old statement first line new =
    MatchOption (refusal_of old statement first) (SteppedPerforms old statement line new)
    (λ refusal. Refuses old refusal line new)

abbrev pub SteppedExecutesSent : Sent → Line → World → World → Type 0
SteppedExecutesSent sent line old new =
    MatchOption (first_of (sent_refusals old sent)) (SteppedPerforms old (statements.At sent) line new) (λ refusal. Refuses old refusal line new)

abbrev pub SteppedPlaysLane : World → List Sent → List Line → World → Type 0
SteppedPlaysLane old [] [] new = new ≡ old
SteppedPlaysLane old (sent ∷ lane) (line ∷ reply) new = (mid : World) × SteppedExecutesSent sent line old mid × SteppedPlaysLane mid lane reply new
SteppedPlaysLane old lane reply new = ⊥

abbrev pub SteppedPlaysEach : World → ℕ → List (List Sent) → List Line → World → Type 0
SteppedPlaysEach old number [] reply new = (reply ≡ []) × (new ≡ old)
SteppedPlaysEach old number (lane ∷ lanes) reply new =
    (first : List Line) × (more : List Line) × (mid : World) × (reply ≡ lines.Lane number ∷ first ++ more)
    × SteppedPlaysLane old lane first mid × SteppedPlaysEach mid (suc number) lanes more new

pub record SteppedPlaysLanes (lanes : List (List Sent)) (reply : List Line) (old new : World) : Type 0 where
  pub each : List Line
  pub plays : SteppedPlaysEach old 1 lanes each new
  pub ended : reply ≡ each ++ lines.End ∷ []

abbrev pub SteppedRepliesTo : Statement → ℕ → List Line → World → World → Type 0
SteppedRepliesTo (statements.Lanes lanes) first reply old new = SteppedPlaysLanes lanes reply old new
SteppedRepliesTo statement first reply old new = OneLine (λ line w v. SteppedExecutesStatement w statement first line v) reply old new

abbrev pub SteppedExecutes : World → Parsed → List Line → World → Type 0
SteppedExecutes old (parsed.Statement statement first end) reply new = SteppedRepliesTo statement first reply old new
SteppedExecutes old (parsed.Syntax offset end) reply new = OneLine (λ line w v. Refuses w (Syntax offset) line v) reply old new
SteppedExecutes old parsed.End reply new = ⊥

pub record SteppedStep (script : List ℕ) (from : ℕ) (old : World) (reply : List Line) (at : ℕ) (new : World) : Type 0 where
  pub found : Parsed
  pub reads : ReadsAt script from found
  pub ends : EndsAt found at
  pub executes : SteppedExecutes old found reply new

abbrev pub SteppedPlayed : List ℕ → List (List Line) → ℕ → World → Type 0
SteppedPlayed script [] at world = (at ≡ 0) × (world ≡ start)
SteppedPlayed script (reply ∷ replies) at world =
    (from : ℕ) × (before : World) × SteppedPlayed script replies from before × SteppedStep script from before reply at world

statement-among : (w : Bool) (old : World) (statement : Statement) (first : ℕ) (line : Line) (new : World) → SteppedExecutesStatement old statement first line new → ExecutesStatement w old statement first line new
statement-among w old statement first line new k = go (refusal_of old statement first) k
  where
    go : (o : Option Refusal) → MatchOption o (SteppedPerforms old statement line new) (λ refusal. Refuses old refusal line new) → MatchOption o (Performs w old statement line new) (λ refusal. Refuses old refusal line new)
    go None h = performs-among w old statement line new h
    go (Some refusal) h = h

statement-alone : (old : World) (statement : Statement) (first : ℕ) (line : Line) (new : World) → ExecutesStatement false old statement first line new → SteppedExecutesStatement old statement first line new
statement-alone old statement first line new k = go (refusal_of old statement first) k
  where
    go : (o : Option Refusal) → MatchOption o (Performs false old statement line new) (λ refusal. Refuses old refusal line new) → MatchOption o (SteppedPerforms old statement line new) (λ refusal. Refuses old refusal line new)
    go None h = performs-alone old statement line new h
    go (Some refusal) h = h

-- without workers no table rests
tables-alone : (olds news : List Table) → AreRested false olds news → news ≡ olds
tables-alone [] [] k = refl
tables-alone [] (u ∷ news) k = absurd k
tables-alone (t ∷ olds) [] k = absurd k
tables-alone (t ∷ olds) (u ∷ news) k =
    ap (λ (x : Table). x ∷ news) (k.0 ∙ ap (λ (s : TableState). record t { state = s }) (rests-none t.state u.state k.1)) ∙ ap (λ (xs : List Table). t ∷ xs) (tables-alone olds news k.2)

-- nor the world
pub rests-alone : (old new : World) → RestsAll false old new → new ≡ old
rests-alone old new k = k.rest ∙ ap (λ (ts : List Table). record old { tables = ts }) (tables-alone old.tables new.tables k.tables)

-- one line that is replied so is replied so by what follows
one-line : (A B : Line → World → World → Type 0) (reply : List Line) (old new : World) → ((line : Line) → A line old new → B line old new) → OneLine A reply old new → OneLine B reply old new
one-line A B [] old new f k = k
one-line A B (line ∷ []) old new f k = f line k
one-line A B (line ∷ other ∷ more) old new f k = k

sent-among : (w : Bool) (sent : Sent) (line : Line) (old new : World) → SteppedExecutesSent sent line old new → ExecutesSent w sent line old new
sent-among w sent line old new k = go (first_of (sent_refusals old sent)) k
  where
    go : (o : Option Refusal) → MatchOption o (SteppedPerforms old (statements.At sent) line new) (λ refusal. Refuses old refusal line new) → MatchOption o (PerformsSent w old sent line new) (λ refusal. Refuses old refusal line new)
    go None h = performs-among w old (statements.At sent) line new h
    go (Some refusal) h = h

sent-alone : (sent : Sent) (line : Line) (old new : World) → ExecutesSent false sent line old new → SteppedExecutesSent sent line old new
sent-alone sent line old new k = go (first_of (sent_refusals old sent)) k
  where
    go : (o : Option Refusal) → MatchOption o (PerformsSent false old sent line new) (λ refusal. Refuses old refusal line new) → MatchOption o (SteppedPerforms old (statements.At sent) line new) (λ refusal. Refuses old refusal line new)
    go None h = performs-alone old (statements.At sent) line new h
    go (Some refusal) h = h

lane-among : (w : Bool) (old : World) (lane : List Sent) (reply : List Line) (new : World) → SteppedPlaysLane old lane reply new → PlaysLane w old lane reply new
lane-among w old [] [] new k = k
lane-among w old [] (line ∷ reply) new k = absurd k
lane-among w old (sent ∷ lane) [] new k = absurd k
lane-among w old (sent ∷ lane) (line ∷ reply) new k = (old, k.0, rests-all-none w old, sent-among w sent line old k.0 k.1, lane-among w k.0 lane reply new k.2)

lane-alone : (old : World) (lane : List Sent) (reply : List Line) (new : World) → PlaysLane false old lane reply new → SteppedPlaysLane old lane reply new
lane-alone old [] [] new k = k
lane-alone old [] (line ∷ reply) new k = absurd k
lane-alone old (sent ∷ lane) [] new k = absurd k
lane-alone old (sent ∷ lane) (line ∷ reply) new k =
    (k.1, subst (λ (x : World). SteppedExecutesSent sent line x k.1) (rests-alone old k.0 k.2) (sent-alone sent line k.0 k.1 k.3), lane-alone k.1 lane reply new k.4)

lanes-among : (w : Bool) (old : World) (number : ℕ) (lanes : List (List Sent)) (reply : List Line) (new : World) → SteppedPlaysEach old number lanes reply new → PlaysEach w old number lanes reply new
lanes-among w old number [] reply new k = k
lanes-among w old number (lane ∷ lanes) reply new k = (k.0, k.1, k.2, k.3, lane-among w old lane k.0 k.2 k.4, lanes-among w k.2 (suc number) lanes k.1 new k.5)

lanes-alone : (old : World) (number : ℕ) (lanes : List (List Sent)) (reply : List Line) (new : World) → PlaysEach false old number lanes reply new → SteppedPlaysEach old number lanes reply new
lanes-alone old number [] reply new k = k
lanes-alone old number (lane ∷ lanes) reply new k = (k.0, k.1, k.2, k.3, lane-alone old lane k.0 k.2 k.4, lanes-alone k.2 (suc number) lanes k.1 new k.5)

replies-among : (w : Bool) (statement : Statement) (first : ℕ) (reply : List Line) (old new : World) → SteppedRepliesTo statement first reply old new → RepliesTo w statement first reply old new
replies-among w (statements.Lanes lanes) first reply old new k = record { each = k.each; plays = lanes-among w old 1 lanes k.each new k.plays; ended = k.ended }
replies-among w (statements.Replicas count) first reply old new k = one-line _ _ reply old new (λ line h. statement-among w old (statements.Replicas count) first line new h) k
replies-among w (statements.Create table columns partition key granularity window) first reply old new k = one-line _ _ reply old new (λ line h. statement-among w old (statements.Create table columns partition key granularity window) first line new h) k
replies-among w (statements.Kill name) first reply old new k = one-line _ _ reply old new (λ line h. statement-among w old (statements.Kill name) first line new h) k
replies-among w (statements.Restart name) first reply old new k = one-line _ _ reply old new (λ line h. statement-among w old (statements.Restart name) first line new h) k
replies-among w (statements.Run table turns seed) first reply old new k = one-line _ _ reply old new (λ line h. statement-among w old (statements.Run table turns seed) first line new h) k
replies-among w (statements.At sent) first reply old new k = one-line _ _ reply old new (λ line h. statement-among w old (statements.At sent) first line new h) k

replies-alone : (statement : Statement) (first : ℕ) (reply : List Line) (old new : World) → RepliesTo false statement first reply old new → SteppedRepliesTo statement first reply old new
replies-alone (statements.Lanes lanes) first reply old new k = record { each = k.each; plays = lanes-alone old 1 lanes k.each new k.plays; ended = k.ended }
replies-alone (statements.Replicas count) first reply old new k = one-line _ _ reply old new (λ line h. statement-alone old (statements.Replicas count) first line new h) k
replies-alone (statements.Create table columns partition key granularity window) first reply old new k = one-line _ _ reply old new (λ line h. statement-alone old (statements.Create table columns partition key granularity window) first line new h) k
replies-alone (statements.Kill name) first reply old new k = one-line _ _ reply old new (λ line h. statement-alone old (statements.Kill name) first line new h) k
replies-alone (statements.Restart name) first reply old new k = one-line _ _ reply old new (λ line h. statement-alone old (statements.Restart name) first line new h) k
replies-alone (statements.Run table turns seed) first reply old new k = one-line _ _ reply old new (λ line h. statement-alone old (statements.Run table turns seed) first line new h) k
replies-alone (statements.At sent) first reply old new k = one-line _ _ reply old new (λ line h. statement-alone old (statements.At sent) first line new h) k

executes-among : (w : Bool) (old : World) (found : Parsed) (reply : List Line) (new : World) → SteppedExecutes old found reply new → Executes w old found reply new
executes-among w old (parsed.Statement statement first end) reply new k = replies-among w statement first reply old new k
executes-among w old (parsed.Syntax offset end) reply new k = k
executes-among w old parsed.End reply new k = k

executes-alone : (old : World) (found : Parsed) (reply : List Line) (new : World) → Executes false old found reply new → SteppedExecutes old found reply new
executes-alone old (parsed.Statement statement first end) reply new k = replies-alone statement first reply old new k
executes-alone old (parsed.Syntax offset end) reply new k = k
executes-alone old parsed.End reply new k = k

step-among : (w : Bool) (script : List ℕ) (from : ℕ) (old : World) (reply : List Line) (at : ℕ) (new : World) → SteppedStep script from old reply at new → Step w script from old reply at new
step-among w script from old reply at new k = record { rested = old; rests = rests-all-none w old; found = k.found; reads = k.reads; ends = k.ends; executes = executes-among w old k.found reply new k.executes }

step-alone : (script : List ℕ) (from : ℕ) (old : World) (reply : List Line) (at : ℕ) (new : World) → Step false script from old reply at new → SteppedStep script from old reply at new
step-alone script from old reply at new k = record {
  found = k.found;
  reads = k.reads;
  ends = k.ends;
  executes = subst (λ (x : World). SteppedExecutes x k.found reply new) (rests-alone old k.rested k.rests) (executes-alone k.rested k.found reply new k.executes);
}

played-among : (w : Bool) (script : List ℕ) (replies : List (List Line)) (at : ℕ) (world : World) → SteppedPlayed script replies at world → Played w script replies at world
played-among w script [] at world k = k
played-among w script (reply ∷ replies) at world k = (k.0, k.1, played-among w script replies k.0 k.1 k.2, step-among w script k.0 k.1 reply at world k.3)

played-alone : (script : List ℕ) (replies : List (List Line)) (at : ℕ) (world : World) → Played false script replies at world → SteppedPlayed script replies at world
played-alone script [] at world k = k
played-alone script (reply ∷ replies) at world k = (k.0, k.1, played-alone script replies k.0 k.1 k.2, step-alone script k.0 k.1 reply at world k.3)

-- ---- a whole run

pub record SteppedPlayedWhole (script : List ℕ) (Told : List (List Line) → Type 0) (refused : ℕ) (clusters : List Cluster) : Type 0 where
  pub replies : List (List Line)
  pub at : ℕ
  pub world : World
  pub played : SteppedPlayed script replies at world
  pub ended : ReadsAt script at parsed.End
  pub told : Told replies
  pub counted : refused ≡ refusals_in replies
  pub shown : AreShown clusters world.tables
  pub replicas : Each (HasReplicas world.replicas world.up) clusters
  pub agree : Each Agrees clusters

pub record SteppedPlayedSome (script : List ℕ) (Told : List (List Line) → Type 0) : Type 0 where
  pub replies : List (List Line)
  pub at : ℕ
  pub world : World
  pub played : SteppedPlayed script replies at world
  pub told : Told replies

pub record SteppedPlayedToEnd (script : List ℕ) (Told : List (List Line) → Type 0) (refused : ℕ) (end : End) : Type 0 where
  pub clusters : List Cluster
  pub handed_back : HandsBack end clusters
  pub played : SteppedPlayedWhole script Told refused clusters

pub whole-among : (w : Bool) (script : List ℕ) (Told : List (List Line) → Type 0) (refused : ℕ) (clusters : List Cluster) → SteppedPlayedWhole script Told refused clusters → PlayedWhole w script Told refused clusters
whole-among w script Told refused clusters k = record {
  replies = k.replies;
  at = k.at;
  last = k.world;
  played = played-among w script k.replies k.at k.world k.played;
  ended = k.ended;
  told = k.told;
  counted = k.counted;
  world = k.world;
  rests = rests-all-none w k.world;
  shown = k.shown;
  replicas = k.replicas;
  agree = k.agree;
}

pub whole-alone : (script : List ℕ) (Told : List (List Line) → Type 0) (refused : ℕ) (clusters : List Cluster) → PlayedWhole false script Told refused clusters → SteppedPlayedWhole script Told refused clusters
whole-alone script Told refused clusters k = record {
  replies = k.replies;
  at = k.at;
  world = k.world;
  played = subst (λ (x : World). SteppedPlayed script k.replies k.at x) (sym (rests-alone k.last k.world k.rests)) (played-alone script k.replies k.at k.last k.played);
  ended = k.ended;
  told = k.told;
  counted = k.counted;
  shown = k.shown;
  replicas = k.replicas;
  agree = k.agree;
}

pub some-among : (w : Bool) (script : List ℕ) (Told : List (List Line) → Type 0) → SteppedPlayedSome script Told → PlayedSome w script Told
some-among w script Told k = record { replies = k.replies; at = k.at; world = k.world; played = played-among w script k.replies k.at k.world k.played; told = k.told }

pub some-alone : (script : List ℕ) (Told : List (List Line) → Type 0) → PlayedSome false script Told → SteppedPlayedSome script Told
some-alone script Told k = record { replies = k.replies; at = k.at; world = k.world; played = played-alone script k.replies k.at k.world k.played; told = k.told }

pub end-among : (w : Bool) (script : List ℕ) (Told : List (List Line) → Type 0) (refused : ℕ) (end : End) → SteppedPlayedToEnd script Told refused end → PlayedToEnd w script Told refused end
end-among w script Told refused end k = record { clusters = k.clusters; handed_back = k.handed_back; played = whole-among w script Told refused k.clusters k.played }

pub end-alone : (script : List ℕ) (Told : List (List Line) → Type 0) (refused : ℕ) (end : End) → PlayedToEnd false script Told refused end → SteppedPlayedToEnd script Told refused end
end-alone script Told refused end k = record { clusters = k.clusters; handed_back = k.handed_back; played = whole-alone script Told refused k.clusters k.played }
