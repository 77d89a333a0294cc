-- What a player has, and what the steps of a statement do. No public clause cites this module.
use Rattle.std.specs.Prelude.{◌≡◌, ◌⊎◌, ⊤, ℕ, zero, suc, ◌<◌, ◌≤◌, ◌-◌, ◌&&◌, nat_lt, Bool, true, false, List, [], ◌∷◌, ◌++◌, length, map, replicate, slice_get, slice_index_or, slice_set, count_by, MatchOption, IsErr}
use Rattle.std.specs.List.{All}
use Rattle.std.specs.Str.{bytes_eq}
use Rattle.std.specs.declared.option.Option.{Option}
use Rattle.std.specs.declared.option.Option.TheVariants.{Some, None}
use Rattle.std.specs.declared.result.Result.{Result}
use Rattle.std.specs.declared.result.Result.TheVariants.{Ok, Err}
use Rattle.std.specs.declared.alloc.AllocError.{AllocError}
use Rattle.rmt_values.specs.declared.schema_error.SchemaError.{SchemaError}
use Rattle.rmt_values.specs.declared.schema_error.SchemaError.TheVariants as schemas
use Rattle.rmt_values.specs.Rows.{Shape, fits}
use Rattle.rmt_model.specs.Words.{Each}
use Rattle.rmt_state.specs.States.{IsNumber}
use Rattle.rmt_model.specs.Content.{Row}
use Rattle.rmt_events.specs.Views.{Block}
use Rattle.rmt_events.specs.Clusters.{Cluster}
use Rattle.rmt_statement_model.specs.TableStates.{TableState, empty_table}
use Rattle.rmt_statement_model.specs.Shows.{Shows, HoldsNone, ups}
use Rattle.rmt_sql.specs.declared.parsed.Parsed.{Parsed}
use Rattle.rmt_sql.specs.Script.{ReadsAt, statements_in}
use Rattle.rmt_statements.specs.declared.act.Act.{Act}
use Rattle.rmt_statements.specs.declared.act.Act.TheVariants as acts
use Rattle.rmt_statements.specs.declared.insert.Insert.{Insert}
use Rattle.rmt_statements.specs.declared.sent.Sent.{Sent}
use Rattle.rmt_statements.specs.declared.statement.Statement.{Statement}
use Rattle.rmt_statements.specs.declared.statement.Statement.TheVariants as statements
use Rattle.rmt_sql_rows.specs.declared.rows_error.RowsError.TheVariants as errors
use Rattle.rmt_sql_rows.specs.InsertedRows.{names_refusal, all_names}
use Rattle.rmt_sql_rows.specs.Inserts.{AreInsertedRows, IsBadInsertRow}
use Rattle.rmt_reply.specs.declared.line.Line.{Line}
use Rattle.rmt_reply.specs.declared.refusal.Refusal.{Refusal}
use Rattle.rmt_reply.specs.declared.refusal.Refusal.TheVariants.{BadRow}
use Rattle.rmt_reply.specs.Summaries.{is_refused}
use Rattle.rmt_play.specs.declared.answer.Answer.{Answer}
use Rattle.rmt_play.specs.declared.player.Player.{Player}
use Rattle.rmt_play.specs.declared.answer.Answer.TheVariants as answers
use Rattle.rmt_play.specs.World.{Table, World}
use Rattle.rmt_play.specs.Checks.{first_of, create_refusals, kill_refusals, restart_refusals, run_refusals, refusals}
use Rattle.rmt_play.specs.ActRefusals.{or_else, refused_names, refused_quorum, act_refusal}
use Rattle.rmt_cluster.specs.NewClusters.{IsNewCluster}
use Rattle.rmt_acts.specs.StatementEvents.{Makes}
use Rattle.rmt_acting.specs.Acting.{Sight, GoesOn, KeepsShape, TurnsReplica, Stays}
use Rattle.rmt_acting.specs.Stepped.{seen_of}
use Rattle.rmt_play.specs.WorldRests.{RestsAll}
use Rattle.rmt_play.specs.ActSteps.{ExecutesThere, RunsTable}
use Rattle.rmt_play.specs.Plays.{Creates, session_event, Turns, RunsIn, Performs, Refuses, OneLine, PlaysLane, PlaysLanes, Executes, EndsAt}

-- ---- what a player has

-- what is seen of tables: their type, whether workers run beside them, which blocks may come to a table of a schema, and what is
-- seen of each
pub record Sights : Type 1 where
  pub Table : Type 0
  pub workers : Bool
  pub offers : Shape → Block → Type 0
  pub seen : Table → Sight workers

-- clusters, beside which no workers run
abbrev pub clusters_seen : Sights
clusters_seen = record { Table = Cluster; workers = false; offers = λ schema b. ⊤; seen = seen_of }

-- a table with its name
pub record NamedTable (e : Sights) : Type 0 where
  pub name : List ℕ
  pub table : e.Table

-- how many replicas there are, which of the eight that there may be are up, and the tables in the order in which they were
-- created
pub record PlayerView (e : Sights) : Type 0 where
  pub replicas : ℕ
  pub up : List Bool
  pub tables : List (NamedTable e)

-- tables with their names
abbrev pub named : (e : Sights) → List (List ℕ) → List e.Table → List (NamedTable e)
named e (name ∷ names) (t ∷ tables) = record { name = name; table = t } ∷ named e names tables
named e names tables = []

-- the replica of a number is among the first so many, and up
abbrev pub is_up : ℕ → List Bool → ℕ → Bool
is_up count up zero = false
is_up count up (suc i) = nat_lt i count && slice_index_or up i false

-- a table at so many replicas, of which these are up, and no insert is under way
pub record IsAtAll (e : Sights) (count : ℕ) (up : List Bool) (t : e.Table) : Type 0 where
  pub all : (e.seen t).count ≡ count
  pub ups_are : (e.seen t).ups ≡ is_up count up
  pub free : (e.seen t).free

-- there are 1 to 8 replicas, and each table is at all of them
pub record IsSoundPlayer {e : Sights} (p : PlayerView e) : Type 0 where
  pub some : 0 < p.replicas
  pub few : p.replicas ≤ 8
  pub eight : length p.up ≡ 8
  pub all : Each (λ t. IsAtAll e p.replicas p.up t.table) p.tables

-- what a player has, of which these are the tables
abbrev pub view_of : (e : Sights) {E : Type 0} → (E → List e.Table) → Player E → PlayerView e
view_of e tables p = record { replicas = p.replicas; up = p.up; tables = named e p.names.items (tables p.engine) }

-- it is sound, and each table has a name
pub record IsSound (e : Sights) {E : Type 0} (tables : E → List e.Table) (p : Player E) : Type 0 where
  pub player : IsSoundPlayer (view_of e tables p)
  pub lengths : length p.names.items ≡ length (tables p.engine)

-- the same of a player with clusters
abbrev pub clusters_in : Player (List Cluster) → PlayerView clusters_seen
clusters_in p = view_of clusters_seen (λ all. all) p

abbrev pub IsSoundIn : Player (List Cluster) → Type 0
IsSoundIn p = IsSound clusters_seen (λ all. all) p

-- there are two replicas, and no table
abbrev pub IsEmptyPlayer : {e : Sights} → PlayerView e → Type 0
IsEmptyPlayer p = p ≡ record { replicas = 2; up = replicate 8 true; tables = [] }

-- a cluster without rows, at so many replicas, of which these are up
pub record IsNewTable (schema : Shape) (count : ℕ) (up : List Bool) (c : Cluster) : Type 0 where
  pub ups_given : List Bool
  pub is_new : IsNewCluster schema ups_given c
  pub shows : Shows c (empty_table schema)
  pub all : length c.replicas ≡ count
  pub ups_are : ups c ≡ is_up count up
  pub free : HoldsNone c

-- a table has its name, and is shown; where no workers run, it has its cluster
pub record IsTableOf {e : Sights} (c : NamedTable e) (t : Table) : Type 0 where
  pub name : t.name ≡ c.name
  pub cluster : e.workers ≡ false → t.cluster ≡ (e.seen c.table).cluster
  pub shows : (e.seen c.table).shows t.state

-- each of the tables has
abbrev pub ShowTables : {e : Sights} → List (NamedTable e) → List Table → Type 0
ShowTables [] [] = Unit {0}
ShowTables (c ∷ clusters) (t ∷ tables) = IsTableOf c t × ShowTables clusters tables
ShowTables clusters tables = ⊥

-- the player is in this world
pub record IsIn {e : Sights} (p : PlayerView e) (w : World) : Type 0 where
  pub replicas : w.replicas ≡ p.replicas
  pub up : w.up ≡ is_up p.replicas p.up
  pub tables : ShowTables p.tables w.tables

-- the player is in a world of which this holds
pub record ComesTo {e : Sights} (p : PlayerView e) (Holds : World → Type 0) : Type 0 where
  pub world : World
  pub holds : Holds world
  pub is_in : IsIn p world

-- the world rests, and then changes so
pub record RestsFirst (workers : Bool) (Change : World → World → Type 0) (w v : World) : Type 0 where
  pub at : World
  pub rests : RestsAll workers w at
  pub change : Change at v

-- in whatever world the player was, it is in one then to which this leads
abbrev pub Reaches : {e : Sights} → PlayerView e → (World → World → Type 0) → PlayerView e → Type 0
Reaches p Change q = (w : World) → IsIn p w → ComesTo q (Change w)

-- the same, once the world rested
abbrev pub Moves : {e : Sights} → PlayerView e → (World → World → Type 0) → PlayerView e → Type 0
Moves {e} p Change q = Reaches p (RestsFirst e.workers Change) q

-- ---- tables by their names

-- no name before a place is this one
abbrev pub IsFirst : List (List ℕ) → List ℕ → ℕ → Type 0
IsFirst names name place = (j : ℕ) (n : List ℕ) → j < place → slice_get names j ≡ Some n → bytes_eq n name ≡ true → ⊥

-- the name at a place is this one, and none before it is
pub record IsThere (names : List (List ℕ)) (name : List ℕ) (place : ℕ) : Type 0 where
  pub found : List ℕ
  pub there : slice_get names place ≡ Some found
  pub named : bytes_eq found name ≡ true
  pub first : IsFirst names name place

-- the place of the first such name, where there is one
abbrev pub IsPlaceAmong : List (List ℕ) → List ℕ → Option ℕ → Type 0
IsPlaceAmong names name place = MatchOption place ((j : ℕ) (n : List ℕ) → slice_get names j ≡ Some n → bytes_eq n name ≡ true → ⊥) (IsThere names name)

-- a number of replicas
pub record IsCount (count : ℕ) : Type 0 where
  pub some : 0 < count
  pub few : count ≤ 8

-- ---- CREATE

-- the cluster of a new table comes behind those that there are
pub record AddsTable (schema : Shape) (count : ℕ) (up : List Bool) (old new : List Cluster) : Type 0 where
  pub cluster : Cluster
  pub is_new : IsNewTable schema count up cluster
  pub change : new ≡ old ++ cluster ∷ []

-- a schema's refusal that a CREATE with columns can meet
abbrev pub IsCreateRefusal : SchemaError → Type 0
IsCreateRefusal schemas.NoColumns = ⊥
IsCreateRefusal schemas.Memory = ⊥
IsCreateRefusal refusal = Unit {0}

-- a CREATE makes its table, or is refused
abbrev pub ExecutesCreate : List ℕ → Option SchemaError → Shape → Line → World → World → Type 0
ExecutesCreate table refusal schema line old new =
    MatchOption (first_of (create_refusals old table refusal)) (Creates old table schema line new) (λ why. Refuses old why line new)

-- a CREATE of which this refusal is known does so, whatever schema it would have
abbrev pub CreatesNone : List ℕ → SchemaError → Line → World → World → Type 0
CreatesNone table e line old new = (schema : Shape) → ExecutesCreate table (Some e) schema line old new

-- whoever makes this table in a world that the player is in, once it rested, does so
abbrev pub HandsOut : {e : Sights} → PlayerView e → (List Line → World → World → Type 0) → List ℕ → Shape → Type 0
HandsOut {e} p Does table schema = (line : Line) (w at v : World) → IsIn p w → RestsAll e.workers w at → Creates at table schema line v → Does (line ∷ []) at v

-- a statement does so, and has this reply; or nothing changed, and it is the CREATE of a table that is still to be made
abbrev pub Answers : {e : Sights} → PlayerView e → (List Line → World → World → Type 0) → Answer → PlayerView e → Type 0
Answers p Does (answers.Reply line) q = Moves p (Does (line ∷ [])) q
Answers p Does (answers.Lanes reply) q = Moves p (Does reply) q
Answers p Does (answers.Creates table schema) q = (q ≡ p) × HandsOut p Does table schema

-- the statement was played, with this reply, or no memory was left
abbrev pub IsReplied : Result Line AllocError → Result Answer AllocError → Type 0
IsReplied (Ok line) result = result ≡ Ok (answers.Reply line)
IsReplied (Err e) result = IsErr result

-- ---- INSERT

-- the refusal of the columns that the INSERT names, or of its setting
abbrev pub insert_refusal : Shape → Insert → Option Refusal
insert_refusal schema insert = or_else (refused_names (names_refusal schema.columns insert.columns)) (refused_quorum insert.quorum)

-- the rows of the INSERT
pub record HasRows (schema : Shape) (insert : Insert) (rows : List Row) : Type 0 where
  pub known : insert_refusal schema insert ≡ None
  pub read : AreInsertedRows schema.columns (all_names schema.columns insert.columns) insert.rows rows
  pub fit : All (λ row. fits schema.columns row ≡ true) rows

-- the first bad row of the INSERT
pub record HasBadRow (schema : Shape) (insert : Insert) (refusal : Refusal) : Type 0 where
  pub known : insert_refusal schema insert ≡ None
  pub row : ℕ
  pub is : refusal ≡ BadRow row
  pub refused : IsBadInsertRow schema.columns (all_names schema.columns insert.columns) insert.rows (errors.BadRow row)

-- why the rows of the INSERT are refused
abbrev pub RefusesRows : Shape → Insert → Refusal → Type 0
RefusesRows schema insert refusal =
    (insert_refusal schema insert ≡ Some refusal) ⊎ HasBadRow schema insert refusal

-- ---- what is sent to a replica

-- the cause for which an act is refused in a table of this schema, whatever replica it is sent to
abbrev pub IsOwnRefusal : Shape → Act → Option Refusal → Type 0
IsOwnRefusal schema (acts.Insert insert) why = MatchOption why ((rows : List Row) × HasRows schema insert rows) (RefusesRows schema insert)
IsOwnRefusal schema act why = (t : TableState) → t.schema ≡ schema → act_refusal t act ≡ why

-- the replica of a number is there, up or down as is said, and no insert is under way in the table at a place
pub record IsReady (e : Sights) (tables : List e.Table) (place r : ℕ) (is_up : Bool) : Type 0 where
  pub here : (t : e.Table) → slice_get tables place ≡ Some t → IsNumber r (e.seen t).count
  pub ups_are : (t : e.Table) → slice_get tables place ≡ Some t → (e.seen t).ups r ≡ is_up
  pub free : (t : e.Table) → slice_get tables place ≡ Some t → (e.seen t).free

-- no insert is under way in the table at a place
abbrev pub IsFreeThere : (e : Sights) → List e.Table → ℕ → Type 0
IsFreeThere e tables place = (t : e.Table) → slice_get tables place ≡ Some t → (e.seen t).free

-- the table at a place changes so, and nothing else does
pub record ChangesAt (e : Sights) (olds : List e.Table) (place : ℕ) (Change : Sight e.workers → Sight e.workers → Type 0) (news : List e.Table) : Type 0 where
  pub table : e.Table
  pub there : slice_get olds place ≡ Some table
  pub after : e.Table
  pub changes : Change (e.seen table) (e.seen after)
  pub goes_on : GoesOn (e.seen table) (e.seen after)
  pub keeps : KeepsShape (e.seen table) (e.seen after)
  pub rest : news ≡ slice_set olds place after

-- the same of a player
pub record ChangesIn {e : Sights} (old : PlayerView e) (place : ℕ) (Change : Sight e.workers → Sight e.workers → Type 0) (new : PlayerView e) : Type 0 where
  pub table : NamedTable e
  pub there : slice_get old.tables place ≡ Some table
  pub after : e.Table
  pub changes : Change (e.seen table.table) (e.seen after)
  pub rest : new ≡ record old { tables = slice_set old.tables place (record table { table = after }) }

-- the act is done in the table at a place, or refused
abbrev pub ActsAt : {e : Sights} → PlayerView e → ℕ → ℕ → Act → Line → PlayerView e → Type 0
ActsAt old place replica act line new = ChangesIn old place (λ s u. ExecutesThere s replica act line u) new

-- ---- KILL and RESTART

-- the session of the replica ends in a table, or another one begins; what is shown stays
pub record TurnsTable (e : Sights) (replica : ℕ) (is_up : Bool) (t v : e.Table) : Type 0 where
  pub shows : Stays (e.seen t) (e.seen v)
  pub turns : TurnsReplica replica is_up (e.seen t) (e.seen v)
  pub all : (e.seen v).count ≡ (e.seen t).count
  pub events : e.workers ≡ false → Makes (e.seen t).cluster (session_event replica is_up ∷ []) (e.seen v).cluster

-- the same of each of the tables
pub record TurnsEach (e : Sights) (replica : ℕ) (is_up : Bool) (olds news : List e.Table) : Type 0 where
  pub all : length news ≡ length olds
  pub each : (j : ℕ) (t v : e.Table) → slice_get olds j ≡ Some t → slice_get news j ≡ Some v → TurnsTable e replica is_up t v

-- the replica is so in each table, and nothing else changes
pub record TurnsAll {e : Sights} (old : PlayerView e) (replica : ℕ) (is_up : Bool) (new : PlayerView e) : Type 0 where
  pub names : map (λ t. t.name) new.tables ≡ map (λ t. t.name) old.tables
  pub each : TurnsEach e replica is_up (map (λ t. t.table) old.tables) (map (λ t. t.table) new.tables)
  pub rest : new ≡ record old { up = slice_set old.up (replica - 1) is_up; tables = new.tables }

-- a KILL is done, or refused
abbrev pub ExecutesKill : Bool → List ℕ → Line → World → World → Type 0
ExecutesKill workers name line old new = MatchOption (first_of (kill_refusals old name)) (Turns workers old name false line new) (λ refusal. Refuses old refusal line new)

-- a RESTART is done, or refused
abbrev pub ExecutesRestart : Bool → List ℕ → Line → World → World → Type 0
ExecutesRestart workers name line old new = MatchOption (first_of (restart_refusals old name)) (Turns workers old name true line new) (λ refusal. Refuses old refusal line new)

-- ---- RUN

-- background work is done in the table at a place
abbrev pub RunsAt : {e : Sights} → PlayerView e → ℕ → ℕ → ℕ → Line → PlayerView e → Type 0
RunsAt old place turns seed line new = ChangesIn old place (RunsTable turns seed line) new

-- background work is done in its table, or refused
abbrev pub ExecutesRun : Bool → List ℕ → ℕ → ℕ → Line → World → World → Type 0
ExecutesRun workers table turns seed line old new =
    MatchOption (first_of (run_refusals old table turns seed)) (RunsIn workers old table turns seed line new) (λ refusal. Refuses old refusal line new)

-- ---- LANES

-- the statements of a lane were played, these lines were added to a reply, and no more of them tell of a refusal than there are statements
pub record AddsLane {e : Sights} (old : PlayerView e) (lane : List Sent) (before after : List Line) (new : PlayerView e) : Type 0 where
  pub reply : List Line
  pub plays : Reaches old (λ w v. PlaysLane e.workers w lane reply v) new
  pub added : after ≡ before ++ reply
  pub few : count_by is_refused reply ≤ length lane

-- how many lines of the reply tell of a refusal
abbrev pub refusals_told : Answer → ℕ
refusals_told (answers.Reply line) = count_by is_refused (line ∷ [])
refusals_told (answers.Lanes reply) = count_by is_refused reply
refusals_told (answers.Creates table schema) = 0

-- as many as that may
abbrev pub most_refusals : Statement → ℕ
most_refusals (statements.Lanes lanes) = statements_in lanes
most_refusals statement = 1

-- ---- a statement

-- a statement that is played, but for LANES, is refused with the first refusal that it meets, or does what it says
abbrev pub ExecutesLine : Bool → Statement → Line → World → World → Type 0
ExecutesLine workers statement line old new =
    MatchOption (first_of (refusals old statement)) (Performs workers old statement line new) (λ refusal. Refuses old refusal line new)

-- the same of each statement that is played
abbrev pub ExecutesPlayed : Bool → Statement → List Line → World → World → Type 0
ExecutesPlayed workers (statements.Lanes lanes) = PlaysLanes workers lanes
ExecutesPlayed workers statement = OneLine (ExecutesLine workers statement)

-- the statement at a place of a script is played, up to another place
pub record Steps (workers : Bool) (script : List ℕ) (from : ℕ) (reply : List Line) (end : ℕ) (old new : World) : Type 0 where
  pub found : Parsed
  pub reads : ReadsAt script from found
  pub ends : EndsAt found end
  pub executes : Executes workers old found reply new

-- the same, by the reply
abbrev pub StepsTo : Bool → List ℕ → ℕ → ℕ → List Line → World → World → Type 0
StepsTo workers script from end reply old new = Steps workers script from reply end old new
