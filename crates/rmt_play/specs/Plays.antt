-- What statements reply and change, and the events that they make, one after the other. Workers may run beside them, or none; the
-- events of a cluster are those of a player without workers.
use Rattle.std.specs.Prelude.{◌≡◌, ℕ, suc, cond, List, [], ◌∷◌, ◌++◌, length, Bool, true, false, MatchOption}
use Rattle.std.specs.Str.{bytes_eq}
use Rattle.std.specs.declared.option.Option.TheVariants.{Some}
use Rattle.rmt_values.specs.Rows.{Shape}
use Rattle.rmt_events.specs.Clusters.{Cluster}
use Rattle.rmt_events.specs.declared.event.Event.{Event}
use Rattle.rmt_events.specs.declared.event.Event.TheVariants as ev
use Rattle.rmt_cluster.specs.NewClusters.{IsNewCluster}
use Rattle.rmt_cluster.specs.Runs.{RunsAll}
use Rattle.rmt_statement_model.specs.TableStates.{TableState}
use Rattle.rmt_statement_model.specs.Shows.{ups}
use Rattle.rmt_acts.specs.StatementEvents.{Makes}
use Rattle.rmt_sql.specs.declared.parsed.Parsed.{Parsed}
use Rattle.rmt_sql.specs.declared.parsed.Parsed.TheVariants as parsed
use Rattle.rmt_statements.specs.declared.sent.Sent.{Sent}
use Rattle.rmt_statements.specs.declared.statement.Statement.{Statement}
use Rattle.rmt_statements.specs.declared.statement.Statement.TheVariants as statements
use Rattle.rmt_sql.specs.Script.{ReadsAt}
use Rattle.rmt_reply.specs.declared.line.Line.{Line}
use Rattle.rmt_reply.specs.declared.line.Line.TheVariants as lines
use Rattle.rmt_reply.specs.declared.refusal.Refusal.{Refusal}
use Rattle.rmt_reply.specs.declared.refusal.Refusal.TheVariants.{Syntax}
use Rattle.rmt_play.specs.World.{Table, World, all_up, with_up, start, new_table}
use Rattle.rmt_play.specs.WorldRests.{RestsAll}
use Rattle.rmt_play.specs.Checks.{schema_made, table_of, replica_of, replica_at, table_named, first_of, sent_refusals, refusal_of}
use Rattle.rmt_play.specs.Acts.{Acts}
use Rattle.rmt_play.specs.ActEvents.{ActEvents}
use Rattle.rmt_play.specs.RunStatement.{RunsTurns}

-- a refusal changes nothing
pub record Refuses (old : World) (refusal : Refusal) (line : Line) (new : World) : Type 0 where
  pub reply : line ≡ lines.Refused refusal
  pub unchanged : new ≡ old

-- ---- what a statement does that meets no refusal

-- REPLICAS: there are so many, all of them up
pub record Counts (old : World) (count : ℕ) (line : Line) (new : World) : Type 0 where
  pub reply : line ≡ lines.Okay
  pub change : new ≡ record old { replicas = count; up = all_up count }

-- CREATE makes an empty table, whose cluster has all replicas, and to which nothing has come yet
pub record Creates (old : World) (name : List ℕ) (schema : Shape) (line : Line) (new : World) : Type 0 where
  pub cluster : Cluster
  pub ups_are : List Bool
  pub is_new : IsNewCluster schema ups_are cluster
  pub counted : length cluster.replicas ≡ old.replicas
  pub are_up : ups cluster ≡ old.up
  pub reply : line ≡ lines.Okay
  pub change : new ≡ record old { tables = old.tables ++ new_table name schema cluster ∷ [] }

-- the tables, with one in place of the one of that name
abbrev pub with_table : List Table → List ℕ → Table → List Table
with_table [] name t = []
with_table (u ∷ others) name t = cond (bytes_eq u.name name) (t ∷ others) (u ∷ with_table others name t)

-- the table of this name changes so, and nothing else does; where no workers run, by these events of its cluster
pub record InTable (workers : Bool) (old : World) (name : List ℕ) (Change : TableState → TableState → Type 0) (Events : Cluster → Cluster → Type 0) (new : World) : Type 0 where
  pub table : Table
  pub found : table_of old.tables name ≡ Some table
  pub after : TableState
  pub changes : Change table.state after
  pub cluster : Cluster
  pub events : workers ≡ false → Events table.cluster cluster
  pub rest : new ≡ record old { tables = with_table old.tables name (record table { state = after; cluster = cluster }) }

-- what is sent to a replica is done in its table
pub record PerformsSent (workers : Bool) (old : World) (sent : Sent) (line : Line) (new : World) : Type 0 where
  pub replica : ℕ
  pub at : replica_at old.replicas sent.replica ≡ Some replica
  pub acts : InTable workers old (table_named sent.act) (λ t u. Acts workers old.up t replica sent.act line u) (λ s u. ActEvents s replica sent.act line u) new

-- the event with which a replica goes down, or comes up
abbrev pub session_event : ℕ → Bool → Event
session_event r false = ev.Kill r
session_event r true = ev.Restart r

-- the tables' states stay; where no workers run, one event is made in the cluster of each
abbrev pub InEach : Bool → Event → List Table → List Table → Type 0
InEach workers event [] [] = Unit {0}
InEach workers event (t ∷ olds) (u ∷ news) =
    (u ≡ record t { cluster = u.cluster }) × (workers ≡ false → Makes t.cluster (event ∷ []) u.cluster) × InEach workers event olds news
InEach workers event olds news = ⊥

-- KILL and RESTART: the replica of this name is down, or up, then. What it has of each table stays
pub record Turns (workers : Bool) (old : World) (name : List ℕ) (is_up : Bool) (line : Line) (new : World) : Type 0 where
  pub replica : ℕ
  pub at : replica_of old.replicas name ≡ Some replica
  pub reply : line ≡ lines.Okay
  pub tables : List Table
  pub events : InEach workers (session_event replica is_up) old.tables tables
  pub change : new ≡ record old { up = with_up old.up replica is_up; tables = tables }

-- RUN: background work is done in its table, by events that are drawn from the seed
abbrev pub RunsIn : Bool → World → List ℕ → ℕ → ℕ → Line → World → Type 0
RunsIn workers old table turns seed line new =
    InTable workers old table (λ t u. RunsTurns workers old.up t turns line u) (λ s u. RunsAll s seed turns u) new

-- what a statement does that meets no refusal; the others aren't played
abbrev pub Performs : Bool → World → Statement → Line → World → Type 0
Performs workers old (statements.Replicas count) line new = Counts old count line new
Performs workers old (statements.Create table columns partition key granularity window) line new =
    Creates old table (schema_made columns partition key granularity window) line new
Performs workers old (statements.Kill name) line new = Turns workers old name false line new
Performs workers old (statements.Restart name) line new = Turns workers old name true line new
Performs workers old (statements.Run table turns seed) line new = RunsIn workers old table turns seed line new
Performs workers old (statements.At sent) line new = PerformsSent workers old sent line new
Performs workers old statement line new = ⊥

-- a statement is refused with the first refusal that it meets, or does what it says
abbrev pub ExecutesStatement : Bool → World → Statement → ℕ → Line → World → Type 0
ExecutesStatement workers old statement first line new =
    MatchOption (refusal_of old statement first) (Performs workers old statement line new)
    (λ refusal. Refuses old refusal line new)

-- the reply is one line
abbrev pub OneLine : (Line → World → World → Type 0) → List Line → World → World → Type 0
OneLine Does (line ∷ []) = Does line
OneLine Does reply = λ old new. ⊥

-- ---- LANES

-- what is sent to a replica is done in its table, or refused
abbrev pub ExecutesSent : Bool → Sent → Line → World → World → Type 0
ExecutesSent workers sent line old new =
    MatchOption (first_of (sent_refusals old sent)) (PerformsSent workers old sent line new) (λ refusal. Refuses old refusal line new)

-- the statements of a lane are played one after the other, each with its line; the world may rest before each
abbrev pub PlaysLane : Bool → World → List Sent → List Line → World → Type 0
PlaysLane workers old [] [] new = new ≡ old
PlaysLane workers old (sent ∷ lane) (line ∷ reply) new =
    (rested : World) × (mid : World) × RestsAll workers old rested × ExecutesSent workers sent line rested mid × PlaysLane workers mid lane reply new
PlaysLane workers old lane reply new = ⊥

-- lanes are played one after the other, numbered from a number on: each has a line with its number, and then those of its statements
abbrev pub PlaysEach : Bool → World → ℕ → List (List Sent) → List Line → World → Type 0
PlaysEach workers old number [] reply new = (reply ≡ []) × (new ≡ old)
PlaysEach workers old number (lane ∷ lanes) reply new =
    (first : List Line) × (more : List Line) × (mid : World) × (reply ≡ lines.Lane number ∷ first ++ more)
    × PlaysLane workers old lane first mid × PlaysEach workers mid (suc number) lanes more new

-- LANES: lanes are played, the first of which has number 1, and a last line ends the reply
pub record PlaysLanes (workers : Bool) (lanes : List (List Sent)) (reply : List Line) (old new : World) : Type 0 where
  pub each : List Line
  pub plays : PlaysEach workers old 1 lanes each new
  pub ended : reply ≡ each ++ lines.End ∷ []

-- ---- a script

-- what a statement replies and changes: LANES has the lines of its lanes, each other statement has one
abbrev pub RepliesTo : Bool → Statement → ℕ → List Line → World → World → Type 0
RepliesTo workers (statements.Lanes lanes) first reply old new = PlaysLanes workers lanes reply old new
RepliesTo workers statement first reply old new = OneLine (λ line w v. ExecutesStatement workers w statement first line v) reply old new

-- what was read replies and changes
abbrev pub Executes : Bool → World → Parsed → List Line → World → Type 0
Executes workers old (parsed.Statement statement first end) reply new = RepliesTo workers statement first reply old new
Executes workers old (parsed.Syntax offset end) reply new = OneLine (λ line w v. Refuses w (Syntax offset) line v) reply old new
Executes workers old parsed.End reply new = ⊥

-- what was read ends at this place
abbrev pub EndsAt : Parsed → ℕ → Type 0
EndsAt (parsed.Statement statement first end) at = at ≡ end
EndsAt (parsed.Syntax offset end) at = at ≡ end
EndsAt parsed.End at = ⊥

-- one statement: it begins at a place of the script, ends at another, and has this reply; the world may rest before it
pub record Step (workers : Bool) (script : List ℕ) (from : ℕ) (old : World) (reply : List Line) (at : ℕ) (new : World) : Type 0 where
  pub rested : World
  pub rests : RestsAll workers old rested
  pub found : Parsed
  pub reads : ReadsAt script from found
  pub ends : EndsAt found at
  pub executes : Executes workers rested found reply new

-- some statements of a script, from a place and a world to a place and a world: their replies, the newest first
abbrev pub PlayedFrom : Bool → List ℕ → ℕ → World → List (List Line) → ℕ → World → Type 0
PlayedFrom workers script from old [] at new = (at ≡ from) × (new ≡ old)
PlayedFrom workers script from old (reply ∷ replies) at new =
    (mid : ℕ) × (before : World) × PlayedFrom workers script from old replies mid before × Step workers script mid before reply at new

-- some first statements of a script, up to a place: their replies, the newest first, and the world after them
abbrev pub Played : Bool → List ℕ → List (List Line) → ℕ → World → Type 0
Played workers script replies at world = PlayedFrom workers script 0 start replies at world
