-- A run among workers: what it asks of the blocks that its script offers, and what it hands back.
-- ClickHouse documentation, Data Replication: replicas copy the log and do it in the background. That a block's id is its partition and
-- the SHA-256 of its rows is this program's own.
use Rattle.std.specs.Prelude.{◌≡◌, ℕ, Bool, true, false, List, [], ◌∷◌, length, map}
use Rattle.std.specs.declared.option.Option.{Option}
use Rattle.std.specs.declared.option.Option.TheVariants.{Some, None}
use Rattle.rmt_values.specs.Rows.{Shape}
use Rattle.rmt_model.specs.Words.{Each}
use Rattle.rmt_partset.specs.ActiveParts.{part_names}
use Rattle.rmt_replica.specs.Replicas.{ReplicaView}
use Rattle.rmt_replica.specs.SeenReplica.{shown}
use Rattle.rmt_state.specs.States.{StateView}
use Rattle.rmt_statement_model.specs.TableStates.{TableState}
use Rattle.rmt_clients.specs.Clients.{AreClear}
use Rattle.rmt_clients.specs.ClientReadings.{IsChecked}
use Rattle.rmt_sql.specs.declared.parsed.Parsed.TheVariants as parsed
use Rattle.rmt_sql.specs.Script.{ReadsAt}
use Rattle.rmt_reply.specs.declared.line.Line.{Line}
use Rattle.rmt_play.specs.World.{Table, World}
use Rattle.rmt_play.specs.WorldRests.{RestsAll}
use Rattle.rmt_play.specs.Shown.{AgreesOn}
use Rattle.rmt_play.specs.Plays.{Played}
use Rattle.rmt_play.specs.Offered.{IsOfferedBy}
use Rattle.rmt_play.specs.Runs.{refusals_in, CutShort, PlayedInPart, PlayedToEnd, Writes}
use Rattle.rmt_play.specs.declared.end.End.{End}
use Rattle.rmt_play.specs.declared.end.End.TheVariants as ends
use Rattle.rmt_play.specs.declared.printing.Printing.{Printing}

-- no two blocks that the script brings to tables of one schema have one id and differ
abbrev pub AreClearIn : List ℕ → Type 0
AreClearIn script = (schema : Shape) → AreClear (IsOfferedBy script schema)

-- ---- what is handed back

-- the replica may fetch as the state has it; and what is known at it is covered by an active part there, or dropped in the log
pub record ShowsReplica (t : TableState) (r : ReplicaView) : Type 0 where
  pub fetching : r.fetches ≡ t.fetching r.number
  pub checked : IsChecked t.log (t.known r.number) (part_names r.parts)

-- the table with its replicas is in this state, and the replicas agree on the blocks that were accepted: those that are drained to one
-- length of the log have equal parts, and what is read of a drained one is the plain rows
pub record ShowsState (s : StateView) (t : TableState) : Type 0 where
  pub schema : t.schema ≡ s.tree.schema
  pub log : t.log ≡ s.tree.log
  pub next : t.next ≡ s.tree.next
  pub quorum : t.quorum ≡ s.tree.quorum
  pub replicas : Each (ShowsReplica t) s.replicas
  pub agree : AgreesOn (map shown s.replicas) t.blocks

-- so it is with each table, in their order
abbrev pub AreShownBy : List StateView → List Table → Type 0
AreShownBy [] [] = Unit {0}
AreShownBy (s ∷ states) (t ∷ tables) = ShowsState s t.state × AreShownBy states tables
AreShownBy states tables = ⊥

-- the table has so many replicas, of which these are up
pub record HasReplicasUp (count : ℕ) (up : ℕ → Bool) (s : StateView) : Type 0 where
  pub counted : length s.replicas ≡ count
  pub are_up : Each (λ r. r.up ≡ up r.number) s.replicas

-- The whole script was played among workers, this was told of its replies, so many of its statements were refused, and these tables
-- with their replicas are in the states that it left: in each the replicas are up and down as the script left them. Workers may have gone
-- on after the last statement.
pub record PlayedAmong (script : List ℕ) (Told : List (List Line) → Type 0) (refused : ℕ) (states : List StateView) : Type 0 where
  pub replies : List (List Line)
  pub at : ℕ
  pub last : World
  pub played : Played true script replies at last
  pub ended : ReadsAt script at parsed.End
  pub told : Told replies
  pub counted : refused ≡ refusals_in replies
  pub world : World
  pub rests : RestsAll true last world
  pub shown : AreShownBy states world.tables
  pub replicas : Each (HasReplicasUp world.replicas world.up) states

-- ---- with workers and without

-- these tables are handed back
pub record AmongToEnd (script : List ℕ) (Told : List (List Line) → Type 0) (refused : ℕ) (end : End) : Type 0 where
  pub states : List StateView
  pub handed_back : end ≡ ends.Threaded states
  pub played : PlayedAmong script Told refused states

-- the whole script was played with so many workers, or none, and its replies written; so many statements were refused, and this is handed
-- back
abbrev pub PlaysToEnd : Option ℕ → Printing → Option (List ℕ) → Option (List ℕ) → ℕ → End → List ℕ → Type 0
PlaysToEnd None printing before after refused end script = PlayedToEnd false script (Writes printing before after) refused end
PlaysToEnd (Some count) printing before after refused end script = AreClearIn script → AmongToEnd script (Writes printing before after) refused end

-- no memory was left
abbrev pub PlaysInPart : Option ℕ → Printing → Option (List ℕ) → Option (List ℕ) → List ℕ → Type 0
PlaysInPart None printing before after script = PlayedInPart false printing before after script
PlaysInPart (Some count) printing before after script = AreClearIn script → PlayedInPart true printing before after script

-- a write failed
abbrev pub PlaysCut : Option ℕ → Printing → Option (List ℕ) → Option (List ℕ) → List ℕ → Type 0
PlaysCut None printing before after script = CutShort false printing before after script
PlaysCut (Some count) printing before after script = AreClearIn script → CutShort true printing before after script
