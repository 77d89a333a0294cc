-- How a round of statements among workers goes, and what it leaves. No public clause cites this module.
use Rattle.std.specs.Prelude.{◌≡◌, ◌≢◌, ◌⊎◌, ◌≤◌, ◌<◌, ℕ, true, List, [], ◌∷◌, ◌++◌, length, replicate}
use Rattle.std.specs.declared.option.Option.{Option}
use Rattle.rmt_outside.specs.Faults.{Rose}
use Rattle.rmt_values.specs.Rows.{Shape}
use Rattle.rmt_reply.specs.declared.line.Line.TheVariants as lines
use Rattle.rmt_events.specs.Views.{Block}
use Rattle.rmt_state.specs.States.{StateView}
use Rattle.rmt_state.specs.NewStates.{IsNewState}
use Rattle.rmt_known.specs.KnownTables.{new_known}
use Rattle.rmt_workers.specs.declared.carried.Carried.{Carried}
use Rattle.rmt_play.specs.World.{World}
use Rattle.rmt_play.specs.declared.round.Round.{Round}
use Rattle.rmt_play.specs.declared.round.Round.TheVariants as rounds
use Rattle.rmt_play.specs.declared.threaded.client.Client.{Client}
use Rattle.rmt_play.specs.declared.end.End.{End}
use Rattle.rmt_play.specs.declared.end.End.TheVariants as handed
use Rattle.rmt_play.specs.declared.status.Status.{Status}
use Rattle.rmt_play.specs.declared.threaded.ground.Ground.{Ground}
use Rattle.rmt_play.specs.declared.threaded.made.Made.{Made}
use Rattle.rmt_play.specs.declared.threaded.made.Made.TheVariants as mades
use Rattle.rmt_play.specs.declared.threaded.threaded_end.ThreadedEnd.{ThreadedEnd}
use Rattle.rmt_play.specs.declared.threaded.threaded_end.ThreadedEnd.TheVariants as ends
use Rattle.rmt_play.specs.declared.threaded.span.Span.{Span}
use Rattle.rmt_play.specs.declared.threaded.span.Span.TheVariants as spans
use Rattle.rmt_play.specs.Offered.{OffersScript}
use Rattle.rmt_play.specs.Outlets.{Outlet, KeepsMarks, AddsInPart, Tells, Told, ToldInPart}
use Rattle.rmt_play.specs.Runs.{CutShort, PlayedInPart, PlayedSome, Writes}
use Rattle.rmt_play.specs.declared.printing.Printing.{Printing}
use Rattle.rmt_play.specs.Threads.{AreClearIn, PlayedAmong}
use Rattle.rmt_play.specs.PlayerSteps.{Sights, PlayerView, IsIn, IsSound, view_of}
use Rattle.rmt_play.specs.ScriptEnds.{IsRound}
use Rattle.rmt_play.specs.Seats.{seats_seen, ground_view, IsGround}

-- ---- a client

-- the player is sound, and the script offers only what may come
pub record IsReadyClient (e : Sights) {E T : Type 0} (tables : E → List e.Table) (c : Client E T) : Type 0 where
  pub sound : IsSound e tables c.player
  pub within : c.from ≤ length c.script.now
  pub few : c.count ≤ c.from
  pub offered : OffersScript e.offers c.script.now

-- the round was played, its replies told where they were to go, and the client is handed back
pub record PlaysRound (o : Outlet) (e : Sights) {E T : Type 0} (tables : E → List e.Table) (told : T → Option (List o.Mark)) (faults : T → ℕ) (c d : Client E T) : Type 0 where
  pub teller : d.teller.ghost_name ≡ c.teller.ghost_name
  pub sound : IsSound e tables d.player
  pub round : IsRound o c.script.now c.from c.count (view_of e tables c.player) (view_of e tables d.player) (told c.teller.now) (told d.teller.now) d.round
  pub cause : d.round ≡ rounds.WriteFault → Rose (faults c.teller.now) (faults d.teller.now)
  pub quiet : d.round ≢ rounds.WriteFault → faults d.teller.now ≡ faults c.teller.now
  pub later : faults c.teller.now ≤ faults d.teller.now

-- ---- rounds

-- in whatever world the player was, it is in that still
abbrev pub StaysIn : {e : Sights} → PlayerView e → PlayerView e → Type 0
StaysIn p q = (w : World) → IsIn p w → IsIn q w

-- so it is with what a round leaves to the next
pub record LeavesGround (Offers : Shape → Block → Type 0) (p : PlayerView (seats_seen Offers)) (g : Ground) : Type 0 where
  pub stays : StaysIn p (ground_view Offers g)
  pub ground : IsGround Offers g

-- how a round among workers ended that a client has ended so, once its tables are at rest
abbrev pub TellsSpan : (Offers : Shape → Block → Type 0) → PlayerView (seats_seen Offers) → Round → Span → Type 0
TellsSpan Offers p round (spans.AtEnd refused g) = (round ≡ rounds.AtEnd refused) × LeavesGround Offers p g
TellsSpan Offers p round (spans.Creates table schema end refused g) = (round ≡ rounds.Creates table schema end refused) × LeavesGround Offers p g
TellsSpan Offers p round spans.WriteFault = round ≡ rounds.WriteFault
TellsSpan Offers p round spans.Memory = round ≢ rounds.WriteFault

-- a round among workers from a place on, where so many statements were refused before; then no thread is left
pub record IsSpan (o : Outlet) (Offers : Shape → Block → Type 0) (script : List ℕ) (from count : ℕ) (old : PlayerView (seats_seen Offers)) (before after : Option (List o.Mark)) (span : Span) : Type 0 where
  pub paused : PlayerView (seats_seen Offers)
  pub round : Round
  pub plays : IsRound o script from count old paused before after round
  pub tells : TellsSpan Offers paused round span

-- there are two replicas, and no table
pub record IsFirstGround (g : Ground) : Type 0 where
  pub replicas : g.cast.replicas ≡ 2
  pub ups : g.cast.up ≡ replicate 8 true
  pub names : g.cast.names.items ≡ []
  pub states : g.carried.states.items ≡ []
  pub known : g.carried.known.items ≡ []
  pub up : g.carried.up.items ≡ replicate 2 true

-- ---- CREATE

-- a table without rows comes behind those at rest: its replicas have nothing, and its client knows nothing of it
pub record AddsAtRest (schema : Shape) (old new : Carried) : Type 0 where
  pub state : StateView
  pub is_new : IsNewState schema old.up.items state
  pub states : new.states.items ≡ old.states.items ++ state ∷ []
  pub known : new.known.items ≡ old.known.items ++ new_known schema (length old.up.items) ∷ []
  pub up : new.up.items ≡ old.up.items

-- so it does with its name, and there are few still
pub record AddsTo (name : List ℕ) (schema : Shape) (old new : Ground) : Type 0 where
  pub replicas : new.cast.replicas ≡ old.cast.replicas
  pub ups : new.cast.up ≡ old.cast.up
  pub names : new.cast.names.items ≡ old.cast.names.items ++ name ∷ []
  pub carried : AddsAtRest schema old.carried new.carried
  pub few : length old.cast.names.items < 4

-- the tables, their names and their replicas are the same
pub record SameTables (old new : Ground) : Type 0 where
  pub carried : new.carried ≡ old.carried
  pub replicas : new.cast.replicas ≡ old.cast.replicas
  pub ups : new.cast.up ≡ old.cast.up
  pub names : new.cast.names ≡ old.cast.names

-- a table is made between two rounds, and its reply told, or not all of it; or no memory was left, and nothing was told
abbrev pub MakesAmong : (o : Outlet) → List ℕ → Shape → Ground → Option (List o.Mark) → Option (List o.Mark) → Made → Type 0
MakesAmong o table schema old before after (mades.On g) = AddsTo table schema old g × Tells o (lines.Okay ∷ []) before after
MakesAmong o table schema old before after mades.WriteFault = (g : Ground) × AddsTo table schema old g × AddsInPart before after (o.marks (lines.Okay ∷ []))
MakesAmong o table schema old before after mades.Memory = KeepsMarks before after

-- ---- the end

-- how a script among workers ends, where its offered blocks are clear
abbrev pub EndsAmong : (o : Outlet) → List ℕ → Option (List o.Mark) → Option (List o.Mark) → ThreadedEnd → Type 0
EndsAmong o script before after (ends.Whole refused states) = AreClearIn script → PlayedAmong script (Told o before after) refused states
EndsAmong o script before after ends.WriteFault = AreClearIn script → PlayedSome true script (ToldInPart o before after)
EndsAmong o script before after ends.Memory = AreClearIn script → PlayedSome true script (Told o before after)

-- how it ends where its replies are written so
abbrev pub IsWrittenAmong : Printing → List ℕ → Option (List ℕ) → Option (List ℕ) → ThreadedEnd → Type 0
IsWrittenAmong printing script before after (ends.Whole refused states) = AreClearIn script → PlayedAmong script (Writes printing before after) refused states
IsWrittenAmong printing script before after ends.WriteFault = AreClearIn script → CutShort true printing before after script
IsWrittenAmong printing script before after ends.Memory = AreClearIn script → PlayedInPart true printing before after script

-- the code and the count of such an end, and the tables, where there are any
abbrev pub IsThreadedStatus : ThreadedEnd → Status × List StateView → Type 0
IsThreadedStatus (ends.Whole refused states) x =
    (x.0.refused ≡ refused) × (((x.0.code ≡ 0) × (refused ≡ 0)) ⊎ ((x.0.code ≡ 2) × (0 < refused))) × (x.1 ≡ states)
IsThreadedStatus ends.WriteFault x = (x.0.code ≡ 5) × (x.0.refused ≡ 0)
IsThreadedStatus ends.Memory x = (x.0.code ≡ 6) × (x.0.refused ≡ 0)

-- tables are handed back exactly where a script was played to its end
abbrev pub IsHandedAmong : ℕ → List StateView → End → Type 0
IsHandedAmong code states (handed.Threaded given) = ((code ≡ 0) ⊎ (code ≡ 2)) × (given ≡ states)
IsHandedAmong code states (handed.Stepped clusters) = ⊥
IsHandedAmong code states handed.Nothing = (code ≢ 0) × (code ≢ 2)
