-- SYSTEM SYNC REPLICA, SYSTEM RESTART REPLICA, SYSTEM STOP FETCHES and SYSTEM START FETCHES.
-- ClickHouse documentation, SYSTEM: "SYNC REPLICA" waits until a replica has done the log; "RESTART REPLICA" begins its session
-- anew; "STOP FETCHES" and "START FETCHES" stop and start the fetches of a table. That they are of one replica is this program's
-- own.
use Rattle.std.specs.Prelude.{◌≡◌, ◌⊎◌, ℕ, Bool}
use Rattle.rmt_statement_model.specs.TableStates.{TableState, synced, with_switch}
use Rattle.rmt_play.specs.LostParts.{LacksSome}
use Rattle.rmt_reply.specs.declared.line.Line.{Line}
use Rattle.rmt_reply.specs.declared.line.Line.TheVariants as lines

-- every place of the log is known at the replica then, and it is noted where a part waits for its quorum
pub record Drains (t : TableState) (r : ℕ) (line : Line) (u : TableState) : Type 0 where
  pub reply : line ≡ lines.Okay
  pub change : u ≡ synced r t

-- the replica is brought up to date, or lacks a part
abbrev pub SyncsReplica : (ℕ → Bool) → TableState → ℕ → Line → TableState → Type 0
SyncsReplica up t r line u = Drains t r line u ⊎ LacksSome up t r line u

-- what is known at the replica is known still, and nothing changes
pub record RestartsReplica (t : TableState) (line : Line) (u : TableState) : Type 0 where
  pub reply : line ≡ lines.Okay
  pub unchanged : u ≡ t

-- the replica may fetch from now on, or not
pub record SwitchesFetches (t : TableState) (r : ℕ) (allowed : Bool) (line : Line) (u : TableState) : Type 0 where
  pub reply : line ≡ lines.Okay
  pub change : u ≡ with_switch t r allowed
