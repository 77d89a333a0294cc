-- RUN: background events.
-- No public source: the statement is this program's own.
use Rattle.std.specs.Prelude.{◌≡◌, ℕ, Bool}
use Rattle.rmt_statement_model.specs.TableStates.{TableState}
use Rattle.rmt_statement_model.specs.Rests.{Runs}
use Rattle.rmt_reply.specs.declared.line.Line.{Line}
use Rattle.rmt_reply.specs.declared.line.Line.TheVariants as lines

-- so many turns of background work, where these replicas are up: the log gains at most as many entries of it, and some of these
-- replicas are noted for the part that waits for its quorum; nothing else changes. Where workers run, theirs is done besides
pub record RunsTurns (workers : Bool) (up : ℕ → Bool) (t : TableState) (turns : ℕ) (line : Line) (u : TableState) : Type 0 where
  pub runs : Runs workers up turns t u
  pub reply : line ≡ lines.Ran turns
