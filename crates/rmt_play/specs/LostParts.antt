-- A statement that is refused since its replica lacks a part.
-- ClickHouse documentation, Data Replication: a part that a replica lacks is fetched from another one. The refusal is this
-- program's own.
use Rattle.std.specs.Prelude.{◌≡◌, ℕ, Bool}
use Rattle.rmt_reply.specs.declared.refusal.Refusal.{Refusal}
use Rattle.rmt_reply.specs.declared.line.Line.{Line}
use Rattle.rmt_reply.specs.declared.line.Line.TheVariants as lines
use Rattle.rmt_statement_model.specs.TableStates.{TableState}
use Rattle.rmt_statement_model.specs.LostSources.{LacksSource}

-- the replica lacks a part, where these replicas are up, and that is the refusal
pub record LacksSome (up : ℕ → Bool) (t : TableState) (r : ℕ) (line : Line) (u : TableState) : Type 0 where
  pub refusal : Refusal
  pub lacks : LacksSource up t r refusal u
  pub reply : line ≡ lines.Refused refusal
