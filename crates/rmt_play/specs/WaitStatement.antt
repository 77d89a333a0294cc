-- WAIT MUTATION.
-- ClickHouse documentation, ALTER, "Mutations" (`mutations_sync`). The statement is this program's own.
use Rattle.std.specs.Prelude.{◌≡◌, ◌⊎◌, ℕ, Bool}
use Rattle.rmt_statement_model.specs.TableStates.{TableState}
use Rattle.rmt_statement_model.specs.LostSources.{LacksSource}
use Rattle.rmt_statement_model.specs.Waits.{WaitsFor, LacksEntries}
use Rattle.rmt_reply.specs.declared.line.Line.{Line}
use Rattle.rmt_reply.specs.declared.line.Line.TheVariants as lines

-- no part waits for the mutation any more, and its id is the reply; or the replica lacks a part, or one more entry would pass a
-- limit
abbrev pub Waits : Bool → (ℕ → Bool) → TableState → ℕ → ℕ → Line → TableState → Type 0
Waits workers up t r id (lines.Done done) u = (done ≡ id) × WaitsFor workers t r id u
Waits workers up t r id (lines.Refused refusal) u = LacksSource up t r refusal u ⊎ LacksEntries workers t r id refusal u
Waits workers up t r id line u = ⊥
