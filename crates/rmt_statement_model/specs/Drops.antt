-- ALTER .. DROP PARTITION.
-- ClickHouse documentation, ALTER, "DROP PARTITION". That a drop takes a block number, and takes away the blocks below it, is as
-- in ClickHouse's DROP_RANGE; what it does to the window of deduplication is this program's own.
use Rattle.std.specs.Prelude.{◌≡◌, ℕ, ◌+◌, ◌<◌}
use Rattle.std.specs.declared.option.Option.{Option}
use Rattle.std.specs.declared.option.Option.TheVariants.{Some, None}
use Rattle.rmt_values.specs.declared.limit.Limit.{Limit}
use Rattle.rmt_entries.specs.declared.entry.Entry.TheVariants.{DropRange}
use Rattle.rmt_model.specs.Quorum.{quorum_after_drop}
use Rattle.rmt_model.specs.BlockNumbers.{next_number, with_next}
use Rattle.rmt_model.specs.EntryLimits.{drop_limit}
use Rattle.rmt_reply.specs.declared.refusal.Refusal.{Refusal}
use Rattle.rmt_reply.specs.declared.refusal.Refusal.TheVariants.{LimitReached}
use Rattle.rmt_statement_model.specs.TableStates.{TableState, gains_at}

-- the table with a drop of a partition under its next number, known at the replica; its quorum is without what is dropped
abbrev pub with_drop : TableState → ℕ → Option ℕ → TableState
with_drop t r p = gains_at r (DropRange p (next_number t.next p)) (record t { next = with_next t.next p (next_number t.next p + 1); quorum = quorum_after_drop p (next_number t.next p) t.quorum })

-- the blocks of the partition below a number are dropped
pub record Drops (t : TableState) (r : ℕ) (p : Option ℕ) (below : ℕ) (u : TableState) : Type 0 where
  pub exists : 0 < next_number t.next p
  pub room : drop_limit t.next t.log p ≡ None
  pub number : below ≡ next_number t.next p
  pub change : u ≡ with_drop t r p

-- the partition doesn't exist; nothing changes
pub record DropsNothing (t : TableState) (p : Option ℕ) (below : ℕ) (u : TableState) : Type 0 where
  pub absent : next_number t.next p ≡ 0
  pub number : below ≡ 0
  pub unchanged : u ≡ t

-- one more drop would pass a limit; nothing changes
pub record LacksDrop (t : TableState) (p : Option ℕ) (refusal : Refusal) (u : TableState) : Type 0 where
  pub exists : 0 < next_number t.next p
  pub limit : Limit
  pub value : ℕ
  pub reached : drop_limit t.next t.log p ≡ Some (limit, value)
  pub reply : refusal ≡ LimitReached limit value
  pub unchanged : u ≡ t
