-- What always holds of a table.
-- No public source: this program's own.
use Rattle.std.specs.Prelude.{◌≡◌, ℕ, ◌<◌, ◌≤◌}
use Rattle.std.specs.declared.option.Option.{Option}
use Rattle.rmt_names.specs.Names.{rank}
use Rattle.rmt_model.specs.Words.{Each, Pairwise}
use Rattle.rmt_model.specs.Lawful.{Used, IsFresh, Lawful}
use Rattle.rmt_model.specs.Window.{kept}
use Rattle.rmt_model.specs.Quorum.{IsQuorum}
use Rattle.rmt_events.specs.Views.{Lock, Table}
use Rattle.rmt_model.specs.BlockNumbers.{next_number}

-- a lock's number was taken, and a block may still be committed under it
pub record IsFree (t : Table) (k : Lock) : Type 0 where
  pub below : k.number < next_number t.next k.partition
  pub fresh : IsFresh t.log k.partition k.number

-- the log is lawful; the next numbers are in order, and a number that an entry uses is below the next; each lock is free; the
-- kept ids and the quorum are those of the log; the values are within their limit
pub record IsSoundTable (t : Table) : Type 0 where
  pub lawful : Lawful t.schema t.log
  pub ordered : Pairwise (λ x y. rank x.0 < rank y.0) t.next
  pub taken : Each (λ x. 1 ≤ x.1) t.next
  pub used : (p : Option ℕ) (n : ℕ) → Used t.log p n → n < next_number t.next p
  pub locks : Each (IsFree t) t.locks
  pub window : t.window ≡ kept t.schema.window t.log
  pub quorum : IsQuorum t.log t.quorum
  pub values : t.values ≤ 8388608
