use Rattle.std.proofs.Common.{◌≡◌, ◌++◌, ◌-◌, ◌*◌, length, take, drop}
use Rattle.rmt_format.specs.PartBytes.{granules_bytes, rows_bytes}
use Rattle.rmt_format.specs.StoredBytes.{RowsAreHeld}
use Rattle.rmt_format.proofs.granules.put_granules.Given as goal

abbrev pub invariant-granules : goal.invariant-granules
invariant-granules l = record {
  bytes :
      l.out.items ++ granules_bytes (length l.part.kinds) l.part.granularity (l.count - l.g) (drop (l.g * l.part.granularity) l.part.rows)
      ≡ l.fn.out.items ++ rows_bytes l.part;
  held : RowsAreHeld (take (l.g * l.part.granularity) l.part.rows);
}
