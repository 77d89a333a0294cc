-- The writer of records between two of them. No public clause cites this module.
use Rattle.std.specs.Prelude.{◌≡◌, ℕ, List, ◌++◌, true, false}
use Rattle.std.specs.Global.{Vec}
use Rattle.csv.specs.Writing.{default_writer, fields_written, has_written, with_flexible, writer_pending, writer_setup, writer_under}
use Rattle.csv.specs.declared.writer.Writer.{Writer}

-- it has the defaults, but that records may differ in length, and no field of the next record is written
pub record IsBetweenRecords {W : Type 0} (w : Writer W) : Type 0 where
  pub setup : writer_setup w ≡ with_flexible default_writer true
  pub fields : fields_written w ≡ 0
  pub wrote : has_written w ≡ false

-- the text that it wrote
abbrev pub text_in : Writer (Vec ℕ) → List ℕ
text_in w = (writer_under w).items ++ writer_pending w
