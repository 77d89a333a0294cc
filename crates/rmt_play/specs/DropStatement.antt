-- ALTER .. DROP PARTITION.
-- ClickHouse documentation, ALTER, "DROP PARTITION".
use Rattle.std.specs.Prelude.{◌≡◌, ◌⊎◌, ℕ}
use Rattle.std.specs.declared.option.Option.{Option}
use Rattle.std.specs.declared.option.Option.TheVariants.{Some}
use Rattle.rmt_statements.specs.declared.partition_word.PartitionWord.{PartitionWord}
use Rattle.rmt_statements.specs.Partitions.{partition_named}
use Rattle.rmt_statement_model.specs.TableStates.{TableState}
use Rattle.rmt_statement_model.specs.Drops.{Drops, DropsNothing, LacksDrop}
use Rattle.rmt_reply.specs.declared.line.Line.{Line}
use Rattle.rmt_reply.specs.declared.line.Line.TheVariants as lines

-- the partition's blocks below the number of the reply are dropped, none where it doesn't exist; or the drop would pass a limit
abbrev pub DropsPartition : TableState → ℕ → Option ℕ → Line → TableState → Type 0
DropsPartition t r p (lines.Dropped partition below) u = (partition ≡ p) × (Drops t r p below u ⊎ DropsNothing t p below u)
DropsPartition t r p (lines.Refused refusal) u = LacksDrop t p refusal u
DropsPartition t r p line u = ⊥

-- the partition that a word names
pub record DropsNamed (t : TableState) (r : ℕ) (word : PartitionWord) (line : Line) (u : TableState) : Type 0 where
  pub partition : Option ℕ
  pub named : partition_named t.schema.partition word ≡ Some partition
  pub drops : DropsPartition t r partition line u
