-- OPTIMIZE TABLE .. FINAL.
-- ClickHouse documentation, OPTIMIZE: `PARTITION` and `FINAL`.
use Rattle.std.specs.Prelude.{◌≡◌, ℕ, Bool, List}
use Rattle.std.specs.declared.option.Option.{Option}
use Rattle.std.specs.declared.option.Option.TheVariants.{Some, None}
use Rattle.rmt_values.specs.declared.partition_rule.PartitionRule.{PartitionRule}
use Rattle.rmt_names.specs.Names.{Name}
use Rattle.rmt_statements.specs.declared.partition_word.PartitionWord.{PartitionWord}
use Rattle.rmt_statements.specs.Partitions.{partition_named}
use Rattle.rmt_statement_model.specs.TableStates.{TableState}
use Rattle.rmt_statement_model.specs.Optimizes.{OptimizesTable}
use Rattle.rmt_reply.specs.declared.line.Line.{Line}
use Rattle.rmt_reply.specs.declared.line.Line.TheVariants as lines
use Rattle.rmt_reply.specs.declared.refusal.Refusal.{Refusal}

-- the partition that a statement names, where it names one
abbrev pub IsAsked : Option PartitionRule → Option PartitionWord → Option (Option ℕ) → Type 0
IsAsked rule None None = Unit {0}
IsAsked rule (Some word) (Some partition) = partition_named rule word ≡ Some partition
IsAsked rule word asked = ⊥

-- the parts of that partition, or of each, are merged into one; the reply has the one name of each, and why the next has none
pub record OptimizesNamed (workers : Bool) (up : ℕ → Bool) (t : TableState) (r : ℕ) (word : Option PartitionWord) (line : Line) (u : TableState) : Type 0 where
  pub asked : Option (Option ℕ)
  pub named : IsAsked t.schema.partition word asked
  pub names : List Name
  pub refused : Option Refusal
  pub optimizes : OptimizesTable workers up t r asked names refused u
  pub reply : line ≡ lines.Optimized names refused
