-- Which partition a word names.
-- ClickHouse documentation, ALTER, "How to set partition expression": `PARTITION expr` and `PARTITION ID 'id'`; MergeTree, custom
-- partitioning key: the id of a partition by a number is its text, and `all` without partitioning.
use Rattle.std.specs.Prelude.{ℕ, ◌^◌, cond, nat_lt}
use Rattle.std.specs.declared.option.Option.{Option}
use Rattle.std.specs.declared.option.Option.TheVariants.{Some, None}
use Rattle.rmt_values.specs.declared.partition_rule.PartitionRule.{PartitionRule}
use Rattle.rmt_names.specs.Texts.{partition_of_text}
use Rattle.rmt_statements.specs.declared.partition_word.PartitionWord.{PartitionWord}
use Rattle.rmt_statements.specs.declared.partition_word.PartitionWord.TheVariants as words

-- the partition that a word names, of one table or another
abbrev pub partition_written : PartitionWord → Option (Option ℕ)
partition_written words.Tuple = Some None
partition_written (words.Number n) = cond (nat_lt n (2 ^ 64)) (Some (Some n)) None
partition_written (words.Id text) = partition_of_text text

-- without a rule a table has the one partition, and with a rule those of numbers
abbrev pub of_rule : Option PartitionRule → Option (Option ℕ) → Option (Option ℕ)
of_rule None (Some None) = Some None
of_rule (Some rule) (Some (Some n)) = Some (Some n)
of_rule rule partition = None

-- the partition that a word names, where the table has such a rule
abbrev pub partition_named : Option PartitionRule → PartitionWord → Option (Option ℕ)
partition_named rule word = of_rule rule (partition_written word)
