-- The text of a part's name: `partition_min_max_level`, with `_mutation` where the part was mutated.
-- ClickHouse documentation, MergeTree, "Data storage". Numbers are decimals without leading zeros.
use Rattle.std.specs.Prelude.{ℕ, ◌^◌, ◌&&◌, cond, nat_eq, nat_lt, List, [], ◌++◌, codes}
use Rattle.std.specs.Str.{bytes_eq}
use Rattle.std.specs.Str.Parse.{digits_value}
use Rattle.std.specs.declared.option.Option.{Option}
use Rattle.std.specs.declared.option.Option.TheVariants.{Some, None}
use Rattle.std.specs.Fmt.{decimal}
use Rattle.rmt_names.specs.Names.{Name}

-- the text of a partition's id
abbrev pub partition_text : Option ℕ → List ℕ
partition_text None = codes "all"
partition_text (Some p) = decimal p

-- the partition whose id has this text: `all`, or the number below 2^64 of which it is the decimal
abbrev pub partition_of_text : List ℕ → Option (Option ℕ)
partition_of_text text =
    cond (bytes_eq text (codes "all")) (Some None)
    (cond (bytes_eq text (decimal (digits_value 10 text)) && nat_lt (digits_value 10 text) (2 ^ 64)) (Some (Some (digits_value 10 text))) None)

-- a number after an underscore
abbrev pub field : ℕ → List ℕ
field n = codes "_" ++ decimal n

-- the mutation, where there is one
abbrev pub mutation_text : ℕ → List ℕ
mutation_text m = cond (nat_eq m 0) [] (field m)

-- the partition, the three numbers, and the mutation after them
abbrev pub text_of : Name → List ℕ
text_of a = partition_text a.partition ++ field a.min ++ field a.max ++ field a.level ++ mutation_text a.mutation
