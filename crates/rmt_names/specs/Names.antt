-- What the name of a part says.
-- ClickHouse documentation, MergeTree, "Data storage", and Data Replication: partition, block range, level of merges, mutation.
-- A partition's number stands for its id; an unpartitioned table has the one partition `all`.
use Rattle.std.specs.Prelude.{◌≡◌, ℕ, ◌+◌, ◌-◌, ◌<◌, ◌≤◌, ◌^◌, ◌&&◌, Bool, cond, max, nat_eq, nat_le, List, [], ◌∷◌, IfSome}
use Rattle.std.specs.declared.option.Option.{Option}
use Rattle.std.specs.declared.option.Option.TheVariants.{Some, None}

-- the partition, the blocks from min to max, how many merges lie below it, and the last mutation applied, 0 for none
pub record Name : Type 0 where
  pub partition : Option ℕ
  pub min : ℕ
  pub max : ℕ
  pub level : ℕ
  pub mutation : ℕ

-- a name that a part may have: at least one number in its range, and each number in its width
pub record IsName (a : Name) : Type 0 where
  pub ordered : a.min ≤ a.max
  pub partition : IfSome a.partition (λ p. p < 2 ^ 64)
  pub max : a.max < 2 ^ 32
  pub level : a.level < 2 ^ 32
  pub mutation : a.mutation < 2 ^ 32

-- partitions in their order: that of an unpartitioned table, and then by number
abbrev pub rank : Option ℕ → ℕ
rank None = 0
rank (Some p) = p + 1

-- a has at least the blocks, the merges and the mutations of b, in b's partition
pub record Covers (a b : Name) : Type 0 where
  pub partition : a.partition ≡ b.partition
  pub min : a.min ≤ b.min
  pub max : b.max ≤ a.max
  pub level : b.level ≤ a.level
  pub mutation : b.mutation ≤ a.mutation

-- the same, as a test
abbrev pub covers : Name → Name → Bool
covers a b =
    nat_eq (rank a.partition) (rank b.partition) && nat_le a.min b.min && nat_le b.max a.max && nat_le b.level a.level && nat_le b.mutation a.mutation

-- the version of the data: the mutation, or without one the lowest number
abbrev pub data_version : Name → ℕ
data_version a = cond (nat_eq a.mutation 0) a.min a.mutation

-- the name of the part of one block
abbrev pub block_name : Option ℕ → ℕ → Name
block_name p n = record { partition = p; min = n; max = n; level = 0; mutation = 0 }

-- the names share a number of one partition
pub record Overlap (a b : Name) : Type 0 where
  pub partition : a.partition ≡ b.partition
  pub low : a.min ≤ b.max
  pub high : b.min ≤ a.max

-- the number lies in the name's range
pub record Spans (a : Name) (p : Option ℕ) (n : ℕ) : Type 0 where
  pub partition : a.partition ≡ p
  pub low : a.min ≤ n
  pub high : n ≤ a.max

-- the last of a name and those after it
abbrev pub last : Name → List Name → Name
last a [] = a
last a (b ∷ rest) = last b rest

-- the greatest of a name and those after it
abbrev pub highest : (Name → ℕ) → Name → List Name → ℕ
highest of a [] = of a
highest of a (b ∷ rest) = max (of a) (highest of b rest)

-- the name of the parts merged: the first min, the last max, one level up, the greatest mutation
abbrev pub merged_name : Name → List Name → Name
merged_name a rest = record {
  partition = a.partition;
  min = a.min;
  max = (last a rest).max;
  level = highest (λ c. c.level) a rest + 1;
  mutation = highest (λ c. c.mutation) a rest;
}

-- each range lies after that of the name before it, in the same partition
abbrev pub AreRising : Name → List Name → Type 0
AreRising a [] = Unit {0}
AreRising a (b ∷ rest) = (a.partition ≡ b.partition) × (a.max < b.min) × AreRising b rest

-- names that a merge can put into one: two or more, rising, with levels below the greatest that a name can have
abbrev pub CanMerge : List Name → Type 0
CanMerge [] = ⊥
CanMerge (a ∷ []) = ⊥
CanMerge (a ∷ b ∷ rest) = AreRising a (b ∷ rest) × (highest (λ c. c.level) a (b ∷ rest) < 2 ^ 32 - 1)

-- the name that a merge of these gives
abbrev pub IsMergedOf : List Name → Name → Type 0
IsMergedOf [] new = ⊥
IsMergedOf (a ∷ rest) new = CanMerge (a ∷ rest) × (new ≡ merged_name a rest)

-- ---- what only private functions cite

-- the name stands behind the other, in the same partition
abbrev pub IsNext : Name → Name → Type 0
IsNext a b = (a.partition ≡ b.partition) × (a.max < b.min)

-- what both span, at the higher level and with the later mutation
abbrev pub joined_name : Name → Name → Name
joined_name a b = record { partition = a.partition; min = a.min; max = b.max; level = max a.level b.level; mutation = max a.mutation b.mutation }

-- the name is that of both together
abbrev pub IsJoined : Name → Name → Name → Type 0
IsJoined a b new = IsNext a b × (new ≡ joined_name a b)
