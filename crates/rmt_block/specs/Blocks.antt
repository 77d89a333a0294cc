-- Blocks of rows, their bytes and their ids.
-- FIPS 180-4, section 6.2: SHA-256. ClickHouse documentation, Data Replication: a block that is inserted again is told by
-- its checksum. Which bytes a block has is this program's own; numbers have their most significant byte first.
use Rattle.std.specs.Prelude.{◌≡◌, ℕ, ◌<◌, ◌^◌, ◌&&◌, Bool, true, false, List, [], ◌∷◌, ◌++◌, length, map, codes, IfSome}
use Rattle.std.specs.Int.{w16, w32, to_be_bytes}
use Rattle.std.specs.List.{All, flat_map}
use Rattle.std.specs.declared.option.Option.{Option}
use Rattle.sha2.specs.Sha256.{sha256}
use Rattle.hex.specs.Hex.{encode_lower}
use Rattle.rmt_values.specs.declared.value.Value.{Value}
use Rattle.rmt_values.specs.declared.kind.Kind.{Kind}
use Rattle.rmt_values.specs.declared.column.Column.{Column}
use Rattle.rmt_values.specs.declared.partition_rule.PartitionRule.{PartitionRule}
use Rattle.rmt_values.specs.Rows.{is_of}
use Rattle.rmt_values.specs.Partitions.{partition_of}
use Rattle.rmt_names.specs.Texts.{partition_text}
use Rattle.rmt_bytes.specs.Encoding.{IsInRange, kind_byte, value_bytes}
use Rattle.rmt_block.specs.declared.block_id.BlockId.{BlockId}

-- the rows of an INSERT: their partition, the types of their columns, the rows as they were offered, and their digest
pub record BlockView : Type 0 where
  pub partition : Option ℕ
  pub kinds : List Kind
  pub rows : List (List Value)
  pub digest : List ℕ

-- one value per type, each of its type
abbrev pub row_fits : List Kind → List Value → Bool
row_fits [] [] = true
row_fits [] (v ∷ vs) = false
row_fits (k ∷ ks) [] = false
row_fits (k ∷ ks) (v ∷ vs) = is_of k v && row_fits ks vs

-- each row has a value of each type
abbrev pub RowsFit : List Kind → List (List Value) → Type 0
RowsFit kinds rows = All (λ row. row_fits kinds row ≡ true) rows

-- rows of these types, no more of them and no more columns than a block can count
pub record AreRowsOf (kinds : List Kind) (rows : List (List Value)) : Type 0 where
  pub fit : RowsFit kinds rows
  pub in_range : All (λ row. All IsInRange row) rows
  pub few_rows : length rows < 2 ^ 32
  pub few_columns : length kinds < 2 ^ 16

-- ---- bytes

-- the values, one after the other
abbrev pub row_bytes : List Value → List ℕ
row_bytes row = flat_map value_bytes row

-- how many columns there are, the type of each, and how many rows
unfoldable pub head_bytes : List Kind → ℕ → List ℕ
head_bytes kinds rows = to_be_bytes w16 (length kinds) ++ map kind_byte kinds ++ to_be_bytes w32 rows

-- the bytes of rows of these types: the head, and the rows one after the other. The partition isn't in them.
unfoldable pub block_bytes : List Kind → List (List Value) → List ℕ
block_bytes kinds rows = head_bytes kinds (length rows) ++ flat_map row_bytes rows

-- a block of rows of these types and this partition
abbrev pub block_of : Option ℕ → List Kind → List (List Value) → BlockView
block_of p kinds rows = record { partition = p; kinds = kinds; rows = rows; digest = sha256 (block_bytes kinds rows) }

-- by some rule, all these rows are of this partition
pub record AreOfOne (p : Option ℕ) (rows : List (List Value)) : Type 0 where
  pub rule : Option PartitionRule
  pub partition : All (λ row. partition_of rule row ≡ p) rows

-- what each block keeps
pub record IsBlock (b : BlockView) : Type 0 where
  pub partition : AreOfOne b.partition b.rows
  pub digest : b.digest ≡ sha256 (block_bytes b.kinds b.rows)
  pub rows : AreRowsOf b.kinds b.rows

-- ---- ids

-- the id: the partition and the digest
abbrev pub id_of : BlockView → BlockId
id_of b = record { partition = b.partition; digest = b.digest }

-- the text of an id: that of its partition, an underscore, and its digest in lower-case hexadecimal digits
abbrev pub id_text_of : BlockId → List ℕ
id_text_of i = partition_text i.partition ++ codes "_" ++ encode_lower i.digest

-- an id that a block may have: a partition in its width, and a digest of 32 bytes
pub record IsId (i : BlockId) : Type 0 where
  pub partition : IfSome i.partition (λ p. p < 2 ^ 64)
  pub size : length i.digest ≡ 32
  pub bytes : All (λ b. b < 2 ^ 8) i.digest

-- each of the blocks that has the id of b is b
abbrev pub NoneLike : BlockView → List BlockView → Type 0
NoneLike b [] = Unit {0}
NoneLike b (other ∷ rest) = (id_of b ≡ id_of other → b ≡ other) × NoneLike b rest

-- any two of the blocks that have one id are equal
abbrev pub Clear : List BlockView → Type 0
Clear [] = Unit {0}
Clear (b ∷ rest) = NoneLike b rest × Clear rest
