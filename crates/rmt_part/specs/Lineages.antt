-- A part, what it was made from, and what its type keeps: its data is the content of its name.
-- ClickHouse documentation, MergeTree, "Data storage"; Data Replication: a part is named by the blocks that went into it, and
-- parts of equal names have equal data.
use Rattle.std.specs.Prelude.{◌≡◌, ℕ, ◌≤◌, ◌<◌, true, List, length, map, reverse}
use Rattle.std.specs.List.{All}
use Rattle.std.specs.declared.option.Option.{Option}
use Rattle.std.specs.declared.option.Option.TheVariants.{Some}
use Rattle.rmt_values.specs.Rows.{Shape, fits}
use Rattle.rmt_names.specs.Names.{Name}
use Rattle.rmt_entries.specs.declared.entry.Entry.{Entry}
use Rattle.rmt_entries.specs.declared.entry.Entry.TheVariants.{Get, Merge, Mutate, Mutation, DropRange}
use Rattle.rmt_row.specs.Token.{Token}
use Rattle.rmt_block.specs.Blocks.{BlockView}
use Rattle.rmt_granules.specs.Granules.{PartView as Data}
use Rattle.rmt_granules.specs.MadePart.{data_of}
use Rattle.rmt_model.specs.Words.{Each}
use Rattle.rmt_model.specs.Lawful.{entry_at}
use Rattle.rmt_model.specs.Content.{Blocks}
use Rattle.rmt_model.specs.Parts.{NumberedBlock, Lineage, IsLineage, ComesFrom, own_content}

-- a block of a part, and the token of the Get that accepted it
pub record AcceptedView : Type 0 where
  pub get : Token Entry
  pub block : BlockView

-- a part: its schema, its name, its data, which are its rows in order of key, the token of the entry that made it, its blocks
-- in order of number, and the tokens of all mutations up to the last one applied, the oldest first
pub record PartValue : Type 0 where
  pub schema : Shape
  pub name : Name
  pub body : Data
  pub made : Token Entry
  pub blocks : List AcceptedView
  pub mutations : List (Token Entry)

-- the entry is a Get of this block, in this partition
abbrev pub IsGetOf : Entry → Option ℕ → BlockView → Type 0
IsGetOf (Get p n digest source need) q b = (p ≡ q) × (b.partition ≡ q) × (digest ≡ b.digest)
IsGetOf (Merge new sources count) q b = ⊥
IsGetOf (Mutate old new upto count mcount) q b = ⊥
IsGetOf (Mutation id numbers command) q b = ⊥
IsGetOf (DropRange p n) q b = ⊥

-- the number of a Get's block; 0 for what is no Get
abbrev pub number_got : Entry → ℕ
number_got (Get p n digest source need) = n
number_got (Merge new sources count) = 0
number_got (Mutate old new upto count mcount) = 0
number_got (Mutation id numbers command) = 0
number_got (DropRange p n) = 0

-- the block at its number
abbrev pub numbered : AcceptedView → NumberedBlock
numbered b = record { number = number_got b.get.value; digest = b.block.digest; rows = b.block.rows }

-- the entries of tokens, the newest first
abbrev pub entries_of : List (Token Entry) → List Entry
entries_of tokens = reverse (map (λ t. t.value) tokens)

-- what the part was made from
abbrev pub lineage_of : PartValue → Lineage
lineage_of part = record { blocks = map numbered part.blocks; mutations = entries_of part.mutations }

-- what each part keeps: its blocks are those of their Gets; the lineage is one of its entry and its name; its data is the
-- content of its name, and fits the schema; and no entry of the lineage is later than the part's own
pub record IsPart (part : PartValue) : Type 0 where
  pub gets : Each (λ b. IsGetOf b.get.value part.name.partition b.block) part.blocks
  pub keeps : IsLineage part.made.value part.name (lineage_of part)
  pub content : part.body ≡ data_of part.schema (own_content part.schema (lineage_of part) part.name)
  pub fit : All (λ row. fits part.schema.columns row ≡ true) part.body.rows
  pub earlier : Each (λ b. b.get.place ≤ part.made.place) part.blocks
  pub before : Each (λ t. t.place < part.made.place) part.mutations

-- ---- parts and logs

-- the log has the entry of the token at its place
abbrev pub StandsIn : List Entry → Token Entry → Type 0
StandsIn log t = entry_at log t.place ≡ Some t.value

-- the part is of this log: the entry that made it and those of its lineage stand there, each at its place
pub record IsOfLog (log : List Entry) (part : PartValue) : Type 0 where
  pub made : StandsIn log part.made
  pub blocks : Each (λ b. StandsIn log b.get) part.blocks
  pub mutations : Each (StandsIn log) part.mutations

-- the log has the entry of the token at its place, where it has that place
abbrev pub AgreesWith : List Entry → Token Entry → Type 0
AgreesWith log t = t.place < length log → StandsIn log t

-- the part is of the table that a copy of the log is of
pub record IsOfTable (log : List Entry) (part : PartValue) : Type 0 where
  pub made : AgreesWith log part.made
  pub blocks : Each (λ b. AgreesWith log b.get) part.blocks
  pub mutations : Each (AgreesWith log) part.mutations

-- the log has the entry that made the part, and those of its lineage, wherever they stand
abbrev pub HasEntries : List Entry → PartValue → Type 0
HasEntries log part = ComesFrom log part.made.value part.name (lineage_of part)

-- these blocks are those of the part, at their numbers
abbrev pub AgreeOn : Blocks → PartValue → Type 0
AgreeOn blocks part = Each (λ b. blocks part.name.partition (number_got b.get.value) ≡ b.block.rows) part.blocks
