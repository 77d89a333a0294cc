-- Which parts an entry of the log makes, of which block or parts, and what they are made from.
-- ClickHouse documentation: MergeTree, "Data storage" (merges); Data Replication (a part of each inserted block; every replica
-- merges in the same way); ALTER TABLE .. UPDATE and DELETE (mutations). That a part keeps its lineage is this program's own.
use Rattle.std.specs.Prelude.{◌≡◌, ℕ, ◌+◌, cond, nat_le, List, [], ◌∷◌, ◌++◌, length, map}
use Rattle.std.specs.declared.option.Option.TheVariants.{Some}
use Rattle.rmt_values.specs.Rows.{Shape, in_key_order}
use Rattle.rmt_names.specs.Names.{Name}
use Rattle.rmt_entries.specs.declared.entry.Entry.{Entry}
use Rattle.rmt_entries.specs.declared.entry.Entry.TheVariants.{Get, Merge, Mutate, Mutation, DropRange}
use Rattle.rmt_entries.specs.Entries.{result_name}
use Rattle.rmt_row.specs.Token.{Token}
use Rattle.rmt_block.specs.Blocks.{BlockView}
use Rattle.rmt_granules.specs.Granules.{PartView as Data}
use Rattle.rmt_granules.specs.MadePart.{data_of}
use Rattle.rmt_model.specs.Words.{Each}
use Rattle.rmt_model.specs.Lawful.{Lawful}
use Rattle.rmt_history.specs.Copies.{History}
use Rattle.rmt_history.specs.Mutations.{mutations_below, AreTokensBelow}
use Rattle.rmt_part.specs.Lineages.{AcceptedView, PartValue, StandsIn, IsOfLog}

-- ---- a block

-- the entry is a Get of this block
abbrev pub GetsBlock : Entry → BlockView → Type 0
GetsBlock (Get p n digest source need) b = (p ≡ b.partition) × (digest ≡ b.digest)
GetsBlock (Merge new sources count) b = ⊥
GetsBlock (Mutate old new upto count mcount) b = ⊥
GetsBlock (Mutation id numbers command) b = ⊥
GetsBlock (DropRange p n) b = ⊥

-- the part of this block alone: its rows in order of key, and no mutation
pub record IsOfBlock (shape : Shape) (token : Token Entry) (b : BlockView) (part : PartValue) : Type 0 where
  pub schema : part.schema ≡ shape
  pub named : result_name token.value ≡ Some part.name
  pub made : part.made ≡ token
  pub blocks : part.blocks ≡ record { get = token; block = b } ∷ []
  pub mutations : part.mutations ≡ []
  pub body : part.body ≡ data_of shape (in_key_order shape b.rows)

-- ---- a merge

-- the names of parts
abbrev pub names_of : List PartValue → List Name
names_of parts = map (λ part. part.name) parts

-- the data of parts
abbrev pub bodies_of : List PartValue → List Data
bodies_of parts = map (λ part. part.body) parts

-- the blocks of parts, one part after the other
abbrev pub blocks_joined : List PartValue → List AcceptedView
blocks_joined [] = []
blocks_joined (part ∷ parts) = part.blocks ++ blocks_joined parts

-- the longest list of mutations of the parts, the first of such
abbrev pub most_tokens : List PartValue → List (Token Entry)
most_tokens [] = []
most_tokens (part ∷ parts) =
    cond (nat_le (length (most_tokens parts)) (length part.mutations)) part.mutations (most_tokens parts)

-- the token is of the next entry of a log: a Merge of exactly these parts, by which the log stays lawful. The parts are of that
-- log, and of its schema
pub record IsMergeOf (token : Token Entry) (parts : List PartValue) : Type 0 where
  pub schema : Shape
  pub log : List Entry
  pub new : Name
  pub count : ℕ
  pub place : token.place ≡ length log
  pub entry : token.value ≡ Merge new (names_of parts) count
  pub lawful : Lawful schema (Merge new (names_of parts) count ∷ log)
  pub schemas : Each (λ part. part.schema ≡ schema) parts
  pub of_log : Each (IsOfLog log) parts

-- the part that the entry makes of the others: it has all their blocks, and the mutations of the one that has most
pub record IsMerged (token : Token Entry) (parts : List PartValue) (part : PartValue) : Type 0 where
  pub schemas : Each (λ source. source.schema ≡ part.schema) parts
  pub named : result_name token.value ≡ Some part.name
  pub made : part.made ≡ token
  pub blocks : part.blocks ≡ blocks_joined parts
  pub mutations : part.mutations ≡ most_tokens parts

-- ---- a mutation

-- the token is of a Mutate of this part, which stands in a lawful copy at its place. The part is of the copy's log and schema, and
-- the mutations are the copy's up to the Mutate's
pub record IsMutateOf (token : Token Entry) (part : PartValue) (mutations : List (Token Entry)) : Type 0 where
  pub copy : History
  pub new : Name
  pub upto : ℕ
  pub count : ℕ
  pub mcount : ℕ
  pub entry : token.value ≡ Mutate part.name new upto count mcount
  pub lawful : Lawful copy.schema copy.log
  pub stands : StandsIn copy.log token
  pub schema : part.schema ≡ copy.schema
  pub of_log : IsOfLog copy.log part
  pub below : AreTokensBelow copy (upto + 1) (mutations_below copy.log (upto + 1)) mutations

-- the part is the old one after these mutations, whose tokens it has
pub record IsMutated (token : Token Entry) (old : PartValue) (applied : List (Token Entry)) (part : PartValue) : Type 0 where
  pub schema : part.schema ≡ old.schema
  pub named : result_name token.value ≡ Some part.name
  pub made : part.made ≡ token
  pub blocks : part.blocks ≡ old.blocks
  pub mutations : part.mutations ≡ applied
