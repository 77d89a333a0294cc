-- Parts as the laws of a log see them: by their entry, their name, their lineage and their rows.
use Rattle.std.proofs.Common.{◌≡◌, cond, nat_le, List, [], ◌∷◌, ◌++◌, length}
use Rattle.rmt_values.specs.Rows.{Shape}
use Rattle.rmt_names.specs.Names.{Name}
use Rattle.rmt_entries.specs.declared.entry.Entry.{Entry}
use Rattle.rmt_model.specs.Content.{Row}
use Rattle.rmt_model.specs.Parts.{NumberedBlock, Lineage, PartView, own_content, IsLineage}
use Rattle.rmt_part.specs.Lineages.{PartValue, lineage_of}

-- a part by what a log says of it
abbrev pub told : PartValue → PartView
told part = record {
  place = part.made.place;
  name = part.name;
  entry = part.made.value;
  lineage = lineage_of part;
  rows = part.body.rows;
}

-- the names of the parts
abbrev pub told_names : List PartView → List Name
told_names [] = []
told_names (part ∷ parts) = part.name ∷ told_names parts

-- the blocks of parts, one part after the other
abbrev pub blocks_in : List PartView → List NumberedBlock
blocks_in [] = []
blocks_in (part ∷ parts) = part.lineage.blocks ++ blocks_in parts

-- the longest list of mutations of the parts, the first of such
abbrev pub most_mutations : List PartView → List Entry
most_mutations [] = []
most_mutations (part ∷ parts) =
    cond (nat_le (length (most_mutations parts)) (length part.lineage.mutations)) part.lineage.mutations (most_mutations parts)

-- what the parts were made from, as one
abbrev pub merged_lineage : List PartView → Lineage
merged_lineage parts = record { blocks = blocks_in parts; mutations = most_mutations parts }

-- the rows of parts, one part after the other
abbrev pub rows_in : List PartView → List Row
rows_in [] = []
rows_in (part ∷ parts) = part.rows ++ rows_in parts

-- a part made by the entry keeps this lineage, and these are its rows
pub record Makes (schema : Shape) (e : Entry) (a : Name) (lineage : Lineage) (rows : List Row) : Type 0 where
  pub keeps : IsLineage e a lineage
  pub holds : rows ≡ own_content schema lineage a
