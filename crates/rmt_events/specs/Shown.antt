-- What is read of parts, and who has the block of a Get.
-- ClickHouse documentation, Data Replication: replicas hold the same data. That pending mutations are applied while reading
-- is the form of the setting apply_mutations_on_fly that this program has.
use Rattle.std.specs.Prelude.{◌⊎◌, ℕ, ◌<◌, nat_lt, List, [], ◌∷◌, ◌++◌}
use Rattle.std.specs.List.{filter_map}
use Rattle.std.specs.declared.option.Option.{Option}
use Rattle.rmt_values.specs.Rows.{Shape}
use Rattle.rmt_names.specs.Names.{Name, Covers, data_version, block_name}
use Rattle.rmt_entries.specs.declared.entry.Entry.{Entry}
use Rattle.rmt_model.specs.Words.{Has}
use Rattle.rmt_model.specs.Content.{Row, Blocks, changed, content}
use Rattle.rmt_model.specs.CopiedParts.{Copied}
use Rattle.rmt_events.specs.Views.{Replica}
use Rattle.rmt_events.specs.Clusters.{Cluster}
use Rattle.rmt_events.specs.Whole.{KeepsBlock}
use Rattle.rmt_events.specs.ClusterChanges.{IsOther}

-- the names and rows of parts
abbrev pub names_and_rows : List Copied → List (Name × List Row)
names_and_rows [] = []
names_and_rows (part ∷ parts) = (part.name, part.rows) ∷ names_and_rows parts

-- names with the content that a log of these blocks gives to each
abbrev pub contents : Shape → List Entry → Blocks → List Name → List (Name × List Row)
contents schema log blocks [] = []
contents schema log blocks (a ∷ names) = (a, content schema log blocks a) ∷ contents schema log blocks names

-- what is read of parts: their rows after the mutations of the log that are pending for each
abbrev pub read_rows : List Entry → List Copied → List Row
read_rows log [] = []
read_rows log (part ∷ parts) = filter_map (changed log part.name.partition (λ k. nat_lt (data_version part.name) k)) part.rows ++ read_rows log parts

-- another replica that is up has a part that covers the result of the Get and was made within a copy of this length, or the
-- Get's block staged
pub record IsHeld (s : Cluster) (k len : ℕ) (p : Option ℕ) (n : ℕ) (digest : List ℕ) : Type 0 where
  pub holder : Replica
  pub other : IsOther s k holder
  pub has : ((part : Copied) × Has holder.parts part × Covers part.name (block_name p n) × (part.place < len)) ⊎ KeepsBlock holder p n digest
