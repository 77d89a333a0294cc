-- Parts with what they were made from.
-- ClickHouse documentation, MergeTree, "Data storage", and Data Replication: a part is made by one entry of the log, of
-- blocks or of other parts. That a part keeps its blocks and mutations beside its rows is this program's own, for proofs.
use Rattle.std.specs.Prelude.{◌≡◌, ℕ, ◌<◌, ◌≤◌, ◌&&◌, nat_lt, nat_le, List, [], ◌∷◌, ◌++◌, length}
use Rattle.std.specs.List.{filter_map}
use Rattle.std.specs.declared.option.Option.{Option}
use Rattle.std.specs.declared.option.Option.TheVariants.{Some}
use Rattle.rmt_values.specs.Rows.{Shape, in_key_order}
use Rattle.rmt_names.specs.Names.{Name}
use Rattle.rmt_entries.specs.Entries.{result_name}
use Rattle.rmt_entries.specs.declared.entry.Entry.{Entry}
use Rattle.rmt_entries.specs.declared.entry.Entry.TheVariants.{Get, Merge, Mutate, Mutation, DropRange}
use Rattle.rmt_model.specs.Words.{Has, Each, Pairwise}
use Rattle.rmt_model.specs.Lawful.{IsMutationWith}
use Rattle.rmt_model.specs.Content.{Row, changed}

-- a block by its number, its digest and its rows
pub record NumberedBlock : Type 0 where
  pub number : ℕ
  pub digest : List ℕ
  pub rows : List Row

-- the log has this block of p at its number
pub record IsOf (log : List Entry) (p : Option ℕ) (b : NumberedBlock) : Type 0 where
  pub source : ℕ
  pub need : ℕ
  pub entry : Has log (Get p b.number b.digest source need)

-- what a part was made from: its blocks in order of number, and the mutations up to the last one applied, the newest first
pub record Lineage : Type 0 where
  pub blocks : List NumberedBlock
  pub mutations : List Entry

-- the rows of a block of p, after the mutations above its number and up to a limit
abbrev pub mutated_rows : List Entry → Option ℕ → ℕ → NumberedBlock → List Row
mutated_rows mutations p limit b = filter_map (changed mutations p (λ k. nat_lt b.number k && nat_le k limit)) b.rows

-- the rows of blocks of p, one after the other
abbrev pub lineage_rows : List Entry → Option ℕ → ℕ → List NumberedBlock → List Row
lineage_rows mutations p limit [] = []
lineage_rows mutations p limit (b ∷ rest) = mutated_rows mutations p limit b ++ lineage_rows mutations p limit rest

-- the rows of a part of this name by what it was made from alone
abbrev pub own_content : Shape → Lineage → Name → List Row
own_content schema lineage a =
    in_key_order schema (lineage_rows lineage.mutations a.partition a.mutation lineage.blocks)

-- how many blocks the entry says that its part has
abbrev pub blocks_told : Entry → ℕ
blocks_told (Get p n digest source need) = 1
blocks_told (Merge new sources count) = count
blocks_told (Mutate old new upto count mcount) = count
blocks_told (Mutation id numbers command) = 0
blocks_told (DropRange p n) = 0

-- mutations with the ids from some number down to 0
abbrev pub AreNumbered : List Entry → Type 0
AreNumbered [] = Unit {0}
AreNumbered (Mutation id numbers command ∷ older) = (id ≡ length older) × AreNumbered older
AreNumbered (Get p n digest source need ∷ older) = ⊥
AreNumbered (Merge new sources count ∷ older) = ⊥
AreNumbered (Mutate old new upto count mcount ∷ older) = ⊥
AreNumbered (DropRange p n ∷ older) = ⊥

-- the newest mutation has this number in p; where there is none, the number is 0
abbrev pub EndAt : List Entry → Option ℕ → ℕ → Type 0
EndAt [] p m = m ≡ 0
EndAt (e ∷ older) p m = IsMutationWith (Some e) p m

-- what a part of this name, made by this entry, keeps of its lineage: its blocks rise in number, lie in the name's range, and
-- are as many as the entry says; its mutations are the first ones, up to the name's own
pub record IsLineage (e : Entry) (a : Name) (lineage : Lineage) : Type 0 where
  pub made : result_name e ≡ Some a
  pub rising : Pairwise (λ x y. x.number < y.number) lineage.blocks
  pub within : Each (λ b. (a.min ≤ b.number) × (b.number ≤ a.max)) lineage.blocks
  pub whole : length lineage.blocks ≡ blocks_told e
  pub numbered : AreNumbered lineage.mutations
  pub upto : EndAt lineage.mutations a.partition a.mutation

-- the log has the entry that made the part, and those of its lineage
pub record ComesFrom (log : List Entry) (e : Entry) (a : Name) (lineage : Lineage) : Type 0 where
  pub made : Has log e
  pub blocks : Each (IsOf log a.partition) lineage.blocks
  pub mutations : Each (Has log) lineage.mutations

-- a part: the place of the entry that made it, its name, the entry, what it was made from, its rows in order
pub record PartView : Type 0 where
  pub place : ℕ
  pub name : Name
  pub entry : Entry
  pub lineage : Lineage
  pub rows : List Row

-- a part's rows are the content of its name, and it comes from the log
pub record IsPartOf (schema : Shape) (log : List Entry) (part : PartView) : Type 0 where
  pub keeps : IsLineage part.entry part.name part.lineage
  pub comes : ComesFrom log part.entry part.name part.lineage
  pub holds : part.rows ≡ own_content schema part.lineage part.name
