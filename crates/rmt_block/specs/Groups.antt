-- The rows of an INSERT while their places are collected by partition, before blocks are made of them.
-- No public clause cites this module.
use Rattle.std.specs.Prelude.{◌≡◌, ◌<◌, ◌^◌, ℕ, ◌+◌, cond, List, [], ◌∷◌, ◌++◌, length}
use Rattle.std.specs.Global.{Vec}
use Rattle.std.specs.Ordering.{is_eq, nat_cmp}
use Rattle.std.specs.Option.{option_cmp, option_map, unwrap_or}
use Rattle.std.specs.BTreeMap.{BTreeMap, IsOrdered, get}
use Rattle.std.specs.declared.cmp.Ordering.{Ordering}
use Rattle.std.specs.declared.option.Option.{Option}
use Rattle.std.specs.declared.option.Option.TheVariants.{Some, None}
use Rattle.rmt_values.specs.declared.value.Value.{Value}
use Rattle.rmt_values.specs.declared.kind.Kind.{Kind}
use Rattle.rmt_values.specs.declared.partition_rule.PartitionRule.{PartitionRule}
use Rattle.rmt_values.specs.Rows.{AllBelow}
use Rattle.rmt_columns.specs.Places.{at_places}
use Rattle.rmt_block.specs.Blocks.{AreOfOne, BlockView, RowsFit, block_of}
use Rattle.rmt_block.specs.Splits.{is_in}

-- partitions in their order
abbrev pub partition_cmp : Option ℕ → Option ℕ → Ordering
partition_cmp p q = option_cmp nat_cmp p q

-- the places of the rows of a partition, where the first row's place is i
abbrev pub places_in : Option PartitionRule → Option ℕ → ℕ → List (List Value) → List ℕ
places_in rule p i [] = []
places_in rule p i (row ∷ rows) = cond (is_in rule p row) (i ∷ places_in rule p (i + 1) rows) (places_in rule p (i + 1) rows)

-- the places of a partition that were collected; none where there are none
abbrev pub places_at : BTreeMap (Option ℕ) (Vec ℕ) → Option ℕ → Option (List ℕ)
places_at groups p = option_map (λ group. group.items) (get partition_cmp groups p)

-- these places; none where the list is empty
abbrev pub some_places : List ℕ → Option (List ℕ)
some_places [] = None
some_places (place ∷ places) = Some (place ∷ places)

-- what was collected, and one more place after it
abbrev pub with_place : Option (List ℕ) → ℕ → Option (List ℕ)
with_place before place = Some (unwrap_or before [] ++ place ∷ [])

-- what is collected of partition p once a place of partition q is put after those of q
abbrev pub places_with : BTreeMap (Option ℕ) (Vec ℕ) → Option ℕ → ℕ → Option ℕ → Option (List ℕ)
places_with groups q place p = cond (is_eq (partition_cmp q p)) (with_place (places_at groups q) place) (places_at groups p)

-- the places of these rows are collected, those of each partition in the order in which its rows were offered
pub record AreGroups (rule : Option PartitionRule) (rows : List (List Value)) (groups : BTreeMap (Option ℕ) (Vec ℕ)) : Type 0 where
  pub ordered : IsOrdered partition_cmp groups
  pub each : (p : Option ℕ) → places_at groups p ≡ some_places (places_in rule p 0 rows)

-- places of rows of one partition, of which a block can be made
pub record IsGroup (kinds : List Kind) (rows : List (List Value)) (group : Option ℕ × Vec ℕ) : Type 0 where
  pub there : AllBelow (length rows) group.1.items
  pub partition : AreOfOne group.0 (at_places rows group.1.items)
  pub fit : RowsFit kinds (at_places rows group.1.items)
  pub few_rows : length (at_places rows group.1.items) < 2 ^ 32

-- the block of the rows at places that were collected
abbrev pub group_block : List Kind → List (List Value) → Option ℕ × Vec ℕ → BlockView
group_block kinds rows group = block_of group.0 kinds (at_places rows group.1.items)
