-- The blocks that are made of the rows at the places that were collected.
use Rattle.std.proofs.Common.{◌≡◌, ℕ, zero, suc, ◌<◌, ◌^◌, Bool, true, false, cond, List, [], ◌∷◌, ◌++◌, length, filter, map, append_assoc, refl, sym, ap, subst, ◌∙◌, arith, get_or}
use Rattle.std.proofs.lemmas.Bool.Decides.{nat_tests}
use Rattle.std.proofs.lemmas.List.Elements.{All-nil, All-cons, All-head, All-tail, All-filter, All-map, All-weaker, All-same, filter_passes}
use Rattle.std.proofs.lemmas.List.Sums.{length-filter, count_by-le-length}
use Rattle.std.proofs.lemmas.Map.Views.{All-found}
use Rattle.std.specs.Cmp.{nat_cmp_total}
use Rattle.std.specs.Cmp.Lexicographic.{options_total}
use Rattle.std.specs.Global.{Vec}
use Rattle.std.specs.List.{All, AllByRecursion, list_any}
use Rattle.std.specs.List.Sorted.{IsStrictlySortedBy}
use Rattle.std.specs.Map.{keys_of, lookup}
use Rattle.std.specs.Option.{option_map}
use Rattle.std.specs.Ordering.{nat_cmp}
use Rattle.std.specs.BTreeMap.{BTreeMap, get, is_at}
use Rattle.std.specs.declared.cmp.Ordering.TheVariants.{Less}
use Rattle.std.specs.declared.option.Option.{Option}
use Rattle.std.specs.declared.option.Option.TheVariants.{Some, None}
use Rattle.rmt_values.specs.declared.value.Value.{Value}
use Rattle.rmt_values.specs.declared.kind.Kind.{Kind}
use Rattle.rmt_values.specs.declared.column.Column.{Column}
use Rattle.rmt_values.specs.declared.partition_rule.PartitionRule.{PartitionRule}
use Rattle.rmt_values.specs.Partitions.{partition_of}
use Rattle.rmt_values.specs.Rows.{AllBelow, Shape, fits}
use Rattle.rmt_names.specs.Names.{rank}
use Rattle.rmt_columns.specs.RowsByColumn.{kinds_in}
use Rattle.rmt_block.specs.Blocks.{BlockView, RowsFit, block_of, row_fits}
use Rattle.rmt_block.specs.Splits.{IsBlockOf, IsSplit, is_in}
use Rattle.rmt_columns.specs.Places.{at_places}
use Rattle.rmt_columns.proofs.RowsLemmas.{length-at}
use Rattle.rmt_block.specs.Groups.{AreGroups, IsGroup, group_block, partition_cmp, places_in, some_places}
use Rattle.rmt_block.proofs.BlockLemmas.{RowsFit-kinds_in}
use Rattle.rmt_block.proofs.GroupLemmas.{at-places_in-all, below-places_in-all, partition_cmp-rank, partition_cmp-is_eq, rank-inj}

-- a partition and the places of its rows
abbrev pub Group : Type 0
Group = Option ℕ × Vec ℕ

-- one more block is made
pub blocks-more : (kinds ks : List Kind) (rows : List (List Value)) (blocks new all : List BlockView) (groups rest : List Group) (g : Group) (b : BlockView) →
    blocks ++ map (group_block kinds rows) groups ≡ all → groups ≡ g ∷ rest → new ≡ blocks ++ b ∷ [] → ks ≡ kinds → b ≡ group_block ks rows g →
    new ++ map (group_block kinds rows) rest ≡ all
blocks-more kinds ks rows blocks new all groups rest g b so_far next pushed same is =
    let one : b ≡ group_block kinds rows g = is ∙ ap (λ k. group_block k rows g) same in
    ap (λ bs. bs ++ map (group_block kinds rows) rest) (pushed ∙ ap (λ c. blocks ++ c ∷ []) one)
    ∙ append_assoc blocks (group_block kinds rows g ∷ []) (map (group_block kinds rows) rest)
    ∙ ap (λ gs. blocks ++ map (group_block kinds rows) gs) (sym next)
    ∙ so_far

-- the group has the places of the rows of its partition, and there is at least one
record HasRowsOf (rule : Option PartitionRule) (rows : List (List Value)) (g : Group) : Type 0 where
  places : g.1.items ≡ places_in rule g.0 0 rows
  some : 0 < length g.1.items

-- so it has these rows
whole : (rule : Option PartitionRule) (rows : List (List Value)) (g : Group) → HasRowsOf rule rows g → at_places rows g.1.items ≡ filter (is_in rule g.0) rows
whole rule rows g has = ap (at_places rows) has.places ∙ at-places_in-all rule g.0 rows

-- and each of its places is there
there : (rule : Option PartitionRule) (rows : List (List Value)) (g : Group) → HasRowsOf rule rows g → AllBelow (length rows) g.1.items
there rule rows g has = subst (AllBelow (length rows)) (sym has.places) (below-places_in-all rule g.0 rows)

-- places that are there are at least one
some_places-is : (xs ys : List ℕ) → Some xs ≡ some_places ys → (xs ≡ ys) × (0 < length xs)
some_places-is xs [] e = absurd (cc)
some_places-is [] (y ∷ ys) e = absurd (cc)
some_places-is (x ∷ xs) (y ∷ ys) e = (cc, omega arith)

-- where there are none there are none
some_places-none : (xs : List ℕ) → some_places xs ≡ None → xs ≡ []
some_places-none [] e = refl
some_places-none (x ∷ xs) e = absurd (cc)

-- each group has the places of its partition
HasRowsOf-all : (rule : Option PartitionRule) (rows : List (List Value)) (groups : BTreeMap (Option ℕ) (Vec ℕ)) →
    AreGroups rule rows groups → All (HasRowsOf rule rows) groups.entries
HasRowsOf-all rule rows groups are =
    All-weaker (λ g. get partition_cmp groups g.0 ≡ Some g.1) (HasRowsOf rule rows) one groups.entries
    (All-found (options_total nat_cmp_total) groups are.ordered)
  where
    one : (g : Group) → get partition_cmp groups g.0 ≡ Some g.1 → HasRowsOf rule rows g
    one g e =
        let both = some_places-is g.1.items (places_in rule g.0 0 rows)
        (ap (option_map (λ (r : Vec ℕ). r.items)) (sym e) ∙ are.each g.0) in
        record { places = both.0; some = both.1 }

-- a block can be made of such rows
IsGroup-rows : (rule : Option PartitionRule) (kinds : List Kind) (rows : List (List Value)) (g : Group) → RowsFit kinds rows → length rows < 2 ^ 32 →
    HasRowsOf rule rows g → IsGroup kinds rows g
IsGroup-rows rule kinds rows g fit few has = record {
  there = there rule rows g has;
  partition = record {
    rule = rule;
    partition = All-same (λ row. partition_of rule row ≡ g.0) (at_places rows g.1.items) (filter (is_in rule g.0) rows) (whole rule rows g has)
        (All-weaker (λ row. is_in rule g.0 row ≡ true) (λ row. partition_of rule row ≡ g.0) (λ row. rank-inj (partition_of rule row) g.0)
        (filter (is_in rule g.0) rows) (filter_passes (is_in rule g.0) rows));
  };
  fit = All-same (λ row. row_fits kinds row ≡ true) (at_places rows g.1.items) (filter (is_in rule g.0) rows) (whole rule rows g has)
      (All-filter (is_in rule g.0) (λ row. row_fits kinds row ≡ true) rows fit);
  few_rows = let l = count_by-le-length (is_in rule g.0) rows in omega (arith, ap length (whole rule rows g has), length-filter (is_in rule g.0) rows);
}

-- blocks can be made of all that was collected
pub IsGroup-all : (columns : List Column) (rule : Option PartitionRule) (rows : List (List Value)) (groups : BTreeMap (Option ℕ) (Vec ℕ)) →
    All (λ row. fits columns row ≡ true) rows → length rows < 2 ^ 32 → AreGroups rule rows groups → All (IsGroup (kinds_in columns) rows) groups.entries
IsGroup-all columns rule rows groups fit few are =
    All-weaker (HasRowsOf rule rows) (IsGroup (kinds_in columns) rows)
    (λ g. IsGroup-rows rule (kinds_in columns) rows g (RowsFit-kinds_in columns (kinds_in columns) rows refl fit) few)
    groups.entries (HasRowsOf-all rule rows groups are)

-- the ranks of blocks rise as their partitions do
rising : (kinds : List Kind) (rows : List (List Value)) (gs : List Group) → IsStrictlySortedBy partition_cmp (keys_of gs) →
    IsStrictlySortedBy nat_cmp (map (λ (b : BlockView). rank b.partition) (map (group_block kinds rows) gs))
unfolding IsStrictlySortedBy
rising kinds rows [] h = tt
rising kinds rows (g ∷ gs) h = (above gs h.0, rising kinds rows gs h.1)
  where
    above : (hs : List Group) → AllByRecursion (λ p. partition_cmp g.0 p ≡ Less) (keys_of hs) →
        AllByRecursion (λ n. nat_cmp (rank g.0) n ≡ Less) (map (λ (b : BlockView). rank b.partition) (map (group_block kinds rows) hs))
    above [] a = tt
    above (h ∷ hs) a = (sym (partition_cmp-rank g.0 h.0) ∙ a.0, above hs a.1)

-- no row is there that a test passes where a filter by it keeps none
filter-none : (test : List Value → Bool) (rows : List (List Value)) (k : ℕ) (d : List Value) → k < length rows → test (get_or rows k d) ≡ true →
    filter test rows ≡ [] → ⊥
filter-none test [] k d l t e = absurd (omega arith)
filter-none test (row ∷ rows) zero d l t e = absurd (cc)
filter-none test (row ∷ rows) (suc k) d l t e = go (test row) refl (filter-none test rows k d (omega arith) t)
  where
    go : (b : Bool) → test row ≡ b → (filter test rows ≡ [] → ⊥) → ⊥
    go true f rest = absurd (cc)
    go false f rest = rest (sym (ap (λ b. cond b (row ∷ filter test rows) (filter test rows)) f) ∙ e)

-- a partition that has rows has a block
any-block : (kinds : List Kind) (rows : List (List Value)) (rule : Option PartitionRule) (row : List Value) (gs : List Group) →
    (lookup (is_at (partition_cmp (partition_of rule row))) gs ≡ None → ⊥) →
    list_any (λ (b : BlockView). is_in rule b.partition row) (map (group_block kinds rows) gs) ≡ true
any-block kinds rows rule row [] h = absurd (h refl)
any-block kinds rows rule row (g ∷ gs) h = go (is_in rule g.0 row) refl (any-block kinds rows rule row gs)
  where
    go : (b : Bool) → is_in rule g.0 row ≡ b →
        ((lookup (is_at (partition_cmp (partition_of rule row))) gs ≡ None → ⊥) →
        list_any (λ (b : BlockView). is_in rule b.partition row) (map (group_block kinds rows) gs) ≡ true) →
        list_any (λ (b : BlockView). is_in rule b.partition row) (map (group_block kinds rows) (g ∷ gs)) ≡ true
    go true e rest = rw e refl
    go false e rest =
        let apart : is_at (partition_cmp (partition_of rule row)) g.0 ≡ false = partition_cmp-is_eq (partition_of rule row) g.0 ∙ e in
        rw e (rest (λ none. h (rw apart none)))

-- each row has a block
row-block : (kinds : List Kind) (rule : Option PartitionRule) (rows : List (List Value)) (groups : BTreeMap (Option ℕ) (Vec ℕ)) →
    AreGroups rule rows groups → All (λ row. list_any (λ (b : BlockView). is_in rule b.partition row) (map (group_block kinds rows) groups.entries) ≡ true) rows
row-block kinds rule rows groups are k d l =
    let row = get_or rows k d in
    let p = partition_of rule row in
    any-block kinds rows rule row groups.entries
    (λ none.
    let nowhere : places_in rule p 0 rows ≡ [] = some_places-none (places_in rule p 0 rows) (sym (are.each p) ∙ ap (option_map (λ (r : Vec ℕ). r.items)) none) in
    let empty : filter (is_in rule p) rows ≡ [] = sym (at-places_in-all rule p rows) ∙ ap (at_places rows) nowhere in
    filter-none (is_in rule p) rows k d l (grind (arith, nat_tests)) empty)

-- what was collected is split into blocks
pub IsSplit-groups : (shape : Shape) (rows : List (List Value)) (groups : BTreeMap (Option ℕ) (Vec ℕ)) →
    AreGroups shape.partition rows groups → IsSplit shape rows (map (group_block (kinds_in shape.columns) rows) groups.entries)
IsSplit-groups shape rows groups are = record {
  rising = rising (kinds_in shape.columns) rows groups.entries are.ordered;
  each = All-map (IsBlockOf shape rows) (group_block (kinds_in shape.columns) rows) groups.entries
      (All-weaker (HasRowsOf shape.partition rows) (λ g. IsBlockOf shape rows (group_block (kinds_in shape.columns) rows g)) one groups.entries
      (HasRowsOf-all shape.partition rows groups are));
  all = row-block (kinds_in shape.columns) shape.partition rows groups are;
}
  where
    one : (g : Group) → HasRowsOf shape.partition rows g → IsBlockOf shape rows (group_block (kinds_in shape.columns) rows g)
    one g has = record {
      whole = ap (block_of g.0 (kinds_in shape.columns)) (whole shape.partition rows g has);
      some = let n = length-at rows g.1.items (there shape.partition rows g has) in let s = has.some in omega (arith, n, s);
    }

-- rows that are of one partition pass its test
all-in : (rule : Option PartitionRule) (p : Option ℕ) (rows : List (List Value)) → All (λ row. partition_of rule row ≡ p) rows → All (λ row. is_in rule p row ≡ true) rows
all-in rule p rows of = All-weaker (λ row. partition_of rule row ≡ p) (λ row. is_in rule p row ≡ true) (λ row e. grind (arith, nat_tests)) rows of

-- a filter keeps all that pass
filter-all : (test : List Value → Bool) (rows : List (List Value)) → All (λ row. test row ≡ true) rows → filter test rows ≡ rows
filter-all test [] pass = refl
filter-all test (row ∷ rows) pass =
    ap (λ b. cond b (row ∷ filter test rows) (filter test rows)) (All-head (λ r. test r ≡ true) row rows pass)
    ∙ ap (λ (l : List (List Value)). row ∷ l) (filter-all test rows (All-tail (λ r. test r ≡ true) row rows pass))

-- rows of one partition are one block
pub IsSplit-whole : (shape : Shape) (rows : List (List Value)) (p : Option ℕ) → All (λ row. partition_of shape.partition row ≡ p) rows → 0 < length rows →
    IsSplit shape rows (block_of p (kinds_in shape.columns) rows ∷ [])
unfolding IsStrictlySortedBy
IsSplit-whole shape rows p of some = record {
  rising = (tt, tt);
  each = All-cons (IsBlockOf shape rows) (block_of p (kinds_in shape.columns) rows) []
      (record {
        whole = ap (block_of p (kinds_in shape.columns)) (sym (filter-all (is_in shape.partition p) rows (all-in shape.partition p rows of)));
        some = some;
      })
      (All-nil (IsBlockOf shape rows));
  all = All-weaker (λ row. is_in shape.partition p row ≡ true) (λ row. list_any (λ (b : BlockView). is_in shape.partition b.partition row) (block_of p (kinds_in shape.columns) rows ∷ []) ≡ true)
      (λ row e. rw e refl) rows (all-in shape.partition p rows of);
}

-- no rows are no blocks
pub IsSplit-none : (shape : Shape) (rows : List (List Value)) → length rows ≡ 0 → IsSplit shape rows []
unfolding IsStrictlySortedBy
IsSplit-none shape rows none = record {
  rising = tt;
  each = All-nil (IsBlockOf shape rows);
  all = λ k d l. absurd (omega (arith, none, l));
}
