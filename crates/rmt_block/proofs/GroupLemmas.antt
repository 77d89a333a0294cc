-- Places of rows that are collected by partition.
use Rattle.std.proofs.Common.{◌≡◌, ℕ, suc, ◌+◌, ◌≤◌, Bool, true, false, cond, List, [], ◌∷◌, ◌++◌, length, filter, slice_get, append-nil, refl, sym, ap, ◌∙◌, arith, nat_eq}
use Rattle.std.proofs.lemmas.Bool.Decides.{nat_tests}
use Rattle.std.proofs.lemmas.Map.Lookups.{CmpEqualImpliesEq, exact_unsigned}
use Rattle.std.specs.Global.{Vec}
use Rattle.std.specs.Ordering.{is_eq, nat_cmp}
use Rattle.std.specs.Option.{option_map, option_to_list}
use Rattle.std.specs.BTreeMap.{BTreeMap, IsOrdered, Updates, get}
use Rattle.std.specs.declared.cmp.Ordering.{Ordering}
use Rattle.std.specs.declared.cmp.Ordering.TheVariants.{Less, Equal, Greater}
use Rattle.std.specs.declared.option.Option.{Option}
use Rattle.std.specs.declared.option.Option.TheVariants.{Some, None}
use Rattle.rmt_values.specs.declared.value.Value.{Value}
use Rattle.rmt_values.specs.declared.partition_rule.PartitionRule.{PartitionRule}
use Rattle.rmt_values.specs.Partitions.{partition_of}
use Rattle.rmt_values.specs.Rows.{AllBelow}
use Rattle.rmt_columns.specs.Places.{at_places}
use Rattle.rmt_names.specs.Names.{rank}
use Rattle.rmt_block.specs.Splits.{is_in}
use Rattle.rmt_block.specs.Groups.{AreGroups, partition_cmp, places_at, places_in, places_with, some_places, with_place}

-- partitions that stand alike in their order are one
pub partition_cmp-exact : CmpEqualImpliesEq partition_cmp
partition_cmp-exact None None e = refl
partition_cmp-exact None (Some q) e = absurd (cc)
partition_cmp-exact (Some p) None e = absurd (cc)
partition_cmp-exact (Some p) (Some q) e = ap Some (exact_unsigned p q e)

-- an order that is tested to be equality is it
is_eq-Equal : (r : Ordering) → is_eq r ≡ true → r ≡ Equal
is_eq-Equal Less e = absurd (cc)
is_eq-Equal Equal e = refl
is_eq-Equal Greater e = absurd (cc)

-- the order of partitions is that of their ranks
pub partition_cmp-rank : (p q : Option ℕ) → partition_cmp p q ≡ nat_cmp (rank p) (rank q)
partition_cmp-rank None None = refl
partition_cmp-rank None (Some q) = grind (arith, nat_tests)
partition_cmp-rank (Some p) None = grind (arith, nat_tests)
partition_cmp-rank (Some p) (Some q) = grind (arith, nat_tests)

-- partitions are one where their ranks are
pub partition_cmp-is_eq : (p q : Option ℕ) → is_eq (partition_cmp p q) ≡ nat_eq (rank p) (rank q)
partition_cmp-is_eq p q = rw (partition_cmp-rank p q) (grind (arith, nat_tests))

-- partitions of one rank are one
pub rank-inj : (p q : Option ℕ) → nat_eq (rank p) (rank q) ≡ true → p ≡ q
rank-inj p q e = partition_cmp-exact p q (is_eq-Equal (partition_cmp p q) (partition_cmp-is_eq p q ∙ e))

-- what a map has that was given one place of a partition that it had none of
pub add-new : (old new : BTreeMap (Option ℕ) (Vec ℕ)) (q : Option ℕ) (place : ℕ) (group : Vec ℕ) →
    get partition_cmp old q ≡ None → Updates partition_cmp old new q (Some group) → group.items ≡ place ∷ [] → (p : Option ℕ) →
    places_at new p ≡ places_with old q place p
add-new old new q place group none updates one p =
    rw (updates.0 p, none) (go (is_eq (partition_cmp q p)))
  where
    go : (b : Bool) → option_map (λ (g : Vec ℕ). g.items) (cond b (Some group) (get partition_cmp old p)) ≡ cond b (Some (place ∷ [])) (places_at old p)
    go true = ap Some one
    go false = refl

-- some places with one more are some
some_places-with_place : (places : List ℕ) (place : ℕ) → with_place (some_places places) place ≡ some_places (places ++ place ∷ [])
some_places-with_place [] place = refl
some_places-with_place (first ∷ places) place = refl

-- the places of the rows of a partition where there is one more row
places_in-append : (rule : Option PartitionRule) (p : Option ℕ) (i : ℕ) (rows : List (List Value)) (row : List Value) →
    places_in rule p i (rows ++ row ∷ []) ≡ places_in rule p i rows ++ cond (is_in rule p row) ((i + length rows) ∷ []) []
places_in-append rule p i [] row = let n : i + 0 ≡ i = omega arith in ap (λ (m : ℕ). cond (is_in rule p row) (m ∷ []) []) (sym n)
places_in-append rule p i (first ∷ rows) row = go (is_in rule p first) (places_in-append rule p (i + 1) rows row)
  where
    go : (b : Bool) → places_in rule p (i + 1) (rows ++ row ∷ []) ≡ places_in rule p (i + 1) rows ++ cond (is_in rule p row) ((i + 1 + length rows) ∷ []) [] →
        cond b (i ∷ places_in rule p (i + 1) (rows ++ row ∷ [])) (places_in rule p (i + 1) (rows ++ row ∷ []))
        ≡ cond b (i ∷ places_in rule p (i + 1) rows) (places_in rule p (i + 1) rows) ++ cond (is_in rule p row) ((i + suc (length rows)) ∷ []) []
    go true e = let n : i + 1 + length rows ≡ i + suc (length rows) = omega arith in
        ap (λ (l : List ℕ). i ∷ l) (e ∙ ap (λ (m : ℕ). places_in rule p (i + 1) rows ++ cond (is_in rule p row) (m ∷ []) []) n)
    go false e = let n : i + 1 + length rows ≡ i + suc (length rows) = omega arith in
        e ∙ ap (λ (m : ℕ). places_in rule p (i + 1) rows ++ cond (is_in rule p row) (m ∷ []) []) n

-- the places of a partition where the place of one more row is collected
pub AreGroups-more : (rule : Option PartitionRule) (rows : List (List Value)) (row : List Value) (q : Option ℕ) (place : ℕ)
    (old new : BTreeMap (Option ℕ) (Vec ℕ)) → q ≡ partition_of rule row → place ≡ length rows → AreGroups rule rows old → IsOrdered partition_cmp new →
    ((p : Option ℕ) → places_at new p ≡ places_with old q place p) →
    AreGroups rule (rows ++ row ∷ []) new
AreGroups-more rule rows row q place old new of last groups ordered added = record { ordered = ordered; each = each }
  where
    test : (p : Option ℕ) → is_eq (partition_cmp q p) ≡ is_in rule p row
    test p = partition_cmp-is_eq q p ∙ ap (λ r. nat_eq (rank r) (rank p)) of

    go : (p : Option ℕ) (b : Bool) → is_eq (partition_cmp q p) ≡ b →
        cond b (with_place (places_at old q) place) (places_at old p) ≡ some_places (places_in rule p 0 rows ++ cond b (place ∷ []) [])
    go p true e =
        let one : q ≡ p = partition_cmp-exact q p (is_eq-Equal (partition_cmp q p) e) in
        ap (λ r. with_place (places_at old r) place) one ∙ ap (λ r. with_place r place) (groups.each p) ∙ some_places-with_place (places_in rule p 0 rows) place
    go p false e = groups.each p ∙ ap some_places (sym (append-nil (places_in rule p 0 rows)))

    each : (p : Option ℕ) → places_at new p ≡ some_places (places_in rule p 0 (rows ++ row ∷ []))
    each p =
        let more : places_in rule p 0 (rows ++ row ∷ []) ≡ places_in rule p 0 rows ++ cond (is_eq (partition_cmp q p)) (place ∷ []) [] =
        places_in-append rule p 0 rows row ∙ (ap (λ b. places_in rule p 0 rows ++ cond b ((0 + length rows) ∷ []) []) (sym (test p))
        ∙ ap (λ (m : ℕ). places_in rule p 0 rows ++ cond (is_eq (partition_cmp q p)) (m ∷ []) []) (omega (arith, last))) in
        added p ∙ go p (is_eq (partition_cmp q p)) refl ∙ ap some_places (sym more)

-- the rows at the places of a partition are those of the partition
at-places_in : (rule : Option PartitionRule) (p : Option ℕ) (all : List (List Value)) (i : ℕ) (rows : List (List Value)) →
    ((j : ℕ) → slice_get all (i + j) ≡ slice_get rows j) → at_places all (places_in rule p i rows) ≡ filter (is_in rule p) rows
at-places_in rule p all i [] there = refl
at-places_in rule p all i (row ∷ rows) there = go (is_in rule p row) (at-places_in rule p all (i + 1) rows later)
  where
    later : (j : ℕ) → slice_get all (i + 1 + j) ≡ slice_get rows j
    later j = let n : i + 1 + j ≡ i + suc j = omega arith in ap (slice_get all) n ∙ there (suc j)

    here : slice_get all i ≡ Some row
    here = let n : i ≡ i + 0 = omega arith in ap (slice_get all) n ∙ there 0

    go : (b : Bool) → at_places all (places_in rule p (i + 1) rows) ≡ filter (is_in rule p) rows →
        at_places all (cond b (i ∷ places_in rule p (i + 1) rows) (places_in rule p (i + 1) rows)) ≡ cond b (row ∷ filter (is_in rule p) rows) (filter (is_in rule p) rows)
    go true e = ap (λ (o : Option (List Value)). option_to_list o ++ at_places all (places_in rule p (i + 1) rows)) here ∙ ap (λ (l : List (List Value)). row ∷ l) e
    go false e = e

-- the same of all rows
pub at-places_in-all : (rule : Option PartitionRule) (p : Option ℕ) (rows : List (List Value)) → at_places rows (places_in rule p 0 rows) ≡ filter (is_in rule p) rows
at-places_in-all rule p rows = at-places_in rule p rows 0 rows (λ j. let n : 0 + j ≡ j = omega arith in ap (slice_get rows) n)

-- places of rows are below their number
below-places_in : (rule : Option PartitionRule) (p : Option ℕ) (n i : ℕ) (rows : List (List Value)) → i + length rows ≤ n → AllBelow n (places_in rule p i rows)
below-places_in rule p n i [] l = tt
below-places_in rule p n i (row ∷ rows) l = go (is_in rule p row) (below-places_in rule p n (i + 1) rows (omega (arith, l)))
  where
    go : (b : Bool) → AllBelow n (places_in rule p (i + 1) rows) → AllBelow n (cond b (i ∷ places_in rule p (i + 1) rows) (places_in rule p (i + 1) rows))
    go true h = (omega (arith, l), h)
    go false h = h

-- the same of all rows
pub below-places_in-all : (rule : Option PartitionRule) (p : Option ℕ) (rows : List (List Value)) → AllBelow (length rows) (places_in rule p 0 rows)
below-places_in-all rule p rows = below-places_in rule p (length rows) 0 rows (omega arith)
