-- Aggregates over rows that are read one part after the other.
use Rattle.std.proofs.Common.{◌≡◌, ℕ, zero, suc, ◌+◌, ◌<◌, ◌≤◌, Bool, true, cond, List, [], ◌∷◌, ◌++◌, map, length, take, drop, drop-cons, get_or, append_assoc, refl, sym, ap, ap₂, ◌∙◌, arith}
use Rattle.std.specs.Prelude.{ℤ, nat_lt}
use Rattle.std.specs.List.{filter_map, cons_option}
use Rattle.std.proofs.lemmas.Int.{ints}
use Rattle.std.specs.declared.option.Option.{Option}
use Rattle.std.specs.declared.option.Option.TheVariants.{Some, None}
use Rattle.rmt_values.specs.declared.value.Value.{Value}
use Rattle.rmt_values.specs.declared.cell.Cell.{Cell}
use Rattle.rmt_values.specs.declared.cell.Cell.TheVariants as cells
use Rattle.rmt_values.specs.declared.checked.Checked.{Checked}
use Rattle.rmt_values.specs.declared.checked_item.CheckedItem.{CheckedItem}
use Rattle.rmt_values.specs.declared.checked_item.CheckedItem.TheVariants as item
use Rattle.rmt_values.specs.declared.checked_query.CheckedQuery.{CheckedQuery}
use Rattle.rmt_values.specs.Aggregates.{is_checked_aggregate, is_grouping}
use Rattle.rmt_values.specs.Rows.{Shape, key_cmp}
use Rattle.rmt_values.proofs.Sorting.{Low, Up}
use Rattle.rmt_values.proofs.Totals.{key_cmp_total}
use Rattle.rmt_names.specs.Names.{Name, data_version}
use Rattle.rmt_entries.specs.declared.entry.Entry.{Entry}
use Rattle.rmt_row.specs.Token.{Token}
use Rattle.rmt_changes.specs.Changes.{any_mutates}
use Rattle.rmt_partset.specs.Snapshots.{NamedData, data_in, all_rows}
use Rattle.rmt_query.specs.Cells.{one, joined, added, zero_of}
use Rattle.rmt_query.specs.Answers.{matching, groups_of, group_tuples, or_zeros, tuples_of}
use Rattle.rmt_query.specs.OverRows.{over}
use Rattle.rmt_query.specs.ReadRows.{row_read, rows_read}
use Rattle.rmt_query.proofs.Combining.{lesser-assoc, greater-assoc}
use Rattle.rmt_query.proofs.MatchLemmas.{append-none}
use Rattle.rmt_query.proofs.Over.{over-count, over-sum}
use Rattle.rmt_query.proofs.RunLemmas.{Key, tuples, one-run}

-- ---- rows of parts, one part after the other

pub drop-at : {X : Type 0} (xs : List X) (i : ℕ) (x : X) → x ≡ get_or xs i x → i < length xs → drop i xs ≡ x ∷ drop (i + 1) xs
drop-at xs i x e h = let n : i + 1 ≡ suc i = omega arith in rw n (drop-cons xs i x h ∙ ap (λ y. y ∷ drop (suc i) xs) (sym e))

-- the rows of the parts up to one, and those of that one
pub rows-next : (parts : List NamedData) (i : ℕ) (x : NamedData) → x ≡ get_or parts i x → i < length parts
    → all_rows (data_in (take (i + 1) parts)) ≡ all_rows (data_in (take i parts)) ++ x.rows.rows
rows-next [] i x e h = absurd (omega (arith, h))
rows-next (y ∷ ys) zero x e h = append-none y.rows.rows ∙ ap (λ (p : NamedData). p.rows.rows) (sym e)
rows-next (y ∷ ys) (suc i) x e h =
    let n : suc i + 1 ≡ suc (i + 1) = omega arith in
    rw n (ap (λ (l : List (List Value)). y.rows.rows ++ l) (rows-next ys i x e (omega (arith, h))) ∙ sym (append_assoc y.rows.rows (all_rows (data_in (take i ys))) x.rows.rows))

kept-all : (f : List Value → Option (List Value)) (rows : List (List Value)) → ((row : List Value) → f row ≡ Some row) → filter_map f rows ≡ rows
kept-all f [] h = refl
kept-all f (r ∷ rs) h = ap (λ (o : Option (List Value)). cons_option o (filter_map f rs)) (h r) ∙ ap (λ (l : List (List Value)). r ∷ l) (kept-all f rs h)

-- a part for which nothing is pending is read as it is
pub settled-next : (pending : List Entry) (parts : List NamedData) (all : List (List Value)) (i : ℕ) (x : NamedData) → x ≡ get_or parts i x → i < length parts
    → ((row : List Value) → row_read pending x.name row ≡ Some row) → all ≡ all_rows (data_in (take i parts)) ++ rows_read pending (drop i parts)
    → all ≡ all_rows (data_in (take (i + 1) parts)) ++ rows_read pending (drop (i + 1) parts)
settled-next pending parts all i x e h s k =
    k
    ∙ (ap (λ (ps : List NamedData). all_rows (data_in (take i parts)) ++ rows_read pending ps) (drop-at parts i x e h)
    ∙ (ap (λ (l : List (List Value)). all_rows (data_in (take i parts)) ++ (l ++ rows_read pending (drop (i + 1) parts))) (kept-all (row_read pending x.name) x.rows.rows s)
    ∙ (sym (append_assoc (all_rows (data_in (take i parts))) x.rows.rows (rows_read pending (drop (i + 1) parts)))
    ∙ ap (λ (l : List (List Value)). l ++ rows_read pending (drop (i + 1) parts)) (sym (rows-next parts i x e h)))))

pub settled-end : (pending : List Entry) (parts : List NamedData) (all : List (List Value)) (i : ℕ) → length parts ≤ i
    → all ≡ all_rows (data_in (take i parts)) ++ rows_read pending (drop i parts) → all ≡ all_rows (data_in parts)
settled-end pending parts all i h k = k ∙ go parts i h
  where
    go : (parts : List NamedData) (i : ℕ) → length parts ≤ i → all_rows (data_in (take i parts)) ++ rows_read pending (drop i parts) ≡ all_rows (data_in parts)
    go [] zero h = refl
    go [] (suc i) h = refl
    go (y ∷ ys) zero h = absurd (omega (arith, h))
    go (y ∷ ys) (suc i) h =
        append_assoc y.rows.rows (all_rows (data_in (take i ys))) (rows_read pending (drop i ys)) ∙ ap (λ (l : List (List Value)). y.rows.rows ++ l) (go ys i (omega (arith, h)))

-- whether something is pending for a part, by its name
pub pending-is : (tokens : List (Token Entry)) (name name' : Name) (p : Option ℕ) (v : ℕ) (b : Bool) → b ≡ any_mutates p (λ k. nat_lt v k) tokens
    → p ≡ name'.partition → v ≡ data_version name' → name' ≡ name → b ≡ any_mutates name.partition (λ k. nat_lt (data_version name) k) tokens
pending-is tokens name name' p v b e ep ev en =
    e
    ∙ (ap (λ (q : Option ℕ). any_mutates q (λ k. nat_lt v k) tokens) ep
    ∙ (ap (λ (n : ℕ). any_mutates name'.partition (λ k. nat_lt n k) tokens) ev ∙ ap (λ (m : Name). any_mutates m.partition (λ k. nat_lt (data_version m) k) tokens) en))

-- ---- items over the rows of both

joined-assoc : (i : CheckedItem) (x z y : List Value) (zs ys : List (List Value))
    → joined i (one i x) (joined i (over i (z ∷ zs)) (over i (y ∷ ys))) ≡ joined i (joined i (one i x) (over i (z ∷ zs))) (over i (y ∷ ys))
joined-assoc (item.Column c) x z y zs ys = lesser-assoc (one (item.Column c) x) (over (item.Column c) (z ∷ zs)) (over (item.Column c) (y ∷ ys))
joined-assoc item.Count x z y zs ys =
    ap₂ (λ (a b : Cell). added (cells.UInt 1) (added a b)) (over-count z zs) (over-count y ys)
    ∙ (ap (λ (n : ℕ). cells.UInt n) (omega arith) ∙ sym (ap₂ (λ (a b : Cell). added (added (cells.UInt 1) a) b) (over-count z zs) (over-count y ys)))
joined-assoc (item.Sum c) x z y zs ys =
    ap₂ (λ (a b : Cell). added (one (item.Sum c) x) (added a b)) (over-sum c z zs) (over-sum c y ys)
    ∙ (ap (λ (n : ℤ). cells.Sum n) (omega (arith, ints)) ∙ sym (ap₂ (λ (a b : Cell). added (added (one (item.Sum c) x) a) b) (over-sum c z zs) (over-sum c y ys)))
joined-assoc (item.Min c) x z y zs ys = lesser-assoc (one (item.Min c) x) (over (item.Min c) (z ∷ zs)) (over (item.Min c) (y ∷ ys))
joined-assoc (item.Max c) x z y zs ys = greater-assoc (one (item.Max c) x) (over (item.Max c) (z ∷ zs)) (over (item.Max c) (y ∷ ys))

pub over-joined : (i : CheckedItem) (xs ys : List (List Value)) → 0 < length xs → 0 < length ys → over i (xs ++ ys) ≡ joined i (over i xs) (over i ys)
over-joined i [] ys h k = absurd (omega (arith, h))
over-joined i (x ∷ xs) [] h k = absurd (omega (arith, k))
over-joined i (x ∷ []) (y ∷ ys) h k = refl
over-joined i (x ∷ z ∷ zs) (y ∷ ys) h k = ap (joined i (one i x)) (over-joined i (z ∷ zs) (y ∷ ys) (omega arith) k) ∙ joined-assoc i x z y zs ys

-- ---- all rows as one group

-- rows are in the order of no columns as they are
pub in-no-order : (rows : List (List Value)) → Up (key_cmp []) (key_cmp_total []) rows
in-no-order [] = tt
in-no-order (x ∷ rows) = (low x rows, in-no-order rows)
  where
    low : (x : List Value) (rows : List (List Value)) → Low (key_cmp []) (key_cmp_total []) x rows
    low x [] = tt
    low x (y ∷ ys) = (refl, low x ys)

pub one-group : (items : List CheckedItem) (rows : List (List Value)) → 0 < length rows → map (λ (g : Key × List Cell). g.1) (groups_of items [] rows) ≡ map (λ i. over i rows) items ∷ []
one-group items rows h =
    one-run items [] rows (length rows) (in-no-order rows) (record { some = h; within = omega arith; together = λ k d a b. refl; apart = λ less. absurd (omega (arith, less)) })
    ∙ (ap (λ (l : List (List Value)). map (λ i. over i l) items ∷ tuples items [] (drop (length rows) rows)) (take-whole rows)
    ∙ ap (λ (l : List (List Value)). map (λ i. over i rows) items ∷ tuples items [] l) (drop-whole rows))
  where
    take-whole : (rows : List (List Value)) → take (length rows) rows ≡ rows
    take-whole [] = refl
    take-whole (r ∷ rs) = ap (λ (l : List (List Value)). r ∷ l) (take-whole rs)

    drop-whole : (rows : List (List Value)) → drop (length rows) rows ≡ []
    drop-whole [] = refl
    drop-whole (r ∷ rs) = drop-whole rs

-- the tuples of aggregates over all rows
pub totals-are : (shape : Shape) (query : CheckedQuery) (read rows : List (List Value)) (made : List (List Cell)) → query.filter ≡ None → query.group ≡ []
    → is_grouping is_checked_aggregate query.items query.group ≡ true → read ≡ rows
    → made ≡ or_zeros [] (map (λ i. zero_of shape i) query.items) (map (λ (g : Key × List Cell). g.1) (groups_of query.items [] rows))
    → made ≡ tuples_of shape query (matching query.filter read)
totals-are shape query read rows made f g t r e =
    e
    ∙ (ap (λ (l : List ℕ). group_tuples shape query.items l rows) (sym g)
    ∙ (ap (group_tuples shape query.items query.group) (sym (all-match rows) ∙ (ap (matching None) (sym r) ∙ ap (λ (c : Option Checked). matching c read) (sym f)))
    ∙ sym (ap (λ (b : Bool). cond b (group_tuples shape query.items query.group (matching query.filter read)) (map (λ row. map (λ i. one i row) query.items) (matching query.filter read))) t)))
  where
    all-match : (rows : List (List Value)) → matching None rows ≡ rows
    all-match [] = refl
    all-match (r ∷ rs) = ap (λ (l : List (List Value)). r ∷ l) (all-match rs)
