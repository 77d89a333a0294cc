-- The cells at the first places of distinct items order tuples as all their cells do.
use Rattle.std.proofs.Common.{◌≡◌, ◌⊎◌, ℕ, zero, suc, inl, inr, Bool, true, false, cond, List, [], ◌∷◌, ◌++◌, map, take, replicate, refl, sym, ap, subst, ◌∙◌, arith}
use Rattle.std.specs.Prelude.{slice_get}
use Rattle.std.specs.declared.option.Option.{Option}
use Rattle.std.specs.declared.option.Option.TheVariants.{Some}
use Rattle.std.specs.declared.cmp.Ordering.{Ordering}
use Rattle.std.specs.declared.cmp.Ordering.TheVariants.{Less, Equal, Greater}
use Rattle.std.specs.Ordering.{is_gt, ordering_then}
use Rattle.std.specs.Option.{option_map, option_cmp}
use Rattle.std.specs.Cmp.{IsTotalOrder}
use Rattle.std.specs.Cmp.Lexicographic.{options_total}
use Rattle.std.proofs.lemmas.Cmp.{lists_total, on_total}
use Rattle.std.proofs.lemmas.Option.{slice_get-map}
use Rattle.rmt_values.specs.declared.value.Value.{Value}
use Rattle.rmt_values.specs.declared.cell.Cell.{Cell}
use Rattle.rmt_values.specs.declared.checked_item.CheckedItem.{CheckedItem}
use Rattle.rmt_values.specs.declared.checked_item.CheckedItem.TheVariants as item
use Rattle.rmt_values.specs.declared.checked_query.CheckedQuery.{CheckedQuery}
use Rattle.rmt_values.specs.Rows.{Shape, key_of}
use Rattle.rmt_values.specs.Aggregates.{is_checked_aggregate, is_grouping}
use Rattle.rmt_values.specs.Order.{sink, in_order}
use Rattle.rmt_model.specs.Words.{Has, Each}
use Rattle.rmt_query.specs.Cells.{cell_order, tuple_cmp, one, joined, zero_of}
use Rattle.rmt_query.specs.Groups.{enter, placed}
use Rattle.rmt_query.specs.Answers.{tuple_of, add_row, groups_of, group_tuples, or_zeros, tuples_of}
use Rattle.rmt_query.specs.Distinct.{tuple_cmp_at, OrderTuplesAlike, flag_of}
use Rattle.rmt_query.proofs.CellOrder.{cell_order_total}
use Rattle.rmt_query.proofs.DistinctLemmas.{then-equal, then-both, has-more, has-last}
use Rattle.rmt_query.proofs.RunLemmas.{Key, by}

pub tuple_cmp_at_total : (places : List ℕ) → IsTotalOrder (tuple_cmp_at places)
tuple_cmp_at_total places = on_total (λ (t : List Cell). map (λ p. slice_get t p) places) (lists_total (options_total cell_order_total))

-- ---- places

-- each item whose flag is set is at one of these places
abbrev pub AreFlagged : List Bool → List ℕ → List CheckedItem → Type 0
AreFlagged seen places items = (i : CheckedItem) → slice_get seen (flag_of i) ≡ Some true → Has (map (λ p. slice_get items p) places) (Some i)

flag-exact : (a b : CheckedItem) → flag_of a ≡ flag_of b → a ≡ b
flag-exact (item.Column c) (item.Column d) e = ap (λ (n : ℕ). item.Column n) (omega (arith, e))
flag-exact (item.Column c) item.Count e = absurd (omega (arith, e))
flag-exact (item.Column c) (item.Sum d) e = absurd (omega (arith, e))
flag-exact (item.Column c) (item.Min d) e = absurd (omega (arith, e))
flag-exact (item.Column c) (item.Max d) e = absurd (omega (arith, e))
flag-exact item.Count (item.Column d) e = absurd (omega (arith, e))
flag-exact item.Count item.Count e = refl
flag-exact item.Count (item.Sum d) e = absurd (omega (arith, e))
flag-exact item.Count (item.Min d) e = absurd (omega (arith, e))
flag-exact item.Count (item.Max d) e = absurd (omega (arith, e))
flag-exact (item.Sum c) (item.Column d) e = absurd (omega (arith, e))
flag-exact (item.Sum c) item.Count e = absurd (omega (arith, e))
flag-exact (item.Sum c) (item.Sum d) e = ap (λ (n : ℕ). item.Sum n) (omega (arith, e))
flag-exact (item.Sum c) (item.Min d) e = absurd (omega (arith, e))
flag-exact (item.Sum c) (item.Max d) e = absurd (omega (arith, e))
flag-exact (item.Min c) (item.Column d) e = absurd (omega (arith, e))
flag-exact (item.Min c) item.Count e = absurd (omega (arith, e))
flag-exact (item.Min c) (item.Sum d) e = absurd (omega (arith, e))
flag-exact (item.Min c) (item.Min d) e = ap (λ (n : ℕ). item.Min n) (omega (arith, e))
flag-exact (item.Min c) (item.Max d) e = absurd (omega (arith, e))
flag-exact (item.Max c) (item.Column d) e = absurd (omega (arith, e))
flag-exact (item.Max c) item.Count e = absurd (omega (arith, e))
flag-exact (item.Max c) (item.Sum d) e = absurd (omega (arith, e))
flag-exact (item.Max c) (item.Min d) e = absurd (omega (arith, e))
flag-exact (item.Max c) (item.Max d) e = ap (λ (n : ℕ). item.Max n) (omega (arith, e))

-- the order of two tuples by the cells at a place
abbrev place_cmp : ℕ → List Cell → List Cell → Ordering
place_cmp p a b = option_cmp cell_order (slice_get a p) (slice_get b p)

-- one more place is compared last
places-more : (places : List ℕ) (p : ℕ) (a b : List Cell) → tuple_cmp_at (places ++ p ∷ []) a b ≡ ordering_then (tuple_cmp_at places a b) (place_cmp p a b)
places-more [] p a b = then-equal (place_cmp p a b)
places-more (q ∷ places) p a b = ap (ordering_then (place_cmp q a b)) (places-more places p a b) ∙ then-both (place_cmp q a b) (tuple_cmp_at places a b) (place_cmp p a b)

-- one more item is compared last
items-more : (items : List CheckedItem) (i : CheckedItem) (f g : CheckedItem → Cell) → tuple_cmp (map f (items ++ i ∷ [])) (map g (items ++ i ∷ [])) ≡ ordering_then (tuple_cmp (map f items) (map g items)) (cell_order (f i) (g i))
items-more [] i f g = then-equal (cell_order (f i) (g i))
items-more (j ∷ items) i f g = ap (ordering_then (cell_order (f j) (g j))) (items-more items i f g) ∙ then-both (cell_order (f j) (g j)) (tuple_cmp (map f items) (map g items)) (cell_order (f i) (g i))

-- the cells at an item's place are those of the item
place-item : (items : List CheckedItem) (p : ℕ) (i : CheckedItem) (f g : CheckedItem → Cell) → slice_get items p ≡ Some i → place_cmp p (map f items) (map g items) ≡ cell_order (f i) (g i)
place-item items p i f g e =
    ap (λ (o : Option Cell). option_cmp cell_order o (slice_get (map g items) p)) (slice_get-map f items p ∙ ap (option_map f) e)
    ∙ ap (λ (o : Option Cell). option_cmp cell_order (Some (f i)) o) (slice_get-map g items p ∙ ap (option_map g) e)

-- tuples that tie at places tie at each item of these
tie-each : (places : List ℕ) (items : List CheckedItem) (i : CheckedItem) (f g : CheckedItem → Cell) → Has (map (λ p. slice_get items p) places) (Some i) → tuple_cmp_at places (map f items) (map g items) ≡ Equal → cell_order (f i) (g i) ≡ Equal
tie-each [] items i f g h e = absurd h
tie-each (p ∷ places) items i f g h e = go (place_cmp p (map f items) (map g items)) refl h e (tie-each places items i f g)
  where
    go : (o : Ordering) → place_cmp p (map f items) (map g items) ≡ o → Has (map (λ q. slice_get items q) (p ∷ places)) (Some i) → ordering_then o (tuple_cmp_at places (map f items) (map g items)) ≡ Equal → (Has (map (λ q. slice_get items q) places) (Some i) → tuple_cmp_at places (map f items) (map g items) ≡ Equal → cell_order (f i) (g i) ≡ Equal) → cell_order (f i) (g i) ≡ Equal
    go Less q k t r = absurd (cc)
    go Equal q (inl s) t r = sym (place-item items p i f g s) ∙ q
    go Equal q (inr s) t r = r s t
    go Greater q k t r = absurd (cc)

-- an item that is new is compared last by both
pub tuples-more : (places : List ℕ) (items others : List CheckedItem) (p : ℕ) (i : CheckedItem) → OrderTuplesAlike places items others → slice_get items p ≡ Some i → OrderTuplesAlike (places ++ p ∷ []) items (others ++ i ∷ [])
tuples-more places items others p i alike e f g =
    places-more places p (map f items) (map g items)
    ∙ (ap (λ (o : Ordering). ordering_then o (place_cmp p (map f items) (map g items))) (alike f g)
    ∙ (ap (ordering_then (tuple_cmp (map f others) (map g others))) (place-item items p i f g e)
    ∙ sym (items-more others i f g)))

-- one that was compared needn't be compared again
pub tuples-again : (places : List ℕ) (items others : List CheckedItem) (i : CheckedItem) → OrderTuplesAlike places items others → Has (map (λ p. slice_get items p) places) (Some i) → OrderTuplesAlike places items (others ++ i ∷ [])
tuples-again places items others i alike h f g = go (tuple_cmp_at places (map f items) (map g items)) refl ∙ ap (λ (o : Ordering). ordering_then o (cell_order (f i) (g i))) (alike f g) ∙ sym (items-more others i f g)
  where
    go : (o : Ordering) → tuple_cmp_at places (map f items) (map g items) ≡ o → o ≡ ordering_then o (cell_order (f i) (g i))
    go Less e = refl
    go Equal e = sym (tie-each places items i f g h e)
    go Greater e = refl

map-more : (items : List CheckedItem) (places : List ℕ) (p : ℕ) → map (λ q. slice_get items q) (places ++ p ∷ []) ≡ map (λ q. slice_get items q) places ++ slice_get items p ∷ []
map-more items [] p = refl
map-more items (q ∷ places) p = ap (λ (l : List (Option CheckedItem)). slice_get items q ∷ l) (map-more items places p)

-- an item's flag is set, and its place is among them
pub flagged-more : (seen after : List Bool) (places : List ℕ) (items : List CheckedItem) (p : ℕ) (i : CheckedItem) → AreFlagged seen places items → slice_get items p ≡ Some i → ((n : ℕ) → slice_get after n ≡ Some true → (n ≡ flag_of i) ⊎ (slice_get seen n ≡ Some true)) → AreFlagged after (places ++ p ∷ []) items
flagged-more seen after places items p i m e others j set = subst (λ (l : List (Option CheckedItem)). Has l (Some j)) (sym (map-more items places p)) (go (others (flag_of j) set))
  where
    before : List (Option CheckedItem)
    before = map (λ q. slice_get items q) places

    go : (flag_of j ≡ flag_of i) ⊎ (slice_get seen (flag_of j) ≡ Some true) → Has (before ++ slice_get items p ∷ []) (Some j)
    go (inl q) = has-last before (slice_get items p) (Some j) (e ∙ ap (λ (k : CheckedItem). Some k) (sym (flag-exact j i q)))
    go (inr q) = has-more before (slice_get items p) (Some j) (m j q)

none-set : (n k : ℕ) → slice_get (replicate n false) k ≡ Some true → ⊥
none-set zero k e = absurd (cc)
none-set (suc n) zero e = absurd (cc)
none-set (suc n) (suc k) e = none-set n k e

-- no flag is set at first
pub none-flagged : (n : ℕ) (places : List ℕ) (items : List CheckedItem) → AreFlagged (replicate n false) places items
none-flagged n places items i e = absurd (none-set n (flag_of i) e)

take-none : (items : List CheckedItem) → take 0 items ≡ []
take-none [] = refl
take-none (x ∷ items) = refl

-- no places order tuples as no items
pub tuples-none : (places : List ℕ) (items : List CheckedItem) → places ≡ [] → OrderTuplesAlike places items (take 0 items)
tuples-none places items e f g =
    ap (λ (l : List ℕ). tuple_cmp_at l (map f items) (map g items)) e
    ∙ ap (λ (l : List CheckedItem). tuple_cmp (map f l) (map g l)) (sym (take-none items))

-- ---- tuples of a query

-- each cell is what some function makes of its item
record IsOfItems (items : List CheckedItem) (t : List Cell) : Type 0 where
  pub cell : CheckedItem → Cell
  pub is : t ≡ map cell items

add-to : (items : List CheckedItem) (x : List Value) (f : CheckedItem → Cell) → add_row items x (map f items) ≡ map (λ i. joined i (one i x) (f i)) items
add-to [] x f = refl
add-to (i ∷ is) x f = ap (λ (l : List Cell). joined i (one i x) (f i) ∷ l) (add-to is x f)

add-new : (items : List CheckedItem) (x : List Value) → add_row items x [] ≡ map (λ i. one i x) items
add-new [] x = refl
add-new (i ∷ is) x = ap (λ (l : List Cell). one i x ∷ l) (add-new is x)

module _ (items : List CheckedItem) (group : List ℕ) where
  abbrev AreOfItems : List (Key × List Cell) → Type 0
  AreOfItems gs = Each (λ (g : Key × List Cell). IsOfItems items g.1) gs

  new : (x : List Value) → IsOfItems items (add_row items x [])
  new x = record { cell = λ i. one i x; is = add-new items x }

  entered : (x : List Value) (gs : List (Key × List Cell)) → AreOfItems gs → AreOfItems (enter by (key_of group) [] (add_row items) x gs)
  entered x [] e = (new x, tt)
  entered x (g ∷ gs) e = go (by (key_of group x) g.0) (entered x gs e.1)
    where
      go : (o : Ordering) → AreOfItems (enter by (key_of group) [] (add_row items) x gs) → AreOfItems (placed by (key_of group) [] (add_row items) o x g gs (enter by (key_of group) [] (add_row items) x gs))
      go Less deeper = (new x, e)
      go Equal deeper = (record { cell = λ i. joined i (one i x) (e.0.cell i); is = ap (add_row items x) e.0.is ∙ add-to items x e.0.cell }, e.1)
      go Greater deeper = (e.0, deeper)

  all-entered : (rows : List (List Value)) → AreOfItems (groups_of items group rows)
  all-entered [] = tt
  all-entered (x ∷ rows) = entered x (groups_of items group rows) (all-entered rows)

  each-group : (gs : List (Key × List Cell)) → AreOfItems gs → Each (IsOfItems items) (map (λ (g : Key × List Cell). g.1) gs)
  each-group [] e = tt
  each-group (g ∷ gs) e = (e.0, each-group gs e.1)

each-row : (items : List CheckedItem) (rows : List (List Value)) → Each (IsOfItems items) (map (tuple_of items) rows)
each-row items [] = tt
each-row items (x ∷ rows) = (record { cell = λ i. one i x; is = refl }, each-row items rows)

each-or-zeros : (items : List CheckedItem) (group : List ℕ) (zeros : List Cell) (ts : List (List Cell)) → IsOfItems items zeros → Each (IsOfItems items) ts → Each (IsOfItems items) (or_zeros group zeros ts)
each-or-zeros items [] zeros [] z e = (z, tt)
each-or-zeros items [] zeros (t ∷ ts) z e = e
each-or-zeros items (c ∷ cs) zeros ts z e = e

each-tuple : (shape : Shape) (query : CheckedQuery) (rows : List (List Value)) → Each (IsOfItems query.items) (tuples_of shape query rows)
each-tuple shape query rows = go (is_grouping is_checked_aggregate query.items query.group)
  where
    go : (b : Bool) → Each (IsOfItems query.items) (cond b (group_tuples shape query.items query.group rows) (map (tuple_of query.items) rows))
    go true =
        each-or-zeros query.items query.group (map (λ i. zero_of shape i) query.items) (map (λ g. g.1) (groups_of query.items query.group rows)) (record { cell = λ i. zero_of shape i; is = refl })
        (each-group query.items query.group (groups_of query.items query.group rows) (all-entered query.items query.group rows))
    go false = each-row query.items rows

-- ---- orders that agree

module _ {X : Type 0} (P : X → Type 0) (cmp other : X → X → Ordering) (agree : (x y : X) → P x → P y → cmp x y ≡ other x y) where
  each-sink : (x : X) (ys : List X) → P x → Each P ys → Each P (sink cmp x ys)
  each-sink x [] p e = (p, tt)
  each-sink x (y ∷ ys) p e = go (is_gt (cmp x y)) (each-sink x ys p e.1)
    where
      go : (b : Bool) → Each P (sink cmp x ys) → Each P (cond b (y ∷ sink cmp x ys) (x ∷ y ∷ ys))
      go true r = (e.0, r)
      go false r = (p, e)

  each-in-order : (xs : List X) → Each P xs → Each P (in_order cmp xs)
  each-in-order [] e = tt
  each-in-order (x ∷ xs) e = each-sink x (in_order cmp xs) e.0 (each-in-order xs e.1)

  one-sink : (x : X) (ys : List X) → P x → Each P ys → sink cmp x ys ≡ sink other x ys
  one-sink x [] p e = refl
  one-sink x (y ∷ ys) p e =
      ap (λ (o : Ordering). cond (is_gt o) (y ∷ sink cmp x ys) (x ∷ y ∷ ys)) (agree x y p e.0)
      ∙ ap (λ (l : List X). cond (is_gt (other x y)) (y ∷ l) (x ∷ y ∷ ys)) (one-sink x ys p e.1)

  -- orders that agree on the elements put them in one order
  in-one-order : (xs : List X) → Each P xs → in_order cmp xs ≡ in_order other xs
  in-one-order [] e = refl
  in-one-order (x ∷ xs) e = one-sink x (in_order cmp xs) e.0 (each-in-order xs e.1) ∙ ap (sink other x) (in-one-order xs e.1)

-- the tuples of a query are in one order by the cells at such places and by all
pub in-order-at : (places : List ℕ) (shape : Shape) (query : CheckedQuery) (rows : List (List Value)) → OrderTuplesAlike places query.items query.items → in_order (tuple_cmp_at places) (tuples_of shape query rows) ≡ in_order tuple_cmp (tuples_of shape query rows)
in-order-at places shape query rows alike = in-one-order (IsOfItems query.items) (tuple_cmp_at places) tuple_cmp agree (tuples_of shape query rows) (each-tuple shape query rows)
  where
    agree : (x y : List Cell) → IsOfItems query.items x → IsOfItems query.items y → tuple_cmp_at places x y ≡ tuple_cmp x y
    agree x y p q =
        ap (λ (t : List Cell). tuple_cmp_at places t y) p.is
        ∙ (ap (λ (t : List Cell). tuple_cmp_at places (map p.cell query.items) t) q.is
        ∙ (alike p.cell q.cell
        ∙ (ap (λ (t : List Cell). tuple_cmp t (map q.cell query.items)) (sym p.is)
        ∙ ap (λ (t : List Cell). tuple_cmp x t) (sym q.is))))
