-- The places of rows of parts, and their order.
use Rattle.std.proofs.Common.{◌≡◌, ℕ, zero, suc, ◌+◌, ◌-◌, ◌/◌, ◌<◌, ◌≤◌, Bool, true, false, cond, List, [], ◌∷◌, ◌++◌, map, length, slice_get, get_or, take, drop, refl, sym, ap, subst, arith, ◌∙◌, append_assoc, append-nil, All}
use Rattle.std.specs.Prelude.{not, IsTrue}
use Rattle.std.proofs.lemmas.List.Elements.{All-append}
use Rattle.std.specs.declared.option.Option.{Option}
use Rattle.std.specs.declared.option.Option.TheVariants.{Some}
use Rattle.std.specs.List.Sorted.{IsSorted}
use Rattle.std.specs.declared.cmp.Ordering.{Ordering}
use Rattle.std.specs.Ordering.{is_gt}
use Rattle.std.specs.Cmp.{IsTotalOrder}
use Rattle.rmt_values.specs.declared.value.Value.{Value}
use Rattle.rmt_values.specs.Rows.{Shape, fits, key_cmp, in_key_order}
use Rattle.rmt_values.specs.Order.{sink, in_order}
use Rattle.rmt_values.proofs.Totals.{key_cmp_total}
use Rattle.rmt_values.proofs.Sorting.{Up}
use Rattle.rmt_columns.proofs.OrderLemmas.{map-ordered, pulled-total}
use Rattle.rmt_granules.proofs.StableOrder.{All-ordered, Up-pulled, ordered-up, order-ordered, order-joined, ordered-sorted, order-twice}
use Rattle.rmt_granules.specs.Granules.{PartView}
use Rattle.rmt_granules.specs.declared.place.Place.{Place}
use Rattle.rmt_granules.specs.MergedData.{rows_joined, IsDataOf, AreDataOf}
use Rattle.rmt_granules.specs.Places.{rows_at, row_in, place_cmp, places_from, all_places, AreOf}

-- ---- places

pub AreOf-more : (n m : ℕ) (ps : List Place) → n ≤ m → AreOf n ps → AreOf m ps
AreOf-more n m [] h a = tt
AreOf-more n m (p ∷ ps) h a = let x = a.0 in (omega (arith, h, x), AreOf-more n m ps h a.1)

AreOf-sink : (n : ℕ) (cmp : Place → Place → Ordering) (p : Place) (ps : List Place) → p.part < n → AreOf n ps → AreOf n (sink cmp p ps)
AreOf-sink n cmp p [] h a = (h, tt)
AreOf-sink n cmp p (q ∷ qs) h a = go (is_gt (cmp p q)) (AreOf-sink n cmp p qs h a.1)
  where
    go : (b : Bool) → AreOf n (sink cmp p qs) → AreOf n (cond b (q ∷ sink cmp p qs) (p ∷ q ∷ qs))
    go true r = (a.0, r)
    go false r = (h, a)

pub AreOf-ordered : (n : ℕ) (cmp : Place → Place → Ordering) (ps : List Place) → AreOf n ps → AreOf n (in_order cmp ps)
AreOf-ordered n cmp [] a = tt
AreOf-ordered n cmp (p ∷ ps) a = AreOf-sink n cmp p (in_order cmp ps) a.0 (AreOf-ordered n cmp ps a.1)

AreOf-append : (n : ℕ) (ps qs : List Place) → AreOf n ps → AreOf n qs → AreOf n (ps ++ qs)
AreOf-append n [] qs a b = b
AreOf-append n (p ∷ ps) qs a b = (a.0, AreOf-append n ps qs a.1 b)

AreOf-from : (part row k : ℕ) → AreOf (part + 1) (places_from part row k)
AreOf-from part row zero = tt
AreOf-from part row (suc k) = (omega arith, AreOf-from part (row + 1) k)

pub AreOf-all : (first : ℕ) (parts : List PartView) → AreOf (first + length parts) (all_places first parts)
AreOf-all first [] = tt
AreOf-all first (x ∷ parts) =
    AreOf-append (first + length (x ∷ parts)) (places_from first 0 (length x.rows)) (all_places (first + 1) parts)
    (AreOf-more (first + 1) (first + length (x ∷ parts)) (places_from first 0 (length x.rows)) (omega arith) (AreOf-from first 0 (length x.rows)))
    (AreOf-more (first + 1 + length parts) (first + length (x ∷ parts)) (all_places (first + 1) parts) (omega arith) (AreOf-all (first + 1) parts))

pub AreOf-at : (n : ℕ) (ps : List Place) (i : ℕ) (p : Place) → AreOf n ps → i < length ps → p ≡ get_or ps i p → p.part < n
AreOf-at n [] i p a h e = absurd (omega (arith, h))
AreOf-at n (q ∷ qs) zero p a h e = let s = ap (λ (x : Place). x.part) e in let b = a.0 in omega (arith, s, b)
AreOf-at n (q ∷ qs) (suc i) p a h e = AreOf-at n qs i p a.1 (omega (arith, h)) e

-- one more place of a part
pub places-step : (ps all : List Place) (part row rows : ℕ) → row < rows → ps ++ places_from part row (rows - row) ≡ all → (ps ++ record { part = part; row = row } ∷ []) ++ places_from part (row + 1) (rows - (row + 1)) ≡ all
places-step ps all part row rows h e =
    let n : rows - row ≡ suc (rows - (row + 1)) = omega (arith, h) in
    append_assoc ps (record { part = part; row = row } ∷ []) (places_from part (row + 1) (rows - (row + 1)))
    ∙ (ap (λ k. ps ++ places_from part row k) (sym n) ∙ e)

-- the places of a front and of what is behind it
pub all-split : (first half count : ℕ) (parts : List PartView) → half ≤ count → half ≤ length parts → all_places first (take count parts) ≡ all_places first (take half parts) ++ all_places (first + half) (take (count - half) (drop half parts))
all-split first zero count parts h l =
    let a : first + 0 ≡ first = omega arith in let b : count - 0 ≡ count = omega arith in rw (a, b) refl
all-split first (suc half) zero parts h l = absurd (omega (arith, h))
all-split first (suc half) (suc count) [] h l = absurd (omega (arith, l))
all-split first (suc half) (suc count) (x ∷ parts) h l =
    let a : first + suc half ≡ first + 1 + half = omega arith in
    let b : suc count - suc half ≡ count - half = omega arith in
    rw (a, b)
    (ap (λ ps. places_from first 0 (length x.rows) ++ ps) (all-split (first + 1) half count parts (omega (arith, h)) (omega (arith, l)))
    ∙ sym (append_assoc (places_from first 0 (length x.rows)) (all_places (first + 1) (take half parts)) (all_places (first + 1 + half) (take (count - half) (drop half parts)))))

-- the rows at the places of a part
shown-part : (parts : List PartView) (i j : ℕ) (rows before : List (List Value)) → rows_at (slice_get parts i) ≡ before ++ rows → j ≡ length before → map (row_in parts) (places_from i j (length rows)) ≡ rows
shown-part parts i j [] before e h = refl
shown-part parts i j (r ∷ rows) before e h =
    ap (λ (x : List Value). x ∷ map (row_in parts) (places_from i (j + 1) (length rows))) here
    ∙ ap (λ (x : List (List Value)). r ∷ x) (shown-part parts i (j + 1) rows (before ++ r ∷ []) (e ∙ sym (append_assoc before (r ∷ []) rows)) (let l = length-one before r in omega (arith, h, l)))
  where
    length-one : (xs : List (List Value)) (x : List Value) → length (xs ++ x ∷ []) ≡ length xs + 1
    length-one [] x = refl
    length-one (y ∷ ys) x = let r = length-one ys x in omega (arith, r)

    seam : (xs : List (List Value)) (x : List Value) (ys : List (List Value)) → get_or (xs ++ x ∷ ys) (length xs) [] ≡ x
    seam [] x ys = refl
    seam (y ∷ xs) x ys = seam xs x ys

    here : get_or (rows_at (slice_get parts i)) j [] ≡ r
    here = ap (λ (x : List (List Value)). get_or x j []) e ∙ (ap (λ n. get_or (before ++ r ∷ rows) n []) h ∙ seam before r rows)

-- the rows at the places of parts are the rows of the parts
pub shown-all : (before parts all : List PartView) (first : ℕ) → all ≡ before ++ parts → first ≡ length before → map (row_in all) (all_places first parts) ≡ rows_joined parts
shown-all before [] all first e h = refl
shown-all before (x ∷ parts) all first e h =
    map-joined (row_in all) (places_from first 0 (length x.rows)) (all_places (first + 1) parts)
    ∙ (ap (λ (l : List (List Value)). l ++ map (row_in all) (all_places (first + 1) parts)) (shown-part all first 0 x.rows [] (ap rows_at there) refl)
    ∙ ap (λ (l : List (List Value)). x.rows ++ l) (shown-all (before ++ x ∷ []) parts all (first + 1) (e ∙ sym (append_assoc before (x ∷ []) parts)) (let l = length-one before x in omega (arith, h, l))))
  where
    length-one : (xs : List PartView) (x : PartView) → length (xs ++ x ∷ []) ≡ length xs + 1
    length-one [] x = refl
    length-one (y ∷ ys) x = let r = length-one ys x in omega (arith, r)

    seam : (xs ys : List PartView) (x : PartView) → slice_get (xs ++ x ∷ ys) (length xs) ≡ Some x
    seam [] ys x = refl
    seam (y ∷ xs) ys x = seam xs ys x

    there : slice_get all first ≡ Some x
    there = ap (λ (l : List PartView). slice_get l first) e ∙ (ap (slice_get (before ++ x ∷ parts)) h ∙ seam before parts x)

    map-joined : {A B : Type 0} (f : A → B) (xs ys : List A) → map f (xs ++ ys) ≡ map f xs ++ map f ys
    map-joined f [] ys = refl
    map-joined {A} {B} f (z ∷ zs) ys = ap (λ (l : List B). f z ∷ l) (map-joined f zs ys)

-- the places of one part stand in order
pub one-ordered : (shape : Shape) (parts : List PartView) (i : ℕ) (x : PartView) → slice_get parts i ≡ Some x → in_key_order shape x.rows ≡ x.rows → in_order (place_cmp shape.key parts) (places_from i 0 (length x.rows)) ≡ places_from i 0 (length x.rows)
unfolding in_key_order
one-ordered shape parts i x e o =
    order-ordered (place_cmp shape.key parts) (pulled-total (row_in parts) (key_cmp shape.key) (key_cmp_total shape.key)) (places_from i 0 (length x.rows))
    (Up-pulled (row_in parts) (key_cmp shape.key) (key_cmp_total shape.key) (places_from i 0 (length x.rows))
    (subst (Up (key_cmp shape.key) (key_cmp_total shape.key)) (sym (shown-part parts i 0 x.rows [] (ap rows_at e) refl)) (ordered-up (key_cmp shape.key) (key_cmp_total shape.key) x.rows o)))

-- two halves in order, put in order, are the order of all
pub halves : (shape : Shape) (parts : List PartView) (ps qs : List Place) → in_order (place_cmp shape.key parts) (in_order (place_cmp shape.key parts) ps ++ in_order (place_cmp shape.key parts) qs) ≡ in_order (place_cmp shape.key parts) (ps ++ qs)
halves shape parts ps qs =
    let cmp = place_cmp shape.key parts in
    let o : IsTotalOrder (place_cmp shape.key parts) = pulled-total (row_in parts) (key_cmp shape.key) (key_cmp_total shape.key) in
    order-joined (place_cmp shape.key parts) o (in_order (place_cmp shape.key parts) ps) ps (in_order (place_cmp shape.key parts) qs) qs (order-twice (place_cmp shape.key parts) o ps) (order-twice (place_cmp shape.key parts) o qs)

-- the rows at all places in order are the rows in order of key
pub shown-ordered : (shape : Shape) (parts : List PartView) → map (row_in parts) (in_order (place_cmp shape.key parts) (all_places 0 parts)) ≡ in_key_order shape (rows_joined parts)
unfolding in_key_order
shown-ordered shape parts =
    map-ordered (row_in parts) (key_cmp shape.key) (all_places 0 parts) ∙ ap (in_order (key_cmp shape.key)) (shown-all [] parts parts 0 refl refl)

joined-fit : (shape : Shape) (parts : List PartView) → AreDataOf shape parts → All (λ row. fits shape.columns row ≡ true) (rows_joined parts)
joined-fit shape [] h = λ k d l. absurd (omega (arith, l))
joined-fit shape (x ∷ parts) h = All-append (λ row. fits shape.columns row ≡ true) x.rows (rows_joined parts) h.0.fit (joined-fit shape parts h.1)

pub merged-fit : (shape : Shape) (parts : List PartView) → AreDataOf shape parts → All (λ row. fits shape.columns row ≡ true) (in_key_order shape (rows_joined parts))
unfolding in_key_order
merged-fit shape parts h = All-ordered (key_cmp shape.key) (λ row. fits shape.columns row ≡ true) (rows_joined parts) (joined-fit shape parts h)

pub merged-sorted : (shape : Shape) (rows : List (List Value)) → IsSorted (key_cmp shape.key) (in_key_order shape rows)
unfolding in_key_order
merged-sorted shape rows = ordered-sorted (key_cmp shape.key) (key_cmp_total shape.key) rows

-- a part of several of a schema is of the schema
pub data-at : (shape : Shape) (parts : List PartView) (i : ℕ) (x : PartView) → AreDataOf shape parts → slice_get parts i ≡ Some x → IsDataOf shape x
data-at shape [] i x h e = absurd (cc)
data-at shape (y ∷ parts) zero x h e = subst (IsDataOf shape) (let s : y ≡ x = cc in s) h.0
data-at shape (y ∷ parts) (suc i) x h e = data-at shape parts i x h.1 e

-- ---- parts behind pointers

pub mapped-at : {A B : Type 0} (f : A → B) (xs : List A) (i : ℕ) (x : A) → x ≡ get_or xs i x → i < length xs → slice_get (map f xs) i ≡ Some (f x)
mapped-at f [] i x e h = absurd (omega (arith, h))
mapped-at {A} {B} f (y ∷ ys) zero x e h = ap (λ (z : A). Some (f z)) (sym e)
mapped-at f (y ∷ ys) (suc i) x e h = mapped-at f ys i x e (omega (arith, h))

-- parts of one schema have the same types
pub kinds-same : (shape : Shape) (x y : PartView) → IsDataOf shape x → IsDataOf shape y → y.kinds ≡ x.kinds
kinds-same shape x y a b = ap (λ (p : PartView). p.kinds) b.is ∙ sym (ap (λ (p : PartView). p.kinds) a.is)

-- the order of the rows at two places
pub place-order : (shape : Shape) (parts : List PartView) (a b : Place) (x y : PartView) → AreDataOf shape parts → slice_get parts a.part ≡ Some x → slice_get parts b.part ≡ Some y → key_cmp x.key (get_or x.rows a.row []) (get_or y.rows b.row []) ≡ place_cmp shape.key parts a b
place-order shape parts a b x y h e f =
    ap (λ (k : List ℕ). key_cmp k (get_or x.rows a.row []) (get_or y.rows b.row [])) (ap (λ (p : PartView). p.key) (IsDataOf.is (data-at shape parts a.part x h e)))
    ∙ (ap (λ (o : Option PartView). key_cmp shape.key (get_or (rows_at o) a.row []) (get_or y.rows b.row [])) (sym e)
    ∙ ap (λ (o : Option PartView). key_cmp shape.key (row_in parts a) (get_or (rows_at o) b.row [])) (sym f))

pub itself-at : {A : Type 0} (xs : List A) (i : ℕ) (d : A) → i < length xs → get_or xs i d ≡ get_or xs i (get_or xs i d)
itself-at [] i d h = absurd (omega (arith, h))
itself-at (x ∷ xs) zero d h = refl
itself-at (x ∷ xs) (suc i) d h = itself-at xs i d (omega (arith, h))

pub place-total : (shape : Shape) (parts : List PartView) → IsTotalOrder (place_cmp shape.key parts)
place-total shape parts = pulled-total (row_in parts) (key_cmp shape.key) (key_cmp_total shape.key)

-- the first part of so many, alone
pub one-place : (first : ℕ) (parts : List PartView) (x : PartView) → slice_get parts first ≡ Some x → all_places first (take 1 (drop first parts)) ≡ places_from first 0 (length x.rows)
one-place first parts x e = ap (all_places first) (alone parts first e) ∙ append-nil (places_from first 0 (length x.rows))
  where
    alone : (parts : List PartView) (i : ℕ) → slice_get parts i ≡ Some x → take 1 (drop i parts) ≡ x ∷ []
    alone [] i e = absurd (cc)
    alone (y ∷ ys) zero e = ap (λ (z : PartView). z ∷ []) (let s : y ≡ x = cc in s)
    alone (y ∷ ys) (suc i) e = alone ys i e

pub AreOf-taken : (first count n : ℕ) (parts : List PartView) → first + count ≤ n → n ≡ length parts → AreOf n (all_places first (take count (drop first parts)))
AreOf-taken first count n parts h e =
    let l : length (take count (drop first parts)) ≡ count = length-taken count first parts (omega (arith, h, e)) in
    AreOf-more (first + length (take count (drop first parts))) n (all_places first (take count (drop first parts))) (omega (arith, l, h)) (AreOf-all first (take count (drop first parts)))
  where
    length-taken : (count first : ℕ) (parts : List PartView) → first + count ≤ length parts → length (take count (drop first parts)) ≡ count
    length-taken count zero parts h = front count parts (omega (arith, h))
      where
        front : (count : ℕ) (parts : List PartView) → count ≤ length parts → length (take count parts) ≡ count
        front zero parts h = refl
        front (suc count) [] h = absurd (omega (arith, h))
        front (suc count) (y ∷ ys) h = let r = front count ys (omega (arith, h)) in omega (arith, r)
    length-taken count (suc first) [] h = let z : count ≡ 0 = omega (arith, h) in rw z refl
    length-taken count (suc first) (y ∷ ys) h = length-taken count first ys (omega (arith, h))

-- the places of so many parts are those of the first half and of the others
pub half-places : (first half count : ℕ) (parts : List PartView) → half ≤ count → first + count ≤ length parts → all_places first (take count (drop first parts)) ≡ all_places first (take half (drop first parts)) ++ all_places (first + half) (take (count - half) (drop (first + half) parts))
half-places first half count parts h l =
    all-split first half count (drop first parts) h (length-drop-le first parts (omega (arith, h, l)))
    ∙ ap (λ (ps : List PartView). all_places first (take half (drop first parts)) ++ all_places (first + half) (take (count - half) ps)) (drop-twice half first parts)
  where
    length-drop-le : (i : ℕ) (ps : List PartView) → i + half ≤ length ps → half ≤ length (drop i ps)
    length-drop-le zero ps h = omega (arith, h)
    length-drop-le (suc i) [] h = absurd (omega (arith, h))
    length-drop-le (suc i) (p ∷ ps) h = length-drop-le i ps (omega (arith, h))

    drop-twice : (j i : ℕ) (ps : List PartView) → drop j (drop i ps) ≡ drop (i + j) ps
    drop-twice j zero ps = let e : 0 + j ≡ j = omega arith in rw e refl
    drop-twice zero (suc i) [] = let e : suc i + 0 ≡ suc i = omega arith in rw e refl
    drop-twice (suc j) (suc i) [] = let e : suc i + suc j ≡ suc (i + suc j) = omega arith in rw e refl
    drop-twice j (suc i) (p ∷ ps) = let e : suc i + j ≡ suc (i + j) = omega arith in rw e (drop-twice j i ps)

-- ---- the recursion over halves

pub still-ordered : (shape : Shape) (parts : List PartView) (ps qs rs : List Place) → qs ≡ rs → rs ≡ in_order (place_cmp shape.key parts) ps → in_order (place_cmp shape.key parts) qs ≡ qs
still-ordered shape parts ps qs rs d e = ap (in_order (place_cmp shape.key parts)) (d ∙ e) ∙ (order-twice (place_cmp shape.key parts) (place-total shape parts) ps ∙ sym (d ∙ e))

pub two-made : (shape : Shape) (parts : List PartView) (first half count : ℕ) (left right l r made : List Place) → half ≤ count → first + count ≤ length parts → l ≡ left → r ≡ right → left ≡ in_order (place_cmp shape.key parts) (all_places first (take half (drop first parts))) → right ≡ in_order (place_cmp shape.key parts) (all_places (first + half) (take (count - half) (drop (first + half) parts))) → made ≡ in_order (place_cmp shape.key parts) (l ++ r) → made ≡ in_order (place_cmp shape.key parts) (all_places first (take count (drop first parts)))
two-made shape parts first half count left right l r made h i d d' e f g =
    g
    ∙ (ap (λ ps. in_order (place_cmp shape.key parts) (ps ++ r)) (d ∙ e)
    ∙ (ap (λ ps. in_order (place_cmp shape.key parts) (in_order (place_cmp shape.key parts) (all_places first (take half (drop first parts))) ++ ps)) (d' ∙ f)
    ∙ (halves shape parts (all_places first (take half (drop first parts))) (all_places (first + half) (take (count - half) (drop (first + half) parts)))
    ∙ ap (in_order (place_cmp shape.key parts)) (sym (half-places first half count parts h i)))))

pub one-made : (shape : Shape) (parts : List PartView) (first count n : ℕ) (x : PartView) (made : List Place) → AreDataOf shape parts → count ≡ 1 → slice_get parts first ≡ Some x → n ≡ length x.rows → made ≡ places_from first 0 n → made ≡ in_order (place_cmp shape.key parts) (all_places first (take count (drop first parts)))
one-made shape parts first count n x made h i e f g =
    g
    ∙ (ap (places_from first 0) f
    ∙ (sym (one-ordered shape parts first x e (IsDataOf.ordered (data-at shape parts first x h e)))
    ∙ (ap (in_order (place_cmp shape.key parts)) (sym (one-place first parts x e))
    ∙ ap (λ k. in_order (place_cmp shape.key parts) (all_places first (take k (drop first parts)))) (sym i))))

pub there-made : (shape : Shape) (parts : List PartView) (first count n : ℕ) (made : List Place) → first + count ≤ n → n ≡ length parts → made ≡ in_order (place_cmp shape.key parts) (all_places first (take count (drop first parts))) → AreOf n made
there-made shape parts first count n made h e f =
    subst (AreOf n) (sym f) (AreOf-ordered n (place_cmp shape.key parts) (all_places first (take count (drop first parts))) (AreOf-taken first count n parts h e))

pub half-below : (count half : ℕ) → half ≡ count / 2 → half ≤ count
half-below count half e = omega (arith, e)

-- ---- the merged rows

take-whole : {A : Type 0} (xs : List A) (n : ℕ) → n ≡ length xs → take n xs ≡ xs
take-whole [] zero h = refl
take-whole [] (suc n) h = refl
take-whole (x ∷ xs) zero h = absurd (omega (arith, h))
take-whole {A} (x ∷ xs) (suc n) h = ap (λ (l : List A). x ∷ l) (take-whole xs n (omega (arith, h)))

pub merged-rows : (shape : Shape) (parts : List PartView) (n : ℕ) (places given : List Place) → n ≡ length parts → places ≡ in_order (place_cmp shape.key parts) (all_places 0 (take n (drop 0 parts))) → given ≡ places
    → map (row_in parts) given ≡ in_key_order shape (rows_joined parts)
merged-rows shape parts n places given h e f =
    ap (map (row_in parts)) (f ∙ e)
    ∙ (ap (λ (ps : List PartView). map (row_in parts) (in_order (place_cmp shape.key parts) (all_places 0 ps))) (take-whole parts n h)
    ∙ shown-ordered shape parts)

-- ---- tests

pub not-true : (b : Bool) → IsTrue (not b) → b ≡ false
not-true true h = absurd (cc)
not-true false h = refl
