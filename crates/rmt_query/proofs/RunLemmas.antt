-- A run of rows that tie is a group.
use Rattle.std.proofs.Common.{◌≡◌, ℕ, zero, suc, ◌<◌, ◌≤◌, false, List, [], ◌∷◌, ◌++◌, map, length, take, drop, get_or, refl, sym, ap, ◌∙◌, arith}
use Rattle.std.proofs.lemmas.List.{take-append-drop}
use Rattle.std.specs.List.{AllWithin}
use Rattle.std.specs.declared.option.Option.{Option}
use Rattle.std.specs.declared.option.Option.TheVariants.{Some, None}
use Rattle.std.specs.declared.cmp.Ordering.{Ordering}
use Rattle.std.specs.declared.cmp.Ordering.TheVariants.{Less, Equal, Greater}
use Rattle.std.specs.Ordering.{is_gt, ordering_then}
use Rattle.std.specs.Cmp.{IsTotalOrder}
use Rattle.std.specs.Cmp.Lexicographic.{slice_cmp}
use Rattle.std.proofs.lemmas.Cmp.{lists_total, tied_itself, alike_right}
use Rattle.rmt_values.specs.declared.value.Value.{Value}
use Rattle.rmt_values.specs.declared.cell.Cell.{Cell}
use Rattle.rmt_values.specs.declared.checked_item.CheckedItem.{CheckedItem}
use Rattle.rmt_values.specs.Rows.{cell_cmp, key_of, key_cmp}
use Rattle.rmt_values.specs.Order.{folded}
use Rattle.rmt_query.proofs.Bags.{Commutes}
use Rattle.rmt_values.proofs.Sorting.{Low, Up}
use Rattle.rmt_values.proofs.Totals.{cell_cmp_total, key_cmp_total, value_cmp_exact}
use Rattle.rmt_query.specs.Groups.{enter, placed}
use Rattle.rmt_query.specs.Answers.{add_row, groups_of}
use Rattle.rmt_query.specs.OverRows.{over}
use Rattle.rmt_query.proofs.Grouping.{Under, Under-folded, by_key_total, put-commutes}
use Rattle.rmt_query.proofs.Combining.{add_row-commutes}
use Rattle.rmt_query.proofs.Over.{folded-over}

abbrev pub Key : Type 0
Key = List (Option Value)

abbrev pub by : Key → Key → Ordering
by a b = slice_cmp cell_cmp a b

by_total : IsTotalOrder by
by_total = lists_total cell_cmp_total

cell_exact : (a b : Option Value) → cell_cmp a b ≡ Equal → a ≡ b
cell_exact None None h = refl
cell_exact None (Some b) h = absurd (cc)
cell_exact (Some a) None h = absurd (cc)
cell_exact (Some a) (Some b) h = ap (λ (v : Value). Some v) (value_cmp_exact a b h)

by_exact : (a b : Key) → by a b ≡ Equal → a ≡ b
by_exact [] [] h = refl
by_exact [] (y ∷ ys) h = absurd (cc)
by_exact (x ∷ xs) [] h = absurd (cc)
by_exact (x ∷ xs) (y ∷ ys) h =
    let p = both (cell_cmp x y) (by xs ys) h in
    ap (λ (c : Option Value). c ∷ xs) (cell_exact x y p.0) ∙ ap (λ (l : Key). y ∷ l) (by_exact xs ys p.1)
  where
    both : (o r : Ordering) → ordering_then o r ≡ Equal → (o ≡ Equal) × (r ≡ Equal)
    both Less r h = absurd (cc)
    both Equal r h = (refl, h)
    both Greater r h = absurd (cc)

pub folded-append : {X S : Type 0} (step : X → S → S) (start : S) (xs ys : List X) → folded step start (xs ++ ys) ≡ folded step (folded step start ys) xs
folded-append step start [] ys = refl
folded-append step start (x ∷ xs) ys = ap (step x) (folded-append step start xs ys)

module _ (items : List CheckedItem) (group : List ℕ) where
  abbrev pub Groups : Type 0
  Groups = List (Key × List Cell)

  abbrev pub put : List Value → Groups → Groups
  put = enter by (key_of group) [] (add_row items)

  pub put-may-change : Commutes put
  put-may-change = put-commutes by by_total by_exact (key_of group) [] (add_row items) (add_row-commutes items)

  -- the first of the groups comes after the key
  abbrev ComesAfter : Key → Groups → Type 0
  ComesAfter k [] = Unit {0}
  ComesAfter k (g ∷ gs) = by k g.0 ≡ Less

  -- the rows have this key
  abbrev AllTie : Key → List (List Value) → Type 0
  AllTie k [] = Unit {0}
  AllTie k (y ∷ ys) = (by k (key_of group y) ≡ Equal) × AllTie k ys

  put-before : (k : Key) (x : List Value) (gs : Groups) → by k (key_of group x) ≡ Equal → ComesAfter k gs → put x gs ≡ (key_of group x, add_row items x []) ∷ gs
  put-before k x [] t b = refl
  put-before k x (g ∷ gs) t b =
      ap (λ (r : Ordering). placed by (key_of group) [] (add_row items) r x g gs (put x gs)) (sym (by_total.congr k (key_of group x) g.0 t) ∙ b)

  put-tied : (k : Key) (x : List Value) (g : Key × List Cell) (gs : Groups) → by k (key_of group x) ≡ Equal → by k g.0 ≡ Equal → put x (g ∷ gs) ≡ (g.0, add_row items x g.1) ∷ gs
  put-tied k x g gs t e =
      ap (λ (r : Ordering). placed by (key_of group) [] (add_row items) r x g gs (put x gs)) (sym (by_total.congr k (key_of group x) g.0 t) ∙ e)

  -- rows of one key become one group
  run-folds : (k : Key) (x : List Value) (ys : List (List Value)) (gs : Groups) → AllTie k (x ∷ ys) → ComesAfter k gs
      → (j : Key) × (by k j ≡ Equal) × (folded put gs (x ∷ ys) ≡ (j, folded (add_row items) [] (x ∷ ys)) ∷ gs)
  run-folds k x [] gs t b = (key_of group x, t.0, put-before k x gs t.0 b)
  run-folds k x (y ∷ ys) gs t b =
      let r = run-folds k y ys gs t.1 b in
      (r.0, r.1, ap (put x) r.2 ∙ put-tied k x (r.0, folded (add_row items) [] (y ∷ ys)) gs t.0 r.1)

  less-le : (a b c : Key) → by a b ≡ Less → is_gt (by b c) ≡ false → by a c ≡ Less
  less-le a b c p q = go (by b c) refl q where
    go : (o : Ordering) → by b c ≡ o → is_gt o ≡ false → by a c ≡ Less
    go Less e h = by_total.trans a b c p e
    go Equal e h = sym (alike_right by_total b c a e) ∙ p
    go Greater e h = absurd (cc)

  low-turn : (x : List Value) (ys : List (List Value)) → Low (key_cmp group) (key_cmp_total group) x ys → Low (λ (a : List Value) (b : List Value). by (key_of group a) (key_of group b)) (by_key_total by by_total by_exact (key_of group) [] (add_row items) (add_row-commutes items)) x ys
  low-turn x [] h = tt
  low-turn x (y ∷ ys) h = (h.0, low-turn x ys h.1)

  -- the groups of what comes after a key come after it
  comes-after : (k : Key) (rest : List (List Value)) → Up (key_cmp group) (key_cmp_total group) rest → (0 < length rest → by k (key_of group (get_or rest 0 [])) ≡ Less) → ComesAfter k (folded put [] rest)
  comes-after k [] u h = tt
  comes-after k (z ∷ zs) u h = go (folded put [] (z ∷ zs)) (Under-folded by by_total by_exact (key_of group) [] (add_row items) (add_row-commutes items) z (z ∷ zs) (ap is_gt (tied_itself by_total (key_of group z)), low-turn z zs u.0)) where
    go : (gs : Groups) → Under by by_total by_exact (key_of group) [] (add_row items) (add_row-commutes items) (key_of group z) gs → ComesAfter k gs
    go [] w = tt
    go (g ∷ gs) w = less-le k (key_of group z) g.0 (h (omega arith)) w.0

  tie-take : (k : Key) (rows : List (List Value)) (n : ℕ) → AllWithin (λ (row : List Value). by k (key_of group row) ≡ Equal) rows 0 n → n ≤ length rows → AllTie k (take n rows)
  tie-take k rows zero h p = tt
  tie-take k [] (suc n) h p = absurd (omega (arith, p))
  tie-take k (r ∷ rs) (suc n) h p = (h zero [] (omega arith) (omega arith), tie-take k rs n (λ j d a b. h (suc j) d (omega arith) (omega (arith, b))) (omega (arith, p)))

  pub up-drop : (n : ℕ) (rows : List (List Value)) → Up (key_cmp group) (key_cmp_total group) rows → Up (key_cmp group) (key_cmp_total group) (drop n rows)
  up-drop zero rows u = u
  up-drop (suc n) [] u = tt
  up-drop (suc n) (r ∷ rs) u = up-drop n rs u.1

  first-drop : (rows : List (List Value)) (n : ℕ) → get_or (drop n rows) 0 [] ≡ get_or rows n []
  first-drop rows zero = refl
  first-drop [] (suc n) = refl
  first-drop (r ∷ rs) (suc n) = first-drop rs n

  length-dropped : (rows : List (List Value)) (n : ℕ) → 0 < length (drop n rows) → n < length rows
  length-dropped rows zero h = h
  length-dropped [] (suc n) h = absurd (omega (arith, h))
  length-dropped (r ∷ rs) (suc n) h = let i = length-dropped rs n h in omega (arith, i)

  low-at : (x : List Value) (ys : List (List Value)) (j : ℕ) → Low (key_cmp group) (key_cmp_total group) x ys → j < length ys → is_gt (key_cmp group x (get_or ys j [])) ≡ false
  low-at x [] j h p = absurd (omega (arith, p))
  low-at x (y ∷ ys) zero h p = h.0
  low-at x (y ∷ ys) (suc j) h p = low-at x ys j h.1 (omega (arith, p))

  le-not-eq : (o : Ordering) → is_gt o ≡ false → (o ≡ Equal → ⊥) → o ≡ Less
  le-not-eq Less h n = refl
  le-not-eq Equal h n = absurd (n refl)
  le-not-eq Greater h n = absurd (cc)

  -- the rows up to n have the first one's key, and the one after them has another
  pub record IsRun (rows : List (List Value)) (n : ℕ) : Type 0 where
    pub some : 0 < n
    pub within : n ≤ length rows
    pub together : AllWithin (λ (row : List Value). key_cmp group (get_or rows 0 []) row ≡ Equal) rows 0 n
    pub apart : n < length rows → key_cmp group (get_or rows 0 []) (get_or rows n []) ≡ Equal → ⊥

  abbrev pub tuples : List (List Value) → List (List Cell)
  tuples rows = map (λ (g : Key × List Cell). g.1) (groups_of items group rows)

  pub one-run : (rows : List (List Value)) (n : ℕ) → Up (key_cmp group) (key_cmp_total group) rows → IsRun rows n
      → tuples rows ≡ map (λ i. over i (take n rows)) items ∷ tuples (drop n rows)
  one-run [] n u r = absurd (let s = r.some in let w = r.within in omega (arith, s, w))
  one-run (x ∷ xs) zero u r = absurd (let s = r.some in omega (arith, s))
  one-run (x ∷ xs) (suc n) u r =
      ap (λ (l : List (List Value)). tuples l) (sym (take-append-drop (suc n) (x ∷ xs)))
      ∙ (ap (λ (gs : Groups). map (λ (g : Key × List Cell). g.1) gs) (folded-append put [] (x ∷ take n xs) rest ∙ group-is.2)
      ∙ ap (λ (t : List Cell). t ∷ tuples rest) (folded-over items x (take n xs)))
    where
      rest : List (List Value)
      rest = drop n xs

      k : Key
      k = key_of group x

      less : 0 < length rest → by k (key_of group (get_or rest 0 [])) ≡ Less
      less p =
          let q = length-dropped xs n p in
          ap (λ (row : List Value). by k (key_of group row)) (first-drop xs n)
          ∙ le-not-eq (by k (key_of group (get_or xs n []))) (low-at x xs n u.0 q) (λ e. r.apart (omega (arith, q)) e)

      group-is : (j : Key) × (by k j ≡ Equal) × (folded put (folded put [] rest) (x ∷ take n xs) ≡ (j, folded (add_row items) [] (x ∷ take n xs)) ∷ folded put [] rest)
      group-is = run-folds k x (take n xs) (folded put [] rest) (tie-take k (x ∷ xs) (suc n) r.together r.within) (comes-after k rest (up-drop n xs u.1) less)
