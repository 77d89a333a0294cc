-- Columns that are named once order and group rows as those that are named any number of times.
use Rattle.std.proofs.Common.{◌≡◌, ◌⊎◌, ℕ, zero, suc, inl, inr, Bool, true, false, List, [], ◌∷◌, ◌++◌, map, take, replicate, refl, sym, ap, subst, ◌∙◌}
use Rattle.std.specs.Prelude.{slice_get}
use Rattle.std.specs.declared.option.Option.TheVariants.{Some}
use Rattle.std.specs.declared.cmp.Ordering.{Ordering}
use Rattle.std.specs.declared.cmp.Ordering.TheVariants.{Less, Equal, Greater}
use Rattle.std.specs.Ordering.{ordering_then}
use Rattle.rmt_values.specs.declared.value.Value.{Value}
use Rattle.rmt_values.specs.declared.cell.Cell.{Cell}
use Rattle.rmt_values.specs.declared.checked_item.CheckedItem.{CheckedItem}
use Rattle.rmt_values.specs.Rows.{cell_cmp, key_of, key_cmp}
use Rattle.rmt_values.specs.Order.{folded}
use Rattle.rmt_model.specs.Words.{Has}
use Rattle.rmt_query.specs.Groups.{enter, placed}
use Rattle.rmt_query.specs.Answers.{add_row}
use Rattle.rmt_query.specs.Distinct.{OrderAlike}
use Rattle.rmt_query.proofs.RunLemmas.{Key, by, tuples}

-- each column that is marked is among these
abbrev pub AreMarked : List Bool → List ℕ → Type 0
AreMarked seen columns = (c : ℕ) → slice_get seen c ≡ Some true → Has columns c

-- the order of two rows by one column
abbrev column_cmp : ℕ → List Value → List Value → Ordering
column_cmp c a b = cell_cmp (slice_get a c) (slice_get b c)

pub then-equal : (o : Ordering) → ordering_then o Equal ≡ o
then-equal Less = refl
then-equal Equal = refl
then-equal Greater = refl

pub then-both : (o r s : Ordering) → ordering_then o (ordering_then r s) ≡ ordering_then (ordering_then o r) s
then-both Less r s = refl
then-both Equal r s = refl
then-both Greater r s = refl

-- one more column is asked last
key-more : (columns : List ℕ) (c : ℕ) (a b : List Value) → key_cmp (columns ++ c ∷ []) a b ≡ ordering_then (key_cmp columns a b) (column_cmp c a b)
key-more [] c a b = then-equal (column_cmp c a b)
key-more (d ∷ columns) c a b = ap (ordering_then (column_cmp d a b)) (key-more columns c a b) ∙ then-both (column_cmp d a b) (key_cmp columns a b) (column_cmp c a b)

-- rows that tie by columns tie by each of them
tie-each : (columns : List ℕ) (c : ℕ) (a b : List Value) → Has columns c → key_cmp columns a b ≡ Equal → column_cmp c a b ≡ Equal
tie-each [] c a b h e = absurd h
tie-each (d ∷ columns) c a b h e = go (column_cmp d a b) refl h e (tie-each columns c a b)
  where
    go : (o : Ordering) → column_cmp d a b ≡ o → Has (d ∷ columns) c → ordering_then o (key_cmp columns a b) ≡ Equal → (Has columns c → key_cmp columns a b ≡ Equal → column_cmp c a b ≡ Equal) → column_cmp c a b ≡ Equal
    go Less q k f r = absurd (cc)
    go Equal q (inl i) f r = ap (λ j. column_cmp j a b) (sym i) ∙ q
    go Equal q (inr i) f r = r i f
    go Greater q k f r = absurd (cc)

-- a column that is new is asked last by both
pub alike-more : (columns others : List ℕ) (c : ℕ) → OrderAlike columns others → OrderAlike (columns ++ c ∷ []) (others ++ c ∷ [])
alike-more columns others c same a b = key-more columns c a b ∙ ap (λ (o : Ordering). ordering_then o (column_cmp c a b)) (same a b) ∙ sym (key-more others c a b)

-- one that was asked needn't be asked again
pub alike-again : (columns others : List ℕ) (c : ℕ) → OrderAlike columns others → Has columns c → OrderAlike columns (others ++ c ∷ [])
alike-again columns others c same h a b = go (key_cmp columns a b) refl ∙ ap (λ (o : Ordering). ordering_then o (column_cmp c a b)) (same a b) ∙ sym (key-more others c a b)
  where
    go : (o : Ordering) → key_cmp columns a b ≡ o → o ≡ ordering_then o (column_cmp c a b)
    go Less e = refl
    go Equal e = sym (tie-each columns c a b h e)
    go Greater e = refl

pub has-more : {X : Type 0} (columns : List X) (d c : X) → Has columns c → Has (columns ++ d ∷ []) c
has-more [] d c h = absurd h
has-more (x ∷ columns) d c (inl e) = inl e
has-more (x ∷ columns) d c (inr h) = inr (has-more columns d c h)

pub has-last : {X : Type 0} (columns : List X) (d c : X) → d ≡ c → Has (columns ++ d ∷ []) c
has-last [] d c e = inl e
has-last (x ∷ columns) d c e = inr (has-last columns d c e)

-- a column is marked, and is among them
pub marked-more : (seen after : List Bool) (columns : List ℕ) (d : ℕ) → AreMarked seen columns → ((c : ℕ) → slice_get after c ≡ Some true → (c ≡ d) ⊎ (slice_get seen c ≡ Some true)) → AreMarked after (columns ++ d ∷ [])
marked-more seen after columns d m f c e = go (f c e)
  where
    go : (c ≡ d) ⊎ (slice_get seen c ≡ Some true) → Has (columns ++ d ∷ []) c
    go (inl q) = has-last columns d c (sym q)
    go (inr q) = has-more columns d c (m c q)

-- no column is marked at first
pub none-marked : (n : ℕ) (columns : List ℕ) → AreMarked (replicate n false) columns
none-marked zero columns c e = absurd (cc)
none-marked (suc n) columns zero e = absurd (cc)
none-marked (suc n) columns (suc c) e = absurd (none-marked n [] c e)

take-none : (columns : List ℕ) → take 0 columns ≡ []
take-none [] = refl
take-none (x ∷ columns) = refl

-- no columns order rows as the first 0
pub alike-none : (columns others : List ℕ) → columns ≡ [] → OrderAlike columns (take 0 others)
alike-none columns others e a b = ap (λ (l : List ℕ). key_cmp l a b) (e ∙ sym (take-none others))

-- ---- groups

module _ (items : List CheckedItem) (columns others : List ℕ) (same : OrderAlike columns others) where
  -- the group of a row by either, with one tuple
  record IsOneGroup (g h : Key × List Cell) : Type 0 where
    pub row : List Value
    pub left : g.0 ≡ key_of columns row
    pub right : h.0 ≡ key_of others row
    pub tuple : g.1 ≡ h.1

  abbrev AreGroups : List (Key × List Cell) → List (Key × List Cell) → Type 0
  AreGroups [] [] = Unit {0}
  AreGroups [] (h ∷ hs) = ⊥
  AreGroups (g ∷ gs) [] = ⊥
  AreGroups (g ∷ gs) (h ∷ hs) = IsOneGroup g h × AreGroups gs hs

  entered : (x : List Value) (gs hs : List (Key × List Cell)) → AreGroups gs hs → AreGroups (enter by (key_of columns) [] (add_row items) x gs) (enter by (key_of others) [] (add_row items) x hs)
  entered x [] [] e = (record { row = x; left = refl; right = refl; tuple = refl }, tt)
  entered x [] (h ∷ hs) e = absurd e
  entered x (g ∷ gs) [] e = absurd e
  entered x (g ∷ gs) (h ∷ hs) e = subst (λ (o : Ordering). AreGroups (by-columns (by (key_of columns x) g.0)) (by-others o)) order (go (by (key_of columns x) g.0) (entered x gs hs e.1))
    where
      by-columns : Ordering → List (Key × List Cell)
      by-columns o = placed by (key_of columns) [] (add_row items) o x g gs (enter by (key_of columns) [] (add_row items) x gs)

      by-others : Ordering → List (Key × List Cell)
      by-others o = placed by (key_of others) [] (add_row items) o x h hs (enter by (key_of others) [] (add_row items) x hs)

      order : by (key_of columns x) g.0 ≡ by (key_of others x) h.0
      order = ap (by (key_of columns x)) e.0.left ∙ same x e.0.row ∙ ap (by (key_of others x)) (sym e.0.right)

      go : (o : Ordering) → AreGroups (enter by (key_of columns) [] (add_row items) x gs) (enter by (key_of others) [] (add_row items) x hs) → AreGroups (by-columns o) (by-others o)
      go Less deeper = (record { row = x; left = refl; right = refl; tuple = refl }, e)
      go Equal deeper = (record { row = e.0.row; left = e.0.left; right = e.0.right; tuple = ap (add_row items x) e.0.tuple }, e.1)
      go Greater deeper = (e.0, deeper)

  all-entered : (rows : List (List Value)) → AreGroups (folded (enter by (key_of columns) [] (add_row items)) [] rows) (folded (enter by (key_of others) [] (add_row items)) [] rows)
  all-entered [] = tt
  all-entered (x ∷ rows) = entered x (folded (enter by (key_of columns) [] (add_row items)) [] rows) (folded (enter by (key_of others) [] (add_row items)) [] rows) (all-entered rows)

  one-tuples : (gs hs : List (Key × List Cell)) → AreGroups gs hs → map (λ (g : Key × List Cell). g.1) gs ≡ map (λ (g : Key × List Cell). g.1) hs
  one-tuples [] [] e = refl
  one-tuples [] (h ∷ hs) e = absurd e
  one-tuples (g ∷ gs) [] e = absurd e
  one-tuples (g ∷ gs) (h ∷ hs) e = ap (λ (t : List Cell). t ∷ map (λ (g : Key × List Cell). g.1) gs) e.0.tuple ∙ ap (λ (ts : List (List Cell)). h.1 ∷ ts) (one-tuples gs hs e.1)

  -- the groups by either have the same tuples
  pub tuples-alike : (rows : List (List Value)) → tuples items columns rows ≡ tuples items others rows
  tuples-alike rows = one-tuples (folded (enter by (key_of columns) [] (add_row items)) [] rows) (folded (enter by (key_of others) [] (add_row items)) [] rows) (all-entered rows)
