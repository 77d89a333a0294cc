-- Passes over rows: those that a filter keeps, and what a command leaves of those so far.
use Rattle.std.proofs.Common.{◌≡◌, ℕ, zero, suc, ◌+◌, ◌<◌, Bool, true, false, cond, List, [], ◌∷◌, ◌++◌, map, length, take, slice_get, get_or, refl, sym, ap, ◌∙◌, arith}
use Rattle.std.specs.Prelude.{◌||◌}
use Rattle.std.proofs.lemmas.List.{append-nil, take_more}
use Rattle.std.proofs.lemmas.List.Elements.{filter_map-append}
use Rattle.std.specs.List.{filter_map, list_any, cons_option}
use Rattle.std.specs.Option.{option_to_list}
use Rattle.std.specs.declared.option.Option.{Option}
use Rattle.std.specs.declared.option.Option.TheVariants.{Some, None}
use Rattle.rmt_values.specs.declared.value.Value.{Value}
use Rattle.rmt_values.specs.declared.kind.Kind.{Kind}
use Rattle.rmt_values.specs.declared.checked.Checked.{Checked}
use Rattle.rmt_values.specs.declared.checked_right.CheckedRight.{CheckedRight}
use Rattle.rmt_values.specs.declared.checked_mutation.CheckedMutation.TheVariants.{Update, Delete}
use Rattle.rmt_values.specs.Rows.{AllBelow, kind_of}
use Rattle.rmt_values.specs.Filters.{holds}
use Rattle.rmt_values.specs.Commands.{applied, updated_from}
use Rattle.rmt_columns.specs.Places.{at_places}
use Rattle.rmt_columns.specs.RowsByColumn.{BegunView}
use Rattle.rmt_expr.specs.Updates.{row_with}
use Rattle.rmt_expr.proofs.UpdateLemmas.{updated-none}

-- ---- what a command leaves of a row

deleted : (filter : Checked) (row : List Value) (b : Bool) → holds filter row ≡ b → applied (Delete filter) row ≡ cond b None (Some row)
unfolding applied
deleted filter row b e = ap (λ (x : Bool). cond x None (Some row)) e

updated : (sets : List (ℕ × CheckedRight)) (filter : Checked) (row : List Value) (b : Bool) → holds filter row ≡ b
    → applied (Update sets filter) row ≡ cond b (Some (updated_from 0 sets row row)) (Some row)
unfolding applied
updated sets filter row b e = ap (λ (x : Bool). cond x (Some (updated_from 0 sets row row)) (Some row)) e

neither : (a b : Bool) → (a || b) ≡ false → (a ≡ false) × (b ≡ false)
neither true b h = absurd (cc)
neither false b h = (refl, h)

-- a DELETE whose filter keeps no row deletes none
pub none-deleted : (filter : Checked) (rows : List (List Value)) → list_any (holds filter) rows ≡ false → filter_map (applied (Delete filter)) rows ≡ rows
none-deleted filter [] h = refl
none-deleted filter (r ∷ rs) h =
    let b = neither (holds filter r) (list_any (holds filter) rs) h in
    ap (λ (o : Option (List Value)). cons_option o (filter_map (applied (Delete filter)) rs)) (deleted filter r false b.0)
    ∙ ap (λ (l : List (List Value)). r ∷ l) (none-deleted filter rs b.1)

-- an UPDATE whose filter keeps no row changes none
pub none-updated : (sets : List (ℕ × CheckedRight)) (filter : Checked) (rows : List (List Value)) → list_any (holds filter) rows ≡ false → filter_map (applied (Update sets filter)) rows ≡ rows
none-updated sets filter [] h = refl
none-updated sets filter (r ∷ rs) h =
    let b = neither (holds filter r) (list_any (holds filter) rs) h in
    ap (λ (o : Option (List Value)). cons_option o (filter_map (applied (Update sets filter)) rs)) (updated sets filter r false b.0)
    ∙ ap (λ (l : List (List Value)). r ∷ l) (none-updated sets filter rs b.1)

-- ---- one more row

one-more : {X Y : Type 0} (h : X → Option Y) (xs : List X) (i : ℕ) (d : X) → i < length xs → filter_map h (take i xs) ++ cons_option (h (get_or xs i d)) [] ≡ filter_map h (take (i + 1) xs)
one-more h xs i d p = sym (ap (filter_map h) (take_more xs i d p) ∙ filter_map-append h (take i xs) (get_or xs i d ∷ []))

-- one more row is as it is after an UPDATE
pub one-updated : (sets due : List (ℕ × CheckedRight)) (filter : Checked) (rows : List (List Value)) (i : ℕ) → i < length rows → due ≡ cond (holds filter (get_or rows i [])) sets []
    → filter_map (applied (Update sets filter)) (take i rows) ++ row_with due rows i ∷ [] ≡ filter_map (applied (Update sets filter)) (take (i + 1) rows)
one-updated sets due filter rows i p e =
    ap (λ (o : Option (List Value)). filter_map (applied (Update sets filter)) (take i rows) ++ cons_option o []) (go (holds filter row) refl e)
    ∙ one-more (applied (Update sets filter)) rows i [] p
  where
    row : List Value
    row = get_or rows i []

    go : (b : Bool) → holds filter row ≡ b → due ≡ cond b sets [] → Some (row_with due rows i) ≡ applied (Update sets filter) row
    go true q f = ap (λ (s : List (ℕ × CheckedRight)). Some (updated_from 0 s row row)) f ∙ sym (updated sets filter row true q)
    go false q f =
        ap (λ (s : List (ℕ × CheckedRight)). Some (updated_from 0 s row row)) f
        ∙ (ap (λ (r : List Value). Some r) (updated-none 0 row row) ∙ sym (updated sets filter row false q))

-- one more row is deleted
pub one-deleted : (filter : Checked) (rows : List (List Value)) (i : ℕ) → i < length rows → holds filter (get_or rows i []) ≡ true
    → filter_map (applied (Delete filter)) (take i rows) ≡ filter_map (applied (Delete filter)) (take (i + 1) rows)
one-deleted filter rows i p e =
    sym (append-nil (filter_map (applied (Delete filter)) (take i rows)))
    ∙ (ap (λ (o : Option (List Value)). filter_map (applied (Delete filter)) (take i rows) ++ cons_option o []) (sym (deleted filter (get_or rows i []) true e))
    ∙ one-more (applied (Delete filter)) rows i [] p)

at_places-append : {X : Type 0} (xs : List X) (is js : List ℕ) → at_places xs (is ++ js) ≡ at_places xs is ++ at_places xs js
at_places-append xs [] js = refl
at_places-append {X} xs (i ∷ is) js = ap (λ (l : List X). option_to_list (slice_get xs i) ++ l) (at_places-append xs is js) ∙ sym (onto (option_to_list (slice_get xs i)) (at_places xs is) (at_places xs js))
  where
    onto : (us vs ws : List X) → (us ++ vs) ++ ws ≡ us ++ (vs ++ ws)
    onto [] vs ws = refl
    onto (u ∷ us) vs ws = ap (λ (l : List X). u ∷ l) (onto us vs ws)

at-place : {X : Type 0} (xs : List X) (i : ℕ) (d : X) → i < length xs → at_places xs (i ∷ []) ≡ get_or xs i d ∷ []
at-place [] i d p = absurd (omega (arith, p))
at-place (x ∷ xs) zero d p = refl
at-place (x ∷ xs) (suc i) d p = at-place xs i d (omega (arith, p))

-- one more row is left
pub one-left : (filter : Checked) (rows : List (List Value)) (places : List ℕ) (i : ℕ) → i < length rows → holds filter (get_or rows i []) ≡ false
    → at_places rows places ≡ filter_map (applied (Delete filter)) (take i rows)
    → at_places rows (places ++ i ∷ []) ≡ filter_map (applied (Delete filter)) (take (i + 1) rows)
one-left filter rows places i p e h =
    at_places-append rows places (i ∷ [])
    ∙ (ap (λ (l : List (List Value)). l ++ at_places rows (i ∷ [])) h
    ∙ (ap (λ (l : List (List Value)). filter_map (applied (Delete filter)) (take i rows) ++ l) (at-place rows i [] p)
    ∙ (ap (λ (o : Option (List Value)). filter_map (applied (Delete filter)) (take i rows) ++ cons_option o []) (sym (deleted filter (get_or rows i []) false e))
    ∙ one-more (applied (Delete filter)) rows i [] p)))

-- one more place is below too
pub below-more : (n : ℕ) (places : List ℕ) (i : ℕ) → AllBelow n places → i < n → AllBelow n (places ++ i ∷ [])
below-more n [] i h p = (p, tt)
below-more n (j ∷ js) i h p = (h.0, below-more n js i h.1 p)

-- a builder that gets one more row
pub row-put : (sets due : List (ℕ × CheckedRight)) (filter : Checked) (rows : List (List Value)) (kinds : List Kind) (i : ℕ) (b new : BegunView) → i < length rows → due ≡ cond (holds filter (get_or rows i [])) sets []
    → b ≡ record { kinds = kinds; rows = filter_map (applied (Update sets filter)) (take i rows); begun = [] } → new ≡ record b { rows = b.rows ++ row_with due rows i ∷ [] }
    → new ≡ record { kinds = kinds; rows = filter_map (applied (Update sets filter)) (take (i + 1) rows); begun = [] }
row-put sets due filter rows kinds i b new p e f g =
    g
    ∙ (ap (λ (w : BegunView). record w { rows = w.rows ++ row_with due rows i ∷ [] }) f
    ∙ ap (λ (l : List (List Value)). record { kinds = kinds; rows = l; begun = [] }) (one-updated sets due filter rows i p e))

-- ---- one more value of a row

-- a value is put where it is there
pub put-next : (xs : List Value) (c : ℕ) (v : Value) → Some v ≡ slice_get xs c → take c xs ++ v ∷ [] ≡ take (c + 1) xs
put-next [] c v e = absurd (cc)
put-next (x ∷ xs) zero v e = let k : v ≡ x = cc in ap (λ (w : Value). w ∷ []) k
put-next (x ∷ xs) (suc c) v e = let n : suc c + 1 ≡ suc (c + 1) = omega arith in rw n (ap (λ (l : List Value). x ∷ l) (put-next xs c v e))

-- a builder that gets it
pub value-put : (xs : List Value) (c : ℕ) (v : Value) (start b new : BegunView) → b ≡ record start { begun = take c xs } → new ≡ record b { begun = b.begun ++ v ∷ [] } → Some v ≡ slice_get xs c
    → new ≡ record start { begun = take (c + 1) xs }
value-put xs c v start b new e f g =
    f
    ∙ (ap (λ (w : BegunView). record w { begun = w.begun ++ v ∷ [] }) e
    ∙ ap (λ (l : List Value). record start { begun = l }) (put-next xs c v g))

-- its type is that of the next column
pub next-kind : (xs : List Value) (kinds : List Kind) (c : ℕ) (v : Value) → map kind_of xs ≡ kinds → Some v ≡ slice_get xs c → slice_get kinds (length (take c xs)) ≡ Some (kind_of v)
next-kind [] kinds c v h e = absurd (cc)
next-kind (x ∷ xs) [] c v h e = absurd (cc)
next-kind (x ∷ xs) (k ∷ ks) zero v h e = cc
next-kind (x ∷ xs) (k ∷ ks) (suc c) v h e = next-kind xs ks c v (cc) e
