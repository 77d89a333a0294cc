-- The range of a path's children.
use Rattle.std.proofs.Common.{◌≡◌, ◌≢◌, refl, sym, ap, ◌∙◌, arith, true, false, List, [], ◌∷◌, ◌++◌, ◌&&◌}
use Rattle.std.specs.Prelude.{ℕ, suc, zero, not}
use mathlib.Core.Bool.{true≢false}
use Rattle.std.specs.declared.cmp.Ordering.{Ordering}
use Rattle.std.specs.declared.cmp.Ordering.TheVariants.{Less, Equal, Greater}
use Rattle.std.specs.Ordering.{is_eq, is_le, is_gt, nat_cmp, ordering_then}
use Rattle.std.specs.Cmp.Lexicographic.{slice_cmp}
use Rattle.rmt_paths.specs.Paths.{Names, parent, child}
use Rattle.rmt_paths.specs.PathOrder.{name_cmp, depth_cmp, path_cmp, is_child}
use Rattle.rmt_paths.specs.ChildRange.{children_start, children_end, is_between}
use Rattle.rmt_paths.proofs.NameLemmas.{cons_some}

not_equal : (r : Ordering) → r ≡ Equal → is_eq r ≡ true
not_equal r e = ap is_eq e

zero_less : (b : ℕ) → nat_cmp 0 (suc b) ≡ Less
zero_less b = grind arith

same_nat : (a : ℕ) → nat_cmp a a ≡ Equal
same_nat a = grind arith

nothing_le : (m : List ℕ) → is_le (name_cmp [] m) ≡ true
nothing_le [] = refl
nothing_le (b ∷ m) = refl

null_le : (b : ℕ) (m : List ℕ) → is_le (ordering_then (nat_cmp 0 b) (name_cmp [] m)) ≡ true
null_le zero m = nothing_le m
null_le (suc b) m = ap (λ r. is_le (ordering_then r (name_cmp [] m))) (zero_less b)

later_step : (r s t : Ordering) → (is_le s && not (is_le t)) ≡ is_eq s → (is_le (ordering_then r s) && not (is_le (ordering_then r t))) ≡ is_eq (ordering_then r s)
later_step Less s t is = refl
later_step Equal s t is = is
later_step Greater s t is = refl

-- no name lies between a name and the same with a zero after it
next_name : (n m : List ℕ) → (is_le (name_cmp n m) && not (is_le (name_cmp (n ++ 0 ∷ []) m))) ≡ is_eq (name_cmp n m)
next_name [] [] = refl
next_name [] (b ∷ m) = ap not (null_le b m)
next_name (a ∷ n) [] = refl
next_name (a ∷ n) (b ∷ m) = later_step (nat_cmp a b) (name_cmp n m) (name_cmp (n ++ 0 ∷ []) m) (next_name n m)

le_then : (r s : Ordering) → is_le s ≡ true → is_le (ordering_then r s) ≡ is_le r
le_then Less s is = refl
le_then Equal s is = is
le_then Greater s is = refl

eq_then : (r : Ordering) → is_eq (ordering_then r Equal) ≡ is_eq r
eq_then Less = refl
eq_then Equal = refl
eq_then Greater = refl

not_less : {A : Type 0} → Less ≡ Equal → A
not_less e = absurd (true≢false (sym (ap is_eq e)))

not_greater : {A : Type 0} → Greater ≡ Equal → A
not_greater e = absurd (true≢false (sym (ap is_eq e)))

above_root : (p : Names) (n : List ℕ) → depth_cmp (child p n) [] ≡ Greater
above_root [] n = refl
above_root (m ∷ p) n = refl

tail_le : (k : List ℕ) → is_le (slice_cmp name_cmp ([] ∷ []) (k ∷ [])) ≡ true
tail_le [] = refl
tail_le (b ∷ k) = refl

step_names : (r s t u : Ordering) → (is_le s && not (is_le t)) ≡ is_eq u → (is_le (ordering_then r s) && not (is_le (ordering_then r t))) ≡ is_eq (ordering_then r u)
step_names Less s t u is = refl
step_names Equal s t u is = is
step_names Greater s t u is = refl

not_deep : (p : Names) → depth_cmp (children_start p) [] ≡ Equal → ⊥
not_deep p deep = not_greater (sym (above_root p []) ∙ deep)

-- of paths of one depth, those between are the children
span_names : (p q : Names) → p ≢ [] → depth_cmp (children_start p) q ≡ Equal → (is_le (slice_cmp name_cmp (children_start p) q) && not (is_le (slice_cmp name_cmp (children_end p) q))) ≡ is_eq (slice_cmp name_cmp p (parent q))
span_names [] q below deep = absurd (below refl)
span_names (n ∷ []) [] below deep = not_greater deep
span_names (n ∷ []) (m ∷ []) below deep = not_greater deep
span_names (n ∷ []) (m ∷ (k ∷ [])) below deep =
    (λ i. le_then (name_cmp n m) (slice_cmp name_cmp ([] ∷ []) (k ∷ [])) (tail_le k) i && not (le_then (name_cmp (n ++ 0 ∷ []) m) (slice_cmp name_cmp ([] ∷ []) (k ∷ [])) (tail_le k) i))
    ∙ next_name n m ∙ sym (eq_then (name_cmp n m))
span_names (n ∷ []) (m ∷ (k ∷ (l ∷ q))) below deep = not_less deep
span_names (n ∷ (o ∷ p)) [] below deep = not_greater deep
span_names (n ∷ (o ∷ p)) (m ∷ []) below deep = not_greater deep
span_names (n ∷ (o ∷ p)) (m ∷ (k ∷ q)) below deep =
    step_names (name_cmp n m) (slice_cmp name_cmp (children_start (o ∷ p)) (k ∷ q)) (slice_cmp name_cmp (children_end (o ∷ p)) (k ∷ q)) (slice_cmp name_cmp (o ∷ p) (parent (k ∷ q))) (span_names (o ∷ p) (k ∷ q) cons_some deep)

-- a parent is as deep below as its children
depth_parent : (p : Names) (m : List ℕ) (q : Names) → depth_cmp p (parent (m ∷ q)) ≡ depth_cmp (children_start p) (m ∷ q)
depth_parent [] m [] = refl
depth_parent [] m (k ∷ q) = refl
depth_parent (n ∷ p) m [] = sym (above_root p [])
depth_parent (n ∷ p) m (k ∷ q) = depth_parent p k q

depth_high : (p q : Names) → p ≢ [] → depth_cmp (children_end p) q ≡ depth_cmp (children_start p) q
depth_high [] q below = absurd (below refl)
depth_high (n ∷ []) [] below = refl
depth_high (n ∷ []) (m ∷ q) below = refl
depth_high (n ∷ (o ∷ p)) [] below = refl
depth_high (n ∷ (o ∷ p)) (m ∷ q) below = depth_high (o ∷ p) q cons_some

span_at : (r : Ordering) (p q : Names) → p ≢ [] → depth_cmp (children_start p) q ≡ r → (is_le (ordering_then r (slice_cmp name_cmp (children_start p) q)) && not (is_le (ordering_then r (slice_cmp name_cmp (children_end p) q)))) ≡ is_child p q
span_at Less p [] below deep = refl
span_at Less p (m ∷ q) below deep = sym (ap (λ r. is_eq (ordering_then r (slice_cmp name_cmp p (parent (m ∷ q))))) (depth_parent p m q ∙ deep))
span_at Greater p [] below deep = refl
span_at Greater p (m ∷ q) below deep = sym (ap (λ r. is_eq (ordering_then r (slice_cmp name_cmp p (parent (m ∷ q))))) (depth_parent p m q ∙ deep))
span_at Equal p [] below deep = absurd (not_deep p deep)
span_at Equal p (m ∷ q) below deep = span_names p (m ∷ q) below deep ∙ sym (ap (λ r. is_eq (ordering_then r (slice_cmp name_cmp p (parent (m ∷ q))))) (depth_parent p m q ∙ deep))

-- the children are those between
pub span-is_child : (p q : Names) → p ≢ [] → is_between (children_start p) (children_end p) q ≡ is_child p q
span-is_child p q below =
    ap (λ r. is_le (path_cmp (children_start p) q) && not (is_le (ordering_then r (slice_cmp name_cmp (children_end p) q)))) (depth_high p q below)
    ∙ span_at (depth_cmp (children_start p) q) p q below refl

same_name : (n : List ℕ) → name_cmp n n ≡ Equal
same_name [] = refl
same_name (a ∷ n) = ap (λ r. ordering_then r (name_cmp n n)) (same_nat a) ∙ same_name n

before_next : (n : List ℕ) → name_cmp n (n ++ 0 ∷ []) ≡ Less
before_next [] = refl
before_next (a ∷ n) = ap (λ r. ordering_then r (name_cmp n (n ++ 0 ∷ []))) (same_nat a) ∙ before_next n

low_high_depth : (p : Names) → p ≢ [] → depth_cmp (children_start p) (children_end p) ≡ Equal
low_high_depth [] below = absurd (below refl)
low_high_depth (n ∷ []) below = refl
low_high_depth (n ∷ (o ∷ p)) below = low_high_depth (o ∷ p) cons_some

low_high_names : (p : Names) → p ≢ [] → slice_cmp name_cmp (children_start p) (children_end p) ≡ Less
low_high_names [] below = absurd (below refl)
low_high_names (n ∷ []) below = ap (λ r. ordering_then r Equal) (before_next n)
low_high_names (n ∷ (o ∷ p)) below = ap (λ r. ordering_then r (slice_cmp name_cmp (children_start (o ∷ p)) (children_end (o ∷ p)))) (same_name n) ∙ low_high_names (o ∷ p) cons_some

pub low-high : (p : Names) → p ≢ [] → is_gt (path_cmp (children_start p) (children_end p)) ≡ false
low-high p below = ap is_gt ((λ i. ordering_then (low_high_depth p below i) (low_high_names p below i)))
