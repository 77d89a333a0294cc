-- Paths that tie in their order are the same.
use Rattle.std.proofs.Common.{◌≡◌, sym, ap, subst, ◌∙◌, arith, Bool, true, false, List, [], ◌∷◌, length}
use Rattle.std.specs.Prelude.{ℕ, suc, T, refl, not}
use Rattle.std.specs.declared.cmp.Ordering.{Ordering}
use Rattle.std.specs.declared.cmp.Ordering.TheVariants.{Less, Equal, Greater}
use Rattle.std.specs.Ordering.{is_eq, is_lt, is_le, nat_cmp, ordering_then, ordering_reverse}
use Rattle.std.specs.FinMap.{IsAntisymmetric, nat_cmp-IsAntisymmetric, slice_cmp-IsAntisymmetric}
use Rattle.std.specs.Cmp.{Equal-is}
use Rattle.std.specs.Cmp.Lexicographic.{slice_cmp, nat_list_cmp_total}
use Rattle.rmt_paths.specs.Paths.{Names, parent, last_name, child}
use Rattle.rmt_paths.specs.PathOrder.{name_cmp, are_siblings, depth_cmp, path_cmp, is_path, path_equiv, path_total, is_child}

second_equal : (r s : Ordering) → ordering_then r s ≡ Equal → s ≡ Equal
second_equal Less s e = absurd (subst (λ r. T (is_eq r)) (sym e) tt)
second_equal Equal s e = e
second_equal Greater s e = absurd (subst (λ r. T (is_eq r)) (sym e) tt)

-- paths that tie are the same
pub path_antisymmetric : IsAntisymmetric path_cmp
path_antisymmetric p q e = slice_cmp-IsAntisymmetric (slice_cmp-IsAntisymmetric nat_cmp-IsAntisymmetric) p q (second_equal (depth_cmp p q) _ e)

suc_cmp : (a b : ℕ) → nat_cmp (suc a) (suc b) ≡ nat_cmp a b
suc_cmp a b = grind arith

less_cmp : (a : ℕ) → nat_cmp 0 (suc a) ≡ Less
less_cmp a = grind arith

more_cmp : (a : ℕ) → nat_cmp (suc a) 0 ≡ Greater
more_cmp a = grind arith

pub depth_is : (p q : Names) → nat_cmp (length p) (length q) ≡ depth_cmp p q
depth_is [] [] = refl
depth_is [] (m ∷ q) = less_cmp (length q)
depth_is (n ∷ p) [] = more_cmp (length p)
depth_is (n ∷ p) (m ∷ q) = suc_cmp (length p) (length q) ∙ depth_is p q

pub is_path-is : (p q : Names) → is_path p q ≡ true → p ≡ q
is_path-is p q e = path_antisymmetric p q ((Equal-is (path_cmp p q)).0 e)

pub is_path-same : (p : Names) → is_path p p ≡ true
is_path-same p = path_equiv.refl p

same_tie : (d r s : Ordering) → is_eq (ordering_then d s) ≡ is_eq s → is_eq (ordering_then d (ordering_then r s)) ≡ is_eq (ordering_then r s)
same_tie Less Less s is = refl
same_tie Less Equal s is = is
same_tie Less Greater s is = refl
same_tie Equal r s is = refl
same_tie Greater Less s is = refl
same_tie Greater Equal s is = is
same_tie Greater Greater s is = refl

-- paths tie where their names do
pub is_path-names : (p q : Names) → is_path p q ≡ is_eq (slice_cmp name_cmp p q)
is_path-names [] [] = refl
is_path-names [] (m ∷ q) = refl
is_path-names (n ∷ p) [] = refl
is_path-names (n ∷ p) (m ∷ q) = same_tie (depth_cmp p q) (name_cmp n m) (slice_cmp name_cmp p q) (is_path-names p q)

pub parent-child : (p : Names) (n : List ℕ) → parent (child p n) ≡ p
parent-child [] n = refl
parent-child (m ∷ []) n = refl
parent-child (m ∷ (k ∷ p)) n = ap (λ q. m ∷ q) (parent-child (k ∷ p) n)

siblings_at : (p q : Names) (n m : List ℕ) → are_siblings (child p n) (child q m) ≡ is_path (parent (child p n)) (parent (child q m))
siblings_at [] [] n m = refl
siblings_at [] (k ∷ q) n m = refl
siblings_at (l ∷ p) [] n m = refl
siblings_at (l ∷ p) (k ∷ q) n m = refl

-- paths of one more name are siblings where the paths tie
pub are_siblings-child : (p q : Names) (n m : List ℕ) → are_siblings (child p n) (child q m) ≡ is_eq (slice_cmp name_cmp p q)
are_siblings-child p q n m = siblings_at p q n m ∙ (λ i. is_path (parent-child p n i) (parent-child q m i)) ∙ is_path-names p q

depth-child : (a b : Names) (n m : List ℕ) → depth_cmp (child a n) (child b m) ≡ depth_cmp a b
depth-child [] [] n m = refl
depth-child [] (k ∷ []) n m = refl
depth-child [] (k ∷ (l ∷ b)) n m = refl
depth-child (k ∷ []) [] n m = refl
depth-child (k ∷ (l ∷ a)) [] n m = refl
depth-child (k ∷ a) (l ∷ b) n m = depth-child a b n m

then_assoc : (r s t : Ordering) → ordering_then r (ordering_then s t) ≡ ordering_then (ordering_then r s) t
then_assoc Less s t = refl
then_assoc Equal s t = refl
then_assoc Greater s t = refl

then_equal : (r : Ordering) → ordering_then r Equal ≡ r
then_equal Less = refl
then_equal Equal = refl
then_equal Greater = refl

apart : {A : Type 0} (r : Ordering) → is_eq r ≡ false → r ≡ Equal → A
apart r differs e = absurd (subst (λ (b : Bool). T b) (sym (ap is_eq e) ∙ differs) tt)

names-child : (a b : Names) (n m : List ℕ) → depth_cmp a b ≡ Equal → slice_cmp name_cmp (child a n) (child b m) ≡ ordering_then (slice_cmp name_cmp a b) (name_cmp n m)
names-child [] [] n m deep = then_equal (name_cmp n m)
names-child [] (l ∷ b) n m deep = apart Less refl deep
names-child (k ∷ a) [] n m deep = apart Greater refl deep
names-child (k ∷ a) (l ∷ b) n m deep = ap (ordering_then (name_cmp k l)) (names-child a b n m deep) ∙ then_assoc (name_cmp k l) (slice_cmp name_cmp a b) (name_cmp n m)

path_at : (r : Ordering) (a b : Names) (n m : List ℕ) → depth_cmp a b ≡ r → ordering_then r (slice_cmp name_cmp (child a n) (child b m)) ≡ ordering_then (ordering_then r (slice_cmp name_cmp a b)) (name_cmp n m)
path_at Less a b n m deep = refl
path_at Equal a b n m deep = names-child a b n m deep
path_at Greater a b n m deep = refl

-- paths are in the order of their parents, and then of their last names
pub path_cmp-child : (a b : Names) (n m : List ℕ) → path_cmp (child a n) (child b m) ≡ ordering_then (path_cmp a b) (name_cmp n m)
path_cmp-child a b n m = ap (λ r. ordering_then r (slice_cmp name_cmp (child a n) (child b m))) (depth-child a b n m) ∙ path_at (depth_cmp a b) a b n m refl

pub child-parent : (n : List ℕ) (p : Names) → child (parent (n ∷ p)) (last_name (n ∷ p)) ≡ n ∷ p
child-parent n [] = refl
child-parent n (m ∷ p) = ap (λ q. n ∷ q) (child-parent m p)

-- the same, of two paths below the root
pub path_cmp-parents : (n m : List ℕ) (p q : Names) → path_cmp (n ∷ p) (m ∷ q) ≡ ordering_then (path_cmp (parent (n ∷ p)) (parent (m ∷ q))) (name_cmp (last_name (n ∷ p)) (last_name (m ∷ q)))
path_cmp-parents n m p q =
    (λ i. path_cmp (sym (child-parent n p) i) (sym (child-parent m q) i))
    ∙ path_cmp-child (parent (n ∷ p)) (parent (m ∷ q)) (last_name (n ∷ p)) (last_name (m ∷ q))

le_first : (r s : Ordering) → is_le (ordering_then r s) ≡ true → is_eq r ≡ false → r ≡ Less
le_first Less s le differs = refl
le_first Equal s le differs = absurd (subst (λ (b : Bool). T b) differs tt)
le_first Greater s le differs = absurd (subst (λ (b : Bool). T b) (sym le) tt)

after_parent : (r s : Ordering) (p q k : Names) → path_cmp q k ≡ r → ordering_then r s ≡ Less → path_cmp p q ≡ Less → path_cmp p k ≡ Less
after_parent Less s p q k is less below = path_total.trans p q k below is
after_parent Equal s p q k is less below = subst (λ x. path_cmp p x ≡ Less) (path_antisymmetric q k is) below
after_parent Greater s p q k is less below = absurd (subst (λ (b : Bool). T b) (sym (ap is_lt less)) tt)

-- a path after one that is no sibling of an earlier one isn't below that one's parent
pub is_child-past : (n m : List ℕ) (p q k : Names) → is_le (path_cmp (n ∷ p) (m ∷ q)) ≡ true → are_siblings (m ∷ q) (n ∷ p) ≡ false → path_cmp (m ∷ q) k ≡ Less → is_child (parent (n ∷ p)) k ≡ false
is_child-past n m p q [] le differs less = refl
is_child-past n m p q (l ∷ k) le differs less =
    let apart : is_eq (path_cmp (parent (n ∷ p)) (parent (m ∷ q))) ≡ false = path_equiv.symm (parent (n ∷ p)) (parent (m ∷ q)) ∙ differs in
    let first : path_cmp (parent (n ∷ p)) (parent (m ∷ q)) ≡ Less = le_first _ _ (ap is_le (sym (path_cmp-parents n m p q)) ∙ le) apart in
    ap is_eq (after_parent _ _ (parent (n ∷ p)) (parent (m ∷ q)) (parent (l ∷ k)) refl (sym (path_cmp-parents m l q k) ∙ less) first)

flip_le : (r s : Ordering) → is_le (ordering_then r s) ≡ true → is_eq r ≡ true → is_le s ≡ true
flip_le Less s le tie = absurd (subst (λ (b : Bool). T b) (sym tie) tt)
flip_le Equal s le tie = le
flip_le Greater s le tie = absurd (subst (λ (b : Bool). T b) (sym tie) tt)

-- siblings are in the order of their last names
pub le-siblings : (n m : List ℕ) (p q : Names) → is_child (parent (n ∷ p)) (m ∷ q) ≡ true → is_le (path_cmp (n ∷ p) (m ∷ q)) ≡ is_le (name_cmp (last_name (n ∷ p)) (last_name (m ∷ q)))
le-siblings n m p q tie = ap is_le (path_cmp-parents n m p q ∙ ap (λ r. ordering_then r (name_cmp (last_name (n ∷ p)) (last_name (m ∷ q)))) ((Equal-is (path_cmp (parent (n ∷ p)) (parent (m ∷ q)))).0 tie))

lt_reverse : (r : Ordering) → is_lt (ordering_reverse r) ≡ not (is_le r)
lt_reverse Less = refl
lt_reverse Equal = refl
lt_reverse Greater = refl

-- a name is below another where that one isn't at or below it
pub lt-not_le : (n m : List ℕ) → is_lt (name_cmp m n) ≡ not (is_le (name_cmp n m))
lt-not_le n m = ap is_lt (nat_list_cmp_total.antisymm m n) ∙ lt_reverse (name_cmp n m)
