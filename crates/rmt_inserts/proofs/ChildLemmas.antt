-- The names right below a node, by the znodes that are there.
use Rattle.std.proofs.Common.{◌≡◌, ◌≢◌, ℕ, inl, inr, ◌&&◌, ◌||◌, T, Bool, true, false, cond, is_some, List, [], ◌∷◌, map, refl, sym, ap, subst, ◌∙◌}
use Rattle.std.specs.FinMap as finmap
use Rattle.std.specs.FinMap.Entries.{below_all}
use Rattle.std.specs.List.{list_any}
use Rattle.std.specs.Option.{option_map}
use Rattle.std.specs.Ordering.{is_eq, is_lt, ordering_then}
use Rattle.std.specs.declared.cmp.Ordering.{Ordering}
use Rattle.std.specs.declared.cmp.Ordering.TheVariants.{Less, Equal, Greater}
use Rattle.std.specs.declared.option.Option.{Option}
use Rattle.std.specs.declared.option.Option.TheVariants.{Some, None}
use Rattle.rmt_model.specs.Words.{Has, Each, Pairwise}
use Rattle.rmt_model.proofs.Lists.{Each-all}
use Rattle.rmt_paths.specs.Paths.{Names, last_name, parent}
use Rattle.rmt_paths.specs.PathOrder.{name_cmp, path_cmp, is_path, is_child}
use Rattle.rmt_paths.proofs.OrderLemmas.{is_path-is, is_path-same, path_cmp-parents}
use Rattle.rmt_tree.proofs.HasChildrenLemmas.{get-below}
use Rattle.rmt_tree.specs.Trees.{Node, TreeView, node_at, below, children}
use Rattle.rmt_znodes.specs.declared.znode.Znode.{Znode}
use Rattle.rmt_znodes.specs.Znodes.{znode_path, IsZnode}
use Rattle.rmt_znodes.specs.ZnodeStates.{ZnodeState, ZnodeStates, Limits, state_of, above, IsOfZnode, HasZnodes}
use Rattle.rmt_znodes.proofs.ZnodeLemmas.{znode_path-injective}
use Rattle.rmt_znodes.proofs.ZnodeStateLemmas.{child-parent, above-path, above_path, above-znode, not-root}
use Rattle.rmt_inserts.proofs.NameLemmas.{Lower, test-lower}
use Rattle.rmt_inserts.proofs.ListLemmas.{Has-map, map-Has}

-- membership through a test
Has-any : (ks : List Names) (k : Names) → list_any (λ j. is_path k j) ks ≡ true → Has ks k
Has-any [] k e = absurd (cc)
Has-any (j ∷ ks) k e = go (is_path k j) refl e (Has-any ks k)
  where
    go : (b : Bool) → is_path k j ≡ b → (b || list_any (λ i. is_path k i) ks) ≡ true → (list_any (λ i. is_path k i) ks ≡ true → Has ks k) → Has (j ∷ ks) k
    go true i e f = inl (sym (is_path-is k j i))
    go false i e f = inr (f e)

any-Has : (ks : List Names) (k : Names) → Has ks k → list_any (λ j. is_path k j) ks ≡ true
any-Has [] k h = absurd h
any-Has (j ∷ ks) k (inl e) = ap (λ (b : Bool). b || list_any (λ i. is_path k i) ks) (subst (λ (w : Names). is_path k w ≡ true) (sym e) (is_path-same k))
any-Has (j ∷ ks) k (inr h) = go (is_path k j) (any-Has ks k h)
  where
    go : (b : Bool) → list_any (λ i. is_path k i) ks ≡ true → (b || list_any (λ i. is_path k i) ks) ≡ true
    go true e = refl
    go false e = e

-- what is right below a path
below-has : (t : TreeView) (p k : Names) → Has (finmap.keys (below t.nodes p)) k → (is_child p k ≡ true) × (is_some (node_at t k) ≡ true)
below-has t p k h = some-then (is_child p k) (node_at t k) (ap is_some (sym (get-below t.nodes p k)) ∙ finmap.contains_key-keys (below t.nodes p) k ∙ any-Has (finmap.keys (below t.nodes p)) k h)
  where
    some-then : (b : Bool) (o : Option Node) → is_some (cond b o None) ≡ true → (b ≡ true) × (is_some o ≡ true)
    some-then true o e = (refl, e)
    some-then false o e = absurd (cc)

has-below : (t : TreeView) (p k : Names) → is_child p k ≡ true → is_some (node_at t k) ≡ true → Has (finmap.keys (below t.nodes p)) k
has-below t p k c e = Has-any (finmap.keys (below t.nodes p)) k
    (sym (finmap.contains_key-keys (below t.nodes p) k) ∙ ap is_some (get-below t.nodes p k ∙ ap (λ (b : Bool). cond b (node_at t k) None) c) ∙ e)

-- ---- which names there are

-- a name below a node is that of a znode below it that is there
pub record IsNameBelow (states : ZnodeStates) (y : Znode) (name : List ℕ) : Type 0 where
  pub znode : Znode
  pub is_znode : IsZnode znode
  pub under : above znode ≡ Some y
  pub name_is : name ≡ last_name (znode_path znode)
  pub there : is_some (states znode) ≡ true

same-some : (o : Option Node) (s : Option ZnodeState) → option_map state_of o ≡ s → is_some o ≡ is_some s
same-some None None e = refl
same-some None (Some s) e = absurd (cc)
same-some (Some n) None e = absurd (cc)
same-some (Some n) (Some s) e = refl

pub child-znode : (t : TreeView) (states : ZnodeStates) (limits : Limits) → HasZnodes t states limits → (y : Znode) → IsZnode y → (name : List ℕ) → Has (children t (znode_path y)) name → IsNameBelow states y name
child-znode t states limits has y part name h = found (Has-map last_name (finmap.keys (below t.nodes (znode_path y))) name h)
  where
    found : (k : Names) × Has (finmap.keys (below t.nodes (znode_path y))) k × (last_name k ≡ name) → IsNameBelow states y name
    found r = let both = below-has t (znode_path y) r.0 r.1 in elim (has.only r.0 both.1) [ inl e ↦ root e both.0 | inr o ↦ at-znode o both.0 both.1 ]
      where
        root : r.0 ≡ [] → is_child (znode_path y) r.0 ≡ true → IsNameBelow states y name
        root e c = let q : false ≡ true = subst (λ (w : Names). is_child (znode_path y) w ≡ true) e c in absurd (cc)

        at-znode : IsOfZnode r.0 → is_child (znode_path y) r.0 ≡ true → is_some (node_at t r.0) ≡ true → IsNameBelow states y name
        at-znode o c e = by_above (above o.znode) refl
          where
            up : znode_path y ≡ above_path (above o.znode)
            up = child-parent (znode_path y) r.0 c ∙ ap parent o.is ∙ above-path o.znode

            by_above : (a : Option Znode) → above o.znode ≡ a → IsNameBelow states y name
            by_above None i = absurd (not-root y (up ∙ ap above_path i))
            by_above (Some z) i =
                let same : y ≡ z = znode_path-injective y z part (above-znode o.znode z o.is_znode i) (up ∙ ap above_path i) in
                record {
                  znode = o.znode;
                  is_znode = o.is_znode;
                  under = i ∙ ap Some (sym same);
                  name_is = sym r.2 ∙ ap last_name o.is;
                  there = sym (same-some (node_at t (znode_path o.znode)) (states o.znode) (has.nodes o.znode o.is_znode)) ∙ ap (λ (q : Names). is_some (node_at t q)) (sym o.is) ∙ e;
                }

-- and each znode there has its name
pub znode-child : (t : TreeView) (states : ZnodeStates) (limits : Limits) → HasZnodes t states limits → (x y : Znode) → IsZnode x → above x ≡ Some y → is_some (states x) ≡ true → Has (children t (znode_path y)) (last_name (znode_path x))
znode-child t states limits has x y part up there =
    map-Has last_name (finmap.keys (below t.nodes (znode_path y))) (znode_path x)
    (has-below t (znode_path y) (znode_path x) (is-child) (same-some (node_at t (znode_path x)) (states x) (has.nodes x part) ∙ there))
  where
    by-parent : (q : Names) → q ≢ [] → parent q ≡ znode_path y → is_child (znode_path y) q ≡ true
    by-parent [] f e = absurd (f refl)
    by-parent (n ∷ q) f e = ap (is_path (znode_path y)) e ∙ is_path-same (znode_path y)

    is-child : is_child (znode_path y) (znode_path x) ≡ true
    is-child = by-parent (znode_path x) (not-root x) (above-path x ∙ ap above_path up)

-- ---- their order

T-first : (a b : Bool) → T (a && b) → T a
T-first true b h = tt
T-first false b h = h

T-second : (a b : Bool) → T (a && b) → T b
T-second true b h = h
T-second false b h = absurd h

-- paths right below one path are in the order of their last names
child-order : (p k j : Names) → is_child p k ≡ true → is_child p j ≡ true → path_cmp k j ≡ name_cmp (last_name k) (last_name j)
child-order p [] j c d = absurd (cc)
child-order p (n ∷ k) [] c d = absurd (cc)
child-order p (n ∷ k) (m ∷ j) c d =
    path_cmp-parents n m k j ∙ ap (λ (r : Ordering). ordering_then r (name_cmp (last_name (n ∷ k)) (last_name (m ∷ j)))) tied
  where
    equal : (r : Ordering) → is_eq r ≡ true → r ≡ Equal
    equal Less e = absurd (cc)
    equal Equal e = refl
    equal Greater e = absurd (cc)

    tied : path_cmp (parent (n ∷ k)) (parent (m ∷ j)) ≡ Equal
    tied = equal (path_cmp (parent (n ∷ k)) (parent (m ∷ j)))
        (subst (λ (w : Names). is_path w (parent (m ∷ j)) ≡ true) (is_path-is p (parent (n ∷ k)) c) d)

less-lower : (p k j : Names) → is_child p k ≡ true → is_child p j ≡ true → T (is_lt (path_cmp k j)) → Lower (last_name k) (last_name j)
less-lower p k j c d h = test-lower (last_name k) (last_name j) (ap is_lt (sym (child-order p k j c d)) ∙ is-true (is_lt (path_cmp k j)) h)
  where
    is-true : (b : Bool) → T b → b ≡ true
    is-true true h = refl
    is-true false h = absurd h

first-lower : {X : Type 0} (p : Names) (e : Names × X) (es : List (Names × X)) → is_child p e.0 ≡ true → Each (λ k. is_child p k ≡ true) (map (λ x. x.0) es) → T (below_all path_cmp e.0 es) → Each (Lower (last_name e.0)) (map last_name (map (λ x. x.0) es))
first-lower p e [] c d h = tt
first-lower p e (x ∷ es) c d h = (
  less-lower p e.0 x.0 c d.0 (T-first (is_lt (path_cmp e.0 x.0)) (below_all path_cmp e.0 es) h),
  first-lower p e es c d.1 (T-second (is_lt (path_cmp e.0 x.0)) (below_all path_cmp e.0 es) h),
)

sorted-lower : {X : Type 0} (p : Names) (es : List (Names × X)) → Each (λ k. is_child p k ≡ true) (map (λ x. x.0) es) → T (finmap.is_sorted path_cmp es) → Pairwise Lower (map last_name (map (λ x. x.0) es))
sorted-lower p [] c h = tt
sorted-lower p (e ∷ es) c h = (
  first-lower p e es c.0 c.1 (T-first (below_all path_cmp e.0 es) (finmap.is_sorted path_cmp es) h),
  sorted-lower p es c.1 (T-second (below_all path_cmp e.0 es) (finmap.is_sorted path_cmp es) h),
)

-- the names of a node's children rise
pub children-rise : (t : TreeView) (p : Names) → Pairwise Lower (children t p)
children-rise t p = sorted-lower p (finmap.entries (below t.nodes p))
    (Each-all (λ k. is_child p k ≡ true) (finmap.keys (below t.nodes p)) (λ k h. (below-has t p k h).0))
    (finmap.entries_sorted (below t.nodes p))
