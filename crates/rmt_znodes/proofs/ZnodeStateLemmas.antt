-- What operations do to the nodes, by what these stand for.
use Rattle.std.proofs.Common.{◌≡◌, ◌≢◌, ℕ, suc, ◌<◌, ◌≤◌, ◌⊎◌, inl, inr, ◌&&◌, Bool, true, false, cond, not, is_some, List, [], ◌∷◌, length, refl, sym, ap, subst, arith, ◌∙◌, nat_eq}
use Rattle.std.proofs.lemmas.Bool.Decides.{nat_tests}
use Rattle.std.proofs.lemmas.Slice.Eq.{bytes_eq-Decides}
use Rattle.std.specs.Str.{bytes_eq}
use Rattle.std.specs.Ordering.{is_eq}
use Rattle.std.specs.FinMap as map
use Rattle.std.specs.Option.{option_map}
use Rattle.std.specs.declared.option.Option.{Option}
use Rattle.std.specs.declared.option.Option.TheVariants.{Some, None}
use Rattle.rmt_names.specs.Names.{rank}
use Rattle.rmt_model.proofs.Lists.{rank-injective}
use Rattle.rmt_paths.specs.Paths.{Names, parent, numbered}
use Rattle.rmt_paths.proofs.OrderLemmas.{is_path-is, is_path-same}
use Rattle.rmt_paths.specs.PathOrder.{is_path, path_total, is_child}
use Rattle.rmt_tree.proofs.HasChildrenLemmas.{filled-none}
use Rattle.rmt_tree.specs.Trees.{Node, Nodes, TreeView, node_at, is_open, children, is_session, is_owned_by, ended}
use Rattle.rmt_tree.specs.Ops.{or_else, where_true, session_cause, parent_cause, set_cause, delete_cause, refusal, fresh, nodes_created, nodes_set, after, first_refusal, is_filled, last_version, last_counter, made_path, refused_at}
use Rattle.rmt_tree.specs.declared.op.Op.{Op}
use Rattle.rmt_tree.specs.declared.op.Op.TheVariants as op
use Rattle.rmt_tree.specs.declared.cause.Cause.{Cause}
use Rattle.rmt_tree.specs.declared.cause.Cause.TheVariants.{NoSession, EphemeralParent, NodeExists, Spent}
use Rattle.rmt_znodes.specs.declared.znode.Znode.{Znode}
use Rattle.rmt_znodes.specs.declared.znode.Znode.TheVariants.{Log, LogEntry, Blocks, Block, Order, OrderOf, Numbers, Partition, Lock, Mutations, MutationNode, Quorum, Status, LastPart, Replicas, Replica, LogPointer, IsActive}
use Rattle.rmt_znodes.specs.Znodes.{znode_path, IsZnode}
use Rattle.rmt_znodes.specs.ZnodeStates.{ZnodeState, state_of, ZnodeStates, same_znode, above, is_leaf, with_state, without_state, is_held_by, without_held, Limits, raised, IsOfZnode, IsWithin, IsRoot, HasZnodes, Makes}
use Rattle.rmt_znodes.proofs.ZnodeLemmas.{znode_path-injective}

-- ---- which node is which

pub same-znode : (x y : Znode) → same_znode x y ≡ true → x ≡ y
same-znode Log Log e = refl
same-znode (LogEntry i) (LogEntry j) e = ap LogEntry (grind (arith, nat_tests))
same-znode Blocks Blocks e = refl
same-znode (Block p d) (Block q f) e = go (nat_eq (rank p) (rank q)) refl (bytes_eq d f) refl e
  where
    go : (b : Bool) → nat_eq (rank p) (rank q) ≡ b → (c : Bool) → bytes_eq d f ≡ c → (b && c) ≡ true → Block p d ≡ Block q f
    go true h true k e = let u : p ≡ q = rank-injective p q (grind (arith, nat_tests)) in let v : d ≡ f = (bytes_eq-Decides d f).0 k in cc
    go true h false k e = absurd (cc)
    go false h c k e = absurd (cc)
same-znode Order Order e = refl
same-znode (OrderOf i) (OrderOf j) e = ap OrderOf (grind (arith, nat_tests))
same-znode Numbers Numbers e = refl
same-znode (Partition p) (Partition q) e = ap Partition (rank-injective p q (grind (arith, nat_tests)))
same-znode (Lock p m) (Lock q n) e = let u : p ≡ q = rank-injective p q (grind (arith, nat_tests)) in let v : m ≡ n = grind (arith, nat_tests) in cc
same-znode Mutations Mutations e = refl
same-znode (MutationNode i) (MutationNode j) e = ap MutationNode (grind (arith, nat_tests))
same-znode Quorum Quorum e = refl
same-znode Status Status e = refl
same-znode LastPart LastPart e = refl
same-znode Replicas Replicas e = refl
same-znode (Replica r) (Replica s) e = ap Replica (grind (arith, nat_tests))
same-znode (LogPointer r) (LogPointer s) e = ap LogPointer (grind (arith, nat_tests))
same-znode (IsActive r) (IsActive s) e = ap IsActive (grind (arith, nat_tests))
same-znode x y e = absurd (cc)

eq-itself : (n : ℕ) → nat_eq n n ≡ true
eq-itself n = grind (arith, nat_tests)

pub znode-itself : (x : Znode) → same_znode x x ≡ true
znode-itself Log = refl
znode-itself (LogEntry i) = eq-itself i
znode-itself Blocks = refl
znode-itself (Block p d) = let u = eq-itself (rank p) in let v : bytes_eq d d ≡ true = (bytes_eq-Decides d d).1 refl in ap (λ (b : Bool). b && bytes_eq d d) u ∙ v
znode-itself Order = refl
znode-itself (OrderOf k) = eq-itself k
znode-itself Numbers = refl
znode-itself (Partition p) = eq-itself (rank p)
znode-itself (Lock p n) = ap (λ (b : Bool). b && nat_eq n n) (eq-itself (rank p)) ∙ eq-itself n
znode-itself Mutations = refl
znode-itself (MutationNode k) = eq-itself k
znode-itself Quorum = refl
znode-itself Status = refl
znode-itself LastPart = refl
znode-itself Replicas = refl
znode-itself (Replica r) = eq-itself r
znode-itself (LogPointer r) = eq-itself r
znode-itself (IsActive r) = eq-itself r

-- the test on paths is the one on what they stand for
pub path-znode : (x y : Znode) → IsZnode x → IsZnode y → is_path (znode_path x) (znode_path y) ≡ same_znode x y
path-znode x y h k = go (is_path (znode_path x) (znode_path y)) refl (same_znode x y) refl
  where
    go : (b : Bool) → is_path (znode_path x) (znode_path y) ≡ b → (c : Bool) → same_znode x y ≡ c → b ≡ c
    go true e true f = refl
    go true e false f = let q = znode_path-injective x y h k (is_path-is (znode_path x) (znode_path y) e) in let r : same_znode x y ≡ true = ap (same_znode x) (sym q) ∙ znode-itself x in sym r ∙ f
    go false e true f = let q = same-znode x y f in let r : is_path (znode_path x) (znode_path y) ≡ true = ap (λ z. is_path (znode_path x) (znode_path z)) (sym q) ∙ is_path-same (znode_path x) in sym e ∙ r
    go false e false f = refl

-- ---- nodes above others

abbrev pub above_path : Option Znode → Names
above_path None = []
above_path (Some x) = znode_path x

pub above-path : (x : Znode) → parent (znode_path x) ≡ above_path (above x)
above-path Log = refl
above-path (LogEntry i) = refl
above-path Blocks = refl
above-path (Block p d) = refl
above-path Order = refl
above-path (OrderOf k) = refl
above-path Numbers = refl
above-path (Partition p) = refl
above-path (Lock p n) = refl
above-path Mutations = refl
above-path (MutationNode k) = refl
above-path Quorum = refl
above-path Status = refl
above-path LastPart = refl
above-path Replicas = refl
above-path (Replica r) = refl
above-path (LogPointer r) = refl
above-path (IsActive r) = refl

-- no node is the root
pub not-root : (x : Znode) → znode_path x ≢ []
not-root x e = absurd (let l = ap length e in let s = some x in omega (arith, l, s))
  where
    some : (x : Znode) → 0 < length (znode_path x)
    some Log = omega arith
    some (LogEntry i) = omega arith
    some Blocks = omega arith
    some (Block p d) = omega arith
    some Order = omega arith
    some (OrderOf k) = omega arith
    some Numbers = omega arith
    some (Partition p) = omega arith
    some (Lock p n) = omega arith
    some Mutations = omega arith
    some (MutationNode k) = omega arith
    some Quorum = omega arith
    some Status = omega arith
    some LastPart = omega arith
    some Replicas = omega arith
    some (Replica r) = omega arith
    some (LogPointer r) = omega arith
    some (IsActive r) = omega arith

path-root : (x : Znode) → is_path [] (znode_path x) ≡ false
path-root x = go (is_path [] (znode_path x)) refl
  where
    go : (b : Bool) → is_path [] (znode_path x) ≡ b → b ≡ false
    go true e = absurd (not-root x (sym (is_path-is [] (znode_path x) e)))
    go false e = refl

-- the nodes that others may stand below
abbrev pub HasAbove : ZnodeStates → Option Znode → Type 0
HasAbove states None = Unit {0}
HasAbove states (Some x) = IsZnode x × ((f : ZnodeState) × (states x ≡ Some f) × (f.owner ≡ None))

-- a leaf is above no node
leaf-below : (x y : Znode) → is_leaf x ≡ true → above y ≡ Some x → ⊥
leaf-below x Log l e = cc
leaf-below x (LogEntry i) l e = let q : Log ≡ x = cc in let r : false ≡ true = ap is_leaf q ∙ l in cc
leaf-below x Blocks l e = cc
leaf-below x (Block p d) l e = let q : Blocks ≡ x = cc in let r : false ≡ true = ap is_leaf q ∙ l in cc
leaf-below x Order l e = cc
leaf-below x (OrderOf k) l e = let q : Order ≡ x = cc in let r : false ≡ true = ap is_leaf q ∙ l in cc
leaf-below x Numbers l e = cc
leaf-below x (Partition p) l e = let q : Numbers ≡ x = cc in let r : false ≡ true = ap is_leaf q ∙ l in cc
leaf-below x (Lock p n) l e = let q : Partition p ≡ x = cc in let r : false ≡ true = ap is_leaf q ∙ l in cc
leaf-below x Mutations l e = cc
leaf-below x (MutationNode k) l e = let q : Mutations ≡ x = cc in let r : false ≡ true = ap is_leaf q ∙ l in cc
leaf-below x Quorum l e = cc
leaf-below x Status l e = let q : Quorum ≡ x = cc in let r : false ≡ true = ap is_leaf q ∙ l in cc
leaf-below x LastPart l e = let q : Quorum ≡ x = cc in let r : false ≡ true = ap is_leaf q ∙ l in cc
leaf-below x Replicas l e = cc
leaf-below x (Replica r) l e = let q : Replicas ≡ x = cc in let r : false ≡ true = ap is_leaf q ∙ l in cc
leaf-below x (LogPointer r) l e = let q : Replica r ≡ x = cc in let r : false ≡ true = ap is_leaf q ∙ l in cc
leaf-below x (IsActive r) l e = let q : Replica r ≡ x = cc in let r : false ≡ true = ap is_leaf q ∙ l in cc

pub above-znode : (x y : Znode) → IsZnode x → above x ≡ Some y → IsZnode y
above-znode Log y h e = absurd (cc)
above-znode (LogEntry i) y h e = let q : Log ≡ y = cc in subst IsZnode q tt
above-znode Blocks y h e = absurd (cc)
above-znode (Block p d) y h e = let q : Blocks ≡ y = cc in subst IsZnode q tt
above-znode Order y h e = absurd (cc)
above-znode (OrderOf k) y h e = let q : Order ≡ y = cc in subst IsZnode q tt
above-znode Numbers y h e = absurd (cc)
above-znode (Partition p) y h e = let q : Numbers ≡ y = cc in subst IsZnode q tt
above-znode (Lock p n) y h e = let q : Partition p ≡ y = cc in subst IsZnode q h.0
above-znode Mutations y h e = absurd (cc)
above-znode (MutationNode k) y h e = let q : Mutations ≡ y = cc in subst IsZnode q tt
above-znode Quorum y h e = absurd (cc)
above-znode Status y h e = let q : Quorum ≡ y = cc in subst IsZnode q tt
above-znode LastPart y h e = let q : Quorum ≡ y = cc in subst IsZnode q tt
above-znode Replicas y h e = absurd (cc)
above-znode (Replica r) y h e = let q : Replicas ≡ y = cc in subst IsZnode q tt
above-znode (LogPointer r) y h e = let q : Replica r ≡ y = cc in subst IsZnode q h
above-znode (IsActive r) y h e = let q : Replica r ≡ y = cc in subst IsZnode q h

-- ---- what is there

-- the node of a state
pub record Found (t : TreeView) (x : Znode) (f : ZnodeState) (limit : ℕ) : Type 0 where
  pub node : Node
  pub is : node_at t (znode_path x) ≡ Some node
  pub state : state_of node ≡ f
  pub version : node.version ≤ limit

pub found : (t : TreeView) (states : ZnodeStates) (limits : Limits) → HasZnodes t states limits → (x : Znode) → IsZnode x → (f : ZnodeState) → states x ≡ Some f → Found t x f (limits x)
found t states limits m x h f e = go (node_at t (znode_path x)) refl (m.versions x h)
  where
    go : (o : Option Node) → node_at t (znode_path x) ≡ o → IsWithin (node_at t (znode_path x)) (limits x) → Found t x f (limits x)
    go None i w = let q : ◌≡◌ {A = Option ZnodeState} None (Some f) = ap (option_map state_of) (sym i) ∙ m.nodes x h ∙ e in absurd (cc)
    go (Some n) i w = let q : ◌≡◌ {A = Option ZnodeState} (Some (state_of n)) (Some f) = ap (option_map state_of) (sym i) ∙ m.nodes x h ∙ e in
        record { node = n; is = i; state = cc; version = subst (λ (o : Option Node). IsWithin o (limits x)) i w }

pub not-found : (t : TreeView) (states : ZnodeStates) (limits : Limits) → HasZnodes t states limits → (x : Znode) → IsZnode x → states x ≡ None → node_at t (znode_path x) ≡ None
not-found t states limits m x h e = go (node_at t (znode_path x)) refl
  where
    go : (o : Option Node) → node_at t (znode_path x) ≡ o → node_at t (znode_path x) ≡ None
    go None i = i
    go (Some n) i = let q : ◌≡◌ {A = Option ZnodeState} (Some (state_of n)) None = ap (option_map state_of) (sym i) ∙ m.nodes x h ∙ e in absurd (cc)

-- the node above is there and may have nodes below it
pub record Roomy (t : TreeView) (p : Names) : Type 0 where
  pub node : Node
  pub is : node_at t (parent p) ≡ Some node
  pub owner : node.owner ≡ None

pub roomy : (t : TreeView) (states : ZnodeStates) (limits : Limits) → HasZnodes t states limits → (x : Znode) → HasAbove states (above x) → Roomy t (znode_path x)
roomy t states limits m x a = go (above x) refl a
  where
    go : (o : Option Znode) → above x ≡ o → HasAbove states o → Roomy t (znode_path x)
    go None e h = root (node_at t []) refl m.root
      where
        root : (o : Option Node) → node_at t [] ≡ o → IsRoot o → Roomy t (znode_path x)
        root None i r = absurd r
        root (Some n) i r = record { node = n; is = ap (node_at t) (above-path x ∙ ap above_path e) ∙ i; owner = r }
    go (Some y) e h = let f = found t states limits m y h.0 h.1.0 h.1.1 in
        record { node = f.node; is = ap (node_at t) (above-path x ∙ ap above_path e) ∙ f.is; owner = ap (λ (g : ZnodeState). g.owner) f.state ∙ h.1.2 }

-- ---- one node changes

-- the nodes with another one, or none, at a place
pub changed : (t u : TreeView) (x : Znode) (o : Option Node) (states : ZnodeStates) (limits : Limits) (g : Option ZnodeState) (bounds : Limits) → HasZnodes t states limits → IsZnode x
    → ((q : Names) → node_at u q ≡ cond (is_path q (znode_path x)) o (node_at t q)) → option_map state_of o ≡ g → IsWithin o (bounds x) → ((y : Znode) → limits y ≤ bounds y)
    → HasZnodes u (λ y. cond (same_znode y x) g (states y)) bounds
changed t u x o states limits g bounds m h at state version more = record { root = root; nodes = nodes; versions = versions; only = only }
  where
    root : IsRoot (node_at u [])
    root = subst IsRoot (sym (at [] ∙ ap (λ (b : Bool). cond b o (node_at t [])) (path-root x))) m.root

    here : (y : Znode) → IsZnode y → node_at u (znode_path y) ≡ cond (same_znode y x) o (node_at t (znode_path y))
    here y k = at (znode_path y) ∙ ap (λ (b : Bool). cond b o (node_at t (znode_path y))) (path-znode y x k h)

    nodes : (y : Znode) → IsZnode y → option_map state_of (node_at u (znode_path y)) ≡ cond (same_znode y x) g (states y)
    nodes y k = ap (option_map state_of) (here y k) ∙ go (same_znode y x)
      where
        go : (b : Bool) → option_map state_of (cond b o (node_at t (znode_path y))) ≡ cond b g (states y)
        go true = state
        go false = m.nodes y k

    weaker : (o : Option Node) (a b : ℕ) → a ≤ b → IsWithin o a → IsWithin o b
    weaker None a b l w = tt
    weaker (Some n) a b l w = omega (arith, l, w)

    versions : (y : Znode) → IsZnode y → IsWithin (node_at u (znode_path y)) (bounds y)
    versions y k = subst (λ (v : Option Node). IsWithin v (bounds y)) (sym (here y k)) (go (same_znode y x) refl)
      where
        go : (b : Bool) → same_znode y x ≡ b → IsWithin (cond b o (node_at t (znode_path y))) (bounds y)
        go true e = subst (λ (z : Znode). IsWithin o (bounds z)) (sym (same-znode y x e)) version
        go false e = weaker (node_at t (znode_path y)) (limits y) (bounds y) (more y) (m.versions y k)

    only : (q : Names) → is_some (node_at u q) ≡ true → (q ≡ []) ⊎ IsOfZnode q
    only q e = go (is_path q (znode_path x)) refl (ap is_some (sym (at q)) ∙ e)
      where
        go : (b : Bool) → is_path q (znode_path x) ≡ b → is_some (cond b o (node_at t q)) ≡ true → (q ≡ []) ⊎ IsOfZnode q
        go true i e = inr (record { znode = x; is_znode = h; is = is_path-is q (znode_path x) i })
        go false i e = m.only q e

-- the nodes and the bounds by other words
pub has_znodes-as : (t : TreeView) (states states' : ZnodeStates) (limits limits' : Limits) → HasZnodes t states limits → ((y : Znode) → IsZnode y → states y ≡ states' y) → ((y : Znode) → IsZnode y → limits y ≤ limits' y) → HasZnodes t states' limits'
has_znodes-as t states states' limits limits' m f l = record {
  root = m.root;
  nodes = λ y k. m.nodes y k ∙ f y k;
  versions = λ y k. weaker (node_at t (znode_path y)) (limits y) (limits' y) (l y k) (m.versions y k);
  only = m.only;
}
  where
    weaker : (o : Option Node) (a b : ℕ) → a ≤ b → IsWithin o a → IsWithin o b
    weaker None a b l w = tt
    weaker (Some n) a b l w = omega (arith, l, w)

-- ---- operations

-- an op can be done, and the nodes are these then
pub record Does (t : TreeView) (o : Op) (states : ZnodeStates) (limits : Limits) : Type 0 where
  pub not_refused : refusal t o ≡ None
  pub nodes : HasZnodes (after t o) states limits

-- a node with no owner, or one whose session is open
abbrev pub MayOwn : TreeView → Option ℕ → Type 0
MayOwn t None = Unit {0}
MayOwn t (Some s) = is_open t s ≡ true

session-fine : (t : TreeView) (owner : Option ℕ) → MayOwn t owner → session_cause t owner ≡ None
session-fine t None h = refl
session-fine t (Some s) h = ap (λ (b : Bool). where_true (not b) NoSession) h

-- a new node
pub creates : (t : TreeView) (states : ZnodeStates) (limits : Limits) → HasZnodes t states limits → (x : Znode) → IsZnode x → (value : List ℕ) (owner : Option ℕ) → MayOwn t owner → HasAbove states (above x) → states x ≡ None
    → Does t (op.Create (znode_path x) value false owner) (with_state x (record { value = value; counter = 0; owner = owner }) states) limits
creates t states limits m x h value owner may a none = record { not_refused = fine; nodes = nodes }
  where
    p : Names
    p = znode_path x

    r : Roomy t (znode_path x)
    r = roomy t states limits m x a

    absent : node_at t (znode_path x) ≡ None
    absent = not-found t states limits m x h none

    parent-fine : parent_cause t (znode_path x) false (Some r.node) ≡ None
    parent-fine =
        ap (λ (w : Option ℕ). or_else (where_true (is_some w) EphemeralParent) (or_else (where_true (is_some (node_at t (znode_path x))) NodeExists) None)) r.owner
        ∙ ap (λ (w : Option Node). or_else (where_true (is_some w) NodeExists) None) absent

    fine : refusal t (op.Create (znode_path x) value false owner) ≡ None
    fine = ap (λ (w : Option Cause). or_else w (parent_cause t (znode_path x) false (node_at t (parent (znode_path x))))) (session-fine t owner may)
        ∙ ap (parent_cause t (znode_path x) false) r.is ∙ parent-fine

    at : (q : Names) → node_at (after t (op.Create (znode_path x) value false owner)) q ≡ cond (is_path q (znode_path x)) (Some (fresh value owner)) (node_at t q)
    at q =
        ap (λ (w : Option Node). map.get (nodes_created t.nodes (znode_path x) value false owner w) q) r.is
        ∙ map.get-insert path_total t.nodes (znode_path x) (fresh value owner) q

    nodes : HasZnodes (after t (op.Create (znode_path x) value false owner)) (with_state x (record { value = value; counter = 0; owner = owner }) states) limits
    nodes = changed t (after t (op.Create (znode_path x) value false owner)) x (Some (fresh value owner)) states limits (Some (record { value = value; counter = 0; owner = owner })) limits m h at refl (omega arith) (λ y. omega arith)

-- the nodes after one below y that counts
abbrev pub with_counted : Znode → ZnodeState → ZnodeStates → ZnodeStates
with_counted y f states = with_state y (record f { counter = suc f.counter }) states

-- a node below which one more was numbered
abbrev raised_node : Node → Node
raised_node n = record n { counter = suc n.counter }

-- the tree with one more create counted at the parent of p
abbrev counted_tree : TreeView → Names → Node → TreeView
counted_tree t p n = record { nodes = map.insert t.nodes (parent p) (raised_node n); sessions = t.sessions }

-- a new node with the next number below y
pub creates-numbered : (t : TreeView) (states : ZnodeStates) (limits : Limits) → HasZnodes t states limits → (p : Names) (x y : Znode) (f : ZnodeState) → IsZnode x → IsZnode y → (value : List ℕ) (owner : Option ℕ) → MayOwn t owner
    → parent p ≡ znode_path y → states y ≡ Some f → f.owner ≡ None → numbered p f.counter ≡ znode_path x → f.counter < last_counter → states x ≡ None
    → Does t (op.Create p value true owner) (with_state x (record { value = value; counter = 0; owner = owner }) (with_counted y f states)) limits
creates-numbered t states limits m p x y f h k value owner may up there free numbers room none = record { not_refused = fine; nodes = nodes }
  where
    r : Found t y f (limits y)
    r = found t states limits m y k f there

    n : Node
    n = (found t states limits m y k f there).node

    n-counter : (found t states limits m y k f there).node.counter ≡ f.counter
    n-counter = ap (λ (g : ZnodeState). g.counter) (found t states limits m y k f there).state

    made : numbered p (found t states limits m y k f there).node.counter ≡ znode_path x
    made = ap (numbered p) n-counter ∙ numbers

    is-above : node_at t (parent p) ≡ Some (found t states limits m y k f there).node
    is-above = ap (node_at t) up ∙ (found t states limits m y k f there).is

    owner-none : (found t states limits m y k f there).node.owner ≡ None
    owner-none = ap (λ (g : ZnodeState). g.owner) (found t states limits m y k f there).state ∙ free

    absent : node_at t (numbered p (found t states limits m y k f there).node.counter) ≡ None
    absent = ap (node_at t) made ∙ not-found t states limits m x h none

    not-last : nat_eq (found t states limits m y k f there).node.counter last_counter ≡ false
    not-last = let c = n-counter in let l : f.counter < 4294967295 = room in grind (arith, nat_tests)

    parent-fine : parent_cause t p true (Some (found t states limits m y k f there).node) ≡ None
    parent-fine =
        ap (λ (w : Option ℕ). or_else (where_true (is_some w) EphemeralParent) (or_else (where_true (is_some (node_at t (numbered p (found t states limits m y k f there).node.counter))) NodeExists) (where_true (nat_eq (found t states limits m y k f there).node.counter last_counter) Spent))) owner-none
        ∙ ap (λ (w : Option Node). or_else (where_true (is_some w) NodeExists) (where_true (nat_eq (found t states limits m y k f there).node.counter last_counter) Spent)) absent
        ∙ ap (λ (b : Bool). where_true b Spent) not-last

    fine : refusal t (op.Create p value true owner) ≡ None
    fine = ap (λ (w : Option Cause). or_else w (parent_cause t p true (node_at t (parent p)))) (session-fine t owner may)
        ∙ ap (parent_cause t p true) is-above ∙ parent-fine

    counted-state : state_of (raised_node (found t states limits m y k f there).node) ≡ record f { counter = suc f.counter }
    counted-state = ap (λ (g : ZnodeState). record g { counter = suc g.counter }) (found t states limits m y k f there).state

    at-middle : (q : Names) → node_at (counted_tree t p (found t states limits m y k f there).node) q ≡ cond (is_path q (znode_path y)) (Some (raised_node (found t states limits m y k f there).node)) (node_at t q)
    at-middle q = map.get-insert path_total t.nodes (parent p) (raised_node (found t states limits m y k f there).node) q
        ∙ ap (λ (w : Names). cond (is_path q w) (Some (raised_node (found t states limits m y k f there).node)) (node_at t q)) up

    in-middle : HasZnodes (counted_tree t p (found t states limits m y k f there).node) (with_counted y f states) limits
    in-middle = changed t (counted_tree t p (found t states limits m y k f there).node) y (Some (raised_node (found t states limits m y k f there).node)) states limits (Some (record f { counter = suc f.counter })) limits m k at-middle (ap Some counted-state) (found t states limits m y k f there).version (λ z. omega arith)

    at : (q : Names) → node_at (after t (op.Create p value true owner)) q ≡ cond (is_path q (znode_path x)) (Some (fresh value owner)) (node_at (counted_tree t p (found t states limits m y k f there).node) q)
    at q =
        ap (λ (w : Option Node). map.get (nodes_created t.nodes p value true owner w) q) is-above
        ∙ map.get-insert path_total (map.insert t.nodes (parent p) (raised_node (found t states limits m y k f there).node)) (made_path p true (found t states limits m y k f there).node) (fresh value owner) q
        ∙ ap (λ (w : Names). cond (is_path q w) (Some (fresh value owner)) (map.get (map.insert t.nodes (parent p) (raised_node (found t states limits m y k f there).node)) q)) made

    nodes : HasZnodes (after t (op.Create p value true owner)) (with_state x (record { value = value; counter = 0; owner = owner }) (with_counted y f states)) limits
    nodes = changed (counted_tree t p (found t states limits m y k f there).node) (after t (op.Create p value true owner)) x (Some (fresh value owner)) (with_counted y f states) limits (Some (record { value = value; counter = 0; owner = owner })) limits in-middle h at refl (omega arith) (λ z. omega arith)

-- new data
pub sets : (t : TreeView) (states : ZnodeStates) (limits : Limits) → HasZnodes t states limits → (x : Znode) (f : ZnodeState) → IsZnode x → (value : List ℕ) → states x ≡ Some f → limits x < last_version
    → Does t (op.Set (znode_path x) value None) (with_state x (record f { value = value }) states) (raised x limits)
sets t states limits m x f h value there room = record { not_refused = fine; nodes = nodes }
  where
    not-last : nat_eq (found t states limits m x h f there).node.version last_version ≡ false
    not-last = let v = (found t states limits m x h f there).version in let l : limits x < 18446744073709551615 = room in grind (arith, nat_tests)

    fine : refusal t (op.Set (znode_path x) value None) ≡ None
    fine = ap (set_cause None) (found t states limits m x h f there).is ∙ ap (λ (b : Bool). where_true b Spent) not-last

    next : Node
    next = record (found t states limits m x h f there).node { value = value; version = suc (found t states limits m x h f there).node.version }

    at : (q : Names) → node_at (after t (op.Set (znode_path x) value None)) q ≡ cond (is_path q (znode_path x)) (Some (record (found t states limits m x h f there).node { value = value; version = suc (found t states limits m x h f there).node.version })) (node_at t q)
    at q =
        ap (λ (w : Option Node). map.get (nodes_set t.nodes (znode_path x) value w) q) (found t states limits m x h f there).is
        ∙ map.get-insert path_total t.nodes (znode_path x) (record (found t states limits m x h f there).node { value = value; version = suc (found t states limits m x h f there).node.version }) q

    bound : suc (found t states limits m x h f there).node.version ≤ raised x limits x
    bound = let v = (found t states limits m x h f there).version in let q : raised x limits x ≡ suc (limits x) = ap (λ (b : Bool). cond b (suc (limits x)) (limits x)) (znode-itself x) in omega (arith, v, q)

    more : (y : Znode) → limits y ≤ raised x limits y
    more y = go (same_znode y x) refl
      where
        go : (b : Bool) → same_znode y x ≡ b → limits y ≤ cond b (suc (limits x)) (limits y)
        go true e = let q : limits y ≡ limits x = ap limits (same-znode y x e) in omega (arith, q)
        go false e = omega arith

    nodes : HasZnodes (after t (op.Set (znode_path x) value None)) (with_state x (record f { value = value }) states) (raised x limits)
    nodes = changed t (after t (op.Set (znode_path x) value None)) x (Some (record (found t states limits m x h f there).node { value = value; version = suc (found t states limits m x h f there).node.version })) states limits (Some (record f { value = value })) (raised x limits) m h at
        (ap (λ (g : ZnodeState). Some (record g { value = value })) (found t states limits m x h f there).state) bound more

-- a node that is right below another has its path above it
pub child-parent : (p k : Names) → is_child p k ≡ true → p ≡ parent k
child-parent p [] e = absurd (cc)
child-parent p (n ∷ q) e = is_path-is p (parent (n ∷ q)) e

-- a leaf has nothing below it
pub no-child : (t : TreeView) (states : ZnodeStates) (limits : Limits) → HasZnodes t states limits → (x : Znode) → IsZnode x → is_leaf x ≡ true → is_filled (children t (znode_path x)) ≡ false
no-child t states limits m x h leaf = filled-none t.nodes (znode_path x) (λ k i. none k i (node_at t k) refl)
  where
    child-of : (k : Names) → is_child (znode_path x) k ≡ true → IsOfZnode k → ⊥
    child-of k i o = go (above o.znode) refl
      where
        up : znode_path x ≡ parent (znode_path o.znode)
        up = child-parent (znode_path x) k i ∙ ap parent o.is

        go : (y : Option Znode) → above o.znode ≡ y → ⊥
        go None e = not-root x (up ∙ above-path o.znode ∙ ap above_path e)
        go (Some y) e = let q : x ≡ y = znode_path-injective x y h (above-znode o.znode y o.is_znode e) (up ∙ above-path o.znode ∙ ap above_path e) in leaf-below x o.znode leaf (e ∙ ap Some (sym q))

    root-child : (k : Names) → is_child (znode_path x) k ≡ true → k ≡ [] → ⊥
    root-child k i r = let q : is_child (znode_path x) [] ≡ true = subst (λ (w : Names). is_child (znode_path x) w ≡ true) r i in absurd (cc)

    none : (k : Names) → is_child (znode_path x) k ≡ true → (o : Option Node) → node_at t k ≡ o → o ≡ None
    none k i None e = refl
    none k i (Some n) e = elim (m.only k (ap is_some e)) [ inl r ↦ absurd (root-child k i r) | inr o ↦ absurd (child-of k i o) ]

-- a leaf goes
pub deletes : (t : TreeView) (states : ZnodeStates) (limits : Limits) → HasZnodes t states limits → (x : Znode) (f : ZnodeState) → IsZnode x → is_leaf x ≡ true → states x ≡ Some f
    → Does t (op.Delete (znode_path x) None) (without_state x states) limits
deletes t states limits m x f h leaf there = record { not_refused = fine; nodes = nodes }
  where
    fine : refusal t (op.Delete (znode_path x) None) ≡ None
    fine = ap (λ (b : Bool). delete_cause None b (node_at t (znode_path x))) (no-child t states limits m x h leaf)
        ∙ ap (delete_cause None false) (found t states limits m x h f there).is

    at : (q : Names) → node_at (after t (op.Delete (znode_path x) None)) q ≡ cond (is_path q (znode_path x)) None (node_at t q)
    at q = map.get-remove path_total t.nodes (znode_path x) q

    nodes : HasZnodes (after t (op.Delete (znode_path x) None)) (without_state x states) limits
    nodes = changed t (after t (op.Delete (znode_path x) None)) x None states limits None limits m h at refl tt (λ y. omega arith)

-- ---- one after the other

-- nothing to do
pub makes-none : (t : TreeView) (states : ZnodeStates) (limits : Limits) → HasZnodes t states limits → Makes t [] states limits
makes-none t states limits m = record { none_refused = λ i. refl; nodes = m }

-- one op, and then others
pub makes-more : (t : TreeView) (o : Op) (ops : List Op) (states states' : ZnodeStates) (limits limits' : Limits) → Does t o states limits → Makes (after t o) ops states' limits' → Makes t (o ∷ ops) states' limits'
makes-more t o ops states states' limits limits' d k = record {
  none_refused = λ i. ap (λ (c : Option Cause). refused_at i c (first_refusal (after t o) ops (suc i))) d.not_refused ∙ k.none_refused (suc i);
  nodes = k.nodes;
}

-- ---- sessions

-- the end of a session takes its nodes
pub ends : (t : TreeView) (states : ZnodeStates) (limits : Limits) (s : ℕ) → HasZnodes t states limits → HasZnodes (ended t s) (without_held s states) limits
ends t states limits s m = record { root = root; nodes = nodes; versions = versions; only = only }
  where
    at : (q : Names) → node_at (ended t s) q ≡ cond (not (is_owned_by s (node_at t q))) (node_at t q) None
    at q = map.get-retain_keys t.nodes (λ p. not (is_owned_by s (map.get t.nodes p))) q (λ p e. ap (λ (w : Names). not (is_owned_by s (map.get t.nodes w))) (sym (is_path-is q p (ap is_eq e))))

    root : IsRoot (node_at (ended t s) [])
    root = subst IsRoot (sym (at [])) (go (node_at t []) m.root)
      where
        held-none : (o : Option ℕ) → o ≡ None → is_session s o ≡ false
        held-none o e = ap (is_session s) e

        go : (o : Option Node) → IsRoot o → IsRoot (cond (not (is_owned_by s o)) o None)
        go None r = absurd r
        go (Some n) r = subst (λ (b : Bool). IsRoot (cond (not b) (Some n) None)) (sym (held-none n.owner r)) r

    nodes : (x : Znode) → IsZnode x → option_map state_of (node_at (ended t s) (znode_path x)) ≡ without_held s states x
    nodes x h = ap (option_map state_of) (at (znode_path x)) ∙ go (node_at t (znode_path x)) ∙ ap (λ (o : Option ZnodeState). cond (not (is_held_by s o)) o None) (m.nodes x h)
      where
        go : (o : Option Node) → option_map state_of (cond (not (is_owned_by s o)) o None) ≡ cond (not (is_held_by s (option_map state_of o))) (option_map state_of o) None
        go None = refl
        go (Some n) = both (is_session s n.owner)
          where
            both : (b : Bool) → option_map state_of (cond (not b) (Some n) None) ≡ cond (not b) (Some (state_of n)) None
            both true = refl
            both false = refl

    versions : (x : Znode) → IsZnode x → IsWithin (node_at (ended t s) (znode_path x)) (limits x)
    versions x h = subst (λ (o : Option Node). IsWithin o (limits x)) (sym (at (znode_path x))) (go (not (is_owned_by s (node_at t (znode_path x)))))
      where
        go : (b : Bool) → IsWithin (cond b (node_at t (znode_path x)) None) (limits x)
        go true = m.versions x h
        go false = tt

    only : (q : Names) → is_some (node_at (ended t s) q) ≡ true → (q ≡ []) ⊎ IsOfZnode q
    only q e = m.only q (go (not (is_owned_by s (node_at t q))) (ap is_some (sym (at q)) ∙ e))
      where
        go : (b : Bool) → is_some (cond b (node_at t q) None) ≡ true → is_some (node_at t q) ≡ true
        go true h = h
        go false h = absurd (cc)

-- other sessions leave the nodes
pub has_znodes-sessions : (t u : TreeView) (states : ZnodeStates) (limits : Limits) → u.nodes ≡ t.nodes → HasZnodes t states limits → HasZnodes u states limits
has_znodes-sessions t u states limits e m = record {
  root = subst (λ (n : Nodes). IsRoot (map.get n [])) (sym e) m.root;
  nodes = λ x h. ap (λ (n : Nodes). option_map state_of (map.get n (znode_path x))) e ∙ m.nodes x h;
  versions = λ x h. subst (λ (n : Nodes). IsWithin (map.get n (znode_path x)) (limits x)) (sym e) (m.versions x h);
  only = λ q s. m.only q (ap (λ (n : Nodes). is_some (map.get n q)) (sym e) ∙ s);
}
