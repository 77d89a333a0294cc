-- A new table in its tree.
use Rattle.std.proofs.Common.{◌≡◌, ℕ, zero, suc, ◌<◌, ◌≤◌, ◌⊎◌, inl, inr, ◌&&◌, Bool, true, false, cond, List, [], ◌∷◌, refl, sym, ap, subst, arith, ◌∙◌, nat_eq, nat_lt, nat_le, get_or}
use Rattle.std.proofs.lemmas.Bool.Decides.{nat_tests}
use Rattle.std.specs.declared.option.Option.{Option}
use Rattle.std.specs.declared.option.Option.TheVariants.{Some, None}
use Rattle.std.specs.Option.{option_map, option_and_then}
use Rattle.std.specs.Fmt.{decimal}
use Rattle.rmt_entries.specs.declared.entry.Entry.{Entry}
use Rattle.rmt_paths.specs.Paths.{Names}
use Rattle.rmt_tree.specs.Trees.{TreeView}
use Rattle.rmt_tree.specs.Ops.{after}
use Rattle.rmt_tree.specs.declared.op.Op.TheVariants as op
use Rattle.rmt_znodes.specs.declared.znode.Znode.{Znode}
use Rattle.rmt_znodes.specs.declared.znode.Znode.TheVariants.{Log, LogEntry, Blocks, Block, Order, OrderOf, Numbers, Partition, Lock, Mutations, MutationNode, Quorum, Status, LastPart, Replicas, Replica, LogPointer, IsActive}
use Rattle.rmt_znodes.specs.Znodes.{znode_path, IsZnode}
use Rattle.rmt_znodes.specs.ZnodeStates.{ZnodeState, ZnodeStates, above, with_state, Limits, HasZnodes, Makes}
use Rattle.rmt_znodes.specs.ZnodeStates.{state_of, IsWithin}
use Rattle.rmt_znodes.proofs.ZnodeStateLemmas.{znode-itself, Does, creates, makes-none, makes-more, not-root, HasAbove}
use Rattle.rmt_tree.specs.Trees.{Node, node_at}
use Rattle.rmt_table_model.proofs.NodeLemmas.{makes-one}
use Rattle.rmt_values.specs.Rows.{Shape}
use Rattle.rmt_table_model.proofs.DropNodes.{makes-as}
use Rattle.std.specs.Prelude.{replicate, is_some}
use Rattle.std.specs.FinMap as finmap
use Rattle.rmt_paths.specs.PathOrder.{is_path, path_total, path_cmp}
use Rattle.rmt_tree.specs.Trees.{empty_tree, blank}
use Rattle.rmt_znodes.specs.ZnodeStates.{IsOfZnode, IsRoot}
use Rattle.rmt_paths.proofs.OrderLemmas.{is_path-is, is_path-same}
use Rattle.rmt_table_model.specs.Tables.{IsSound}
use Rattle.rmt_table_model.specs.Changes.{new_table}
use Rattle.rmt_table_model.specs.Nodes.{plain, counting, owned, slot, numbered_of, expected, or_zero, version_limits, fixed_ops, replica_ops}

-- a tree with its root alone
at-empty : (q : Names) → node_at empty_tree q ≡ cond (is_path q []) (Some blank) None
at-empty q = finmap.get-insert path_total finmap.empty [] blank q ∙ ap (λ (o : Option Node). cond (is_path q []) (Some blank) o) (finmap.get-empty path_cmp q)

start : HasZnodes empty_tree (λ (x : Znode). None) (λ (x : Znode). 0)
start = record { root = root; nodes = nodes; versions = versions; only = only }
  where
    root : IsRoot (node_at empty_tree [])
    root = subst IsRoot (sym (at-empty [] ∙ ap (λ (b : Bool). cond b (Some blank) None) (is_path-same []))) refl

    off : (x : Znode) → is_path (znode_path x) [] ≡ false
    off x = go (is_path (znode_path x) []) refl
      where
        go : (b : Bool) → is_path (znode_path x) [] ≡ b → b ≡ false
        go true e = absurd (not-root x (is_path-is (znode_path x) [] e))
        go false e = refl

    none : (x : Znode) → node_at empty_tree (znode_path x) ≡ None
    none x = at-empty (znode_path x) ∙ ap (λ (b : Bool). cond b (Some blank) None) (off x)

    nodes : (x : Znode) → IsZnode x → option_map state_of (node_at empty_tree (znode_path x)) ≡ None
    nodes x h = ap (option_map state_of) (none x)

    versions : (x : Znode) → IsZnode x → IsWithin (node_at empty_tree (znode_path x)) 0
    versions x h = subst (λ (o : Option Node). IsWithin o 0) (sym (none x)) tt

    only : (q : Names) → is_some (node_at empty_tree q) ≡ true → (q ≡ []) ⊎ IsOfZnode q
    only q e = go (is_path q []) refl (ap is_some (sym (at-empty q)) ∙ e)
      where
        go : (b : Bool) → is_path q [] ≡ b → is_some (cond b (Some blank) None) ≡ true → (q ≡ []) ⊎ IsOfZnode q
        go true i e = inl (is_path-is q [] i)
        go false i e = absurd (cc)

abbrev none_there : ZnodeStates
none_there x = None

abbrev no_limits : Limits
no_limits x = 0

abbrev states1 : ZnodeStates
states1 = with_state Log (plain []) none_there

abbrev states2 : ZnodeStates
states2 = with_state Blocks (plain []) states1

abbrev states3 : ZnodeStates
states3 = with_state Order (plain []) states2

abbrev states4 : ZnodeStates
states4 = with_state Numbers (plain []) states3

abbrev states5 : ZnodeStates
states5 = with_state Mutations (plain []) states4

abbrev states6 : ZnodeStates
states6 = with_state Quorum (plain []) states5

abbrev states7 : ZnodeStates
states7 = with_state Replicas (plain []) states6

-- a top node is made
top : (t : TreeView) (states : ZnodeStates) → HasZnodes t states no_limits → (x : Znode) → IsZnode x → above x ≡ None → states x ≡ None → Does t (op.Create (znode_path x) [] false None) (with_state x (plain []) states) no_limits
top t states m x s a none = creates t states no_limits m x s [] None tt (subst (HasAbove states) (sym a) tt) none

fixed : Makes empty_tree fixed_ops states7 no_limits
fixed =
    let d1 = top (empty_tree) none_there start Log tt refl refl in
    let d2 = top (after (empty_tree) (op.Create (znode_path Log) [] false None)) states1 (Does.nodes d1) Blocks tt refl refl in
    let d3 = top (after (after (empty_tree) (op.Create (znode_path Log) [] false None)) (op.Create (znode_path Blocks) [] false None)) states2 (Does.nodes d2) Order tt refl refl in
    let d4 = top (after (after (after (empty_tree) (op.Create (znode_path Log) [] false None)) (op.Create (znode_path Blocks) [] false None)) (op.Create (znode_path Order) [] false None)) states3 (Does.nodes d3) Numbers tt refl refl in
    let d5 = top (after (after (after (after (empty_tree) (op.Create (znode_path Log) [] false None)) (op.Create (znode_path Blocks) [] false None)) (op.Create (znode_path Order) [] false None)) (op.Create (znode_path Numbers) [] false None)) states4 (Does.nodes d4) Mutations tt refl refl in
    let d6 = top (after (after (after (after (after (empty_tree) (op.Create (znode_path Log) [] false None)) (op.Create (znode_path Blocks) [] false None)) (op.Create (znode_path Order) [] false None)) (op.Create (znode_path Numbers) [] false None)) (op.Create (znode_path Mutations) [] false None)) states5 (Does.nodes d5) Quorum tt refl refl in
    let d7 = top (after (after (after (after (after (after (empty_tree) (op.Create (znode_path Log) [] false None)) (op.Create (znode_path Blocks) [] false None)) (op.Create (znode_path Order) [] false None)) (op.Create (znode_path Numbers) [] false None)) (op.Create (znode_path Mutations) [] false None)) (op.Create (znode_path Quorum) [] false None)) states6 (Does.nodes d6) Replicas tt refl refl in
    makes-more (empty_tree) (op.Create (znode_path Log) [] false None) (op.Create (znode_path Blocks) [] false None ∷ op.Create (znode_path Order) [] false None ∷ op.Create (znode_path Numbers) [] false None ∷ op.Create (znode_path Mutations) [] false None ∷ op.Create (znode_path Quorum) [] false None ∷ op.Create (znode_path Replicas) [] false None ∷ []) states1 states7 no_limits no_limits d1 (makes-more (after (empty_tree) (op.Create (znode_path Log) [] false None)) (op.Create (znode_path Blocks) [] false None) (op.Create (znode_path Order) [] false None ∷ op.Create (znode_path Numbers) [] false None ∷ op.Create (znode_path Mutations) [] false None ∷ op.Create (znode_path Quorum) [] false None ∷ op.Create (znode_path Replicas) [] false None ∷ []) states2 states7 no_limits no_limits d2 (makes-more (after (after (empty_tree) (op.Create (znode_path Log) [] false None)) (op.Create (znode_path Blocks) [] false None)) (op.Create (znode_path Order) [] false None) (op.Create (znode_path Numbers) [] false None ∷ op.Create (znode_path Mutations) [] false None ∷ op.Create (znode_path Quorum) [] false None ∷ op.Create (znode_path Replicas) [] false None ∷ []) states3 states7 no_limits no_limits d3 (makes-more (after (after (after (empty_tree) (op.Create (znode_path Log) [] false None)) (op.Create (znode_path Blocks) [] false None)) (op.Create (znode_path Order) [] false None)) (op.Create (znode_path Numbers) [] false None) (op.Create (znode_path Mutations) [] false None ∷ op.Create (znode_path Quorum) [] false None ∷ op.Create (znode_path Replicas) [] false None ∷ []) states4 states7 no_limits no_limits d4 (makes-more (after (after (after (after (empty_tree) (op.Create (znode_path Log) [] false None)) (op.Create (znode_path Blocks) [] false None)) (op.Create (znode_path Order) [] false None)) (op.Create (znode_path Numbers) [] false None)) (op.Create (znode_path Mutations) [] false None) (op.Create (znode_path Quorum) [] false None ∷ op.Create (znode_path Replicas) [] false None ∷ []) states5 states7 no_limits no_limits d5 (makes-more (after (after (after (after (after (empty_tree) (op.Create (znode_path Log) [] false None)) (op.Create (znode_path Blocks) [] false None)) (op.Create (znode_path Order) [] false None)) (op.Create (znode_path Numbers) [] false None)) (op.Create (znode_path Mutations) [] false None)) (op.Create (znode_path Quorum) [] false None) (op.Create (znode_path Replicas) [] false None ∷ []) states6 states7 no_limits no_limits d6 (makes-more (after (after (after (after (after (after (empty_tree) (op.Create (znode_path Log) [] false None)) (op.Create (znode_path Blocks) [] false None)) (op.Create (znode_path Order) [] false None)) (op.Create (znode_path Numbers) [] false None)) (op.Create (znode_path Mutations) [] false None)) (op.Create (znode_path Quorum) [] false None)) (op.Create (znode_path Replicas) [] false None) ([]) states7 states7 no_limits no_limits d7 (makes-none (after (after (after (after (after (after (after (empty_tree) (op.Create (znode_path Log) [] false None)) (op.Create (znode_path Blocks) [] false None)) (op.Create (znode_path Order) [] false None)) (op.Create (znode_path Numbers) [] false None)) (op.Create (znode_path Mutations) [] false None)) (op.Create (znode_path Quorum) [] false None)) (op.Create (znode_path Replicas) [] false None)) states7 no_limits (Does.nodes d7))))))))

least : (n : ℕ) → 0 ≤ n
least n = omega arith

pub fixed-makes : (bytes : Entry → List ℕ) (schema : Shape) → Makes empty_tree fixed_ops (expected bytes (new_table schema 0)) (version_limits (new_table schema 0))
fixed-makes bytes schema = makes-as empty_tree fixed_ops states7 (expected bytes (new_table schema 0)) no_limits (version_limits (new_table schema 0)) fixed each (λ y h. inl (least (version_limits (new_table schema 0) y)))
  where
    order : (w : ℕ) → Some (plain []) ≡ Some (counting (numbered_of w 0))
    order zero = refl
    order (suc w) = refl

    slots : {A : Type 0} (f : A → Option ZnodeState) (r : ℕ) → None ≡ option_and_then f (slot [] r)
    slots f zero = refl
    slots f (suc r) = refl

    maps : {A : Type 0} (f : A → ZnodeState) (r : ℕ) → None ≡ option_map f (slot [] r)
    maps f zero = refl
    maps f (suc r) = refl

    each : (y : Znode) → IsZnode y → states7 y ≡ expected bytes (new_table schema 0) y
    each Log h = refl
    each (LogEntry i) h = refl
    each Blocks h = refl
    each (Block q d) h = refl
    each Order h = order schema.window
    each (OrderOf i) h = refl
    each Numbers h = refl
    each (Partition q) h = refl
    each (Lock q k) h = refl
    each Mutations h = refl
    each (MutationNode i) h = refl
    each Quorum h = refl
    each Status h = refl
    each LastPart h = refl
    each Replicas h = refl
    each (Replica r) h = maps (λ s. plain []) r
    each (LogPointer r) h = maps (λ m. plain (decimal m)) r
    each (IsActive r) h = slots (λ s. option_map owned s) r

-- ---- one replica more

abbrev none_in : (A : Type 0) → Option A
none_in A = None

slot-replicate : {A : Type 0} (k : ℕ) (a : A) (r : ℕ) → slot (replicate k a) r ≡ cond (nat_lt 0 r && nat_le r k) (Some a) None
slot-replicate k a zero = refl
slot-replicate zero a (suc r) = ap (λ (b : Bool). cond b (Some a) None) (let w : false ≡ (nat_lt 0 (suc r) && nat_le (suc r) 0) = grind (arith, nat_tests) in w)
slot-replicate (suc k) a (suc zero) = ap (λ (b : Bool). cond b (Some a) None) (let w : true ≡ (nat_lt 0 1 && nat_le 1 (suc k)) = grind (arith, nat_tests) in w)
slot-replicate (suc k) a (suc (suc r)) = slot-replicate k a (suc r) ∙ ap (λ (b : Bool). cond b (Some a) None) (let w : (nat_lt 0 (suc r) && nat_le (suc r) k) ≡ (nat_lt 0 (suc (suc r)) && nat_le (suc (suc r)) (suc k)) = grind (arith, nat_tests) in w)

slot-more : {A : Type 0} (k : ℕ) (a : A) (r : ℕ) → slot (replicate (suc k) a) r ≡ cond (nat_eq r (suc k)) (Some a) (slot (replicate k a) r)
slot-more {A = A} k a r = slot-replicate (suc k) a r ∙ go (nat_eq r (suc k)) refl (nat_lt 0 r && nat_le r (suc k)) refl (nat_lt 0 r && nat_le r k) refl ∙ ap (λ (o : Option A). cond (nat_eq r (suc k)) (Some a) o) (sym (slot-replicate k a r))
  where
    go : (e : Bool) → nat_eq r (suc k) ≡ e → (b : Bool) → (nat_lt 0 r && nat_le r (suc k)) ≡ b → (c : Bool) → (nat_lt 0 r && nat_le r k) ≡ c → cond b (Some a) None ≡ cond e (Some a) (cond c (Some a) None)
    go true i true j c l = refl
    go true i false j c l = absurd (grind (arith, nat_tests))
    go false i true j true l = refl
    go false i true j false l = absurd (grind (arith, nat_tests))
    go false i false j true l = absurd (grind (arith, nat_tests))
    go false i false j false l = refl

-- the nodes of one more replica
pub replica-makes : (bytes : Entry → List ℕ) (schema : Shape) (t : TreeView) (k : ℕ) → k < 4294967295 → HasZnodes t (expected bytes (new_table schema k)) (version_limits (new_table schema k))
    → Makes t (replica_ops k) (expected bytes (new_table schema (suc k))) (version_limits (new_table schema (suc k)))
replica-makes bytes schema t k small m =
    makes-as t (replica_ops k) (with_state (LogPointer (suc k)) (plain (decimal 0)) (with_state (Replica (suc k)) (plain []) (expected bytes (new_table schema k)))) (expected bytes (new_table schema (suc k))) (version_limits (new_table schema k)) (version_limits (new_table schema (suc k)))
    (makes-more t (op.Create (znode_path (Replica (suc k))) [] false None) (op.Create (znode_path (LogPointer (suc k))) (decimal 0) false None ∷ []) (with_state (Replica (suc k)) (plain []) (expected bytes (new_table schema k))) (with_state (LogPointer (suc k)) (plain (decimal 0)) (with_state (Replica (suc k)) (plain []) (expected bytes (new_table schema k)))) (version_limits (new_table schema k)) (version_limits (new_table schema k))
    first
    (makes-one (after t (op.Create (znode_path (Replica (suc k))) [] false None)) (op.Create (znode_path (LogPointer (suc k))) (decimal 0) false None) (with_state (LogPointer (suc k)) (plain (decimal 0)) (with_state (Replica (suc k)) (plain []) (expected bytes (new_table schema k)))) (version_limits (new_table schema k))
    (creates (after t (op.Create (znode_path (Replica (suc k))) [] false None)) (with_state (Replica (suc k)) (plain []) (expected bytes (new_table schema k))) (version_limits (new_table schema k)) (Does.nodes first) (LogPointer (suc k)) (omega (arith, small)) (decimal 0) None tt
    (omega (arith, small), (plain [], ap (λ (b : Bool). cond b (Some (plain [])) (option_map (λ s. plain []) (slot (replicate k (none_in ℕ)) (suc k)))) (znode-itself (Replica (suc k))), refl)) (ap (option_map (λ m. plain (decimal m))) (past 0)))))
    each bound
  where
    past : {A : Type 0} (a : A) → slot (replicate k a) (suc k) ≡ None
    past a = slot-replicate k a (suc k) ∙ ap (λ (b : Bool). cond b (Some a) None) (let w : (nat_lt 0 (suc k) && nat_le (suc k) k) ≡ false = grind (arith, nat_tests) in w)

    first : Does t (op.Create (znode_path (Replica (suc k))) [] false None) (with_state (Replica (suc k)) (plain []) (expected bytes (new_table schema k))) (version_limits (new_table schema k))
    first = creates t (expected bytes (new_table schema k)) (version_limits (new_table schema k)) m (Replica (suc k)) (omega (arith, small)) [] None tt (tt, (plain [], refl, refl)) (ap (option_map (λ s. plain [])) (past None))

    replica : (r : ℕ) → cond (nat_eq r (suc k)) (Some (plain [])) (option_map (λ s. plain []) (slot (replicate k (none_in ℕ)) r)) ≡ option_map (λ s. plain []) (slot (replicate (suc k) (none_in ℕ)) r)
    replica r = sym (ap (option_map (λ s. plain [])) (slot-more k (none_in ℕ) r) ∙ go (nat_eq r (suc k)))
      where
        go : (b : Bool) → option_map (λ (s : Option ℕ). plain []) (cond b (Some None) (slot (replicate k (none_in ℕ)) r)) ≡ cond b (Some (plain [])) (option_map (λ s. plain []) (slot (replicate k (none_in ℕ)) r))
        go true = refl
        go false = refl

    pointer : (r : ℕ) → cond (nat_eq r (suc k)) (Some (plain (decimal 0))) (option_map (λ m. plain (decimal m)) (slot (replicate k 0) r)) ≡ option_map (λ m. plain (decimal m)) (slot (replicate (suc k) 0) r)
    pointer r = sym (ap (option_map (λ m. plain (decimal m))) (slot-more k 0 r) ∙ go (nat_eq r (suc k)))
      where
        go : (b : Bool) → option_map (λ m. plain (decimal m)) (cond b (Some 0) (slot (replicate k 0) r)) ≡ cond b (Some (plain (decimal 0))) (option_map (λ m. plain (decimal m)) (slot (replicate k 0) r))
        go true = refl
        go false = refl

    active : (r : ℕ) → option_and_then (λ s. option_map owned s) (slot (replicate k (none_in ℕ)) r) ≡ option_and_then (λ s. option_map owned s) (slot (replicate (suc k) (none_in ℕ)) r)
    active r = ap (option_and_then (λ s. option_map owned s)) (slot-replicate k (none_in ℕ) r) ∙ go (nat_lt 0 r && nat_le r k) (nat_lt 0 r && nat_le r (suc k)) ∙ sym (ap (option_and_then (λ s. option_map owned s)) (slot-replicate (suc k) (none_in ℕ) r))
      where
        go : (b c : Bool) → option_and_then (λ (s : Option ℕ). option_map owned s) (cond b (Some None) None) ≡ option_and_then (λ s. option_map owned s) (cond c (Some None) None)
        go true true = refl
        go true false = refl
        go false true = refl
        go false false = refl

    each : (y : Znode) → IsZnode y → with_state (LogPointer (suc k)) (plain (decimal 0)) (with_state (Replica (suc k)) (plain []) (expected bytes (new_table schema k))) y ≡ expected bytes (new_table schema (suc k)) y
    each Log h = refl
    each (LogEntry i) h = refl
    each Blocks h = refl
    each (Block q d) h = refl
    each Order h = refl
    each (OrderOf i) h = refl
    each Numbers h = refl
    each (Partition q) h = refl
    each (Lock q j) h = refl
    each Mutations h = refl
    each (MutationNode i) h = refl
    each Quorum h = refl
    each Status h = refl
    each LastPart h = refl
    each Replicas h = refl
    each (Replica r) h = replica r
    each (LogPointer r) h = pointer r
    each (IsActive r) h = active r

    zero_of : (j r : ℕ) → or_zero (slot (replicate j 0) r) ≡ 0
    zero_of j r = ap or_zero (slot-replicate j 0 r) ∙ go (nat_lt 0 r && nat_le r j)
      where
        go : (b : Bool) → or_zero (cond b (Some 0) None) ≡ 0
        go true = refl
        go false = refl

    bound : (y : Znode) → IsZnode y → (version_limits (new_table schema k) y ≤ version_limits (new_table schema (suc k)) y) ⊎ (with_state (LogPointer (suc k)) (plain (decimal 0)) (with_state (Replica (suc k)) (plain []) (expected bytes (new_table schema k))) y ≡ None)
    bound Log h = inl (omega arith)
    bound (LogEntry i) h = inl (omega arith)
    bound Blocks h = inl (omega arith)
    bound (Block q d) h = inl (omega arith)
    bound Order h = inl (omega arith)
    bound (OrderOf i) h = inl (omega arith)
    bound Numbers h = inl (omega arith)
    bound (Partition q) h = inl (omega arith)
    bound (Lock q j) h = inl (omega arith)
    bound Mutations h = inl (omega arith)
    bound (MutationNode i) h = inl (omega arith)
    bound Quorum h = inl (omega arith)
    bound Status h = inl (omega arith)
    bound LastPart h = inl (omega arith)
    bound Replicas h = inl (omega arith)
    bound (Replica r) h = inl (omega arith)
    bound (LogPointer r) h = inl (let a = zero_of k r in let b = zero_of (suc k) r in omega (arith, a, b))
    bound (IsActive r) h = inl (omega arith)

-- ---- it is sound

pub sound-new : (schema : Shape) (count : ℕ) → IsSound (new_table schema count)
sound-new schema count = record {
  lawful = tt;
  nexts = record { rising = tt; begun = λ p m h. absurd h };
  given = λ p n h. elim h [ inl u ↦ absurd u | inr l ↦ let q = l.1 in absurd (cc) ];
  free = λ p n l. let q = l.1 in absurd (cc);
  held = λ p n s e. absurd (cc);
  own = λ r t s i j. let w : ◌≡◌ {A = Option ℕ} None (Some s) = sym (none count r) ∙ i in absurd (cc);
  pulled = λ r. let z = zeros count r in omega (arith, z);
  quorum = record { others = []; pending = refl; last = tt; newest = tt };
  kept = record { differ = tt; below = tt; ids = tt };
  partitions = λ p m h. absurd h;
  within = record {
    partitions = omega arith;
    numbers = λ p m h. absurd h;
    mutations = omega arith;
    client_entries = omega arith;
    worker_entries = omega arith;
    values = omega arith;
  };
}
  where
    none : (k r : ℕ) → get_or (replicate k (none_in ℕ)) r None ≡ None
    none zero r = refl
    none (suc k) zero = refl
    none (suc k) (suc r) = none k r

    zeros : (k r : ℕ) → ◌≡◌ {A = ℕ} (get_or (replicate k 0) r 0) 0
    zeros zero r = refl
    zeros (suc k) zero = refl
    zeros (suc k) (suc r) = zeros k r
