-- What a drop makes of the nodes.
use Rattle.std.proofs.Common.{◌≡◌, ◌≢◌, ℕ, suc, ◌-◌, ◌<◌, ◌≤◌, ◌⊎◌, inl, inr, ◌&&◌, Bool, true, false, cond, List, [], ◌∷◌, ◌++◌, length, refl, sym, ap, subst, arith, ◌∙◌, nat_eq, nat_lt}
use Rattle.std.proofs.lemmas.Bool.Decides.{nat_tests}
use Rattle.std.specs.declared.option.Option.{Option}
use Rattle.std.specs.declared.option.Option.TheVariants.{Some, None}
use Rattle.std.specs.Option.{option_map}
use Rattle.rmt_znodes.specs.Znodes.{entry_path, lock_path}
use Rattle.rmt_model.specs.BlockNumbers.{next_number}
use Rattle.rmt_names.specs.Names.{Name, rank}
use Rattle.rmt_names.specs.Texts.{text_of}
use Rattle.rmt_entries.specs.declared.entry.Entry.{Entry}
use Rattle.rmt_entries.specs.declared.entry.Entry.TheVariants.{DropRange}
use Rattle.rmt_model.specs.Words.{Has, Each, Pairwise}
use Rattle.rmt_model.proofs.Lists.{rank-injective, Each-at}
use Rattle.rmt_tree.specs.Trees.{TreeView}
use Rattle.rmt_tree.specs.Ops.{after, after_all}
use Rattle.rmt_tree.specs.declared.op.Op.{Op}
use Rattle.rmt_tree.specs.declared.op.Op.TheVariants as op
use Rattle.rmt_znodes.specs.declared.znode.Znode.{Znode}
use Rattle.rmt_znodes.specs.declared.znode.Znode.TheVariants.{Log, LogEntry, Blocks, Block, Order, OrderOf, Numbers, Partition, Lock, Mutations, MutationNode, Quorum, Status, LastPart, Replicas, Replica, LogPointer, IsActive}
use Rattle.rmt_znodes.specs.Znodes.{znode_path, IsZnode, IsPartition}
use Rattle.rmt_znodes.specs.ZnodeStates.{ZnodeStates, same_znode, with_state, without_state, Limits, HasZnodes, Makes}
use Rattle.rmt_table_model.specs.Numbers.{Holders, IsLocked, next_of, taken, unlocked, unlocked_below}
use Rattle.rmt_model.specs.Quorum.{QuorumBlock, Pending, quorum_blocks}
use Rattle.rmt_table_model.specs.Tables.{TableView, IsSound}
use Rattle.rmt_table_model.specs.Changes.{after_drop, MayDrop}
use Rattle.rmt_table_model.proofs.NumberLemmas.{number-is, next-has}
use Rattle.std.specs.List.{filter}
use Rattle.rmt_table_model.specs.Kept.{outlives, in_order, get_count, AreKept}
use Rattle.std.specs.Prelude.{◌||◌}
use Rattle.rmt_znodes.specs.ZnodeStates.{IsWithin}
use Rattle.rmt_znodes.proofs.ZnodeStateLemmas.{same-znode, znode-itself, has_znodes-as, Does, with_counted, creates-numbered, deletes, makes-none, makes-more, not-found}
use Rattle.rmt_tree.specs.Trees.{Node, node_at}
use Rattle.rmt_model.proofs.Lists.{Each-all}
use Rattle.rmt_model.specs.Quorum.{is_dropped_by, pending_after_drop, last_after_drop}
use Rattle.rmt_table_model.specs.Nodes.{plain, counting, owned, status_text, numbered_of, order_count, expected, noted_count, met_count, version_limits, IsTreeOf, forget_ops, number_ops, unlock_ops, pending_drop_ops, last_drop_ops, drop_ops, lock_states, AreLocks}
use Rattle.rmt_table_model.proofs.NodeLemmas.{does-as, makes-one, next-taken, not-locked}
use Rattle.rmt_table_model.proofs.StepNodes.{unlocks, appends, appended, no-entry}
use Rattle.rmt_table_model.proofs.KeptLemmas.{gets-next}
use Rattle.rmt_table_model.proofs.KeptNodes.{kept_states, makes-append, forgets}

-- the nodes with this pending part in place of their own
abbrev status_states : Option Pending → ZnodeStates → ZnodeStates
status_states pending states Status = option_map (λ q. plain (status_text q)) pending
status_states pending states y = states y

-- the nodes with this last part in place of their own
abbrev last_states : Option Name → ZnodeStates → ZnodeStates
last_states last states LastPart = option_map (λ a. plain (text_of a)) last
last_states last states y = states y

-- the nodes and the bounds by other words; where no node is, no bound is needed
pub has_znodes-bound : (t : TreeView) (states states' : ZnodeStates) (limits limits' : Limits) → HasZnodes t states limits → ((y : Znode) → IsZnode y → states y ≡ states' y) → ((y : Znode) → IsZnode y → (limits y ≤ limits' y) ⊎ (states y ≡ None)) → HasZnodes t states' limits'
has_znodes-bound t states states' limits limits' m f l = record {
  root = m.root;
  nodes = λ y k. m.nodes y k ∙ f y k;
  versions = λ y k. elim (l y k) [ inl w ↦ weaker (node_at t (znode_path y)) (limits y) (limits' y) w (m.versions y k) | inr e ↦ subst (λ (o : Option Node). IsWithin o (limits' y)) (sym (not-found t states limits m y k e)) tt ];
  only = m.only;
}
  where
    weaker : (o : Option Node) (a b : ℕ) → a ≤ b → IsWithin o a → IsWithin o b
    weaker None a b l w = tt
    weaker (Some n) a b l w = omega (arith, l, w)

pub makes-as : (t : TreeView) (ops : List Op) (states states' : ZnodeStates) (limits limits' : Limits) → Makes t ops states limits → ((y : Znode) → IsZnode y → states y ≡ states' y) → ((y : Znode) → IsZnode y → (limits y ≤ limits' y) ⊎ (states y ≡ None)) → Makes t ops states' limits'
makes-as t ops states states' limits limits' m f l = record { none_refused = m.none_refused; nodes = has_znodes-bound (after_all t ops) states states' limits limits' m.nodes f l }

-- a number is taken, and no lock is left
pub numbers : (t : TreeView) (states : ZnodeStates) (limits : Limits) (p : Option ℕ) (n : ℕ) → HasZnodes t states limits → IsPartition p → n < 4294967295 → states (Partition p) ≡ Some (counting n) → states (Lock p n) ≡ None
    → Makes t (number_ops p n) (with_counted (Partition p) (counting n) states) limits
numbers t states limits p n m part small there none =
    makes-more t (op.Create (lock_path p) [] true None) (op.Delete (znode_path (Lock p n)) None ∷ []) (with_state (Lock p n) (plain []) (with_counted (Partition p) (counting n) states)) (with_counted (Partition p) (counting n) states) limits limits first
    (makes-one (after t (op.Create (lock_path p) [] true None)) (op.Delete (znode_path (Lock p n)) None) (with_counted (Partition p) (counting n) states) limits
    (does-as (after t (op.Create (lock_path p) [] true None)) (op.Delete (znode_path (Lock p n)) None) (without_state (Lock p n) (with_state (Lock p n) (plain []) (with_counted (Partition p) (counting n) states))) (with_counted (Partition p) (counting n) states) limits limits
    (deletes (after t (op.Create (lock_path p) [] true None)) (with_state (Lock p n) (plain []) (with_counted (Partition p) (counting n) states)) limits (Does.nodes first) (Lock p n) (plain []) (part, omega (arith, small)) refl (ap (λ (b : Bool). cond b (Some (plain [])) (states (Lock p n))) (znode-itself (Lock p n))))
    each (λ y h. omega arith)))
  where
    first : Does t (op.Create (lock_path p) [] true None) (with_state (Lock p n) (plain []) (with_counted (Partition p) (counting n) states)) limits
    first = creates-numbered t states limits m (lock_path p) (Lock p n) (Partition p) (counting n) (part, omega (arith, small)) part [] None tt refl there refl refl small none

    each : (y : Znode) → IsZnode y → without_state (Lock p n) (with_state (Lock p n) (plain []) (with_counted (Partition p) (counting n) states)) y ≡ with_counted (Partition p) (counting n) states y
    each y h = go (same_znode y (Lock p n)) refl
      where
        go : (b : Bool) → same_znode y (Lock p n) ≡ b → cond b None (cond b (Some (plain [])) (with_counted (Partition p) (counting n) states y)) ≡ with_counted (Partition p) (counting n) states y
        go true e = sym (ap (with_counted (Partition p) (counting n) states) (same-znode y (Lock p n) e) ∙ none)
        go false e = refl

-- ---- locks

among : ℕ → List ℕ → Bool
among k [] = false
among k (m ∷ ms) = nat_eq k m || among k ms

has-among : (ms : List ℕ) (k : ℕ) → Has ms k → among k ms ≡ true
unfolding among
has-among [] k h = absurd h
has-among (m ∷ ms) k (inl e) = ap (λ (b : Bool). b || among k ms) (let w : m ≡ k = e in let v : nat_eq k m ≡ true = grind (arith, nat_tests) in v)
has-among (m ∷ ms) k (inr h) = go (nat_eq k m) (has-among ms k h)
  where
    go : (b : Bool) → among k ms ≡ true → (b || among k ms) ≡ true
    go true e = refl
    go false e = e

among-has : (ms : List ℕ) (k : ℕ) → among k ms ≡ true → Has ms k
unfolding among
among-has [] k e = absurd (cc)
among-has (m ∷ ms) k e = go (nat_eq k m) refl e (among-has ms k)
  where
    go : (b : Bool) → nat_eq k m ≡ b → (b || among k ms) ≡ true → (among k ms ≡ true → Has ms k) → Has (m ∷ ms) k
    go true i e f = inl (grind (arith, nat_tests))
    go false i e f = inr (f e)

-- the locks without several
without : Holders → Option ℕ → List ℕ → Holders
without h p [] = h
without h p (m ∷ ms) = without (unlocked h p m) p ms

-- each of these is locked once those before it are gone
Locked : Holders → Option ℕ → List ℕ → Type 0
Locked h p [] = Unit {0}
Locked h p (m ∷ ms) = IsLocked h p m × (m < 4294967296) × Locked (unlocked h p m) p ms

unlocked-other : (h : Holders) (p : Option ℕ) (m k : ℕ) → m ≢ k → unlocked h p m p k ≡ h p k
unlocked-other h p m k other = ap (λ (b : Bool). cond b None (h p k)) (let w : (nat_eq (rank p) (rank p) && nat_eq k m) ≡ false = grind (arith, nat_tests) in w)

locked-each : (h : Holders) (p : Option ℕ) (ms : List ℕ) → Pairwise ◌≢◌ ms → Each (λ m. (m < 4294967296) × IsLocked h p m) ms → Locked h p ms
unfolding Locked
locked-each h p [] once each = tt
locked-each h p (m ∷ ms) once each = (
  each.0.1,
  each.0.0,
  locked-each (unlocked h p m) p ms once.1
      (Each-all (λ k. (k < 4294967296) × IsLocked (unlocked h p m) p k) ms (λ k i.
      let w = Each-at (λ j. (j < 4294967296) × IsLocked h p j) ms k each.1 i in
      let o = Each-at (λ j. m ≢ j) ms k once.0 i in
      (w.0, (w.1.0, unlocked-other h p m k o ∙ w.1.1)))),
)

without-is : (h : Holders) (p : Option ℕ) (ms : List ℕ) (q : Option ℕ) (k : ℕ) → without h p ms q k ≡ cond (nat_eq (rank q) (rank p) && among k ms) None (h q k)
unfolding without among
without-is h p [] q k = go (nat_eq (rank q) (rank p))
  where
    go : (b : Bool) → h q k ≡ cond (b && false) None (h q k)
    go true = refl
    go false = refl
without-is h p (m ∷ ms) q k = without-is (unlocked h p m) p ms q k ∙ go (nat_eq (rank q) (rank p)) (nat_eq k m) (among k ms)
  where
    go : (a b c : Bool) → cond (a && c) None (cond (a && b) None (h q k)) ≡ cond (a && (b || c)) None (h q k)
    go true true true = refl
    go true true false = refl
    go true false true = refl
    go true false false = refl
    go false b c = refl

unlocks-all : (t : TreeView) (p : Option ℕ) (ms : List ℕ) (h : Holders) (states : ZnodeStates) (limits : Limits) → HasZnodes t (lock_states h states) limits → IsPartition p → Locked h p ms → Makes t (unlock_ops p ms) (lock_states (without h p ms) states) limits
unfolding Locked without
unlocks-all t p [] h states limits m part l = makes-none t (lock_states h states) limits m
unlocks-all t p (k ∷ ms) h states limits m part l =
    makes-more t (op.Delete (znode_path (Lock p k)) None) (unlock_ops p ms) (lock_states (unlocked h p k) states) (lock_states (without (unlocked h p k) p ms) states) limits limits first
    (unlocks-all (after t (op.Delete (znode_path (Lock p k)) None)) p ms (unlocked h p k) states limits (Does.nodes first) part l.2)
  where
    each : (y : Znode) → IsZnode y → without_state (Lock p k) (lock_states h states) y ≡ lock_states (unlocked h p k) states y
    each Log i = refl
    each (LogEntry j) i = refl
    each Blocks i = refl
    each (Block q d) i = refl
    each Order i = refl
    each (OrderOf j) i = refl
    each Numbers i = refl
    each (Partition q) i = refl
    each (Lock q j) i = unlocks h p k q j
    each Mutations i = refl
    each (MutationNode j) i = refl
    each Quorum i = refl
    each Status i = refl
    each LastPart i = refl
    each Replicas i = refl
    each (Replica r) i = refl
    each (LogPointer r) i = refl
    each (IsActive r) i = refl

    first : Does t (op.Delete (znode_path (Lock p k)) None) (lock_states (unlocked h p k) states) limits
    first = does-as t (op.Delete (znode_path (Lock p k)) None) (without_state (Lock p k) (lock_states h states)) (lock_states (unlocked h p k) states) limits limits
        (deletes t (lock_states h states) limits m (Lock p k) (owned l.0.0) (part, l.1) refl (ap (option_map owned) l.0.1)) each (λ y i. omega arith)

-- ---- the quorum

pending-drops : (t : TreeView) (p : Option ℕ) (n : ℕ) (pending : Option Pending) (states : ZnodeStates) (limits : Limits) → HasZnodes t (status_states pending states) limits → Makes t (pending_drop_ops p n pending) (status_states (pending_after_drop p n pending) states) limits
pending-drops t p n None states limits m = makes-none t (status_states None states) limits m
pending-drops t p n (Some q) states limits m = go (is_dropped_by p n q.part)
  where
    each : (y : Znode) → IsZnode y → without_state Status (status_states (Some q) states) y ≡ status_states None states y
    each Log h = refl
    each (LogEntry i) h = refl
    each Blocks h = refl
    each (Block r d) h = refl
    each Order h = refl
    each (OrderOf i) h = refl
    each Numbers h = refl
    each (Partition r) h = refl
    each (Lock r k) h = refl
    each Mutations h = refl
    each (MutationNode i) h = refl
    each Quorum h = refl
    each Status h = refl
    each LastPart h = refl
    each Replicas h = refl
    each (Replica r) h = refl
    each (LogPointer r) h = refl
    each (IsActive r) h = refl

    go : (b : Bool) → Makes t (cond b (op.Delete (znode_path Status) None ∷ []) []) (status_states (cond b None (Some q)) states) limits
    go true = makes-one t (op.Delete (znode_path Status) None) (status_states None states) limits
        (does-as t (op.Delete (znode_path Status) None) (without_state Status (status_states (Some q) states)) (status_states None states) limits limits (deletes t (status_states (Some q) states) limits m Status (plain (status_text q)) tt refl refl) each (λ y h. omega arith))
    go false = makes-none t (status_states (Some q) states) limits m

last-drops : (t : TreeView) (p : Option ℕ) (n : ℕ) (last : Option Name) (states : ZnodeStates) (limits : Limits) → HasZnodes t (last_states last states) limits → Makes t (last_drop_ops p n last) (last_states (last_after_drop p n last) states) limits
last-drops t p n None states limits m = makes-none t (last_states None states) limits m
last-drops t p n (Some a) states limits m = go (is_dropped_by p n a)
  where
    each : (y : Znode) → IsZnode y → without_state LastPart (last_states (Some a) states) y ≡ last_states None states y
    each Log h = refl
    each (LogEntry i) h = refl
    each Blocks h = refl
    each (Block q d) h = refl
    each Order h = refl
    each (OrderOf i) h = refl
    each Numbers h = refl
    each (Partition q) h = refl
    each (Lock q k) h = refl
    each Mutations h = refl
    each (MutationNode i) h = refl
    each Quorum h = refl
    each Status h = refl
    each LastPart h = refl
    each Replicas h = refl
    each (Replica r) h = refl
    each (LogPointer r) h = refl
    each (IsActive r) h = refl

    go : (b : Bool) → Makes t (cond b (op.Delete (znode_path LastPart) None ∷ []) []) (last_states (cond b None (Some a)) states) limits
    go true = makes-one t (op.Delete (znode_path LastPart) None) (last_states None states) limits
        (does-as t (op.Delete (znode_path LastPart) None) (without_state LastPart (last_states (Some a) states)) (last_states None states) limits limits (deletes t (last_states (Some a) states) limits m LastPart (plain (text_of a)) tt refl refl) each (λ y h. omega arith))
    go false = makes-none t (last_states (Some a) states) limits m

-- ---- a drop

module _ (bytes : Entry → List ℕ) (t : TreeView) (v : TableView) (of : IsTreeOf bytes t v) (sound : IsSound v) (p : Option ℕ) (m : MayDrop p v) (locks : List ℕ) (are : AreLocks v.holders p (next_number v.next p) locks) (short : length v.log < 4294967295) (few : get_count v.log < 4294967295) where
  abbrev n : ℕ
  n = next_number v.next p

  abbrev entry : Entry
  entry = DropRange p (next_number v.next p)

  number : next_number v.next p ≡ m.number
  number = number-is v.next p m.number sound.nexts (next-has v.next p m.number m.exists)

  is_partition : IsPartition p
  is_partition = sound.partitions p m.number (next-has v.next p m.number m.exists)

  small : next_number v.next p < 65536
  small = let w = number in let u = m.numbers in omega (arith, w, u)

  abbrev states1 : ZnodeStates
  states1 = with_counted (Partition p) (counting (next_number v.next p)) (expected bytes v)

  first : Makes t (number_ops p (next_number v.next p)) states1 (version_limits v)
  first = numbers t (expected bytes v) (version_limits v) p (next_number v.next p) of.nodes is_partition (let w = small in omega (arith, w)) (ap (option_map counting) (m.exists ∙ ap Some (sym number))) (ap (option_map owned) (not-locked v sound p))

  abbrev tree1 : TreeView
  tree1 = after_all t (number_ops p (next_number v.next p))

  abbrev gone : Holders
  gone = without v.holders p locks

  abbrev states2 : ZnodeStates
  states2 = lock_states gone states1

  all_locked : Locked v.holders p locks
  all_locked = locked-each v.holders p locks are.once (Each-all (λ j. (j < 4294967296) × IsLocked v.holders p j) locks (λ j h. let w = Each-at (λ i. (i < next_number v.next p) × IsLocked v.holders p i) locks j are.each h in (let u = small in let l = w.0 in omega (arith, u, l), w.1)))

  as_locks : (y : Znode) → IsZnode y → states1 y ≡ lock_states v.holders states1 y
  as_locks Log h = refl
  as_locks (LogEntry i) h = refl
  as_locks Blocks h = refl
  as_locks (Block q d) h = refl
  as_locks Order h = refl
  as_locks (OrderOf i) h = refl
  as_locks Numbers h = refl
  as_locks (Partition q) h = refl
  as_locks (Lock q k) h = refl
  as_locks Mutations h = refl
  as_locks (MutationNode i) h = refl
  as_locks Quorum h = refl
  as_locks Status h = refl
  as_locks LastPart h = refl
  as_locks Replicas h = refl
  as_locks (Replica r) h = refl
  as_locks (LogPointer r) h = refl
  as_locks (IsActive r) h = refl

  second : HasZnodes tree1 states1 (version_limits v) → Makes tree1 (unlock_ops p locks) states2 (version_limits v)
  second has_znodes = unlocks-all tree1 p locks v.holders states1 (version_limits v) (has_znodes-as tree1 states1 (lock_states v.holders states1) (version_limits v) (version_limits v) has_znodes as_locks (λ y h. omega arith)) is_partition all_locked

  abbrev tree2 : TreeView
  tree2 = after_all tree1 (unlock_ops p locks)

  abbrev states3 : ZnodeStates
  states3 = kept_states (filter (outlives p (next_number v.next p)) (in_order v.schema.window v.log)) (order_count v.schema.window v.log) states2

  as_kept : (y : Znode) → IsZnode y → states2 y ≡ kept_states (in_order v.schema.window v.log) (order_count v.schema.window v.log) states2 y
  as_kept Log h = refl
  as_kept (LogEntry i) h = refl
  as_kept Blocks h = refl
  as_kept (Block q d) h = refl
  as_kept Order h = refl
  as_kept (OrderOf i) h = refl
  as_kept Numbers h = refl
  as_kept (Partition q) h = refl
  as_kept (Lock q k) h = refl
  as_kept Mutations h = refl
  as_kept (MutationNode i) h = refl
  as_kept Quorum h = refl
  as_kept Status h = refl
  as_kept LastPart h = refl
  as_kept Replicas h = refl
  as_kept (Replica r) h = refl
  as_kept (LogPointer r) h = refl
  as_kept (IsActive r) h = refl

  third : HasZnodes tree2 states2 (version_limits v) → Makes tree2 (forget_ops p (next_number v.next p) (in_order v.schema.window v.log)) states3 (version_limits v)
  third has_znodes = forgets tree2 p (next_number v.next p) [] (in_order v.schema.window v.log) (order_count v.schema.window v.log) states2 (version_limits v)
      (has_znodes-as tree2 states2 (kept_states (in_order v.schema.window v.log) (order_count v.schema.window v.log) states2) (version_limits v) (version_limits v) has_znodes as_kept (λ y h. omega arith))
      (AreKept.differ sound.kept) (AreKept.ids sound.kept) (Each-all (λ k. k.number < 4294967296) (in_order v.schema.window v.log) (λ k h. let w = Each-at (λ j. j.number < get_count v.log) (in_order v.schema.window v.log) k (AreKept.below sound.kept) h in omega (arith, w, few)))

  abbrev tree3 : TreeView
  tree3 = after_all tree2 (forget_ops p (next_number v.next p) (in_order v.schema.window v.log))

  abbrev states4 : ZnodeStates
  states4 = with_state (LogEntry (length v.log)) (plain (bytes entry)) (with_counted Log (counting (length v.log)) states3)

  fourth : HasZnodes tree3 states3 (version_limits v) → Does tree3 (op.Create entry_path (bytes entry) true None) states4 (version_limits v)
  fourth has_znodes = appends tree3 states3 (version_limits v) (length v.log) (bytes entry) has_znodes refl (ap (option_map (λ x. plain (bytes x))) (no-entry v.log)) short

  abbrev tree4 : TreeView
  tree4 = after tree3 (op.Create entry_path (bytes entry) true None)

  abbrev states5 : ZnodeStates
  states5 = status_states (pending_after_drop p (next_number v.next p) v.quorum.pending) states4

  as_status : (y : Znode) → IsZnode y → states4 y ≡ status_states v.quorum.pending states4 y
  as_status Log h = refl
  as_status (LogEntry i) h = refl
  as_status Blocks h = refl
  as_status (Block q d) h = refl
  as_status Order h = refl
  as_status (OrderOf i) h = refl
  as_status Numbers h = refl
  as_status (Partition q) h = refl
  as_status (Lock q k) h = refl
  as_status Mutations h = refl
  as_status (MutationNode i) h = refl
  as_status Quorum h = refl
  as_status Status h = refl
  as_status LastPart h = refl
  as_status Replicas h = refl
  as_status (Replica r) h = refl
  as_status (LogPointer r) h = refl
  as_status (IsActive r) h = refl

  fifth : HasZnodes tree4 states4 (version_limits v) → Makes tree4 (pending_drop_ops p (next_number v.next p) v.quorum.pending) states5 (version_limits v)
  fifth has_znodes = pending-drops tree4 p (next_number v.next p) v.quorum.pending states4 (version_limits v) (has_znodes-as tree4 states4 (status_states v.quorum.pending states4) (version_limits v) (version_limits v) has_znodes as_status (λ y h. omega arith))

  abbrev tree5 : TreeView
  tree5 = after_all tree4 (pending_drop_ops p (next_number v.next p) v.quorum.pending)

  abbrev states6 : ZnodeStates
  states6 = last_states (last_after_drop p (next_number v.next p) v.quorum.last) states5

  as_last : (y : Znode) → IsZnode y → states5 y ≡ last_states v.quorum.last states5 y
  as_last Log h = refl
  as_last (LogEntry i) h = refl
  as_last Blocks h = refl
  as_last (Block q d) h = refl
  as_last Order h = refl
  as_last (OrderOf i) h = refl
  as_last Numbers h = refl
  as_last (Partition q) h = refl
  as_last (Lock q k) h = refl
  as_last Mutations h = refl
  as_last (MutationNode i) h = refl
  as_last Quorum h = refl
  as_last Status h = refl
  as_last LastPart h = refl
  as_last Replicas h = refl
  as_last (Replica r) h = refl
  as_last (LogPointer r) h = refl
  as_last (IsActive r) h = refl

  sixth : HasZnodes tree5 states5 (version_limits v) → Makes tree5 (last_drop_ops p (next_number v.next p) v.quorum.last) states6 (version_limits v)
  sixth has_znodes = last-drops tree5 p (next_number v.next p) v.quorum.last states5 (version_limits v) (has_znodes-as tree5 states5 (last_states v.quorum.last states5) (version_limits v) (version_limits v) has_znodes as_last (λ y h. omega arith))

  partition : (q : Option ℕ) → cond (nat_eq (rank q) (rank p)) (Some (counting (suc (next_number v.next p)))) (option_map counting (next_of v.next q)) ≡ option_map counting (next_of (taken v.next p) q)
  partition q = sym (ap (option_map counting) (next-taken v.next p q sound.nexts) ∙ go (nat_eq (rank q) (rank p)))
    where
      go : (b : Bool) → option_map counting (cond b (Some (suc (next_number v.next p))) (next_of v.next q)) ≡ cond b (Some (counting (suc (next_number v.next p)))) (option_map counting (next_of v.next q))
      go true = refl
      go false = refl

  lock : (q : Option ℕ) (k : ℕ) → option_map owned (gone q k) ≡ option_map owned (unlocked_below v.holders p (next_number v.next p) q k)
  lock q k = ap (option_map owned) (without-is v.holders p locks q k ∙ go (nat_eq (rank q) (rank p)) refl (among k locks) refl (nat_lt k (next_number v.next p)) refl)
    where
      go : (a : Bool) → nat_eq (rank q) (rank p) ≡ a → (b : Bool) → among k locks ≡ b → (c : Bool) → nat_lt k (next_number v.next p) ≡ c → cond (a && b) None (v.holders q k) ≡ cond (a && c) None (v.holders q k)
      go false i b j c l = refl
      go true i true j true l = refl
      go true i false j false l = refl
      go true i true j false l = let w = Each-at (λ x. (x < next_number v.next p) × IsLocked v.holders p x) locks k are.each (among-has locks k j) in let u = w.0 in absurd (grind (arith, nat_tests))
      go true i false j true l = free (v.holders q k) refl
        where
          free : (o : Option ℕ) → v.holders q k ≡ o → v.holders q k ≡ None
          free None e = e
          free (Some s) e =
              let r : q ≡ p = rank-injective q p (grind (arith, nat_tests)) in
              let w : among k locks ≡ true = has-among locks k (are.whole k (grind (arith, nat_tests)) (s, subst (λ (x : Option ℕ). v.holders x k ≡ Some s) r e)) in
              absurd (let z : true ≡ false = sym w ∙ j in cc)

  order : Some (counting (order_count v.schema.window v.log)) ≡ Some (counting (order_count v.schema.window (entry ∷ v.log)))
  order = ap (λ (c : ℕ). Some (counting (numbered_of v.schema.window c))) (let c = gets-next entry v.log in omega (arith, c))

  each : (y : Znode) → IsZnode y → states6 y ≡ expected bytes (after_drop p v) y
  each Log h = refl
  each (LogEntry i) h = appended bytes entry v.log i
  each Blocks h = refl
  each (Block q d) h = refl
  each Order h = order
  each (OrderOf i) h = refl
  each Numbers h = refl
  each (Partition q) h = partition q
  each (Lock q k) h = lock q k
  each Mutations h = refl
  each (MutationNode i) h = refl
  each Quorum h = refl
  each Status h = refl
  each LastPart h = refl
  each Replicas h = refl
  each (Replica r) h = refl
  each (LogPointer r) h = refl
  each (IsActive r) h = refl

  status : (pending : Option Pending) → (noted_count pending ≤ noted_count (pending_after_drop p (next_number v.next p) pending)) ⊎ (option_map (λ q. plain (status_text q)) (pending_after_drop p (next_number v.next p) pending) ≡ None)
  status None = inl (omega arith)
  status (Some q) = go (is_dropped_by p (next_number v.next p) q.part)
    where
      go : (b : Bool) → (length q.noted ≤ noted_count (cond b None (Some q))) ⊎ (option_map (λ o. plain (status_text o)) (cond b None (Some q)) ≡ None)
      go true = inr refl
      go false = inl (omega arith)

  met : (pending : Option Pending) (others : List QuorumBlock) → met_count pending others ≤ met_count (pending_after_drop p (next_number v.next p) pending) others
  met None others = omega arith
  met (Some q) others = go (is_dropped_by p (next_number v.next p) q.part)
    where
      go : (b : Bool) → length others - 1 ≤ met_count (cond b None (Some q)) others
      go true = omega arith
      go false = omega arith

  bound : (y : Znode) → IsZnode y → (version_limits v y ≤ version_limits (after_drop p v) y) ⊎ (states6 y ≡ None)
  bound Log h = inl (omega arith)
  bound (LogEntry i) h = inl (omega arith)
  bound Blocks h = inl (omega arith)
  bound (Block q d) h = inl (omega arith)
  bound Order h = inl (omega arith)
  bound (OrderOf i) h = inl (omega arith)
  bound Numbers h = inl (omega arith)
  bound (Partition q) h = inl (omega arith)
  bound (Lock q k) h = inl (omega arith)
  bound Mutations h = inl (omega arith)
  bound (MutationNode i) h = inl (omega arith)
  bound Quorum h = inl (omega arith)
  bound Status h = status v.quorum.pending
  bound LastPart h = inl (met v.quorum.pending (quorum_blocks v.log))
  bound Replicas h = inl (omega arith)
  bound (Replica r) h = inl (omega arith)
  bound (LogPointer r) h = inl (omega arith)
  bound (IsActive r) h = inl (omega arith)

  -- the multi of drop_partition
  pub drop-makes : Makes t (drop_ops bytes p locks v) (expected bytes (after_drop p v)) (version_limits (after_drop p v))
  drop-makes = makes-as t (drop_ops bytes p locks v) states6 (expected bytes (after_drop p v)) (version_limits v) (version_limits (after_drop p v))
      (makes-append t (number_ops p (next_number v.next p)) (unlock_ops p locks ++ (forget_ops p (next_number v.next p) (in_order v.schema.window v.log) ++ (op.Create entry_path (bytes entry) true None ∷ (pending_drop_ops p (next_number v.next p) v.quorum.pending ++ last_drop_ops p (next_number v.next p) v.quorum.last)))) states1 states6 (version_limits v) (version_limits v) first (λ m1.
      makes-append tree1 (unlock_ops p locks) (forget_ops p (next_number v.next p) (in_order v.schema.window v.log) ++ (op.Create entry_path (bytes entry) true None ∷ (pending_drop_ops p (next_number v.next p) v.quorum.pending ++ last_drop_ops p (next_number v.next p) v.quorum.last))) states2 states6 (version_limits v) (version_limits v) (second m1) (λ m2.
      makes-append tree2 (forget_ops p (next_number v.next p) (in_order v.schema.window v.log)) (op.Create entry_path (bytes entry) true None ∷ (pending_drop_ops p (next_number v.next p) v.quorum.pending ++ last_drop_ops p (next_number v.next p) v.quorum.last)) states3 states6 (version_limits v) (version_limits v) (third m2) (λ m3.
      makes-more tree3 (op.Create entry_path (bytes entry) true None) (pending_drop_ops p (next_number v.next p) v.quorum.pending ++ last_drop_ops p (next_number v.next p) v.quorum.last) states4 states6 (version_limits v) (version_limits v) (fourth m3)
      (makes-append tree4 (pending_drop_ops p (next_number v.next p) v.quorum.pending) (last_drop_ops p (next_number v.next p) v.quorum.last) states5 states6 (version_limits v) (version_limits v) (fifth (Does.nodes (fourth m3))) sixth)))))
      each bound
