-- What the calls' operations make of the nodes.
use Rattle.std.proofs.Common.{◌≡◌, ℕ, suc, ◌+◌, ◌≤◌, inl, inr, ◌&&◌, Bool, true, false, cond, List, [], ◌∷◌, ◌++◌, refl, sym, ap, subst, arith, ◌∙◌, nat_eq}
use Rattle.std.proofs.lemmas.Bool.Decides.{nat_tests}
use Rattle.std.specs.declared.option.Option.{Option}
use Rattle.std.specs.declared.option.Option.TheVariants.{Some, None}
use Rattle.std.specs.Option.{option_map}
use Rattle.rmt_znodes.specs.Znodes.{lock_path}
use Rattle.rmt_model.specs.BlockNumbers.{next_number}
use Rattle.rmt_names.specs.Names.{rank}
use Rattle.rmt_entries.specs.declared.entry.Entry.{Entry}
use Rattle.rmt_model.proofs.Lists.{rank-injective}
use Rattle.rmt_tree.specs.Trees.{TreeView}
use Rattle.rmt_tree.specs.Ops.{after, last_counter}
use Rattle.rmt_tree.specs.declared.op.Op.{Op}
use Rattle.rmt_tree.specs.declared.op.Op.TheVariants as op
use Rattle.rmt_znodes.specs.declared.znode.Znode.{Znode}
use Rattle.rmt_znodes.specs.declared.znode.Znode.TheVariants.{Log, LogEntry, Blocks, Block, Order, OrderOf, Numbers, Partition, Lock, Mutations, MutationNode, Quorum, Status, LastPart, Replicas, Replica, LogPointer, IsActive}
use Rattle.rmt_znodes.specs.Znodes.{znode_path, IsZnode}
use Rattle.rmt_znodes.specs.ZnodeStates.{ZnodeStates, with_state, Limits, Makes}
use Rattle.rmt_znodes.proofs.ZnodeStateLemmas.{znode-itself, has_znodes-as, Does, creates, with_counted, creates-numbered, makes-none, makes-more}
use Rattle.rmt_model.specs.Quorum.{quorum_blocks}
use Rattle.rmt_table_model.specs.Numbers.{Nexts, AreNexts, next_of, taken, locked}
use Rattle.rmt_table_model.specs.Tables.{TableView, IsSound}
use Rattle.rmt_table_model.specs.Changes.{after_allocate, MayAllocate}
use Rattle.rmt_table_model.specs.Nodes.{plain, counting, owned, slot, expected, or_zero, noted_count, met_count, version_limits, IsTreeOf, partition_ops, allocate_ops}
use Rattle.rmt_table_model.proofs.NumberLemmas.{number-is, next-is, next-has, next-none, taken-has, taken-from, taken-more, taken-nexts}
use Rattle.rmt_table_model.proofs.SoundLemmas.{above-all}

-- an op that can be done, by other words for what it makes
pub does-as : (t : TreeView) (o : Op) (states states' : ZnodeStates) (limits limits' : Limits) → Does t o states limits → ((y : Znode) → IsZnode y → states y ≡ states' y) → ((y : Znode) → IsZnode y → limits y ≤ limits' y) → Does t o states' limits'
does-as t o states states' limits limits' d f l = record { not_refused = d.not_refused; nodes = has_znodes-as (after t o) states states' limits limits' d.nodes f l }

-- one op is all
pub makes-one : (t : TreeView) (o : Op) (states : ZnodeStates) (limits : Limits) → Does t o states limits → Makes t (o ∷ []) states limits
makes-one t o states limits d = makes-more t o [] states states limits limits d (makes-none (after t o) states limits d.nodes)

-- no bound falls where no log pointer, and neither the notes nor the quorums met, fall
pub limits-rise : (v w : TableView) → ((s : ℕ) → or_zero (slot v.pulled s) ≤ or_zero (slot w.pulled s)) → noted_count v.quorum.pending ≤ noted_count w.quorum.pending → met_count v.quorum.pending (quorum_blocks v.log) ≤ met_count w.quorum.pending (quorum_blocks w.log) → (y : Znode) → version_limits v y ≤ version_limits w y
limits-rise v w pulled noted met Log = omega arith
limits-rise v w pulled noted met (LogEntry i) = omega arith
limits-rise v w pulled noted met Blocks = omega arith
limits-rise v w pulled noted met (Block q d) = omega arith
limits-rise v w pulled noted met Order = omega arith
limits-rise v w pulled noted met (OrderOf i) = omega arith
limits-rise v w pulled noted met Numbers = omega arith
limits-rise v w pulled noted met (Partition q) = omega arith
limits-rise v w pulled noted met (Lock q k) = omega arith
limits-rise v w pulled noted met Mutations = omega arith
limits-rise v w pulled noted met (MutationNode i) = omega arith
limits-rise v w pulled noted met Quorum = omega arith
limits-rise v w pulled noted met Status = noted
limits-rise v w pulled noted met LastPart = met
limits-rise v w pulled noted met Replicas = omega arith
limits-rise v w pulled noted met (Replica r) = omega arith
limits-rise v w pulled noted met (LogPointer r) = pulled r
limits-rise v w pulled noted met (IsActive r) = omega arith

-- ---- numbers

-- what is found after a number was taken
pub next-taken : (next : Nexts) (p q : Option ℕ) → AreNexts next → next_of (taken next p) q ≡ cond (nat_eq (rank q) (rank p)) (Some (suc (next_number next p))) (next_of next q)
next-taken next p q a = go (nat_eq (rank q) (rank p)) refl
  where
    b : AreNexts (taken next p)
    b = taken-nexts next p a

    other : (q ≡ p → ⊥) → (o u : Option ℕ) → next_of (taken next p) q ≡ o → next_of next q ≡ u → next_of (taken next p) q ≡ next_of next q
    other n None None e f = e ∙ sym f
    other n None (Some m) e f =
        let r = taken-more next p q m a (next-has next q m f) in
        let w : ◌≡◌ {A = Option ℕ} None (Some r.0) = sym e ∙ next-is (taken next p) q r.0 (taken-nexts next p a) r.1 in absurd (cc)
    other n (Some k) u e f = elim (taken-from next p q k a (next-has (taken next p) q k e)) [
      | inl s ↦ absurd (n (sym s.0))
      | inr s ↦ e ∙ sym (next-is next q k a s.0)
    ]

    go : (c : Bool) → nat_eq (rank q) (rank p) ≡ c → next_of (taken next p) q ≡ cond c (Some (suc (next_number next p))) (next_of next q)
    go true e =
        let w : q ≡ p = rank-injective q p (grind (arith, nat_tests)) in
        let n : next_number next p + 1 ≡ suc (next_number next p) = omega arith in
        ap (next_of (taken next p)) w ∙ next-is (taken next p) p (next_number next p + 1) (taken-nexts next p a) (taken-has next p a) ∙ ap Some n
    go false e = other (λ w. let u = ap rank w in absurd (grind (arith, nat_tests))) (next_of (taken next p) q) (next_of next q) refl refl

-- the next number isn't locked
pub not-locked : (v : TableView) → IsSound v → (p : Option ℕ) → v.holders p (next_number v.next p) ≡ None
not-locked v s p = go (v.holders p (next_number v.next p)) refl
  where
    go : (o : Option ℕ) → v.holders p (next_number v.next p) ≡ o → v.holders p (next_number v.next p) ≡ None
    go None e = e
    go (Some h) e = let w = above-all v s p (next_number v.next p) (inr (h, e)) in absurd (omega (arith, w))

-- ---- allocate

-- a number of a partition that exists
allocate-known : (bytes : Entry → List ℕ) (t : TreeView) (v : TableView) (p : Option ℕ) (s n : ℕ) → IsTreeOf bytes t v → IsSound v → MayAllocate p s v → next_of v.next p ≡ Some n
    → Makes t (op.Create (lock_path p) [] true (Some s) ∷ []) (expected bytes (after_allocate p s v)) (version_limits (after_allocate p s v))
allocate-known bytes t v p s n of sound m here = makes-one t (op.Create (lock_path p) [] true (Some s)) (expected bytes (after_allocate p s v)) (version_limits (after_allocate p s v))
    (does-as t (op.Create (lock_path p) [] true (Some s)) (with_state (Lock p n) (owned s) (with_counted (Partition p) (counting n) (expected bytes v))) (expected bytes (after_allocate p s v)) (version_limits v) (version_limits (after_allocate p s v))
    (creates-numbered t (expected bytes v) (version_limits v) of.nodes (lock_path p) (Lock p n) (Partition p) (counting n) (m.is_partition, let w = number in let u = m.numbers in omega (arith, w, u)) m.is_partition [] (Some s) ((of.sessions s).1 m.is_open)
    refl (ap (option_map counting) here) refl refl (let w = number in let u = m.numbers in let l : last_counter ≡ 4294967295 = refl in omega (arith, w, u)) (ap (option_map owned) absent))
    each (λ y h. limits-rise v (after_allocate p s v) (λ s. omega arith) (omega arith) (omega arith) y))
  where
    number : next_number v.next p ≡ n
    number = number-is v.next p n sound.nexts (next-has v.next p n here)

    absent : v.holders p n ≡ None
    absent = subst (λ (k : ℕ). v.holders p k ≡ None) number (not-locked v sound p)

    partition : (q : Option ℕ) → cond (nat_eq (rank q) (rank p)) (Some (counting (suc n))) (option_map counting (next_of v.next q)) ≡ option_map counting (next_of (taken v.next p) q)
    partition q = sym (ap (option_map counting) (next-taken v.next p q sound.nexts) ∙ go (nat_eq (rank q) (rank p)))
      where
        go : (b : Bool) → option_map counting (cond b (Some (suc (next_number v.next p))) (next_of v.next q)) ≡ cond b (Some (counting (suc n))) (option_map counting (next_of v.next q))
        go true = ap (λ (k : ℕ). Some (counting (suc k))) number
        go false = refl

    lock : (q : Option ℕ) (k : ℕ) → cond (nat_eq (rank q) (rank p) && nat_eq k n) (Some (owned s)) (option_map owned (v.holders q k)) ≡ option_map owned (locked v.holders p (next_number v.next p) s q k)
    lock q k = sym (ap (λ (j : ℕ). option_map owned (locked v.holders p j s q k)) number ∙ go (nat_eq (rank q) (rank p) && nat_eq k n))
      where
        go : (b : Bool) → option_map owned (cond b (Some s) (v.holders q k)) ≡ cond b (Some (owned s)) (option_map owned (v.holders q k))
        go true = refl
        go false = refl

    each : (y : Znode) → IsZnode y → with_state (Lock p n) (owned s) (with_counted (Partition p) (counting n) (expected bytes v)) y ≡ expected bytes (after_allocate p s v) y
    each Log h = refl
    each (LogEntry i) h = refl
    each Blocks h = refl
    each (Block q d) h = refl
    each Order h = refl
    each (OrderOf i) h = refl
    each Numbers h = refl
    each (Partition q) h = partition q
    each (Lock q k) h = lock q k
    each Mutations h = refl
    each (MutationNode i) h = refl
    each Quorum h = refl
    each Status h = refl
    each LastPart h = refl
    each Replicas h = refl
    each (Replica r) h = refl
    each (LogPointer r) h = refl
    each (IsActive r) h = refl

-- the first number of a partition that is made for it
allocate-new : (bytes : Entry → List ℕ) (t : TreeView) (v : TableView) (p : Option ℕ) (s : ℕ) → IsTreeOf bytes t v → IsSound v → MayAllocate p s v → next_of v.next p ≡ None
    → Makes t (op.Create (znode_path (Partition p)) [] false None ∷ op.Create (lock_path p) [] true (Some s) ∷ []) (expected bytes (after_allocate p s v)) (version_limits (after_allocate p s v))
allocate-new bytes t v p s of sound m here =
    makes-more t (op.Create (znode_path (Partition p)) [] false None) (op.Create (lock_path p) [] true (Some s) ∷ []) (with_state (Partition p) (counting 0) (expected bytes v)) (expected bytes (after_allocate p s v)) (version_limits v) (version_limits (after_allocate p s v))
    first
    (makes-one (after t (op.Create (znode_path (Partition p)) [] false None)) (op.Create (lock_path p) [] true (Some s)) (expected bytes (after_allocate p s v)) (version_limits (after_allocate p s v))
    (does-as (after t (op.Create (znode_path (Partition p)) [] false None)) (op.Create (lock_path p) [] true (Some s)) (with_state (Lock p 0) (owned s) (with_counted (Partition p) (counting 0) (with_state (Partition p) (counting 0) (expected bytes v)))) (expected bytes (after_allocate p s v)) (version_limits v) (version_limits (after_allocate p s v))
    (creates-numbered (after t (op.Create (znode_path (Partition p)) [] false None)) (with_state (Partition p) (counting 0) (expected bytes v)) (version_limits v) (Does.nodes first) (lock_path p) (Lock p 0) (Partition p) (counting 0) (m.is_partition, omega arith) m.is_partition [] (Some s) ((of.sessions s).1 m.is_open)
    refl (ap (λ (b : Bool). cond b (Some (counting 0)) (option_map counting (next_of v.next p))) (znode-itself (Partition p))) refl refl (omega arith) (ap (option_map owned) absent))
    each (λ y h. limits-rise v (after_allocate p s v) (λ s. omega arith) (omega arith) (omega arith) y)))
  where
    number : next_number v.next p ≡ 0
    number = next-none v.next p here

    absent : v.holders p 0 ≡ None
    absent = subst (λ (k : ℕ). v.holders p k ≡ None) number (not-locked v sound p)

    first : Does t (op.Create (znode_path (Partition p)) [] false None) (with_state (Partition p) (counting 0) (expected bytes v)) (version_limits v)
    first = creates t (expected bytes v) (version_limits v) of.nodes (Partition p) m.is_partition [] None tt (tt, (plain [], refl, refl)) (ap (option_map counting) here)

    partition : (q : Option ℕ) → cond (nat_eq (rank q) (rank p)) (Some (counting 1)) (cond (nat_eq (rank q) (rank p)) (Some (counting 0)) (option_map counting (next_of v.next q))) ≡ option_map counting (next_of (taken v.next p) q)
    partition q = sym (ap (option_map counting) (next-taken v.next p q sound.nexts) ∙ go (nat_eq (rank q) (rank p)))
      where
        go : (b : Bool) → option_map counting (cond b (Some (suc (next_number v.next p))) (next_of v.next q)) ≡ cond b (Some (counting 1)) (cond b (Some (counting 0)) (option_map counting (next_of v.next q)))
        go true = ap (λ (k : ℕ). Some (counting (suc k))) number
        go false = refl

    lock : (q : Option ℕ) (k : ℕ) → cond (nat_eq (rank q) (rank p) && nat_eq k 0) (Some (owned s)) (option_map owned (v.holders q k)) ≡ option_map owned (locked v.holders p (next_number v.next p) s q k)
    lock q k = sym (ap (λ (j : ℕ). option_map owned (locked v.holders p j s q k)) number ∙ go (nat_eq (rank q) (rank p) && nat_eq k 0))
      where
        go : (b : Bool) → option_map owned (cond b (Some s) (v.holders q k)) ≡ cond b (Some (owned s)) (option_map owned (v.holders q k))
        go true = refl
        go false = refl

    each : (y : Znode) → IsZnode y → with_state (Lock p 0) (owned s) (with_counted (Partition p) (counting 0) (with_state (Partition p) (counting 0) (expected bytes v))) y ≡ expected bytes (after_allocate p s v) y
    each Log h = refl
    each (LogEntry i) h = refl
    each Blocks h = refl
    each (Block q d) h = refl
    each Order h = refl
    each (OrderOf i) h = refl
    each Numbers h = refl
    each (Partition q) h = partition q
    each (Lock q k) h = lock q k
    each Mutations h = refl
    each (MutationNode i) h = refl
    each Quorum h = refl
    each Status h = refl
    each LastPart h = refl
    each Replicas h = refl
    each (Replica r) h = refl
    each (LogPointer r) h = refl
    each (IsActive r) h = refl

-- the multi of allocate
pub allocate-makes : (bytes : Entry → List ℕ) (t : TreeView) (v : TableView) (p : Option ℕ) (s : ℕ) → IsTreeOf bytes t v → IsSound v → MayAllocate p s v
    → Makes t (allocate_ops p s v) (expected bytes (after_allocate p s v)) (version_limits (after_allocate p s v))
allocate-makes bytes t v p s of sound m = go (next_of v.next p) refl
  where
    go : (o : Option ℕ) → next_of v.next p ≡ o → Makes t (partition_ops p o ++ op.Create (lock_path p) [] true (Some s) ∷ []) (expected bytes (after_allocate p s v)) (version_limits (after_allocate p s v))
    go None e = allocate-new bytes t v p s of sound m e
    go (Some n) e = allocate-known bytes t v p s n of sound m e
