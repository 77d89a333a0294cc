-- The locks of a partition, the kept ids in their order, and the partitions, by the names below their nodes.
use Rattle.std.proofs.Common.{◌≡◌, ℕ, ◌<◌, ◌≤◌, ◌^◌, true, is_some, List, refl, sym, ap, subst, arith, ◌∙◌}
use Rattle.std.specs.Option.{option_map}
use Rattle.std.specs.declared.option.Option.{Option}
use Rattle.std.specs.declared.option.Option.TheVariants.{Some, None}
use Rattle.rmt_model.specs.Words.{Has}
use Rattle.rmt_paths.specs.Paths.{Names, last_name, parent}
use Rattle.rmt_tree.specs.Trees.{TreeView, children, first_from}
use Rattle.rmt_znodes.specs.declared.znode.Znode.{Znode}
use Rattle.rmt_znodes.specs.declared.znode.Znode.TheVariants.{Log, LogEntry, Blocks, Block, Order, OrderOf, Numbers, Partition, Lock, Mutations, MutationNode, Quorum, Status, LastPart, Replicas, Replica, LogPointer, IsActive}
use Rattle.rmt_znodes.specs.Znodes.{znode_path, IsZnode, IsPartition, lock_name}
use Rattle.rmt_znodes.specs.ZnodeStates.{above}
use Rattle.rmt_table_model.specs.Numbers.{Nexts, Holders, IsLocked}
use Rattle.rmt_table_model.specs.Inserts.{HasNumbers, IsLeastLocked}
use Rattle.rmt_table_model.specs.Nodes.{owned, next_states, lock_states}
use Rattle.rmt_inserts.proofs.NameLemmas.{Lower, lock-lower, lock-from, lock-not-lower}
use Rattle.rmt_inserts.proofs.ListLemmas.{first-from, none-from}
use Rattle.rmt_inserts.proofs.ChildLemmas.{IsNameBelow, child-znode, znode-child, children-rise}

-- ---- what is below which

below-partition : (p : Option ℕ) (y : Znode) → above y ≡ Some (Partition p) → (n : ℕ) × (y ≡ Lock p n)
below-partition p (Lock q n) e = let w : Partition q ≡ Partition p = cc in (n, ap (λ (r : Option ℕ). Lock r n) (partition-of q p w))
  where
    partition-of : (q p : Option ℕ) → Partition q ≡ Partition p → q ≡ p
    partition-of q p w = cc
below-partition p Log e = absurd (cc)
below-partition p (LogEntry i) e = absurd (cc)
below-partition p Blocks e = absurd (cc)
below-partition p (Block q d) e = absurd (cc)
below-partition p Order e = absurd (cc)
below-partition p (OrderOf i) e = absurd (cc)
below-partition p Numbers e = absurd (cc)
below-partition p (Partition q) e = absurd (cc)
below-partition p Mutations e = absurd (cc)
below-partition p (MutationNode i) e = absurd (cc)
below-partition p Quorum e = absurd (cc)
below-partition p Status e = absurd (cc)
below-partition p LastPart e = absurd (cc)
below-partition p Replicas e = absurd (cc)
below-partition p (Replica r) e = absurd (cc)
below-partition p (LogPointer r) e = absurd (cc)
below-partition p (IsActive r) e = absurd (cc)

pub below-numbers : (y : Znode) → above y ≡ Some Numbers → (p : Option ℕ) × (y ≡ Partition p)
below-numbers (Partition p) e = (p, refl)
below-numbers Log e = absurd (cc)
below-numbers (LogEntry i) e = absurd (cc)
below-numbers Blocks e = absurd (cc)
below-numbers (Block q d) e = absurd (cc)
below-numbers Order e = absurd (cc)
below-numbers (OrderOf i) e = absurd (cc)
below-numbers Numbers e = absurd (cc)
below-numbers (Lock q n) e = absurd (cc)
below-numbers Mutations e = absurd (cc)
below-numbers (MutationNode i) e = absurd (cc)
below-numbers Quorum e = absurd (cc)
below-numbers Status e = absurd (cc)
below-numbers LastPart e = absurd (cc)
below-numbers Replicas e = absurd (cc)
below-numbers (Replica r) e = absurd (cc)
below-numbers (LogPointer r) e = absurd (cc)
below-numbers (IsActive r) e = absurd (cc)

pub there : {A B : Type 0} (f : A → B) (o : Option A) → is_some (option_map f o) ≡ true → (x : A) × (o ≡ Some x)
there f None e = absurd (cc)
there f (Some x) e = (x, refl)

-- ---- locks

-- a name below a partition is that of a lock
pub record IsLockName (holders : Holders) (p : Option ℕ) (name : List ℕ) : Type 0 where
  pub number : ℕ
  pub small : number < 2 ^ 32
  pub name_is : name ≡ lock_name number
  pub locked : IsLocked holders p number

module _ (t : TreeView) (next : Nexts) (holders : Holders) (has : HasNumbers t next holders) where
  -- a lock's number is below its partition's next, and fits
  pub locked-small : (p : Option ℕ) (n : ℕ) → IsLocked holders p n → n < 65536
  locked-small p n l = let g = has.given p n l in let m = has.numbers p g.0 g.1 in let w = g.2 in omega (arith, m, w)

  pub locked-part : (p : Option ℕ) (n : ℕ) → IsLocked holders p n → IsPartition p
  locked-part p n l = let g = has.given p n l in has.partitions p g.0 g.1

  pub child-lock : (p : Option ℕ) → IsPartition p → (name : List ℕ) → Has (children t (znode_path (Partition p))) name → IsLockName holders p name
  child-lock p part name h = found (child-znode t (next_states next (lock_states holders has.states)) has.limits has.nodes (Partition p) part name h)
    where
      found : IsNameBelow (next_states next (lock_states holders has.states)) (Partition p) name → IsLockName holders p name
      found r =
          let w = below-partition p r.znode r.under in
          let z : IsZnode (Lock p w.0) = subst IsZnode w.1 r.is_znode in
          record {
            number = w.0;
            small = z.1;
            name_is = r.name_is ∙ ap (λ (x : Znode). last_name (znode_path x)) w.1;
            locked = there owned (holders p w.0) (subst (λ (x : Znode). is_some (next_states next (lock_states holders has.states) x) ≡ true) w.1 r.there);
          }

  pub lock-child : (p : Option ℕ) (n : ℕ) → IsLocked holders p n → Has (children t (znode_path (Partition p))) (lock_name n)
  lock-child p n l =
      znode-child t (next_states next (lock_states holders has.states)) has.limits has.nodes (Lock p n) (Partition p) (locked-part p n l, (let s = locked-small p n l in omega (arith, s))) refl
      (ap (λ (o : Option ℕ). is_some (option_map owned o)) l.1)

  -- the first name from a lock's on is that of the first lock from its number on
  pub record IsFirstLock (p : Option ℕ) (low n : ℕ) : Type 0 where
    pub locked : IsLocked holders p n
    pub past : low ≤ n
    pub least : (m : ℕ) → low ≤ m → m < n → IsLocked holders p m → ⊥

  pub first-lock : (p : Option ℕ) → IsPartition p → (low : ℕ) → low < 2 ^ 32 → (name : List ℕ) → first_from (lock_name low) (children t (znode_path (Partition p))) ≡ Some name → (n : ℕ) × (n < 2 ^ 32) × (name ≡ lock_name n) × IsFirstLock p low n
  first-lock p part low fits name e =
      let f = first-from (lock_name low) (children t (znode_path (Partition p))) name (children-rise t (znode_path (Partition p))) e in
      let k = child-lock p part name f.here in (
        k.number,
        k.small,
        k.name_is,
        record {
          locked = k.locked;
          past = lock-from k.number low fits (λ l. f.past (subst (λ (w : List ℕ). Lower w (lock_name low)) (sym k.name_is) l));
          least = λ m above below l. f.least (lock_name m) (lock-child p m l) (lock-not-lower m low above (let s = locked-small p m l in omega (arith, s)))
              (subst (Lower (lock_name m)) (sym k.name_is) (lock-lower m k.number below k.small));
        },
      )

  pub none-locked : (p : Option ℕ) (low : ℕ) → first_from (lock_name low) (children t (znode_path (Partition p))) ≡ None → (n : ℕ) → low ≤ n → IsLocked holders p n → ⊥
  none-locked p low e n past l = lock-not-lower n low past (let s = locked-small p n l in omega (arith, s)) (none-from (lock_name low) (children t (znode_path (Partition p))) e (lock_name n) (lock-child p n l))

  at-lock : (p : Option ℕ) (low : ℕ) (q : Names) → q ≡ znode_path (Lock p low) → first_from (last_name q) (children t (parent q)) ≡ first_from (lock_name low) (children t (znode_path (Partition p)))
  at-lock p low q e = ap (λ (w : Names). first_from (last_name w) (children t (parent w))) e

  -- what the first name from a lock's on says of the locks
  pub none-there : (p : Option ℕ) (low to : ℕ) (q : Names) → q ≡ znode_path (Lock p low) → None ≡ first_from (last_name q) (children t (parent q)) → IsLeastLocked holders p low to None
  none-there p low to q path e = λ n past most l. none-locked p low (sym (at-lock p low q path) ∙ sym e) n past l

  pub one-there : (p : Option ℕ) → IsPartition p → (low : ℕ) → low < 2 ^ 32 → (to : ℕ) (q : Names) → q ≡ znode_path (Lock p low) → (name : List ℕ) → Some name ≡ first_from (last_name q) (children t (parent q))
      → (k : ℕ) → ((n : ℕ) → n < 2 ^ 32 → name ≡ lock_name n → Some k ≡ Some n) → k ≤ to → IsLeastLocked holders p low to (Some k)
  one-there p part low fits to q path name e k read most =
      let r = first-lock p part low fits name (sym (at-lock p low q path) ∙ sym e) in
      let same : r.0 ≡ k = (let w = read r.0 r.1 r.2 in cc) in
      let f : IsFirstLock p low k = subst (IsFirstLock p low) same r.3 in
      (f.past, most, f.locked, f.least)

  pub beyond-there : (p : Option ℕ) → IsPartition p → (low : ℕ) → low < 2 ^ 32 → (to : ℕ) (q : Names) → q ≡ znode_path (Lock p low) → (name : List ℕ) → Some name ≡ first_from (last_name q) (children t (parent q))
      → ((n : ℕ) → n < 2 ^ 32 → name ≡ lock_name n → to < n) → IsLeastLocked holders p low to None
  beyond-there p part low fits to q path name e read =
      let r = first-lock p part low fits name (sym (at-lock p low q path) ∙ sym e) in
      let above = read r.0 r.1 r.2 in
      λ n past most l. r.3.least n past (omega (arith, above, most)) l
