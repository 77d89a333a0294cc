-- What a drop takes away: the locks below a number, and the kept ids of the blocks below it.
use Rattle.std.proofs.Common.{◌≡◌, ◌≢◌, ℕ, zero, suc, inl, inr, ◌+◌, ◌<◌, ◌≤◌, ◌^◌, Bool, true, false, cond, is_some, List, [], ◌∷◌, ◌++◌, length, take, drop, map, get_or, nat_lt, Result, Ok, Err, IfOk, refl, sym, ap, subst, arith, ◌∙◌}
use Rattle.std.proofs.lemmas.Bool.Decides.{nat_tests}
use Rattle.std.proofs.lemmas.List.{append_assoc, append-nil}
use Rattle.std.specs.List.{filter}
use Rattle.std.specs.Prelude.{slice_get}
use Rattle.std.proofs.lemmas.List.{take_all}
use Rattle.std.specs.Option.{option_map}
use Rattle.std.specs.Str.Parse.{digits_value}
use Rattle.std.specs.declared.option.Option.{Option}
use Rattle.std.specs.declared.option.Option.TheVariants.{Some, None}
use Rattle.rmt_model.specs.Words.{Has, Pairwise}
use Rattle.rmt_model.proofs.Lists.{Each-at, Each-all, Has-filter, Has-kept, Pairwise-filter}
use Rattle.rmt_paths.specs.Paths.{Names}
use Rattle.rmt_tree.specs.Trees.{Node, TreeView, node_at, children, children_at}
use Rattle.rmt_tree.specs.declared.op.Op.{Op}
use Rattle.rmt_tree.specs.declared.op.Op.TheVariants as op
use Rattle.rmt_znodes.specs.declared.znode.Znode.TheVariants.{Partition, Lock}
use Rattle.rmt_znodes.specs.Znodes.{znode_path, lock_name, IsPartition}
use Rattle.rmt_znodes.specs.ZnodeStates.{state_of}
use Rattle.rmt_znodes.proofs.ZnodeLemmas.{digits-value}
use Rattle.rmt_table_model.specs.Numbers.{Nexts, Holders, IsLocked}
use Rattle.rmt_table_model.specs.Kept.{Placed, outlives}
use Rattle.rmt_table_model.specs.Inserts.{HasNumbers, AreDropOps}
use Rattle.rmt_table_model.specs.Nodes.{counting, leave_ops, forget_ops, unlock_ops, AreLocks}
use Rattle.rmt_table_model.proofs.NumberLemmas.{next-is}
use Rattle.rmt_inserts.specs.Unlocks.{unlock_below, AreUnlockOps}
use Rattle.rmt_inserts.proofs.NameLemmas.{Lower, lower-irreflexive}
use Rattle.rmt_inserts.proofs.ListLemmas.{Has-map, map-Has}
use Rattle.rmt_inserts.proofs.ChildLemmas.{children-rise}
use Rattle.rmt_inserts.proofs.BelowLemmas.{child-lock, lock-child, locked-small}

-- ---- children, as they are read

pub children-some : (t : TreeView) (q : Names) (o : Option (List (List ℕ))) (ns : List (List ℕ)) → o ≡ children_at t q → o ≡ Some ns → ns ≡ children t q
children-some t q o ns e f = go (is_some (node_at t q)) (sym f ∙ e)
  where
    go : (b : Bool) → Some ns ≡ cond b (Some (children t q)) None → ns ≡ children t q
    go true e = cc
    go false e = absurd (cc)

pub children-none : (t : TreeView) (q : Names) → None ≡ children_at t q → is_some (node_at t q) ≡ false
children-none t q e = go (is_some (node_at t q)) e
  where
    go : (b : Bool) → None ≡ cond b (Some (children t q)) None → b ≡ false
    go true e = absurd (cc)
    go false e = refl

-- ---- locks

-- the number in a lock's name
pub lock_number : List ℕ → ℕ
lock_number name = digits_value 10 (drop 6 name)

pub lock-number : (n : ℕ) → n < 2 ^ 32 → lock_number (lock_name n) ≡ n
unfolding lock_number
lock-number n small = digits-value 10 n (omega arith)

-- takes the locks of these names away whose numbers are below the other
unfoldable pub unlocks : Option ℕ → ℕ → List (List ℕ) → List Op
unlocks p below [] = []
unlocks p below (name ∷ names) = unlock_below p below (lock_number name) ++ unlocks p below names

pub unlocks-append : (p : Option ℕ) (below : ℕ) (xs ys : List (List ℕ)) → unlocks p below (xs ++ ys) ≡ unlocks p below xs ++ unlocks p below ys
unfolding unlocks
unlocks-append p below [] ys = refl
unlocks-append p below (x ∷ xs) ys = ap (λ (os : List Op). unlock_below p below (lock_number x) ++ os) (unlocks-append p below xs ys) ∙ sym (append_assoc (unlock_below p below (lock_number x)) (unlocks p below xs) (unlocks p below ys))

pub below-goes : (p : Option ℕ) (below n : ℕ) → n < below → unlock_below p below n ≡ op.Delete (znode_path (Lock p n)) None ∷ []
below-goes p below n l = let t : nat_lt n below ≡ true = grind (arith, nat_tests) in ap (λ (b : Bool). cond b (unlock_ops p (n ∷ [])) []) t

pub above-stays : (p : Option ℕ) (below n : ℕ) → below ≤ n → unlock_below p below n ≡ []
above-stays p below n l = let t : nat_lt n below ≡ false = grind (arith, nat_tests) in ap (λ (b : Bool). cond b (unlock_ops p (n ∷ [])) []) t

unlocks-filter : (p : Option ℕ) (below : ℕ) (names : List (List ℕ)) → unlocks p below names ≡ unlock_ops p (filter (λ m. nat_lt m below) (map lock_number names))
unfolding unlocks
unlocks-filter p below [] = refl
unlocks-filter p below (name ∷ names) = go (nat_lt (lock_number name) below) (unlocks-filter p below names)
  where
    go : (b : Bool) → unlocks p below names ≡ unlock_ops p (filter (λ m. nat_lt m below) (map lock_number names))
        → cond b (unlock_ops p (lock_number name ∷ [])) [] ++ unlocks p below names ≡ unlock_ops p (cond b (lock_number name ∷ filter (λ m. nat_lt m below) (map lock_number names)) (filter (λ m. nat_lt m below) (map lock_number names)))
    go true e = ap (λ (os : List Op). op.Delete (znode_path (Lock p (lock_number name))) None ∷ os) e
    go false e = e

numbers-once : (names : List (List ℕ)) → ((name : List ℕ) → Has names name → name ≡ lock_name (lock_number name)) → Pairwise Lower names → Pairwise ◌≢◌ (map lock_number names)
numbers-once [] f p = tt
numbers-once (x ∷ xs) f p = (
  Each-all (λ m. lock_number x ≢ m) (map lock_number xs) (λ m h e. other m e (Has-map lock_number xs m h)),
  numbers-once xs (λ name h. f name (inr h)) p.1,
)
  where
    other : (m : ℕ) → lock_number x ≡ m → (y : List ℕ) × Has xs y × (lock_number y ≡ m) → ⊥
    other m e r =
        let same : x ≡ r.0 = f x (inl refl) ∙ ap lock_name (e ∙ sym r.2) ∙ sym (f r.0 (inr r.1)) in
        lower-irreflexive x (subst (Lower x) (sym same) (Each-at (Lower x) xs r.0 p.0 r.1))

module _ (t : TreeView) (next : Nexts) (holders : Holders) (has : HasNumbers t next holders) (p : Option ℕ) (part : IsPartition p) (below : ℕ) where
  read-back : (name : List ℕ) → Has (children t (znode_path (Partition p))) name → (name ≡ lock_name (lock_number name)) × IsLocked holders p (lock_number name)
  read-back name h =
      let k = child-lock t next holders has p part name h in
      let n : lock_number name ≡ k.number = ap lock_number k.name_is ∙ lock-number k.number k.small in
      (k.name_is ∙ ap lock_name (sym n), subst (IsLocked holders p) (sym n) k.locked)

  -- one more name
  pub one-more : (name : List ℕ) → Has (children t (znode_path (Partition p))) name → (lock_number name < 2 ^ 32) × (name ≡ lock_name (lock_number name))
  one-more name h = let r = read-back name h in ((let s = locked-small t next holders has p (lock_number name) r.1 in omega (arith, s)), r.0)

  are-locks : AreLocks holders p below (filter (λ m. nat_lt m below) (map lock_number (children t (znode_path (Partition p)))))
  are-locks = record {
    once = Pairwise-filter ◌≢◌ (λ m. nat_lt m below) (map lock_number names) (numbers-once names (λ name h. (read-back name h).0) (children-rise t (znode_path (Partition p))));
    each = Each-all (λ m. (m < below) × IsLocked holders p m) (filter (λ m. nat_lt m below) (map lock_number names)) (λ m h. one m (Has-filter (λ k. nat_lt k below) (map lock_number names) m h));
    whole = λ m l locked. Has-kept (λ k. nat_lt k below) (map lock_number names) m (there m locked) (grind (arith, nat_tests));
  }
    where
      names : List (List ℕ)
      names = children t (znode_path (Partition p))

      one : (m : ℕ) → Has (map lock_number (children t (znode_path (Partition p)))) m × (nat_lt m below ≡ true) → (m < below) × IsLocked holders p m
      one m r =
          let k = Has-map lock_number (children t (znode_path (Partition p))) m r.0 in
          (lower m r.1, subst (IsLocked holders p) k.2 ((read-back k.0 k.1).1))
        where
          lower : (m : ℕ) → nat_lt m below ≡ true → m < below
          lower m e = grind (arith, nat_tests)

      there : (m : ℕ) → IsLocked holders p m → Has (map lock_number (children t (znode_path (Partition p)))) m
      there m locked = subst (Has (map lock_number (children t (znode_path (Partition p))))) (lock-number m (let s = locked-small t next holders has p m locked in omega (arith, s)))
          (map-Has lock_number (children t (znode_path (Partition p))) (lock_name m) (lock-child t next holders has p m locked))

  -- all of them were looked at
  pub unlocked-all : (ops : List Op) (names : List (List ℕ)) → names ≡ children t (znode_path (Partition p)) → ops ≡ unlocks p below names → AreUnlockOps holders p below ops
  unlocked-all ops names n e = record {
    locks = filter (λ m. nat_lt m below) (map lock_number (children t (znode_path (Partition p))));
    are_locks = are-locks;
    ops_are = e ∙ ap (unlocks p below) n ∙ unlocks-filter p below (children t (znode_path (Partition p)));
  }

  -- no lock is there where the partition isn't
  pub none-unlocked : (ops : List Op) → ops ≡ [] → is_some (node_at t (znode_path (Partition p))) ≡ false → AreUnlockOps holders p below ops
  none-unlocked ops e none = record {
    locks = [];
    are_locks = record { once = tt; each = tt; whole = λ m l locked. absurd (gone m locked) };
    ops_are = e;
  }
    where
      gone : (m : ℕ) → IsLocked holders p m → ⊥
      gone m locked =
          let g = has.given p m locked in
          let s : option_map state_of (node_at t (znode_path (Partition p))) ≡ Some (counting g.0) = has.nodes.nodes (Partition p) part ∙ ap (option_map counting) (next-is next p g.0 has.nexts g.1) in
          go (node_at t (znode_path (Partition p))) s none
        where
          go : (o : Option Node) → option_map state_of o ≡ Some (counting (has.given p m locked).0) → is_some o ≡ false → ⊥
          go None e f = absurd (cc)
          go (Some n) e f = absurd (cc)

-- ---- kept ids

pub forget-append : (p : Option ℕ) (n : ℕ) (xs ys : List Placed) → forget_ops p n (xs ++ ys) ≡ forget_ops p n xs ++ forget_ops p n ys
forget-append p n [] ys = refl
forget-append p n (k ∷ xs) ys = go (outlives p n k) (forget-append p n xs ys)
  where
    go : (b : Bool) → forget_ops p n (xs ++ ys) ≡ forget_ops p n xs ++ forget_ops p n ys
        → cond b (forget_ops p n (xs ++ ys)) (leave_ops (Some k) ++ forget_ops p n (xs ++ ys)) ≡ cond b (forget_ops p n xs) (leave_ops (Some k) ++ forget_ops p n xs) ++ forget_ops p n ys
    go true e = e
    go false e = ap (λ (os : List Op). leave_ops (Some k) ++ os) e

pub forget-goes : (p : Option ℕ) (n : ℕ) (k : Placed) → outlives p n k ≡ false → forget_ops p n (k ∷ []) ≡ leave_ops (Some k)
forget-goes p n k e = ap (λ (b : Bool). cond b [] (leave_ops (Some k) ++ [])) e

pub same-some : (j k : Placed) → Some j ≡ Some k → j ≡ k
same-some j k e = cc

-- a place that is within has an id
pub one-there : (ks : List Placed) (i : ℕ) → i < length ks → (k : Placed) × (slice_get ks i ≡ Some k)
one-there [] i within = absurd (omega (arith, within))
one-there (k ∷ ks) zero within = (k, refl)
one-there (k ∷ ks) (suc i) within = one-there ks i (omega (arith, within))

-- the ids up to a place, and the one there
pub forget-step : (p : Option ℕ) (n : ℕ) (ks : List Placed) (i : ℕ) (k : Placed) → slice_get ks i ≡ Some k → forget_ops p n (take (i + 1) ks) ≡ forget_ops p n (take i ks) ++ forget_ops p n (k ∷ [])
forget-step p n ks i k is =
    let one : i + 1 ≡ suc i = omega arith in
    ap (λ (m : ℕ). forget_ops p n (take m ks)) one ∙ ap (forget_ops p n) (taken ks i is) ∙ forget-append p n (take i ks) (k ∷ [])
  where
    taken : (ks : List Placed) (i : ℕ) → slice_get ks i ≡ Some k → take (suc i) ks ≡ take i ks ++ k ∷ []
    taken [] i is = absurd (cc)
    taken (j ∷ ks) zero is = let w : j ≡ k = cc in ap (λ (x : Placed). x ∷ []) w
    taken (j ∷ ks) (suc i) is = ap (λ (xs : List Placed). j ∷ xs) (taken ks i is)

-- ids up to a place past them all are all of them
pub forget-whole : (p : Option ℕ) (n : ℕ) (ks : List Placed) (i : ℕ) → length ks ≤ i → forget_ops p n (take i ks) ≡ forget_ops p n ks
forget-whole p n ks i past = ap (forget_ops p n) (take_all i ks past)

-- ---- one more of a loop

take-next : (xs : List (List ℕ)) (i : ℕ) (d : List ℕ) → i < length xs → take (suc i) xs ≡ take i xs ++ get_or xs i d ∷ []
take-next [] i d l = absurd (omega arith)
take-next (x ∷ xs) zero d l = refl
take-next (x ∷ xs) (suc i) d l = ap (λ (ys : List (List ℕ)). x ∷ ys) (take-next xs i d (omega arith))

has-get : (xs : List (List ℕ)) (i : ℕ) (d : List ℕ) → i < length xs → Has xs (get_or xs i d)
has-get [] i d l = absurd (omega arith)
has-get (x ∷ xs) zero d l = inl refl
has-get (x ∷ xs) (suc i) d l = inr (has-get xs i d (omega arith))

pub unlocks-none : (p : Option ℕ) (below : ℕ) (ops : List Op) → ops ≡ [] → ops ≡ unlocks p below []
unfolding unlocks
unlocks-none p below ops e = e

unlocks-one : (p : Option ℕ) (below : ℕ) (name : List ℕ) → unlocks p below (name ∷ []) ≡ unlock_below p below (lock_number name)
unfolding unlocks
unlocks-one p below name = append-nil (unlock_below p below (lock_number name))

pub unlock-step : (t : TreeView) (next : Nexts) (holders : Holders) → HasNumbers t next holders → (p : Option ℕ) → IsPartition p → (below : ℕ) (names : List (List ℕ)) → names ≡ children t (znode_path (Partition p)) → (i : ℕ) → i < length names
    → (name d : List ℕ) → name ≡ get_or names i d → (ops more : List Op) → ops ≡ unlocks p below (take i names) → ((n : ℕ) → n < 2 ^ 32 → name ≡ lock_name n → more ≡ ops ++ unlock_below p below n) → more ≡ unlocks p below (take (i + 1) names)
unlock-step t next holders has p part below names e i l name d is ops more before step =
    let h : Has (children t (znode_path (Partition p))) name = subst (Has (children t (znode_path (Partition p)))) (sym is) (subst (λ (ns : List (List ℕ)). Has ns (get_or names i d)) e (has-get names i d l)) in
    let r = one-more t next holders has p part below name h in
    let one : suc i ≡ i + 1 = omega arith in
    step (lock_number name) r.0 r.1
    ∙ ap (λ (os : List Op). os ++ unlock_below p below (lock_number name)) before
    ∙ ap (λ (os : List Op). unlocks p below (take i names) ++ os) (sym (unlocks-one p below name))
    ∙ sym (unlocks-append p below (take i names) (name ∷ []))
    ∙ ap (unlocks p below) (ap (λ (n : List ℕ). take i names ++ n ∷ []) is ∙ sym (take-next names i d l) ∙ ap (λ (k : ℕ). take k names) one)

-- the locks, and then the kept ids
pub drops-both : {A E : Type 0} (r : Result A E) (f : A → List Op) (holders : Holders) (ks : List Placed) (p : Option ℕ) (n : ℕ) (ops : List Op) → AreUnlockOps holders p n ops → IfOk r (λ all. f all ≡ ops ++ forget_ops p n ks) → IfOk r (λ all. AreDropOps holders ks p n (f all))
drops-both (Ok a) f holders ks p n ops u h = record { locks = u.locks; are_locks = u.are_locks; ops_are = h ∙ ap (λ (os : List Op). os ++ forget_ops p n ks) u.ops_are }
drops-both (Err e) f holders ks p n ops u h = tt
