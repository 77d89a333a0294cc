-- What a mutation and a note make of the nodes.
use Rattle.std.proofs.Common.{◌≡◌, ℕ, suc, ◌+◌, ◌<◌, ◌≤◌, inl, inr, Bool, true, false, cond, List, [], ◌∷◌, ◌++◌, length, refl, sym, ap, subst, arith, ◌∙◌, nat_eq}
use Rattle.std.proofs.lemmas.Bool.Decides.{nat_tests}
use Rattle.std.specs.declared.option.Option.{Option}
use Rattle.std.specs.declared.option.Option.TheVariants.{Some, None}
use Rattle.std.specs.Option.{option_map}
use Rattle.std.specs.Fmt.{decimal}
use Rattle.rmt_znodes.specs.Znodes.{entry_path}
use Rattle.rmt_names.specs.Names.{rank}
use Rattle.rmt_entries.specs.declared.entry.Entry.{Entry}
use Rattle.rmt_entries.specs.declared.entry.Entry.TheVariants.{Get, Merge, Mutate, Mutation, DropRange}
use Rattle.rmt_model.specs.Words.{Has, Each, Pairwise}
use Rattle.rmt_model.specs.Lawful.{Lawful, mutation_count}
use Rattle.rmt_model.proofs.Lists.{Each-at}
use Rattle.rmt_tree.specs.Trees.{TreeView}
use Rattle.rmt_tree.specs.Ops.{after, after_all}
use Rattle.rmt_tree.specs.declared.op.Op.TheVariants as op
use Rattle.rmt_znodes.specs.declared.znode.Znode.{Znode}
use Rattle.rmt_znodes.specs.declared.znode.Znode.TheVariants.{Log, LogEntry, Blocks, Block, Order, OrderOf, Numbers, Partition, Lock, Mutations, MutationNode, Quorum, Status, LastPart, Replicas, Replica, LogPointer, IsActive}
use Rattle.rmt_znodes.specs.Znodes.{znode_path, IsZnode, IsPartition}
use Rattle.rmt_znodes.specs.ZnodeStates.{ZnodeStates, with_state, Limits, HasZnodes, Makes}
use Rattle.rmt_model.specs.BlockNumbers.{next_numbers_after}
use Rattle.rmt_table_model.specs.Numbers.{Nexts, AreNexts, next_of}
use Rattle.rmt_table_model.specs.Tables.{TableView, IsSound}
use Rattle.rmt_table_model.specs.Changes.{after_mutation, MayMutate}
use Rattle.rmt_table_model.proofs.NumberLemmas.{number-is}
use Rattle.std.proofs.lemmas.List.{append_assoc}
use Rattle.rmt_znodes.proofs.ZnodeStateLemmas.{has_znodes-as, Does, creates, with_counted, makes-none, makes-more}
use Rattle.rmt_model.proofs.Lists.{Each-all}
use Rattle.rmt_table_model.proofs.NodeLemmas.{does-as, makes-one, not-locked, limits-rise}
use Rattle.rmt_table_model.proofs.StepNodes.{appends, appended, no-entry}
use Rattle.rmt_table_model.proofs.KeptLemmas.{gets-next}
use Rattle.rmt_table_model.proofs.KeptNodes.{makes-append}
use Rattle.std.proofs.lemmas.List.Sums.{sum_by-cons}
use Rattle.rmt_model.specs.Lawful.{is_mutation, IsMutation}
use Rattle.rmt_values.specs.Rows.{Shape}
use Rattle.rmt_values.specs.declared.checked_mutation.CheckedMutation.{CheckedMutation}
use Rattle.rmt_table_model.specs.Nodes.{plain, counting, owned, mutation_place, numbered_of, order_count, expected, version_limits, IsTreeOf, number_ops, next_states, numbers_ops, mutation_ops}
use Rattle.rmt_table_model.proofs.DropNodes.{makes-as, numbers}

-- ---- a number in each partition

-- the partition in the middle of a list in order
next-middle : (front : Nexts) (p : Option ℕ) (m : ℕ) (xs : Nexts) → Pairwise (λ x y. rank x.0 < rank y.0) (front ++ (p, m) ∷ xs) → next_of (front ++ (p, m) ∷ xs) p ≡ Some m
next-middle [] p m xs r = ap (λ (b : Bool). cond b (Some m) (next_of xs p)) (let w : nat_eq (rank p) (rank p) ≡ true = grind (arith, nat_tests) in w)
next-middle (f ∷ front) p m xs r = ap (λ (b : Bool). cond b (Some f.1) (next_of (front ++ (p, m) ∷ xs) p)) (let w : nat_eq (rank f.0) (rank p) ≡ false = before in w) ∙ next-middle front p m xs r.1
  where
    middle : (ys : Nexts) → Has (ys ++ (p, m) ∷ xs) (p, m)
    middle [] = inl refl
    middle (y ∷ ys) = inr (middle ys)

    before : nat_eq (rank f.0) (rank p) ≡ false
    before = let l : rank f.0 < rank p = Each-at (λ (y : Option ℕ × ℕ). rank f.0 < rank y.0) (front ++ (p, m) ∷ xs) (p, m) r.0 (middle front) in grind (arith, nat_tests)

next-raised : (front : Nexts) (p : Option ℕ) (m k : ℕ) (xs : Nexts) (q : Option ℕ) → Pairwise (λ x y. rank x.0 < rank y.0) (front ++ (p, m) ∷ xs) → cond (nat_eq (rank q) (rank p)) (Some k) (next_of (front ++ (p, m) ∷ xs) q) ≡ next_of (front ++ (p, k) ∷ xs) q
next-raised [] p m k xs q r = go (nat_eq (rank q) (rank p)) refl (nat_eq (rank p) (rank q)) refl
  where
    go : (b : Bool) → nat_eq (rank q) (rank p) ≡ b → (c : Bool) → nat_eq (rank p) (rank q) ≡ c → cond b (Some k) (cond c (Some m) (next_of xs q)) ≡ cond c (Some k) (next_of xs q)
    go true i true j = refl
    go true i false j = absurd (grind (arith, nat_tests))
    go false i true j = absurd (grind (arith, nat_tests))
    go false i false j = refl
next-raised (f ∷ front) p m k xs q r = go (nat_eq (rank q) (rank p)) refl (nat_eq (rank f.0) (rank q)) refl (next-raised front p m k xs q r.1)
  where
    middle : (ys : Nexts) → Has (ys ++ (p, m) ∷ xs) (p, m)
    middle [] = inl refl
    middle (y ∷ ys) = inr (middle ys)

    before : rank f.0 < rank p
    before = Each-at (λ (y : Option ℕ × ℕ). rank f.0 < rank y.0) (front ++ (p, m) ∷ xs) (p, m) r.0 (middle front)

    go : (b : Bool) → nat_eq (rank q) (rank p) ≡ b → (c : Bool) → nat_eq (rank f.0) (rank q) ≡ c → cond (nat_eq (rank q) (rank p)) (Some k) (next_of (front ++ (p, m) ∷ xs) q) ≡ next_of (front ++ (p, k) ∷ xs) q
        → cond b (Some k) (cond c (Some f.1) (next_of (front ++ (p, m) ∷ xs) q)) ≡ cond c (Some f.1) (next_of (front ++ (p, k) ∷ xs) q)
    go true i true j e = let l = before in absurd (grind (arith, nat_tests))
    go true i false j e = sym (ap (λ (b : Bool). cond b (Some k) (next_of (front ++ (p, m) ∷ xs) q)) i) ∙ e
    go false i true j e = refl
    go false i false j e = sym (ap (λ (b : Bool). cond b (Some k) (next_of (front ++ (p, m) ∷ xs) q)) i) ∙ e

rising-raised : (front : Nexts) (p : Option ℕ) (m k : ℕ) (xs : Nexts) → Pairwise (λ x y. rank x.0 < rank y.0) (front ++ (p, m) ∷ xs) → Pairwise (λ x y. rank x.0 < rank y.0) (front ++ (p, k) ∷ xs)
rising-raised [] p m k xs r = r
rising-raised (f ∷ front) p m k xs r = (each front r.0, rising-raised front p m k xs r.1)
  where
    each : (ys : Nexts) → Each (λ y. rank f.0 < rank y.0) (ys ++ (p, m) ∷ xs) → Each (λ y. rank f.0 < rank y.0) (ys ++ (p, k) ∷ xs)
    each [] h = h
    each (y ∷ ys) h = (h.0, each ys h.1)

-- a number is taken in each
numbers-each : (t : TreeView) (front xs : Nexts) (states : ZnodeStates) (limits : Limits) → HasZnodes t (next_states (front ++ xs) states) limits → Pairwise (λ x y. rank x.0 < rank y.0) (front ++ xs)
    → Each (λ x. IsPartition x.0 × (x.1 < 4294967295) × (states (Lock x.0 x.1) ≡ None)) xs → Makes t (numbers_ops xs) (next_states (front ++ next_numbers_after xs) states) limits
numbers-each t front [] states limits m r each = makes-none t (next_states (front ++ []) states) limits m
numbers-each t front (x ∷ xs) states limits m r each =
    makes-append t (number_ops x.0 x.1) (numbers_ops xs) (next_states (front ++ (x.0, x.1 + 1) ∷ xs) states) (next_states (front ++ (x.0, x.1 + 1) ∷ next_numbers_after xs) states) limits limits
    (makes-as t (number_ops x.0 x.1) (with_counted (Partition x.0) (counting x.1) (next_states (front ++ x ∷ xs) states)) (next_states (front ++ (x.0, x.1 + 1) ∷ xs) states) limits limits
    (numbers t (next_states (front ++ x ∷ xs) states) limits x.0 x.1 m each.0.0 each.0.1 (ap (option_map counting) (next-middle front x.0 x.1 xs r)) each.0.2)
    same (λ y h. inl (omega arith)))
    (λ w. subst (λ (ys : Nexts). Makes (after_all t (number_ops x.0 x.1)) (numbers_ops xs) (next_states ys states) limits) (append_assoc front ((x.0, x.1 + 1) ∷ []) (next_numbers_after xs))
    (numbers-each (after_all t (number_ops x.0 x.1)) (front ++ (x.0, x.1 + 1) ∷ []) xs states limits
    (subst (λ (ys : Nexts). HasZnodes (after_all t (number_ops x.0 x.1)) (next_states ys states) limits) (sym (append_assoc front ((x.0, x.1 + 1) ∷ []) xs)) w)
    (subst (Pairwise (λ x y. rank x.0 < rank y.0)) (sym (append_assoc front ((x.0, x.1 + 1) ∷ []) xs)) (rising-raised front x.0 x.1 (x.1 + 1) xs r))
    each.1))
  where
    partition : (q : Option ℕ) → cond (nat_eq (rank q) (rank x.0)) (Some (counting (suc x.1))) (option_map counting (next_of (front ++ x ∷ xs) q)) ≡ option_map counting (next_of (front ++ (x.0, x.1 + 1) ∷ xs) q)
    partition q = go (nat_eq (rank q) (rank x.0)) ∙ ap (option_map counting) (next-raised front x.0 x.1 (x.1 + 1) xs q r)
      where
        go : (b : Bool) → cond b (Some (counting (suc x.1))) (option_map counting (next_of (front ++ x ∷ xs) q)) ≡ option_map counting (cond b (Some (x.1 + 1)) (next_of (front ++ x ∷ xs) q))
        go true = ap (λ (n : ℕ). Some (counting n)) (let w : suc x.1 ≡ x.1 + 1 = omega arith in w)
        go false = refl

    same : (y : Znode) → IsZnode y → with_counted (Partition x.0) (counting x.1) (next_states (front ++ x ∷ xs) states) y ≡ next_states (front ++ (x.0, x.1 + 1) ∷ xs) states y
    same Log h = refl
    same (LogEntry i) h = refl
    same Blocks h = refl
    same (Block q d) h = refl
    same Order h = refl
    same (OrderOf i) h = refl
    same Numbers h = refl
    same (Partition q) h = partition q
    same (Lock q k) h = refl
    same Mutations h = refl
    same (MutationNode i) h = refl
    same Quorum h = refl
    same Status h = refl
    same LastPart h = refl
    same Replicas h = refl
    same (Replica r) h = refl
    same (LogPointer r) h = refl
    same (IsActive r) h = refl

-- ---- mutations

place-none : (schema : Shape) (log : List Entry) (k : ℕ) → Lawful schema log → mutation_count log ≤ k → mutation_place log k ≡ None
place-none schema [] k l h = refl
place-none schema (Mutation id numbers command ∷ log) k l h =
    let c : mutation_count (Mutation id numbers command ∷ log) ≡ 1 + mutation_count log = sum_by-cons (λ y. cond (is_mutation y) 1 0) (Mutation id numbers command) log in
    let i = IsMutation.numbered l.1 in
    ap (λ (b : Bool). cond b (Some (length log)) (mutation_place log k)) (let w : nat_eq id k ≡ false = grind (arith, nat_tests) in w) ∙ place-none schema log k l.0 (omega (arith, c, h))
place-none schema (Get p n digest source need ∷ log) k l h = place-none schema log k l.0 (let c : mutation_count (Get p n digest source need ∷ log) ≡ 0 + mutation_count log = sum_by-cons (λ y. cond (is_mutation y) 1 0) (Get p n digest source need) log in omega (arith, c, h))
place-none schema (Merge new sources count ∷ log) k l h = place-none schema log k l.0 (let c : mutation_count (Merge new sources count ∷ log) ≡ 0 + mutation_count log = sum_by-cons (λ y. cond (is_mutation y) 1 0) (Merge new sources count) log in omega (arith, c, h))
place-none schema (Mutate old new upto count mcount ∷ log) k l h = place-none schema log k l.0 (let c : mutation_count (Mutate old new upto count mcount ∷ log) ≡ 0 + mutation_count log = sum_by-cons (λ y. cond (is_mutation y) 1 0) (Mutate old new upto count mcount) log in omega (arith, c, h))
place-none schema (DropRange p n ∷ log) k l h = place-none schema log k l.0 (let c : mutation_count (DropRange p n ∷ log) ≡ 0 + mutation_count log = sum_by-cons (λ y. cond (is_mutation y) 1 0) (DropRange p n) log in omega (arith, c, h))

module _ (bytes : Entry → List ℕ) (t : TreeView) (v : TableView) (of : IsTreeOf bytes t v) (sound : IsSound v) (command : CheckedMutation) (m : MayMutate command v) (short : length v.log < 4294967295) where
  abbrev made : Entry
  made = Mutation (mutation_count v.log) v.next command

  abbrev counted_states : ZnodeStates
  counted_states = next_states (next_numbers_after v.next) (expected bytes v)

  as_next : (y : Znode) → IsZnode y → expected bytes v y ≡ next_states v.next (expected bytes v) y
  as_next Log h = refl
  as_next (LogEntry i) h = refl
  as_next Blocks h = refl
  as_next (Block q d) h = refl
  as_next Order h = refl
  as_next (OrderOf i) h = refl
  as_next Numbers h = refl
  as_next (Partition q) h = refl
  as_next (Lock q k) h = refl
  as_next Mutations h = refl
  as_next (MutationNode i) h = refl
  as_next Quorum h = refl
  as_next Status h = refl
  as_next LastPart h = refl
  as_next Replicas h = refl
  as_next (Replica r) h = refl
  as_next (LogPointer r) h = refl
  as_next (IsActive r) h = refl

  counted-first : Makes t (numbers_ops v.next) counted_states (version_limits v)
  counted-first = numbers-each t [] v.next (expected bytes v) (version_limits v) (has_znodes-as t (expected bytes v) (next_states v.next (expected bytes v)) (version_limits v) (version_limits v) of.nodes as_next (λ y h. omega arith)) (AreNexts.rising sound.nexts)
      (Each-all (λ x. IsPartition x.0 × (x.1 < 4294967295) × (expected bytes v (Lock x.0 x.1) ≡ None)) v.next (λ x h.
      (sound.partitions x.0 x.1 h, (let w = m.numbers x.0 x.1 h in omega (arith, w)), ap (option_map owned) (subst (λ (k : ℕ). v.holders x.0 k ≡ None) (number-is v.next x.0 x.1 sound.nexts h) (not-locked v sound x.0)))))

  abbrev counted_tree : TreeView
  counted_tree = after_all t (numbers_ops v.next)

  abbrev with_mutation : ZnodeStates
  with_mutation = with_state (MutationNode (mutation_count v.log)) (plain (decimal (length v.log))) counted_states

  made-second : HasZnodes counted_tree counted_states (version_limits v) → Does counted_tree (op.Create (znode_path (MutationNode (mutation_count v.log))) (decimal (length v.log)) false None) with_mutation (version_limits v)
  made-second has_znodes = creates counted_tree counted_states (version_limits v) has_znodes (MutationNode (mutation_count v.log)) (let w = m.mutations in omega (arith, w)) (decimal (length v.log)) None tt (tt, (plain [], refl, refl)) (ap (option_map (λ i. plain (decimal i))) (place-none v.schema v.log (mutation_count v.log) sound.lawful (omega arith)))

  abbrev mutation_tree : TreeView
  mutation_tree = after counted_tree (op.Create (znode_path (MutationNode (mutation_count v.log))) (decimal (length v.log)) false None)

  mutation : (k : ℕ) → cond (nat_eq k (mutation_count v.log)) (Some (plain (decimal (length v.log)))) (option_map (λ i. plain (decimal i)) (mutation_place v.log k)) ≡ option_map (λ i. plain (decimal i)) (mutation_place (made ∷ v.log) k)
  mutation k = go (nat_eq k (mutation_count v.log)) refl (nat_eq (mutation_count v.log) k) refl
    where
      go : (b : Bool) → nat_eq k (mutation_count v.log) ≡ b → (c : Bool) → nat_eq (mutation_count v.log) k ≡ c → cond b (Some (plain (decimal (length v.log)))) (option_map (λ i. plain (decimal i)) (mutation_place v.log k)) ≡ option_map (λ i. plain (decimal i)) (cond c (Some (length v.log)) (mutation_place v.log k))
      go true i true j = refl
      go true i false j = absurd (grind (arith, nat_tests))
      go false i true j = absurd (grind (arith, nat_tests))
      go false i false j = refl

  order-same : Some (counting (order_count v.schema.window v.log)) ≡ Some (counting (order_count v.schema.window (made ∷ v.log)))
  order-same = ap (λ (c : ℕ). Some (counting (numbered_of v.schema.window c))) (let c = gets-next made v.log in omega (arith, c))

  mutation-each : (y : Znode) → IsZnode y → with_state (LogEntry (length v.log)) (plain (bytes made)) (with_counted Log (counting (length v.log)) with_mutation) y ≡ expected bytes (after_mutation command v) y
  mutation-each Log h = refl
  mutation-each (LogEntry i) h = appended bytes made v.log i
  mutation-each Blocks h = refl
  mutation-each (Block q d) h = refl
  mutation-each Order h = order-same
  mutation-each (OrderOf i) h = refl
  mutation-each Numbers h = refl
  mutation-each (Partition q) h = refl
  mutation-each (Lock q k) h = refl
  mutation-each Mutations h = refl
  mutation-each (MutationNode i) h = mutation i
  mutation-each Quorum h = refl
  mutation-each Status h = refl
  mutation-each LastPart h = refl
  mutation-each Replicas h = refl
  mutation-each (Replica r) h = refl
  mutation-each (LogPointer r) h = refl
  mutation-each (IsActive r) h = refl

  made-third : HasZnodes mutation_tree with_mutation (version_limits v) → Does mutation_tree (op.Create entry_path (bytes made) true None) (expected bytes (after_mutation command v)) (version_limits (after_mutation command v))
  made-third has_znodes = does-as mutation_tree (op.Create entry_path (bytes made) true None) (with_state (LogEntry (length v.log)) (plain (bytes made)) (with_counted Log (counting (length v.log)) with_mutation)) (expected bytes (after_mutation command v)) (version_limits v) (version_limits (after_mutation command v))
      (appends mutation_tree with_mutation (version_limits v) (length v.log) (bytes made) has_znodes refl (ap (option_map (λ x. plain (bytes x))) (no-entry v.log)) short)
      mutation-each (λ y h. limits-rise v (after_mutation command v) (λ s. omega arith) (omega arith) (omega arith) y)

  -- the multi of create_mutation
  pub mutation-makes : Makes t (mutation_ops bytes command v) (expected bytes (after_mutation command v)) (version_limits (after_mutation command v))
  mutation-makes = makes-append t (numbers_ops v.next) (op.Create (znode_path (MutationNode (mutation_count v.log))) (decimal (length v.log)) false None ∷ op.Create entry_path (bytes made) true None ∷ []) counted_states (expected bytes (after_mutation command v)) (version_limits v) (version_limits (after_mutation command v)) counted-first
      (λ w. makes-more counted_tree (op.Create (znode_path (MutationNode (mutation_count v.log))) (decimal (length v.log)) false None) (op.Create entry_path (bytes made) true None ∷ []) with_mutation (expected bytes (after_mutation command v)) (version_limits v) (version_limits (after_mutation command v)) (made-second w)
      (makes-one mutation_tree (op.Create entry_path (bytes made) true None) (expected bytes (after_mutation command v)) (version_limits (after_mutation command v)) (made-third (Does.nodes (made-second w)))))
