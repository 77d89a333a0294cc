-- What a commit makes of the nodes.
use Rattle.std.proofs.Common.{◌≡◌, ℕ, zero, suc, ◌+◌, ◌-◌, ◌<◌, ◌≤◌, Bool, true, false, cond, List, [], ◌∷◌, ◌++◌, length, refl, ap, subst, arith, nat_le}
use Rattle.std.proofs.lemmas.Bool.Decides.{nat_tests}
use Rattle.std.specs.declared.option.Option.{Option}
use Rattle.std.specs.declared.option.Option.TheVariants.{Some, None}
use Rattle.std.specs.Option.{option_map}
use Rattle.rmt_znodes.specs.Znodes.{entry_path}
use Rattle.rmt_names.specs.Names.{Name, block_name}
use Rattle.rmt_entries.specs.declared.entry.Entry.{Entry}
use Rattle.rmt_entries.specs.declared.entry.Entry.TheVariants.{Get}
use Rattle.rmt_model.specs.Words.{Each, Pairwise}
use Rattle.rmt_tree.specs.Trees.{TreeView}
use Rattle.rmt_tree.specs.Ops.{after, after_all}
use Rattle.rmt_tree.specs.declared.op.Op.{Op}
use Rattle.rmt_tree.specs.declared.op.Op.TheVariants as op
use Rattle.rmt_znodes.specs.declared.znode.Znode.{Znode}
use Rattle.rmt_znodes.specs.declared.znode.Znode.TheVariants.{Log, LogEntry, Blocks, Block, Order, OrderOf, Numbers, Partition, Lock, Mutations, MutationNode, Quorum, Status, LastPart, Replicas, Replica, LogPointer, IsActive}
use Rattle.rmt_znodes.specs.Znodes.{znode_path, IsZnode}
use Rattle.rmt_znodes.specs.ZnodeStates.{ZnodeStates, with_state, without_state, Limits, HasZnodes, Makes}
use Rattle.rmt_znodes.proofs.ZnodeStateLemmas.{has_znodes-as, Does, creates, with_counted, deletes, makes-none, makes-more}
use Rattle.rmt_table_model.specs.Numbers.{unlocked}
use Rattle.rmt_model.specs.Quorum.{Pending, quorum_blocks}
use Rattle.rmt_table_model.specs.Tables.{TableView, IsSound}
use Rattle.rmt_table_model.specs.Changes.{after_commit, after_abandon, MayCommit}
use Rattle.std.specs.Prelude.{take}
use Rattle.rmt_table_model.specs.Kept.{Placed, in_order, get_count, with_id, Differ, IsIdZnode, AreKept}
use Rattle.std.proofs.lemmas.List.{nil_from_length}
use Rattle.rmt_table_model.specs.Nodes.{plain, counting, owned, status_text, numbered_of, order_count, expected, noted_count, met_count, version_limits, IsTreeOf, keep_ops, status_ops, commit_ops}
use Rattle.rmt_table_model.proofs.NodeLemmas.{does-as, makes-one}
use Rattle.rmt_table_model.proofs.StepNodes.{lock-znode, unlocks, appends, appended, no-entry}
use Rattle.rmt_table_model.proofs.KeptLemmas.{placed, gets-next, in_order-most}
use Rattle.rmt_table_model.proofs.KeptNodes.{kept_states, makes-append, keeps}

-- a block is kept, whatever the window
pub keep-any : (t : TreeView) (w : ℕ) (ks : List Placed) (gets : ℕ) (p : Option ℕ) (digest : List ℕ) (part : Name) (states : ZnodeStates) (limits : Limits) → HasZnodes t (kept_states ks (numbered_of w gets) states) limits → Pairwise Differ ks → Each IsIdZnode ks → Each (λ k. k.number < gets) ks → length ks ≤ w → gets < 4294967295
    → IsZnode (Block p digest) → part.partition ≡ p → with_id p digest ks ≡ None
    → Makes t (keep_ops w ks p digest part) (kept_states (take w (placed gets digest part ∷ ks)) (numbered_of w (suc gets)) states) limits
keep-any t zero ks gets p digest part states limits m differ znodes below most room znode same none =
    makes-none t (kept_states [] 0 states) limits (subst (λ (xs : List Placed). HasZnodes t (kept_states xs 0 states) limits) (nil_from_length ks (omega (arith, most))) m)
keep-any t (suc w) ks gets p digest part states limits m differ znodes below most room znode same none = keeps t w ks gets p digest part states limits m differ znodes below most room znode same none

module _ (bytes : Entry → List ℕ) (t : TreeView) (v : TableView) (of : IsTreeOf bytes t v) (sound : IsSound v) (p : Option ℕ) (n : ℕ) (digest : List ℕ) (source need values : ℕ) (m : MayCommit p n digest need values v) (short : length v.log < 4294967295) (few : get_count v.log < 4294967295) where
  abbrev entry : Entry
  entry = Get p n digest source need

  abbrev unlocked_view : TableView
  unlocked_view = after_abandon p n v

  abbrev logged_states : ZnodeStates
  logged_states = with_state (LogEntry (length v.log)) (plain (bytes entry)) (with_counted Log (counting (length v.log)) (expected bytes unlocked_view))

  first : Does t (op.Delete (znode_path (Lock p n)) None) (expected bytes unlocked_view) (version_limits v)
  first = does-as t (op.Delete (znode_path (Lock p n)) None) (without_state (Lock p n) (expected bytes v)) (expected bytes unlocked_view) (version_limits v) (version_limits v)
      (deletes t (expected bytes v) (version_limits v) of.nodes (Lock p n) (owned (m.is_locked).0) (lock-znode v sound p n m.is_locked) refl (ap (option_map owned) (m.is_locked).1))
      each (λ y h. omega arith)
    where
      each : (y : Znode) → IsZnode y → without_state (Lock p n) (expected bytes v) y ≡ expected bytes unlocked_view y
      each Log h = refl
      each (LogEntry i) h = refl
      each Blocks h = refl
      each (Block q d) h = refl
      each Order h = refl
      each (OrderOf i) h = refl
      each Numbers h = refl
      each (Partition q) h = refl
      each (Lock q k) h = unlocks v.holders p n q k
      each Mutations h = refl
      each (MutationNode i) h = refl
      each Quorum h = refl
      each Status h = refl
      each LastPart h = refl
      each Replicas h = refl
      each (Replica r) h = refl
      each (LogPointer r) h = refl
      each (IsActive r) h = refl

  abbrev tree1 : TreeView
  tree1 = after t (op.Delete (znode_path (Lock p n)) None)

  second : Does tree1 (op.Create entry_path (bytes entry) true None) (kept_states (in_order v.schema.window v.log) (order_count v.schema.window v.log) logged_states) (version_limits v)
  second = does-as tree1 (op.Create entry_path (bytes entry) true None) logged_states (kept_states (in_order v.schema.window v.log) (order_count v.schema.window v.log) logged_states) (version_limits v) (version_limits v)
      (appends tree1 (expected bytes unlocked_view) (version_limits v) (length v.log) (bytes entry) (Does.nodes first) refl (ap (option_map (λ x. plain (bytes x))) (no-entry v.log)) short)
      each (λ y h. omega arith)
    where
      each : (y : Znode) → IsZnode y → logged_states y ≡ kept_states (in_order v.schema.window v.log) (order_count v.schema.window v.log) logged_states y
      each Log h = refl
      each (LogEntry i) h = refl
      each Blocks h = refl
      each (Block q d) h = refl
      each Order h = refl
      each (OrderOf i) h = refl
      each Numbers h = refl
      each (Partition q) h = refl
      each (Lock q k) h = refl
      each Mutations h = refl
      each (MutationNode i) h = refl
      each Quorum h = refl
      each Status h = refl
      each LastPart h = refl
      each Replicas h = refl
      each (Replica r) h = refl
      each (LogPointer r) h = refl
      each (IsActive r) h = refl

  abbrev tree2 : TreeView
  tree2 = after tree1 (op.Create entry_path (bytes entry) true None)

  abbrev keeping : List Op
  keeping = keep_ops v.schema.window (in_order v.schema.window v.log) p digest (block_name p n)

  abbrev kept_then : ZnodeStates
  kept_then = kept_states (take v.schema.window (placed (get_count v.log) digest (block_name p n) ∷ in_order v.schema.window v.log)) (numbered_of v.schema.window (suc (get_count v.log))) logged_states

  third : Makes tree2 keeping kept_then (version_limits v)
  third = keep-any tree2 v.schema.window (in_order v.schema.window v.log) (get_count v.log) p digest (block_name p n) logged_states (version_limits v) (Does.nodes second) (AreKept.differ sound.kept) (AreKept.ids sound.kept) (AreKept.below sound.kept) (in_order-most v.schema.window v.log) few
      m.id refl m.not_kept

  -- the table where a quorum was asked for, as the test says
  abbrev view_where : Bool → TableView
  view_where b = record v {
    log = entry ∷ v.log;
    holders = unlocked v.holders p n;
    quorum = record { pending = cond b (Some (record { part = block_name p n; need = need; noted = [] })) v.quorum.pending; last = v.quorum.last };
    values = v.values + values;
  }

  order-count : Some (counting (numbered_of v.schema.window (suc (get_count v.log)))) ≡ Some (counting (order_count v.schema.window (entry ∷ v.log)))
  order-count = ap (λ (c : ℕ). Some (counting (numbered_of v.schema.window c))) (let c = gets-next entry v.log in omega (arith, c))

  same-but : (y : Znode) → IsZnode y → kept_then y ≡ expected bytes (view_where false) y
  same-but Log h = refl
  same-but (LogEntry i) h = appended bytes entry v.log i
  same-but Blocks h = refl
  same-but (Block q d) h = refl
  same-but Order h = order-count
  same-but (OrderOf i) h = refl
  same-but Numbers h = refl
  same-but (Partition q) h = refl
  same-but (Lock q k) h = refl
  same-but Mutations h = refl
  same-but (MutationNode i) h = refl
  same-but Quorum h = refl
  same-but Status h = refl
  same-but LastPart h = refl
  same-but Replicas h = refl
  same-but (Replica r) h = refl
  same-but (LogPointer r) h = refl
  same-but (IsActive r) h = refl

  abbrev tree3 : TreeView
  tree3 = after_all tree2 keeping

  limits-false : nat_le 2 need ≡ false → (y : Znode) → version_limits v y ≤ version_limits (view_where false) y
  limits-false e Log = omega arith
  limits-false e (LogEntry i) = omega arith
  limits-false e Blocks = omega arith
  limits-false e (Block q d) = omega arith
  limits-false e Order = omega arith
  limits-false e (OrderOf i) = omega arith
  limits-false e Numbers = omega arith
  limits-false e (Partition q) = omega arith
  limits-false e (Lock q k) = omega arith
  limits-false e Mutations = omega arith
  limits-false e (MutationNode i) = omega arith
  limits-false e Quorum = omega arith
  limits-false e Status = omega arith
  limits-false e LastPart = let q = ap (λ (b : Bool). met_count v.quorum.pending (cond b (record { part = block_name p n; need = need } ∷ quorum_blocks v.log) (quorum_blocks v.log))) e in omega (arith, q)
  limits-false e Replicas = omega arith
  limits-false e (Replica r) = omega arith
  limits-false e (LogPointer r) = omega arith
  limits-false e (IsActive r) = omega arith

  limits-true : nat_le 2 need ≡ true → v.quorum.pending ≡ None → (y : Znode) → version_limits v y ≤ version_limits (view_where true) y
  limits-true e z Log = omega arith
  limits-true e z (LogEntry i) = omega arith
  limits-true e z Blocks = omega arith
  limits-true e z (Block q d) = omega arith
  limits-true e z Order = omega arith
  limits-true e z (OrderOf i) = omega arith
  limits-true e z Numbers = omega arith
  limits-true e z (Partition q) = omega arith
  limits-true e z (Lock q k) = omega arith
  limits-true e z Mutations = omega arith
  limits-true e z (MutationNode i) = omega arith
  limits-true e z Quorum = omega arith
  limits-true e z Status = let r = ap noted_count z in omega (arith, r)
  limits-true e z LastPart =
      let q = ap (λ (b : Bool). length (cond b (record { part = block_name p n; need = need } ∷ quorum_blocks v.log) (quorum_blocks v.log)) - 1) e in
      let r = ap (λ (o : Option Pending). met_count o (quorum_blocks v.log)) z in omega (arith, q, r)
  limits-true e z Replicas = omega arith
  limits-true e z (Replica r) = omega arith
  limits-true e z (LogPointer r) = omega arith
  limits-true e z (IsActive r) = omega arith

  fourth : (b : Bool) → nat_le 2 need ≡ b → HasZnodes tree3 kept_then (version_limits v) → Makes tree3 (cond b (op.Create (znode_path Status) (status_text (record { part = block_name p n; need = need; noted = [] })) false None ∷ []) []) (expected bytes (view_where b)) (version_limits (view_where b))
  fourth false e has_znodes = makes-none tree3 (expected bytes (view_where false)) (version_limits (view_where false)) (has_znodes-as tree3 kept_then (expected bytes (view_where false)) (version_limits v) (version_limits (view_where false)) has_znodes same-but (λ y h. limits-false e y))
  fourth true e has_znodes = makes-one tree3 (op.Create (znode_path Status) (status_text (record { part = block_name p n; need = need; noted = [] })) false None) (expected bytes (view_where true)) (version_limits (view_where true))
      (does-as tree3 (op.Create (znode_path Status) (status_text (record { part = block_name p n; need = need; noted = [] })) false None) (with_state Status (plain (status_text (record { part = block_name p n; need = need; noted = [] }))) kept_then) (expected bytes (view_where true)) (version_limits v) (version_limits (view_where true))
      (creates tree3 kept_then (version_limits v) has_znodes Status tt (status_text (record { part = block_name p n; need = need; noted = [] })) None tt (tt, (plain [], refl, refl)) (ap (option_map (λ q. plain (status_text q))) none))
      each (λ y h. limits-true e none y))
    where
      none : v.quorum.pending ≡ None
      none = m.none_pending (grind (arith, nat_tests))

      each : (y : Znode) → IsZnode y → with_state Status (plain (status_text (record { part = block_name p n; need = need; noted = [] }))) kept_then y ≡ expected bytes (view_where true) y
      each Log h = refl
      each (LogEntry i) h = appended bytes entry v.log i
      each Blocks h = refl
      each (Block q d) h = refl
      each Order h = order-count
      each (OrderOf i) h = refl
      each Numbers h = refl
      each (Partition q) h = refl
      each (Lock q k) h = refl
      each Mutations h = refl
      each (MutationNode i) h = refl
      each Quorum h = refl
      each Status h = refl
      each LastPart h = refl
      each Replicas h = refl
      each (Replica r) h = refl
      each (LogPointer r) h = refl
      each (IsActive r) h = refl

  -- the multi of commit_insert
  pub commit-makes : Makes t (commit_ops bytes p n digest source need v) (expected bytes (after_commit p n digest source need values v)) (version_limits (after_commit p n digest source need values v))
  commit-makes =
      makes-more t (op.Delete (znode_path (Lock p n)) None) (op.Create entry_path (bytes entry) true None ∷ (keeping ++ status_ops (block_name p n) need)) (expected bytes unlocked_view) (expected bytes (view_where (nat_le 2 need))) (version_limits v) (version_limits (view_where (nat_le 2 need))) first
      (makes-more tree1 (op.Create entry_path (bytes entry) true None) (keeping ++ status_ops (block_name p n) need) (kept_states (in_order v.schema.window v.log) (order_count v.schema.window v.log) logged_states) (expected bytes (view_where (nat_le 2 need))) (version_limits v) (version_limits (view_where (nat_le 2 need))) second
      (makes-append tree2 keeping (status_ops (block_name p n) need) kept_then (expected bytes (view_where (nat_le 2 need))) (version_limits v) (version_limits (view_where (nat_le 2 need))) third (fourth (nat_le 2 need) refl)))
