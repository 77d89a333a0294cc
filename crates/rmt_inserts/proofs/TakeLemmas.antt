-- Taking a number is never refused.
use Rattle.std.proofs.Common.{◌≡◌, ℕ, ◌<◌, ◌≤◌, ◌&&◌, Bool, true, false, cond, [], ◌∷◌, length, nat_eq, nat_le, refl, sym, ap, subst, arith, ◌∙◌}
use Rattle.std.proofs.lemmas.Bool.Decides.{nat_tests}
use Rattle.std.specs.Option.{option_map}
use Rattle.std.specs.declared.option.Option.{Option}
use Rattle.std.specs.declared.option.Option.TheVariants.{Some, None}
use Rattle.rmt_values.specs.declared.limit.Limit.{Limit}
use Rattle.rmt_values.specs.declared.limit.Limit.TheVariants as limits
use Rattle.rmt_model.specs.BlockNumbers.{next_number}
use Rattle.rmt_tree.specs.Trees.{TreeView, is_open}
use Rattle.rmt_tree.specs.Ops.{after, Refusal, IsRefusal, first_refusal, last_counter}
use Rattle.rmt_tree.specs.declared.cause.Cause.{Cause}
use Rattle.rmt_tree.specs.declared.multi_error.MultiError.{MultiError}
use Rattle.rmt_tree.specs.declared.multi_error.MultiError.TheVariants.{Refused}
use Rattle.rmt_tree.specs.declared.op.Op.TheVariants as op
use Rattle.rmt_znodes.specs.declared.znode.Znode.TheVariants.{Partition, Lock}
use Rattle.rmt_znodes.specs.Znodes.{znode_path, lock_path, IsPartition}
use Rattle.rmt_znodes.specs.ZnodeStates.{ZnodeStates, with_state, Makes}
use Rattle.rmt_znodes.proofs.ZnodeStateLemmas.{znode-itself, Does, creates, with_counted, creates-numbered, makes-more}
use Rattle.rmt_table_model.specs.Numbers.{Nexts, Holders, next_of}
use Rattle.rmt_table_model.specs.Inserts.{HasNumbers}
use Rattle.rmt_table_model.specs.Nodes.{plain, counting, owned, take_ops, next_states, lock_states}
use Rattle.rmt_table_model.proofs.NodeLemmas.{makes-one}
use Rattle.rmt_table_model.proofs.NumberLemmas.{next-is}
use Rattle.rmt_inserts.specs.Numbers.{number_limit}
use Rattle.rmt_inserts.proofs.LimitLemmas.{number-some}

-- a number that passes no limit is below the last one
limit-small : (next : Nexts) (p : Option ℕ) → number_limit next p ≡ None → next_number next p < 65536
limit-small next p e = go (nat_eq (next_number next p) 0 && nat_le 1024 (length next)) (nat_le 65536 (next_number next p)) refl e
  where
    go : (a b : Bool) → nat_le 65536 (next_number next p) ≡ b → ◌≡◌ {A = Option (Limit × ℕ)} (cond a (Some (limits.Partitions, length next)) (cond b (Some (limits.Numbers, next_number next p)) None)) None → next_number next p < 65536
    go true b t e = absurd (cc)
    go false true t e = absurd (cc)
    go false false t e = grind (arith, nat_tests)

module _ (t : TreeView) (next : Nexts) (holders : Holders) (has : HasNumbers t next holders) (p : Option ℕ) (part : IsPartition p) (s : ℕ) (opened : is_open t s ≡ true) where
  -- the nodes there are
  nodes_there : ZnodeStates
  nodes_there = next_states next (lock_states holders has.states)

  -- no lock is on a number that the partition hasn't given
  not-given : (n : ℕ) → ((m : ℕ) → next_of next p ≡ Some m → m ≤ n) → holders p n ≡ None
  not-given n above = go (holders p n) refl
    where
      go : (o : Option ℕ) → holders p n ≡ o → holders p n ≡ None
      go None e = e
      go (Some h) e = let g = has.given p n (h, e) in let a = above g.0 (next-is next p g.0 has.nexts g.1) in let b = g.2 in absurd (omega (arith, a, b))

  known : (n : ℕ) → next_of next p ≡ Some n → n < 65536 → (i : ℕ) → first_refusal t (op.Create (lock_path p) [] true (Some s) ∷ []) i ≡ None
  unfolding nodes_there
  known n here small = Makes.none_refused (makes-one t (op.Create (lock_path p) [] true (Some s)) (with_state (Lock p n) (owned s) (with_counted (Partition p) (counting n) nodes_there)) has.limits
      (creates-numbered t nodes_there has.limits has.nodes (lock_path p) (Lock p n) (Partition p) (counting n) (part, omega (arith, small)) part [] (Some s) opened
      refl (ap (option_map counting) here) refl refl (let l : last_counter ≡ 4294967295 = refl in omega (arith, small, l)) (ap (option_map owned) absent)))
    where
      absent : holders p n ≡ None
      absent = not-given n (λ m e. let w : ◌≡◌ {A = Option ℕ} (Some n) (Some m) = sym here ∙ e in let v : n ≡ m = cc in omega (arith, v))

  new : next_of next p ≡ None → (i : ℕ) → first_refusal t (op.Create (znode_path (Partition p)) [] false None ∷ op.Create (lock_path p) [] true (Some s) ∷ []) i ≡ None
  unfolding nodes_there
  new here = Makes.none_refused (makes-more t (op.Create (znode_path (Partition p)) [] false None) (op.Create (lock_path p) [] true (Some s) ∷ []) (with_state (Partition p) (counting 0) nodes_there) (with_state (Lock p 0) (owned s) (with_counted (Partition p) (counting 0) (with_state (Partition p) (counting 0) nodes_there))) has.limits has.limits
      first
      (makes-one (after t (op.Create (znode_path (Partition p)) [] false None)) (op.Create (lock_path p) [] true (Some s)) (with_state (Lock p 0) (owned s) (with_counted (Partition p) (counting 0) (with_state (Partition p) (counting 0) nodes_there))) has.limits
      (creates-numbered (after t (op.Create (znode_path (Partition p)) [] false None)) (with_state (Partition p) (counting 0) nodes_there) has.limits (Does.nodes first) (lock_path p) (Lock p 0) (Partition p) (counting 0) (part, omega arith) part [] (Some s) opened
      refl (ap (λ (b : Bool). cond b (Some (counting 0)) (option_map counting (next_of next p))) (znode-itself (Partition p))) refl refl (omega arith) (ap (option_map owned) absent))))
    where
      absent : holders p 0 ≡ None
      absent = not-given 0 (λ m e. let w : ◌≡◌ {A = Option ℕ} None (Some m) = sym here ∙ e in absurd (cc))

      first : Does t (op.Create (znode_path (Partition p)) [] false None) (with_state (Partition p) (counting 0) nodes_there) has.limits
      first = creates t nodes_there has.limits has.nodes (Partition p) part [] None tt (tt, (plain [], has.above, refl)) (ap (option_map counting) here)

  -- no op is refused
  pub take-fine : number_limit next p ≡ None → (i : ℕ) → first_refusal t (take_ops p s (next_of next p)) i ≡ None
  take-fine limit i = go (next_of next p) refl
    where
      go : (o : Option ℕ) → next_of next p ≡ o → first_refusal t (take_ops p s o) i ≡ None
      go None e = new e i
      go (Some n) e = known n e (let a = limit-small next p limit in let b = number-some next p n has.nexts e in omega (arith, a, b)) i

-- a refusal is that of an op
pub refused-as : (first : Option Refusal) (e : MultiError) (i : ℕ) (cause : Cause) → e ≡ Refused i cause → IsRefusal first e → first ≡ Some (record { index = i; cause = cause })
refused-as first e i cause is r = subst (IsRefusal first) is r
