-- What the operations on kept blocks make of the nodes.
use Rattle.std.proofs.Common.{◌≡◌, ℕ, suc, ◌+◌, ◌<◌, ◌≤◌, inl, inr, Bool, true, false, cond, List, [], ◌∷◌, ◌++◌, length, refl, sym, ap, subst, arith, ◌∙◌, nat_eq, nat_lt}
use Rattle.std.proofs.lemmas.Bool.Decides.{nat_tests}
use Rattle.std.specs.declared.option.Option.{Option}
use Rattle.std.specs.declared.option.Option.TheVariants.{Some, None}
use Rattle.std.specs.Option.{option_map}
use Rattle.rmt_znodes.specs.Znodes.{order_path}
use Rattle.rmt_names.specs.Names.{Name}
use Rattle.rmt_names.specs.Texts.{text_of}
use Rattle.rmt_model.specs.Words.{Has, Each, Pairwise}
use Rattle.rmt_model.proofs.Lists.{Each-at}
use Rattle.rmt_tree.specs.Trees.{TreeView}
use Rattle.rmt_tree.proofs.CallerLemmas.{after_all-append, first_refusal-append}
use Rattle.rmt_tree.specs.Ops.{after, after_all}
use Rattle.rmt_tree.specs.declared.op.Op.{Op}
use Rattle.rmt_tree.specs.declared.op.Op.TheVariants as op
use Rattle.rmt_znodes.specs.declared.znode.Znode.{Znode}
use Rattle.rmt_znodes.specs.declared.znode.Znode.TheVariants.{Log, LogEntry, Blocks, Block, Order, OrderOf, Numbers, Partition, Lock, Mutations, MutationNode, Quorum, Status, LastPart, Replicas, Replica, LogPointer, IsActive}
use Rattle.rmt_znodes.specs.Znodes.{id_text, znode_path, IsZnode}
use Rattle.rmt_znodes.specs.ZnodeStates.{ZnodeStates, same_znode, with_state, without_state, Limits, HasZnodes, Makes}
use Rattle.rmt_znodes.proofs.ZnodeStateLemmas.{Does, creates, with_counted, creates-numbered, deletes, makes-none, makes-more}
use Rattle.std.proofs.lemmas.List.{append-nil, append_assoc, take_all}
use Rattle.std.specs.List.{filter}
use Rattle.std.specs.Prelude.{take}
use Rattle.rmt_table_model.specs.Kept.{Placed, outlives, has_id, with_id, with_number, Differ, IsIdZnode}
use Rattle.rmt_table_model.specs.Nodes.{plain, counting, oldest, leave_ops, keep_ops, forget_ops}
use Rattle.rmt_table_model.proofs.NodeLemmas.{does-as, makes-one}
use Rattle.rmt_table_model.proofs.KeptLemmas.{placed, id-without, number-without, id-found, number-found, number-none, split-last, new-differs}

-- the nodes with those of the kept blocks in place of their own: c were numbered
abbrev pub kept_states : List Placed → ℕ → ZnodeStates → ZnodeStates
kept_states ks c states Blocks = Some (plain [])
kept_states ks c states (Block p digest) = option_map (λ k. plain (text_of k.kept.part)) (with_id p digest ks)
kept_states ks c states Order = Some (counting c)
kept_states ks c states (OrderOf i) = option_map (λ k. plain (id_text k.kept.part.partition k.kept.digest)) (with_number i ks)
kept_states ks c states y = states y

-- ops, and then others
pub makes-append : (t : TreeView) (xs ys : List Op) (f g : ZnodeStates) (l m : Limits) → Makes t xs f l → (HasZnodes (after_all t xs) f l → Makes (after_all t xs) ys g m) → Makes t (xs ++ ys) g m
makes-append t xs ys f g l m a k = let r = k a.nodes in record {
  none_refused = λ i. first_refusal-append t xs ys i (a.none_refused i) ∙ r.none_refused (i + length xs);
  nodes = subst (λ (u : TreeView). HasZnodes u g m) (sym (after_all-append t xs ys)) r.nodes;
}

-- a kept block of a list that leaves it
pub leaves : (t : TreeView) (front : List Placed) (k : Placed) (back : List Placed) (c : ℕ) (states : ZnodeStates) (limits : Limits) → HasZnodes t (kept_states (front ++ k ∷ back) c states) limits → Pairwise Differ (front ++ k ∷ back) → IsIdZnode k → k.number < 4294967296
    → Makes t (leave_ops (Some k)) (kept_states (front ++ back) c states) limits
leaves t front k back c states limits m differ znode small =
    makes-more t (op.Delete (znode_path (Block k.kept.part.partition k.kept.digest)) None) (op.Delete (znode_path (OrderOf k.number)) None ∷ []) (without_state (Block k.kept.part.partition k.kept.digest) (kept_states (front ++ k ∷ back) c states)) (kept_states (front ++ back) c states) limits limits
    first
    (makes-one (after t (op.Delete (znode_path (Block k.kept.part.partition k.kept.digest)) None)) (op.Delete (znode_path (OrderOf k.number)) None) (kept_states (front ++ back) c states) limits
    (does-as (after t (op.Delete (znode_path (Block k.kept.part.partition k.kept.digest)) None)) (op.Delete (znode_path (OrderOf k.number)) None) (without_state (OrderOf k.number) (without_state (Block k.kept.part.partition k.kept.digest) (kept_states (front ++ k ∷ back) c states))) (kept_states (front ++ back) c states) limits limits
    (deletes (after t (op.Delete (znode_path (Block k.kept.part.partition k.kept.digest)) None)) (without_state (Block k.kept.part.partition k.kept.digest) (kept_states (front ++ k ∷ back) c states)) limits (Does.nodes first) (OrderOf k.number) (plain (id_text by-number.0.kept.part.partition by-number.0.kept.digest)) small refl (ap (option_map (λ j. plain (id_text j.kept.part.partition j.kept.digest))) by-number.1))
    each (λ y h. omega arith)))
  where
    here : (front : List Placed) → Has (front ++ k ∷ back) k
    here [] = inl refl
    here (x ∷ xs) = inr (here xs)

    by-id : (j : Placed) × (with_id k.kept.part.partition k.kept.digest (front ++ k ∷ back) ≡ Some j)
    by-id = id-found (front ++ k ∷ back) k (here front)

    by-number : (j : Placed) × (with_number k.number (front ++ k ∷ back) ≡ Some j)
    by-number = number-found (front ++ k ∷ back) k (here front)

    first : Does t (op.Delete (znode_path (Block k.kept.part.partition k.kept.digest)) None) (without_state (Block k.kept.part.partition k.kept.digest) (kept_states (front ++ k ∷ back) c states)) limits
    first = deletes t (kept_states (front ++ k ∷ back) c states) limits m (Block k.kept.part.partition k.kept.digest) (plain (text_of by-id.0.kept.part)) znode refl (ap (option_map (λ j. plain (text_of j.kept.part))) by-id.1)

    block : (q : Option ℕ) (d : List ℕ) → cond (has_id q d k) None (option_map (λ j. plain (text_of j.kept.part)) (with_id q d (front ++ k ∷ back))) ≡ option_map (λ j. plain (text_of j.kept.part)) (with_id q d (front ++ back))
    block q d = sym (ap (option_map (λ j. plain (text_of j.kept.part))) (id-without q d front k back differ) ∙ go (has_id q d k))
      where
        go : (b : Bool) → option_map (λ j. plain (text_of j.kept.part)) (cond b None (with_id q d (front ++ k ∷ back))) ≡ cond b None (option_map (λ j. plain (text_of j.kept.part)) (with_id q d (front ++ k ∷ back)))
        go true = refl
        go false = refl

    order : (i : ℕ) → cond (nat_eq i k.number) None (option_map (λ j. plain (id_text j.kept.part.partition j.kept.digest)) (with_number i (front ++ k ∷ back))) ≡ option_map (λ j. plain (id_text j.kept.part.partition j.kept.digest)) (with_number i (front ++ back))
    order i = sym (ap (option_map (λ j. plain (id_text j.kept.part.partition j.kept.digest))) (number-without i front k back differ) ∙ go (nat_eq i k.number))
      where
        go : (b : Bool) → option_map (λ j. plain (id_text j.kept.part.partition j.kept.digest)) (cond b None (with_number i (front ++ k ∷ back))) ≡ cond b None (option_map (λ j. plain (id_text j.kept.part.partition j.kept.digest)) (with_number i (front ++ k ∷ back)))
        go true = refl
        go false = refl

    each : (y : Znode) → IsZnode y → without_state (OrderOf k.number) (without_state (Block k.kept.part.partition k.kept.digest) (kept_states (front ++ k ∷ back) c states)) y ≡ kept_states (front ++ back) c states y
    each Log h = refl
    each (LogEntry i) h = refl
    each Blocks h = refl
    each (Block q d) h = block q d
    each Order h = refl
    each (OrderOf i) h = order i
    each Numbers h = refl
    each (Partition q) h = refl
    each (Lock q j) h = refl
    each Mutations h = refl
    each (MutationNode i) h = refl
    each Quorum h = refl
    each Status h = refl
    each LastPart h = refl
    each Replicas h = refl
    each (Replica r) h = refl
    each (LogPointer r) h = refl
    each (IsActive r) h = refl

Each-without : (P : Placed → Type 0) (front : List Placed) (k : Placed) (back : List Placed) → Each P (front ++ k ∷ back) → Each P (front ++ back)
Each-without P [] k back h = h.1
Each-without P (x ∷ front) k back h = (h.0, Each-without P front k back h.1)

Pairwise-without : (front : List Placed) (k : Placed) (back : List Placed) → Pairwise Differ (front ++ k ∷ back) → Pairwise Differ (front ++ back)
Pairwise-without [] k back h = h.1
Pairwise-without (x ∷ front) k back h = (Each-without (Differ x) front k back h.0, Pairwise-without front k back h.1)

-- the kept blocks of p below n go
pub forgets : (t : TreeView) (p : Option ℕ) (n : ℕ) (front ks : List Placed) (c : ℕ) (states : ZnodeStates) (limits : Limits) → HasZnodes t (kept_states (front ++ ks) c states) limits → Pairwise Differ (front ++ ks) → Each IsIdZnode ks → Each (λ k. k.number < 4294967296) ks
    → Makes t (forget_ops p n ks) (kept_states (front ++ filter (outlives p n) ks) c states) limits
forgets t p n front [] c states limits m differ znodes small = makes-none t (kept_states (front ++ []) c states) limits m
forgets t p n front (k ∷ ks) c states limits m differ znodes small =
    go (outlives p n k)
    (λ u w. forgets u p n (front ++ k ∷ []) ks c states limits (subst (λ (xs : List Placed). HasZnodes u (kept_states xs c states) limits) (moved ks) w) (subst (Pairwise Differ) (moved ks) differ) znodes.1 small.1)
    (λ u w. forgets u p n front ks c states limits w (Pairwise-without front k ks differ) znodes.1 small.1)
  where
    moved : (xs : List Placed) → front ++ k ∷ xs ≡ (front ++ k ∷ []) ++ xs
    moved xs = sym (append_assoc front (k ∷ []) xs)

    go : (b : Bool)
        → ((u : TreeView) → HasZnodes u (kept_states (front ++ k ∷ ks) c states) limits → Makes u (forget_ops p n ks) (kept_states ((front ++ k ∷ []) ++ filter (outlives p n) ks) c states) limits)
        → ((u : TreeView) → HasZnodes u (kept_states (front ++ ks) c states) limits → Makes u (forget_ops p n ks) (kept_states (front ++ filter (outlives p n) ks) c states) limits)
        → Makes t (cond b (forget_ops p n ks) (leave_ops (Some k) ++ forget_ops p n ks)) (kept_states (front ++ cond b (k ∷ filter (outlives p n) ks) (filter (outlives p n) ks)) c states) limits
    go true stay gone = subst (λ (xs : List Placed). Makes t (forget_ops p n ks) (kept_states xs c states) limits) (sym (moved (filter (outlives p n) ks))) (stay t m)
    go false stay gone = makes-append t (leave_ops (Some k)) (forget_ops p n ks) (kept_states (front ++ ks) c states) (kept_states (front ++ filter (outlives p n) ks) c states) limits limits
        (leaves t front k ks c states limits m differ znodes.0 small.0) (gone (after_all t (leave_ops (Some k))))

-- the last one of those kept is the oldest
oldest-last : (front : List Placed) (k : Placed) → oldest (front ++ k ∷ []) ≡ Some k
oldest-last [] k = refl
oldest-last (x ∷ []) k = refl
oldest-last (x ∷ (y ∷ front)) k = oldest-last (y ∷ front) k

-- a block is kept, and the oldest past the window goes
pub keeps : (t : TreeView) (w : ℕ) (ks : List Placed) (c : ℕ) (p : Option ℕ) (digest : List ℕ) (part : Name) (states : ZnodeStates) (limits : Limits) → HasZnodes t (kept_states ks c states) limits → Pairwise Differ ks → Each IsIdZnode ks → Each (λ k. k.number < c) ks → length ks ≤ suc w → c < 4294967295
    → IsZnode (Block p digest) → part.partition ≡ p → with_id p digest ks ≡ None
    → Makes t (keep_ops (suc w) ks p digest part) (kept_states (take (suc w) (placed c digest part ∷ ks)) (suc c) states) limits
keeps t w ks c p digest part states limits m differ znodes below most room znode same none =
    makes-more t (op.Create (znode_path (Block p digest)) (text_of part) false None) (op.Create order_path (id_text p digest) true None ∷ leave_ops (cond (nat_lt w (length ks)) (oldest ks) None))
    (with_state (Block p digest) (plain (text_of part)) (kept_states ks c states)) (kept_states (placed c digest part ∷ take w ks) (suc c) states) limits limits
    first
    (makes-more (after t (op.Create (znode_path (Block p digest)) (text_of part) false None)) (op.Create order_path (id_text p digest) true None) (leave_ops (cond (nat_lt w (length ks)) (oldest ks) None))
    (kept_states (placed c digest part ∷ ks) (suc c) states) (kept_states (placed c digest part ∷ take w ks) (suc c) states) limits limits
    second
    (last (after (after t (op.Create (znode_path (Block p digest)) (text_of part) false None)) (op.Create order_path (id_text p digest) true None)) (Does.nodes second) (nat_lt w (length ks)) refl))
  where
    first : Does t (op.Create (znode_path (Block p digest)) (text_of part) false None) (with_state (Block p digest) (plain (text_of part)) (kept_states ks c states)) limits
    first = creates t (kept_states ks c states) limits m (Block p digest) znode (text_of part) None tt (tt, (plain [], refl, refl)) (ap (option_map (λ k. plain (text_of k.kept.part))) none)

    block : (q : Option ℕ) (d : List ℕ) → cond (same_znode (Block q d) (Block p digest)) (Some (plain (text_of part))) (option_map (λ k. plain (text_of k.kept.part)) (with_id q d ks)) ≡ option_map (λ k. plain (text_of k.kept.part)) (with_id q d (placed c digest part ∷ ks))
    block q d = ap (λ (r : Option ℕ). cond (same_znode (Block q d) (Block r digest)) (Some (plain (text_of part))) (option_map (λ k. plain (text_of k.kept.part)) (with_id q d ks))) (sym same) ∙ go (has_id q d (placed c digest part))
      where
        go : (b : Bool) → cond b (Some (plain (text_of part))) (option_map (λ k. plain (text_of k.kept.part)) (with_id q d ks)) ≡ option_map (λ k. plain (text_of k.kept.part)) (cond b (Some (placed c digest part)) (with_id q d ks))
        go true = refl
        go false = refl

    order : (i : ℕ) → cond (nat_eq i c) (Some (plain (id_text p digest))) (option_map (λ k. plain (id_text k.kept.part.partition k.kept.digest)) (with_number i ks)) ≡ option_map (λ k. plain (id_text k.kept.part.partition k.kept.digest)) (with_number i (placed c digest part ∷ ks))
    order i = ap (λ (r : Option ℕ). cond (nat_eq i c) (Some (plain (id_text r digest))) (option_map (λ k. plain (id_text k.kept.part.partition k.kept.digest)) (with_number i ks))) (sym same) ∙ go (nat_eq i c)
      where
        go : (b : Bool) → cond b (Some (plain (id_text part.partition digest))) (option_map (λ k. plain (id_text k.kept.part.partition k.kept.digest)) (with_number i ks)) ≡ option_map (λ k. plain (id_text k.kept.part.partition k.kept.digest)) (cond b (Some (placed c digest part)) (with_number i ks))
        go true = refl
        go false = refl

    each : (y : Znode) → IsZnode y → with_state (OrderOf c) (plain (id_text p digest)) (with_counted Order (counting c) (with_state (Block p digest) (plain (text_of part)) (kept_states ks c states))) y ≡ kept_states (placed c digest part ∷ ks) (suc c) states y
    each Log h = refl
    each (LogEntry i) h = refl
    each Blocks h = refl
    each (Block q d) h = block q d
    each Order h = refl
    each (OrderOf i) h = order i
    each Numbers h = refl
    each (Partition q) h = refl
    each (Lock q j) h = refl
    each Mutations h = refl
    each (MutationNode i) h = refl
    each Quorum h = refl
    each Status h = refl
    each LastPart h = refl
    each Replicas h = refl
    each (Replica r) h = refl
    each (LogPointer r) h = refl
    each (IsActive r) h = refl

    second : Does (after t (op.Create (znode_path (Block p digest)) (text_of part) false None)) (op.Create order_path (id_text p digest) true None) (kept_states (placed c digest part ∷ ks) (suc c) states) limits
    second = does-as (after t (op.Create (znode_path (Block p digest)) (text_of part) false None)) (op.Create order_path (id_text p digest) true None) (with_state (OrderOf c) (plain (id_text p digest)) (with_counted Order (counting c) (with_state (Block p digest) (plain (text_of part)) (kept_states ks c states)))) (kept_states (placed c digest part ∷ ks) (suc c) states) limits limits
        (creates-numbered (after t (op.Create (znode_path (Block p digest)) (text_of part) false None)) (with_state (Block p digest) (plain (text_of part)) (kept_states ks c states)) limits (Does.nodes first) order_path (OrderOf c) Order (counting c) (omega (arith, room)) tt (id_text p digest) None tt refl refl refl refl room
        (ap (option_map (λ k. plain (id_text k.kept.part.partition k.kept.digest))) (number-none c ks below)))
        each (λ y h. omega arith)

    last : (u : TreeView) → HasZnodes u (kept_states (placed c digest part ∷ ks) (suc c) states) limits → (b : Bool) → nat_lt w (length ks) ≡ b → Makes u (leave_ops (cond b (oldest ks) None)) (kept_states (placed c digest part ∷ take w ks) (suc c) states) limits
    last u k false e = makes-none u (kept_states (placed c digest part ∷ take w ks) (suc c) states) limits (subst (λ (xs : List Placed). HasZnodes u (kept_states (placed c digest part ∷ xs) (suc c) states) limits) (sym (take_all w ks (grind (arith, nat_tests)))) k)
    last u k true e = subst (λ (o : Option Placed). Makes u (leave_ops o) (kept_states (placed c digest part ∷ take w ks) (suc c) states) limits) (sym found)
        (subst (λ (xs : List Placed). Makes u (leave_ops (Some split.0)) (kept_states (placed c digest part ∷ xs) (suc c) states) limits) (append-nil (take w ks))
        (leaves u (placed c digest part ∷ take w ks) split.0 [] (suc c) states limits
        (subst (λ (xs : List Placed). HasZnodes u (kept_states (placed c digest part ∷ xs) (suc c) states) limits) parts k)
        (subst (λ (xs : List Placed). Pairwise Differ (placed c digest part ∷ xs)) parts (new-differs c part digest ks below (ap (λ (r : Option ℕ). with_id r digest ks) same ∙ none), differ))
        (Each-at IsIdZnode ks split.0 znodes there) (let l = Each-at (λ j. j.number < c) ks split.0 below there in omega (arith, l, room))))
      where
        split : (k : Placed) × (ks ≡ take w ks ++ k ∷ [])
        split = split-last ks w (let l : w < length ks = grind (arith, nat_tests) in omega (arith, l, most))

        parts : ks ≡ take w ks ++ split.0 ∷ []
        parts = split.1

        found : oldest ks ≡ Some split.0
        found = ap oldest split.1 ∙ oldest-last (take w ks) split.0

        ending : (xs : List Placed) (j : Placed) → Has (xs ++ j ∷ []) j
        ending [] j = inl refl
        ending (x ∷ xs) j = inr (ending xs j)

        there : Has ks split.0
        there = subst (λ (xs : List Placed). Has xs split.0) (sym split.1) (ending (take w ks) split.0)
