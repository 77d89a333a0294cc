-- The drop of a partition that is appended to a table's log.
use Rattle.std.proofs.Common.{◌≡◌, ℕ, ◌+◌, ◌<◌, ◌^◌, Bool, true, false, cond, List, [], ◌∷◌, ◌++◌, filter, refl, sym, ap, subst, arith, ◌∙◌, append_assoc, nat_eq}
use Rattle.std.specs.Prelude.{IfSome}
use Rattle.std.specs.declared.option.Option.{Option}
use Rattle.std.specs.declared.option.Option.TheVariants.{None, Some}
use Rattle.rmt_names.specs.Names.{rank}
use Rattle.rmt_row.specs.Token.{Token}
use Rattle.rmt_entries.specs.declared.entry.Entry.{Entry}
use Rattle.rmt_entries.specs.declared.entry.Entry.TheVariants.{DropRange}
use Rattle.rmt_entries.specs.EntryBytes.{entry_bytes}
use Rattle.rmt_model.specs.EntryLimits.{client_count, drop_limit}
use Rattle.rmt_model.specs.BlockNumbers.{next_number, with_next}
use Rattle.rmt_history.specs.Mutations.{number_among}
use Rattle.rmt_model.specs.Quorum.{Quorum, quorum_after_drop}
use Rattle.rmt_tree.specs.Trees.{TreeView}
use Rattle.rmt_tree.specs.Ops.{after_all, first_refusal}
use Rattle.rmt_tree.specs.declared.op.Op.{Op}
use Rattle.rmt_tree.specs.declared.op.Op.TheVariants as op
use Rattle.rmt_znodes.specs.Znodes.{entry_path}
use Rattle.rmt_table_model.specs.Numbers.{Nexts, Holders, next_of, taken}
use Rattle.rmt_table_model.specs.Kept.{Placed, outlives, in_order}
use Rattle.rmt_table_model.specs.Tables.{TableView}
use Rattle.rmt_table_model.specs.Changes.{MayDrop, after_drop}
use Rattle.rmt_table_model.specs.Inserts.{HasNumbers, AreDropOps}
use Rattle.rmt_table_model.specs.Nodes.{IsTable, AreLocks, number_ops, unlock_ops, forget_ops, pending_drop_ops, last_drop_ops, drop_ops}
use Rattle.rmt_table_model.specs.Held.{Held, table_of, holders_in}
use Rattle.rmt_znodes.specs.ZnodeStates.{Makes}
use Rattle.rmt_table_model.specs.Steps.{Steps}
use Rattle.rmt_table_model.proofs.NumberLemmas.{next-has}
use Rattle.rmt_table_model.proofs.TableLemmas.{drop-steps}
use Rattle.rmt_table_model.proofs.HeldLemmas.{held-table, held-held}
use Rattle.rmt_table.specs.SeenTable.{shown}
use Rattle.rmt_table.proofs.NumberLemmas.{taken-same}
use Rattle.rmt_table.proofs.CallBridge.{drop-bridge}
use Rattle.rmt_events.specs.TableCalls.{DropsPartition}
use Rattle.rmt_events.specs.TableRefusals.{NoDrop}
use Rattle.rmt_table.specs.TableTrees.{table_at, Counts, ArePlaced, IsTableTree, next_token, Drops}
use Rattle.rmt_table.specs.Causes.{change_cause}
use Rattle.rmt_table.specs.declared.change_error.ChangeError.{ChangeError}
use Rattle.rmt_table.specs.declared.change_error.ChangeError.TheVariants.{LimitReached, Memory}
use Rattle.rmt_table.proofs.LookupLemmas.{lookup-same, number-where}
use Rattle.rmt_table.proofs.HeldNodes.{held-numbers}
use Rattle.rmt_table.proofs.Appended.{clients-next, workers-next, mutations-next, blocks-next}
use Rattle.rmt_table.proofs.ChangeLimits.{limit_error, no-error, error-limit, drop-free}

-- a partition that isn't found gives no number yet
pub number-nowhere : (xs : Nexts) (p : Option ℕ) → number_among xs p ≡ None → next_number xs p ≡ 0
number-nowhere [] p e = refl
number-nowhere (x ∷ xs) p e = go (nat_eq (rank x.0) (rank p)) e (number-nowhere xs p)
  where
    go : (b : Bool) → cond b (Some x.1) (number_among xs p) ≡ None → (number_among xs p ≡ None → next_number xs p ≡ 0) → cond b x.1 (next_number xs p) ≡ 0
    go true e f = absurd (cc)
    go false e f = f e

-- an op behind two lists of ops
pub one-behind : (first second both all known : List Op) (o u : Op) → all ≡ both ++ o ∷ [] → both ≡ first ++ second → first ≡ known → o ≡ u → all ≡ known ++ (second ++ u ∷ [])
one-behind first second both all known o u e f g i =
    e ∙ ap (λ (xs : List Op). xs ++ o ∷ []) f ∙ append_assoc first second (o ∷ []) ∙ ap (λ (xs : List Op). xs ++ (second ++ o ∷ [])) g ∙ ap (λ (x : Op). known ++ (second ++ x ∷ [])) i

-- the same, and others behind it
pub rest-behind : (first second both all known gone tail more : List Op) (o u : Op) → all ≡ both ++ o ∷ [] → both ≡ first ++ second → first ≡ known → o ≡ u → gone ≡ tail → more ≡ all ++ gone → more ≡ known ++ (second ++ u ∷ tail)
rest-behind first second both all known gone tail more o u e f g i j k =
    k ∙ ap (λ (xs : List Op). all ++ xs) j ∙ ap (λ (xs : List Op). xs ++ tail) (one-behind first second both all known o u e f g i)
    ∙ append_assoc known (second ++ u ∷ []) tail ∙ ap (λ (xs : List Op). known ++ xs) (append_assoc second (u ∷ []) tail)

module _ (h : Held) (tokens : List (Token Entry)) (counts : Counts) (is : IsTableTree h tokens counts) (now : Held) (same : h ≡ now) (p : Option ℕ)
    (found : Option ℕ) (found-is : found ≡ number_among h.next p) (number : ℕ) (some : found ≡ Some number)
    (refusal : Option ChangeError) (refusal-is : (q : Option ℕ) → number ≡ next_number now.next q → refusal ≡ limit_error (drop_limit now.next now.log q)) where
  exists : next_of h.next p ≡ Some number
  exists = sym (lookup-same h.next p) ∙ sym found-is ∙ some

  number-is : number ≡ next_number h.next p
  number-is = sym (number-where h.next p number is.held.sound.nexts exists)

  number-now : number ≡ next_number now.next p
  number-now = number-is ∙ ap (λ (k : Held). next_number k.next p) same

  pub drop-refused : (e : ChangeError) → refusal ≡ Some e → IfSome (change_cause e) (NoDrop (table_at now) p)
  drop-refused (LimitReached limit value) f = (
    let b = is.held.sound.nexts.begun p number (next-has h.next p number exists) in let q = number-now in omega (arith, b, q),
    error-limit (drop_limit now.next now.log p) limit value (sym (refusal-is p number-now) ∙ f),
  )
  drop-refused Memory f = tt

  module _ (none : refusal ≡ None) where
    free : (next_number h.next p < 65536) × (client_count h.log < 32768)
    free = drop-free h.next h.log p (no-error (drop_limit h.next h.log p) (ap (λ (k : Held). limit_error (drop_limit k.next k.log p)) same ∙ sym (refusal-is p number-now) ∙ none))

    few : number < 65536
    few = let n = number-is in let l = free.0 in omega (arith, n, l)

    may : MayDrop p (table_of h)
    may = record { number = number; exists = exists; numbers = few; client_entries = free.1 }

    pub drop-few : counts.clients < 32768
    drop-few = let c = is.counted.clients in let l = free.1 in omega (arith, c, l)

    pub drop-small : (next : Nexts) → next ≡ h.next → next_number next p + 1 < 2 ^ 32
    drop-small next e = let a = ap (λ (ns : Nexts). next_number ns p) e in let n = number-is in let l = few in omega (arith, a, n, l)

    -- the ops, and the locks that they take away
    module _ (ops : List Op) (told : (next : Nexts) (holders : Holders) → HasNumbers h.tree next holders → next_of next p ≡ Some number
        → (removals : List Op) × AreDropOps holders counts.window p number removals × (ops ≡ number_ops p number ++ (removals ++ op.Create entry_path (entry_bytes (DropRange p number)) true None ∷ (pending_drop_ops p number h.quorum.pending ++ last_drop_ops p number h.quorum.last)))) where
      abbrev removals : (removals : List Op) × AreDropOps (holders_in h.tree) (in_order h.schema.window h.log) p number removals × (ops ≡ number_ops p number ++ (removals ++ op.Create entry_path (entry_bytes (DropRange p number)) true None ∷ (pending_drop_ops p number h.quorum.pending ++ last_drop_ops p number h.quorum.last)))
      removals =
          let r = told h.next (holders_in h.tree) (held-numbers h is.held) exists in
          (r.0, subst (λ (ks : List Placed). AreDropOps (holders_in h.tree) ks p number r.0) is.counted.window r.1, r.2)

      abbrev locks : List ℕ
      locks = AreDropOps.locks removals.1

      are-locks : AreLocks (holders_in h.tree) p (next_number h.next p) locks
      are-locks = subst (λ (n : ℕ). AreLocks (holders_in h.tree) p n locks) number-is (AreDropOps.are_locks removals.1)

      abbrev ops_with : ℕ → Quorum → List Op
      ops_with n q = number_ops p n ++ (unlock_ops p locks ++ (forget_ops p n (in_order h.schema.window h.log)
          ++ (op.Create entry_path (entry_bytes (DropRange p n)) true None ∷ (pending_drop_ops p n q.pending ++ last_drop_ops p n q.last))))

      ops-are : ops ≡ drop_ops entry_bytes p locks (table_of h)
      ops-are =
          removals.2
          ∙ ap (λ (xs : List Op). number_ops p number ++ (xs ++ op.Create entry_path (entry_bytes (DropRange p number)) true None ∷ (pending_drop_ops p number h.quorum.pending ++ last_drop_ops p number h.quorum.last))) (AreDropOps.ops_are removals.1)
          ∙ ap (λ (xs : List Op). number_ops p number ++ xs) (append_assoc (unlock_ops p locks) (forget_ops p number (in_order h.schema.window h.log)) (op.Create entry_path (entry_bytes (DropRange p number)) true None ∷ (pending_drop_ops p number h.quorum.pending ++ last_drop_ops p number h.quorum.last)))
          ∙ ap (λ (n : ℕ). ops_with n h.quorum) number-is

      pub drop-fine : first_refusal h.tree ops 0 ≡ None
      drop-fine = subst (λ (xs : List Op). first_refusal h.tree xs 0 ≡ None) (sym ops-are) (Makes.none_refused (Steps.makes (drop-steps entry_bytes h.tree (table_of h) is.held p locks may are-locks)) 0)

      module _ (t : TreeView) (t-is : t ≡ after_all h.tree ops) (log : List Entry) (log-is : log ≡ DropRange p number ∷ h.log) (next : Nexts) (next-is : next ≡ with_next h.next p (next_number h.next p + 1)) (waits : Quorum) (waits-is : waits ≡ quorum_after_drop p number h.quorum) where
        abbrev new : Held
        new = record h { log = DropRange p (next_number h.next p) ∷ h.log; next = taken h.next p; quorum = quorum_after_drop p (next_number h.next p) h.quorum; tree = t }

        new-is : record h { log = log; next = next; quorum = waits; tree = t } ≡ new
        new-is =
            ap (λ (l : List Entry). record h { log = l; next = next; quorum = waits; tree = t }) (log-is ∙ ap (λ (n : ℕ). DropRange p n ∷ h.log) number-is)
            ∙ ap (λ (ns : Nexts). record h { log = DropRange p (next_number h.next p) ∷ h.log; next = ns; quorum = waits; tree = t }) (next-is ∙ sym (taken-same h.next p (next_number h.next p + 1) is.held.sound.nexts refl))
            ∙ ap (λ (q : Quorum). record h { log = DropRange p (next_number h.next p) ∷ h.log; next = taken h.next p; quorum = q; tree = t }) (waits-is ∙ ap (λ (n : ℕ). quorum_after_drop p n h.quorum) number-is)

        stepped : IsTable entry_bytes t (after_drop p (table_of h))
        stepped = subst (λ (u : TreeView). IsTable entry_bytes u (after_drop p (table_of h))) (sym (t-is ∙ ap (after_all h.tree) ops-are)) (Steps.table (drop-steps entry_bytes h.tree (table_of h) is.held p locks may are-locks))

        after-is : ◌≡◌ {A = TableView} (record (after_drop p (table_of h)) { holders = holders_in t }) (table_of new)
        after-is = refl

        pub drop-kept : (all : List (Token Entry)) → ArePlaced h.row all → (blocks : ℕ) → blocks ≡ counts.blocks → (window : List Placed) → window ≡ filter (outlives p number) counts.window
            → IsTableTree (record h { log = log; next = next; quorum = waits; tree = t }) all (record { clients = counts.clients + 1; workers = counts.workers; mutations = counts.mutations; blocks = blocks; window = window })
        drop-kept all placed blocks blocks-are window window-is = subst (λ (k : Held). IsTableTree k all (record { clients = counts.clients + 1; workers = counts.workers; mutations = counts.mutations; blocks = blocks; window = window })) (sym new-is)
            (record {
              held = held-held entry_bytes new (after_drop p (table_of h)) stepped after-is;
              counted = record {
                clients = let a = clients-next (DropRange p (next_number h.next p)) h.log in let b = is.counted.clients in omega (arith, a, b);
                workers = let a = workers-next (DropRange p (next_number h.next p)) h.log in let b = is.counted.workers in omega (arith, a, b);
                mutations = let a = mutations-next (DropRange p (next_number h.next p)) h.log in let b = is.counted.mutations in omega (arith, a, b);
                blocks = let a = blocks-next (DropRange p (next_number h.next p)) h.log in let b = is.counted.blocks in omega (arith, a, b, blocks-are);
                window = window-is ∙ ap (filter (outlives p number)) is.counted.window ∙ ap (λ (n : ℕ). filter (outlives p n) (in_order h.schema.window h.log)) number-is;
              };
              places = placed;
            })

        pub drop-done : (token : Token Entry) → token ≡ next_token now (DropRange p number) → Drops now p token (record h { log = log; next = next; quorum = waits; tree = t })
        drop-done token token-is = subst (λ (k : Held). Drops k p token (record h { log = log; next = next; quorum = waits; tree = t })) same
            (record {
              token_is = token-is ∙ ap (λ (k : Held). next_token k (DropRange p number)) (sym same) ∙ ap (λ (n : ℕ). next_token h (DropRange p n)) number-is;
              seen = subst (λ (v : TableView). DropsPartition (table_at h) p (next_number h.next p) (shown v)) (sym (ap table_of new-is ∙ held-table entry_bytes new (after_drop p (table_of h)) stepped after-is))
                  (drop-bridge (table_of h) is.held.sound p may);
              locks = locks;
              are_locks = are-locks;
              tree = t-is ∙ ap (after_all h.tree) ops-are;
            })
