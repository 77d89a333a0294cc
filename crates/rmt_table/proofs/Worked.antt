-- What one more entry of background work makes of a table, and why there is none.
use Rattle.std.proofs.Common.{◌≡◌, ℕ, ◌+◌, ◌<◌, ◌≤◌, inr, Bool, true, false, cond, not, nat_le, List, [], ◌∷◌, ◌++◌, length, refl, sym, ap, subst, arith, ◌∙◌}
use Rattle.std.proofs.lemmas.Bool.Decides.{nat_tests}
use Rattle.std.specs.declared.option.Option.{Option}
use Rattle.std.specs.declared.option.Option.TheVariants.{Some, None}
use Rattle.rmt_values.specs.declared.limit.Limit.{Limit}
use Rattle.rmt_values.specs.declared.limit.Limit.TheVariants as limits
use Rattle.rmt_row.specs.Token.{Token}
use Rattle.rmt_entries.specs.declared.entry.Entry.{Entry}
use Rattle.rmt_entries.specs.EntryBytes.{entry_bytes}
use Rattle.rmt_model.specs.Lawful.{IsPrefix, is_mutation, mutation_count}
use Rattle.rmt_model.specs.EntryLimits.{is_client, client_count, worker_count, worker_limit}
use Rattle.rmt_history.specs.Copies.{History, entries}
use Rattle.rmt_history.proofs.Copied.{length-entries}
use Rattle.rmt_tree.specs.Trees.{TreeView}
use Rattle.rmt_tree.specs.Ops.{after_all}
use Rattle.rmt_table_model.specs.Kept.{is_get, in_order, get_count}
use Rattle.rmt_table_model.specs.Nodes.{IsTable}
use Rattle.rmt_table_model.specs.Held.{Held, table_of}
use Rattle.rmt_table_model.specs.Steps.{Steps}
use Rattle.rmt_table_model.proofs.HeldLemmas.{held-table, held-held}
use Rattle.rmt_table.specs.SeenTable.{shown}
use Rattle.rmt_table.specs.TableTrees.{Counts, IsTableTree, IsCopyOf, table_at, next_token, token_in, entry_ops}
use Rattle.rmt_table.proofs.PrefixLemmas.{prefix-whole, prefix-length}
use Rattle.rmt_table.proofs.LengthLemmas.{tokens-few, room-left}
use Rattle.rmt_table.proofs.Appended.{clients-next, workers-next, mutations-next, blocks-next}
use Rattle.rmt_table.proofs.AppendLemmas.{placed-snoc, entries-more, token-next}

-- one more entry of background work would pass the limit
pub work-full : (log : List Entry) (workers : ℕ) → workers ≡ worker_count log → 32768 ≤ workers → worker_limit log ≡ Some (limits.WorkerEntries, workers)
work-full log workers e l =
    let t : nat_le 32768 (worker_count log) ≡ true = grind (arith, nat_tests) in
    ap (λ (b : Bool). cond {A = Option (Limit × ℕ)} b (Some (limits.WorkerEntries, worker_count log)) None) t ∙ ap (λ (n : ℕ). Some (limits.WorkerEntries, n)) (sym e)

-- a copy that isn't shorter has the whole log
pub whole-copy : (h : Held) (tokens : List (Token Entry)) (now : Held) → h ≡ now → (copy : History) → IsCopyOf now copy → h.log ≡ entries tokens → (len : ℕ) → len ≡ length copy.log → (here : ℕ) → here ≡ length tokens → here ≤ len → copy.log ≡ h.log
whole-copy h tokens now same copy of logged len s here q l =
    let n : length tokens ≡ length h.log = sym (length-entries tokens) ∙ ap (λ (k : List Entry). length k) (sym logged) in
    let f : IsPrefix copy.log h.log = subst (λ (k : Held). IsPrefix copy.log k.log) (sym same) of.prefix in
    let w = prefix-length copy.log h.log f in
    prefix-whole copy.log h.log f (omega (arith, s, n, q, l, w))

-- a shorter one is short
pub short-copy : (h : Held) (tokens : List (Token Entry)) (counts : Counts) → h.log ≡ entries tokens → IsTableTree h tokens counts → (len here : ℕ) → here ≡ length tokens → len < here → len < 65536
short-copy h tokens counts logged is len here q l = let k = tokens-few h tokens tokens counts is logged in omega (arith, k, q, l)

-- an entry that isn't a client's, and what its multi makes of the table
module _ (h : Held) (tokens : List (Token Entry)) (logged : h.log ≡ entries tokens) (counts : Counts) (is : IsTableTree h tokens counts) (e : Entry)
    (worker : is_client e ≡ false) (other : is_mutation e ≡ false) (window : in_order h.schema.window (e ∷ h.log) ≡ in_order h.schema.window h.log)
    (no-block : is_get e ≡ false)
    (steps : Steps entry_bytes h.tree (entry_ops e) (record (table_of h) { log = e ∷ h.log }))
    (few : counts.workers < 32768) (t : Token Entry) (t-is : t ≡ token_in h.row (length tokens) e)
    (more : List (Token Entry)) (more-is : more ≡ tokens ++ t ∷ []) (tree : TreeView) (tree-is : tree ≡ after_all h.tree (entry_ops e)) where
  log-is : entries more ≡ e ∷ h.log
  log-is = entries-more tokens more t e more-is (ap (λ (u : Token Entry). u.value) t-is) ∙ ap (λ (l : List Entry). e ∷ l) (sym logged)

  stepped : IsTable entry_bytes tree (record (table_of h) { log = e ∷ h.log })
  stepped = subst (λ (u : TreeView). IsTable entry_bytes u (record (table_of h) { log = e ∷ h.log })) (sym tree-is) steps.table

  pub worked-token : t ≡ next_token h e
  worked-token = token-next h h refl tokens (sym logged) e t t-is

  pub worked-seen : table_at (record h { log = entries more; tree = tree }) ≡ shown (record (table_of h) { log = e ∷ h.log })
  worked-seen =
      ap (λ (l : List Entry). table_at (record h { log = l; tree = tree })) log-is
      ∙ ap shown (held-table entry_bytes (record h { log = e ∷ h.log; tree = tree }) (record (table_of h) { log = e ∷ h.log }) stepped refl)

  counted : IsTableTree (record h { log = e ∷ h.log; tree = tree }) more (record counts { workers = counts.workers + 1 })
  counted = record {
    held = held-held entry_bytes (record h { log = e ∷ h.log; tree = tree }) (record (table_of h) { log = e ∷ h.log }) stepped refl;
    counted = record {
      clients = is.counted.clients ∙ no-client;
      workers = ap (λ (n : ℕ). n + 1) is.counted.workers ∙ one-more;
      mutations = is.counted.mutations ∙ no-mutation;
      blocks = is.counted.blocks ∙ no-more;
      window = is.counted.window ∙ sym window;
    };
    places = placed-snoc h.row tokens more t e more-is t-is (room-left h tokens tokens counts is logged (inr few)) is.places;
  }
    where
      no-client : client_count h.log ≡ client_count (e ∷ h.log)
      no-client =
          let s : client_count (e ∷ h.log) ≡ 0 + client_count h.log = clients-next e h.log ∙ ap (λ (b : Bool). cond b 1 0 + client_count h.log) worker in
          omega (arith, s)

      no-mutation : mutation_count h.log ≡ mutation_count (e ∷ h.log)
      no-mutation =
          let s : mutation_count (e ∷ h.log) ≡ 0 + mutation_count h.log = mutations-next e h.log ∙ ap (λ (b : Bool). cond b 1 0 + mutation_count h.log) other in
          omega (arith, s)

      no-more : get_count h.log ≡ get_count (e ∷ h.log)
      no-more =
          let s : get_count (e ∷ h.log) ≡ 0 + get_count h.log = blocks-next e h.log ∙ ap (λ (b : Bool). cond b 1 0 + get_count h.log) no-block in
          omega (arith, s)

      one-more : worker_count h.log + 1 ≡ worker_count (e ∷ h.log)
      one-more =
          let s : worker_count (e ∷ h.log) ≡ 1 + worker_count h.log = workers-next e h.log ∙ ap (λ (b : Bool). cond (not b) 1 0 + worker_count h.log) worker in
          omega (arith, s)

  pub worked-tree : IsTableTree (record h { log = entries more; tree = tree }) more (record counts { workers = counts.workers + 1 })
  worked-tree = subst (λ (l : List Entry). IsTableTree (record h { log = l; tree = tree }) more (record counts { workers = counts.workers + 1 })) (sym log-is) counted
