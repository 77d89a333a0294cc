-- What an accepted block makes of a table.
use Rattle.std.proofs.Common.{◌≡◌, ◌≢◌, is_some, ℕ, ◌+◌, ◌<◌, ◌≤◌, inl, Bool, true, false, cond, nat_le, nat_lt, List, [], ◌∷◌, ◌++◌, length, take, refl, sym, ap, subst, arith, ◌∙◌}
use Rattle.std.proofs.lemmas.Bool.Decides.{nat_tests}
use Rattle.std.specs.declared.option.Option.{Option}
use Rattle.std.specs.declared.option.Option.TheVariants.{Some, None}
use Rattle.rmt_values.specs.declared.limit.Limit.{Limit}
use Rattle.rmt_values.specs.declared.limit.Limit.TheVariants as limits
use Rattle.rmt_names.specs.Names.{Name, block_name}
use Rattle.rmt_block.specs.Blocks.{IsId}
use Rattle.rmt_row.specs.Token.{Token}
use Rattle.rmt_entries.specs.declared.entry.Entry.{Entry}
use Rattle.rmt_entries.specs.declared.entry.Entry.TheVariants.{Get}
use Rattle.rmt_entries.specs.EntryBytes.{entry_bytes, EntryInRange}
use Rattle.rmt_model.specs.Lawful.{mutation_count}
use Rattle.rmt_model.specs.EntryLimits.{client_count, worker_count, commit_limit}
use Rattle.rmt_history.specs.Copies.{entries}
use Rattle.rmt_history.proofs.Copied.{entries-snoc}
use Rattle.rmt_model.specs.Quorum.{Quorum, quorum_after_block}
use Rattle.rmt_paths.specs.Paths.{Names}
use Rattle.rmt_tree.specs.Trees.{TreeView}
use Rattle.rmt_tree.specs.Ops.{after_all, first_refusal}
use Rattle.rmt_tree.specs.declared.op.Op.{Op}
use Rattle.rmt_tree.specs.declared.op.Op.TheVariants as op
use Rattle.rmt_znodes.specs.declared.znode.Znode.TheVariants as nodes
use Rattle.rmt_znodes.specs.Znodes.{znode_path, entry_path}
use Rattle.rmt_znodes.specs.ZnodeStates.{Makes}
use Rattle.rmt_table_model.specs.Numbers.{IsLocked}
use Rattle.rmt_table_model.specs.Kept.{Placed, in_order, get_count, is_get, with_id}
use Rattle.rmt_table_model.specs.Inserts.{part_of}
use Rattle.rmt_table_model.specs.Tables.{TableView}
use Rattle.rmt_table_model.specs.Changes.{MayCommit, after_commit}
use Rattle.rmt_table_model.specs.Nodes.{IsTable, keep_ops, status_ops, commit_ops}
use Rattle.rmt_table_model.specs.Steps.{Steps}
use Rattle.rmt_table_model.specs.Held.{Held, table_of, holders_in}
use Rattle.rmt_table_model.proofs.TableLemmas.{commit-steps}
use Rattle.rmt_table_model.proofs.HeldLemmas.{held-table, held-held}
use Rattle.std.proofs.lemmas.List.Sums.{count_by-le-length}
use Rattle.rmt_events.specs.TableRefusals.{HasQuorum}
use Rattle.rmt_events.specs.TableCalls.{Commits}
use Rattle.rmt_table.specs.SeenTable.{shown}
use Rattle.rmt_table.proofs.NumberLemmas as view
use Rattle.rmt_table.proofs.SessionLemmas.{opened-count}
use Rattle.rmt_table.proofs.CallBridge.{commit-bridge}
use Rattle.rmt_table.specs.declared.lock.Lock.{Lock}
use Rattle.rmt_table.specs.declared.commit_error.CommitError.{CommitError}
use Rattle.rmt_table.specs.declared.commit_error.CommitError.TheVariants as commit
use Rattle.rmt_table.specs.Refusals.{IsAcceptable, TakesLock}
use Rattle.rmt_table.specs.TableTrees.{table_at, IsReplica, Counts, IsTableTree, IsUnlocked, AfterNoCommit, next_token}
use Rattle.rmt_table.proofs.Appended.{clients-next, workers-next, mutations-next, blocks-next}
use Rattle.rmt_table.proofs.SoundRanges.{commit-range, sound-length}
use Rattle.rmt_table.proofs.AppendLemmas.{placed-next}
use Rattle.rmt_table.proofs.LengthLemmas.{room-left}
use Rattle.rmt_table.proofs.Allocated.{unkept}

record FitsLimits (log : List Entry) (held values : ℕ) : Type 0 where
  few_clients : client_count log < 32768
  few_values : held + values ≤ 8388608

within-limits : (log : List Entry) (held added : ℕ) → commit_limit log held added ≡ None → FitsLimits log held added
within-limits log held added e = go (nat_le 32768 (client_count log)) refl (nat_lt 8388608 (held + added)) refl e
  where
    go : (a : Bool) → nat_le 32768 (client_count log) ≡ a → (b : Bool) → nat_lt 8388608 (held + added) ≡ b
        → cond {A = Option (Limit × ℕ)} a (Some (limits.ClientEntries, client_count log)) (cond {A = Option (Limit × ℕ)} b (Some (limits.Values, held)) None) ≡ None → FitsLimits log held added
    go true f b g e = absurd (cc)
    go false f true g e = absurd (cc)
    go false f false g e = record { few_clients = grind (arith, nat_tests); few_values = grind (arith, nat_tests) }

module _ (h : Held) (tokens : List (Token Entry)) (counts : Counts) (k : IsTableTree h tokens counts) (now : Held) (e : h ≡ now) (lock : Lock) (need values : ℕ) (id : IsId lock.id) (one : need ≢ 1) (locked : IsLocked (holders_in h.tree) lock.id.partition lock.number) (fine-now : IsAcceptable (table_at now) lock need values) where
  abbrev pub entry : Entry
  entry = Get lock.id.partition lock.number lock.id.digest lock.replica need

  fine : IsAcceptable (table_at h) lock need values
  fine = subst (λ (w : Held). IsAcceptable (table_at w) lock need values) (sym e) fine-now

  limits-fit : FitsLimits h.log h.values values
  limits-fit = within-limits h.log h.values values fine.within

  pub id-unkept : with_id lock.id.partition lock.id.digest (in_order h.schema.window h.log) ≡ None
  id-unkept = unkept (part_of lock.id.partition lock.id.digest (in_order h.schema.window h.log)) (sym (view.kept-same h.schema.window h.log lock.id.partition lock.id.digest) ∙ fine.unkept) lock.id.partition lock.id.digest h refl

  pub in-range : IsReplica now lock.replica → EntryInRange entry
  in-range here =
      let a = here.last in
      let b = subst (λ (w : Held). length w.sessions ≤ 8) e k.held.few in
      let c = HasQuorum.enough fine.quorum in
      let d = opened-count h.sessions 1 in
      let f = count_by-le-length is_some h.sessions in
      let g = k.held.few in
      commit-range (table_of h) k.held.sound lock.id.partition lock.number lock.id.digest lock.replica need id locked here.first (omega (arith, a, b)) (omega (arith, c, d, f, g)) (λ q. one q)

  pub few-clients : counts.clients < 32768
  few-clients = let a = FitsLimits.few_clients limits-fit in let b = k.counted.clients in omega (arith, a, b)

  pub few-values : h.values + values ≤ 8388608
  few-values = FitsLimits.few_values limits-fit

  may : MayCommit lock.id.partition lock.number lock.id.digest need values (table_of h)
  may = record {
    id = id;
    not_kept = id-unkept;
    is_locked = locked;
    none_pending = λ l. HasQuorum.quiet fine.quorum l;
    client_entries = FitsLimits.few_clients limits-fit;
    values = FitsLimits.few_values limits-fit;
  }

  pub steps : Steps entry_bytes h.tree (commit_ops entry_bytes lock.id.partition lock.number lock.id.digest lock.replica need (table_of h)) (after_commit lock.id.partition lock.number lock.id.digest lock.replica need values (table_of h))
  steps = commit-steps entry_bytes h.tree (table_of h) k.held lock.id.partition lock.number lock.id.digest lock.replica need values may

  module _ (ops : List Op) (ops-now : ops ≡ op.Delete (znode_path (nodes.Lock lock.id.partition lock.number)) None ∷ op.Create entry_path (entry_bytes entry) true None ∷ (keep_ops now.schema.window (in_order now.schema.window now.log) lock.id.partition lock.id.digest (block_name lock.id.partition lock.number) ++ status_ops (block_name lock.id.partition lock.number) need)) where
    pub ops-same : ops ≡ commit_ops entry_bytes lock.id.partition lock.number lock.id.digest lock.replica need (table_of h)
    ops-same = ops-now ∙ ap (λ (w : Held). op.Delete (znode_path (nodes.Lock lock.id.partition lock.number)) None ∷ op.Create entry_path (entry_bytes entry) true None ∷ (keep_ops w.schema.window (in_order w.schema.window w.log) lock.id.partition lock.id.digest (block_name lock.id.partition lock.number) ++ status_ops (block_name lock.id.partition lock.number) need)) (sym e)

    pub ops-seen : ops ≡ commit_ops entry_bytes lock.id.partition lock.number lock.id.digest lock.replica need (table_of now)
    ops-seen = ops-same ∙ ap (λ (w : Held). commit_ops entry_bytes lock.id.partition lock.number lock.id.digest lock.replica need (table_of w)) e

    pub ops-fine : first_refusal h.tree ops 0 ≡ None
    ops-fine = subst (λ (xs : List Op). first_refusal h.tree xs 0 ≡ None) (sym ops-same) (Makes.none_refused (Steps.makes steps) 0)

    module _ (t : TreeView) (done : t ≡ after_all h.tree ops) (token : Token Entry) (token-is : token ≡ next_token h entry) (more : List (Token Entry)) (more-is : more ≡ tokens ++ token ∷ []) (of : h.log ≡ entries tokens) (waits : Quorum) (waits-is : waits ≡ quorum_after_block (block_name lock.id.partition lock.number) need h.quorum) where
      log-is : entries more ≡ entry ∷ h.log
      log-is = ap entries more-is ∙ entries-snoc tokens token ∙ ap (λ (v : Token Entry). v.value ∷ entries tokens) token-is ∙ ap (λ (xs : List Entry). entry ∷ xs) (sym of)

      abbrev pub after : Held
      after = record h { log = entries more; quorum = waits; values = h.values + values; tree = t }

      table : IsTable entry_bytes t (after_commit lock.id.partition lock.number lock.id.digest lock.replica need values (table_of h))
      table = subst (λ (u : TreeView). IsTable entry_bytes u (after_commit lock.id.partition lock.number lock.id.digest lock.replica need values (table_of h))) (sym (done ∙ ap (after_all h.tree) ops-same)) (Steps.table steps)

      same : ◌≡◌ {A = TableView} (record (after_commit lock.id.partition lock.number lock.id.digest lock.replica need values (table_of h)) { holders = holders_in t }) (table_of after)
      same = ap (λ (q : Quorum). record (table_of after) { log = entry ∷ h.log; quorum = q }) (sym waits-is) ∙ ap (λ (log : List Entry). record (table_of after) { log = log }) (sym log-is)

      pub committed-seen : Commits (table_at now) lock.id.partition lock.number lock.id.digest lock.replica need values (table_at after)
      committed-seen = subst (λ (w : Held). Commits (table_at w) lock.id.partition lock.number lock.id.digest lock.replica need values (table_at after)) e
          (subst (λ (u : TableView). Commits (table_at h) lock.id.partition lock.number lock.id.digest lock.replica need values (shown u)) (sym (held-table entry_bytes after (after_commit lock.id.partition lock.number lock.id.digest lock.replica need values (table_of h)) table same))
          (commit-bridge (table_of h) k.held.sound lock.id.partition lock.number lock.id.digest lock.replica need values may))

      module _ (clients blocks : ℕ) (clients-is : clients ≡ counts.clients + 1) (blocks-is : blocks ≡ counts.blocks + 1)
          (window : List Placed) (window-is : window ≡ take h.schema.window (record { number = counts.blocks; kept = record { digest = lock.id.digest; part = block_name lock.id.partition lock.number } } ∷ counts.window)) where
        window-now : window ≡ in_order h.schema.window (entry ∷ h.log)
        window-now =
            window-is
            ∙ ap (λ (n : ℕ). take h.schema.window (record { number = n; kept = record { digest = lock.id.digest; part = block_name lock.id.partition lock.number } } ∷ counts.window)) k.counted.blocks
            ∙ ap (λ (ks : List Placed). take h.schema.window (record { number = get_count h.log; kept = record { digest = lock.id.digest; part = block_name lock.id.partition lock.number } } ∷ ks)) k.counted.window

        pub committed-tree : IsTableTree after more (record counts { clients = clients; blocks = blocks; window = window })
        committed-tree = record {
          held = held-held entry_bytes after (after_commit lock.id.partition lock.number lock.id.digest lock.replica need values (table_of h)) table same;
          counted = record {
            clients = let c = k.counted.clients in let n = clients-next entry h.log in (omega (arith, clients-is, c, n) ∙ ap client_count (sym log-is));
            workers = let c = k.counted.workers in let n = workers-next entry h.log in (omega (arith, c, n) ∙ ap worker_count (sym log-is));
            mutations = let c = k.counted.mutations in let n = mutations-next entry h.log in (omega (arith, c, n) ∙ ap mutation_count (sym log-is));
            blocks = let c = k.counted.blocks in let n = blocks-next entry h.log in (omega (arith, blocks-is, c, n) ∙ ap get_count (sym log-is));
            window = window-now ∙ ap (in_order h.schema.window) (sym log-is);
          };
          places = placed-next h tokens more token entry more-is token-is of (room-left h tokens tokens counts k of (inl few-clients)) k.places;
        }

-- the ops that keep the id of a commit
pub ids-of : (h : Held) {tokens : List (Token Entry)} {counts : Counts} (now : Held) → h ≡ now → IsTableTree h tokens counts → (lock : Lock)
    → (part : Name) → part ≡ block_name lock.id.partition lock.number
    → (window : ℕ) → window ≡ h.schema.window → (keep : List Op) → keep ≡ keep_ops window counts.window lock.id.partition lock.id.digest part
    → keep ≡ keep_ops now.schema.window (in_order now.schema.window now.log) lock.id.partition lock.id.digest (block_name lock.id.partition lock.number)
ids-of h {tokens} {counts} now q is lock part part-is window window-is keep keep-is =
    subst (λ (w : Held). keep ≡ keep_ops w.schema.window (in_order w.schema.window w.log) lock.id.partition lock.id.digest (block_name lock.id.partition lock.number)) q
    (keep-is
    ∙ ap (λ (ks : List Placed). keep_ops window ks lock.id.partition lock.id.digest part) is.counted.window
    ∙ ap (λ (w : ℕ). keep_ops w (in_order h.schema.window h.log) lock.id.partition lock.id.digest part) window-is ∙ ap (keep_ops h.schema.window (in_order h.schema.window h.log) lock.id.partition lock.id.digest) part-is)

-- the window with one more id, by equal parts
pub window-as : (digest : List ℕ) (w v : ℕ) (a b : Name) (m n : ℕ) (js ks new : List Placed) → w ≡ v → a ≡ b → m ≡ n → js ≡ ks
    → new ≡ take w (record { number = m; kept = record { digest = digest; part = a } } ∷ js) → new ≡ take v (record { number = n; kept = record { digest = digest; part = b } } ∷ ks)
window-as digest w v a b m n js ks new e f g h is = is ∙ (λ i. take (e i) (record { number = g i; kept = record { digest = digest; part = f i } } ∷ h i))

-- the ops of a commit, put together
pub ops-of : (lock : Lock) (need : ℕ) (path : Names) → path ≡ znode_path (nodes.Lock lock.id.partition lock.number)
    → (some : List Op) → some ≡ op.Delete path None ∷ op.Create entry_path (entry_bytes (Get lock.id.partition lock.number lock.id.digest lock.replica need)) true None ∷ [] → (keep kept : List Op) → keep ≡ kept
    → (part : Name) → part ≡ block_name lock.id.partition lock.number → (status : List Op) → status ≡ status_ops part need → (both : List Op) → both ≡ some ++ keep → (ops : List Op) → ops ≡ both ++ status
    → ops ≡ op.Delete (znode_path (nodes.Lock lock.id.partition lock.number)) None ∷ op.Create entry_path (entry_bytes (Get lock.id.partition lock.number lock.id.digest lock.replica need)) true None ∷ (kept ++ status_ops (block_name lock.id.partition lock.number) need)
ops-of lock need path path-is some some-is keep kept keep-is part part-is status status-is both both-are ops ops-are =
    ops-are ∙ ap (λ (xs : List Op). both ++ xs) (status-is ∙ ap (λ (a : Name). status_ops a need) part-is)
    ∙ ap (λ (xs : List Op). xs ++ status_ops (block_name lock.id.partition lock.number) need) (both-are ∙ ap (λ (xs : List Op). xs ++ keep) some-is ∙ ap (λ (xs : List Op). op.Delete path None ∷ op.Create entry_path (entry_bytes (Get lock.id.partition lock.number lock.id.digest lock.replica need)) true None ∷ xs) keep-is)
    ∙ ap (λ (p : Names). op.Delete p None ∷ op.Create entry_path (entry_bytes (Get lock.id.partition lock.number lock.id.digest lock.replica need)) true None ∷ (kept ++ status_ops (block_name lock.id.partition lock.number) need)) path-is

-- the table after a refusal that takes the lock
pub after-refusal : (old new : Held) (lock : Lock) (x : CommitError) → TakesLock x → IsUnlocked old lock.id.partition lock.number new → AfterNoCommit old lock x new
after-refusal old new lock (commit.LockGone n) t u = absurd t
after-refusal old new lock (commit.TooFewLive live needed) t u = u
after-refusal old new lock (commit.QuorumPending a) t u = u
after-refusal old new lock (commit.Duplicate a) t u = u
after-refusal old new lock (commit.LimitReached limit value) t u = u
after-refusal old new lock commit.Memory t u = absurd t

-- a table to which nothing was written, whose window has other room
pub unwritten : (h : Held) (tokens : List (Token Entry)) (counts : Counts) → IsTableTree h tokens counts → h.log ≡ entries tokens → (all : List (Token Entry)) → all ≡ tokens → (tree : TreeView) → tree ≡ h.tree
    → (blocks : ℕ) → blocks ≡ counts.blocks → (window : List Placed) → window ≡ counts.window
    → IsTableTree (record h { log = entries all; tree = tree }) all (record counts { blocks = blocks; window = window })
unwritten h tokens counts k logged all all-is tree tree-is blocks blocks-is window window-is =
    subst (λ (ts : List (Token Entry)). IsTableTree (record h { log = entries ts; tree = tree }) ts (record counts { blocks = blocks; window = window })) (sym all-is)
    (subst (λ (t : TreeView). IsTableTree (record h { log = entries tokens; tree = t }) tokens (record counts { blocks = blocks; window = window })) (sym tree-is)
    (subst (λ (log : List Entry). IsTableTree (record h { log = log }) tokens (record counts { blocks = blocks; window = window })) logged
    (record {
      held = k.held;
      counted = record {
        clients = k.counted.clients;
        workers = k.counted.workers;
        mutations = k.counted.mutations;
        blocks = blocks-is ∙ k.counted.blocks;
        window = window-is ∙ k.counted.window;
      };
      places = k.places;
    })))

-- there are fewer blocks than a u32 counts
pub blocks-few : (h : Held) (tokens : List (Token Entry)) (counts : Counts) → IsTableTree h tokens counts → counts.blocks ≤ 65536
blocks-few h tokens counts is =
    let a = count_by-le-length is_get h.log in
    let b = sound-length (table_of h) is.held.sound in
    let c = is.counted.blocks in
    omega (arith, a, b, c)
