-- What the mutation of a part makes of a table, and why there is none.
use Rattle.std.proofs.Common.{◌≡◌, ℕ, ◌+◌, ◌<◌, ◌≤◌, false, List, [], ◌∷◌, ◌++◌, length, refl, sym, ap, subst, arith, ◌∙◌}
use Rattle.std.specs.Prelude.{IfSome}
use Rattle.std.specs.declared.option.Option.{Option}
use Rattle.std.specs.declared.option.Option.TheVariants.{Some, None}
use Rattle.rmt_values.specs.Rows.{Shape}
use Rattle.rmt_values.specs.declared.limit.Limit.TheVariants as limits
use Rattle.rmt_values.specs.declared.checked_mutation.CheckedMutation.{CheckedMutation}
use Rattle.rmt_names.specs.Names.{Name}
use Rattle.rmt_row.specs.Token.{Token}
use Rattle.rmt_entries.specs.EntryBytes.{entry_bytes, EntryInRange}
use Rattle.rmt_entries.specs.declared.entry.Entry.{Entry}
use Rattle.rmt_entries.specs.declared.entry.Entry.TheVariants.{Mutate, Mutation}
use Rattle.rmt_model.specs.Lawful.{Lawful, IsMutationWith, is_mutation, entry_at, block_count, mutations_through}
use Rattle.rmt_model.proofs.Drops.{some-same, entry-below}
use Rattle.rmt_model.specs.EntryLimits.{is_client}
use Rattle.rmt_history.specs.Copies.{History, entries}
use Rattle.rmt_history.specs.Mutations.{AreInOrder, HasOrder, number_among, number_in}
use Rattle.rmt_history.proofs.NumberLemmas.{with-in, log-order}
use Rattle.rmt_tree.specs.Trees.{TreeView}
use Rattle.rmt_tree.specs.Ops.{first_refusal, after_all}
use Rattle.rmt_tree.specs.declared.op.Op.{Op}
use Rattle.rmt_table_model.specs.Kept.{is_get, in_order}
use Rattle.rmt_table_model.specs.Changes.{MayMutateOne}
use Rattle.rmt_table_model.specs.Steps.{Steps}
use Rattle.rmt_table_model.specs.Held.{Held, table_of}
use Rattle.rmt_table_model.proofs.CountLemmas.{mutations-through}
use Rattle.rmt_table_model.proofs.TableLemmas.{mutate-steps}
use Rattle.rmt_events.specs.LogEvents.{IsMutable}
use Rattle.rmt_events.specs.TableCalls.{AssignsMutate}
use Rattle.rmt_events.specs.TableRefusals.{NotMutated}
use Rattle.rmt_table.specs.SeenTable.{shown}
use Rattle.rmt_table.proofs.CallBridge.{mutate-bridge}
use Rattle.rmt_table.specs.TableTrees.{Counts, IsTableTree, IsMutateOf, table_at, next_token, token_in, entry_ops}
use Rattle.rmt_table.specs.Causes.{mutate_cause}
use Rattle.rmt_table.specs.declared.mutate_error.MutateError.{MutateError}
use Rattle.rmt_table.specs.declared.mutate_error.MutateError.TheVariants as mutate
use Rattle.rmt_table.specs.MutateEntries.{IsMutateEntry}
use Rattle.rmt_table.proofs.CountedLemmas.{through-most}
use Rattle.rmt_table.proofs.SoundRanges.{sound-length, mutate-range}
use Rattle.rmt_table.proofs.Worked.{work-full, worked-token, worked-seen, worked-tree}

-- a mutation is at a place below the log's length
pub mutation-below : (log : List Entry) (i : ℕ) (p : Option ℕ) (n : ℕ) → IsMutationWith (entry_at log i) p n → i < length log
mutation-below log i p n m = go (entry_at log i) refl m
  where
    go : (o : Option Entry) → entry_at log i ≡ o → IsMutationWith o p n → i < length log
    go None e k = absurd k
    go (Some x) e k = entry-below log i x e

-- its number in the partition is the one among its pairs
pub mutation-number : (schema : Shape) (log : List Entry) (i : ℕ) (e : Entry) (id : ℕ) (numbers : List (Option ℕ × ℕ)) (command : CheckedMutation) (p : Option ℕ) (n : ℕ) → Lawful schema log → entry_at log i ≡ Some e → e ≡ Mutation id numbers command → IsMutationWith (entry_at log i) p n → number_among numbers p ≡ Some n
mutation-number schema log i e id numbers command p n l q k m =
    ap (λ (x : Entry). number_in x p) (sym k) ∙ with-in e p n (log-order schema log i e l q) (subst (λ (o : Option Entry). IsMutationWith o p n) q m)

-- its pairs are in order
pub mutation-order : (schema : Shape) (log : List Entry) (i : ℕ) (e : Entry) (id : ℕ) (numbers pairs : List (Option ℕ × ℕ)) (command : CheckedMutation) → Lawful schema log → entry_at log i ≡ Some e → e ≡ Mutation id numbers command → pairs ≡ numbers → AreInOrder pairs
mutation-order schema log i e id numbers pairs command l q k s = subst AreInOrder (sym s) (subst HasOrder k (log-order schema log i e l q))

-- so many mutations stand up to it, which aren't more than the log is long
through-is : (schema : Shape) (log : List Entry) (i : ℕ) (e : Entry) (id : ℕ) (numbers : List (Option ℕ × ℕ)) (command : CheckedMutation) → Lawful schema log → entry_at log i ≡ Some e → e ≡ Mutation id numbers command → mutations_through log i ≡ id + 1
through-is schema log i e id numbers command l q k = mutations-through schema log i id numbers command l (q ∙ ap Some k)

pub through-fits : (schema : Shape) (log : List Entry) (i : ℕ) (e : Entry) (id : ℕ) (numbers : List (Option ℕ × ℕ)) (command : CheckedMutation) → Lawful schema log → entry_at log i ≡ Some e → e ≡ Mutation id numbers command → length log ≤ 65536 → id + 1 ≤ 65536
through-fits schema log i e id numbers command l q k f = let t = through-most log i in let w = through-is schema log i e id numbers command l q k in omega (arith, t, w, f)

-- a name with another mutation
pub renamed : (old : Name) (p : Option ℕ) (min max level number : ℕ) → p ≡ old.partition → min ≡ old.min → max ≡ old.max → level ≡ old.level → ◌≡◌ {A = Name} (record { partition = p; min = min; max = max; level = level; mutation = number }) (record old { mutation = number })
renamed old p min max level number a b c d =
    ap (λ (x : Option ℕ). record { partition = x; min = min; max = max; level = level; mutation = number }) a
    ∙ ap (λ (x : ℕ). record { partition = old.partition; min = x; max = max; level = level; mutation = number }) b
    ∙ ap (λ (x : ℕ). record { partition = old.partition; min = old.min; max = x; level = level; mutation = number }) c
    ∙ ap (λ (x : ℕ). record { partition = old.partition; min = old.min; max = old.max; level = x; mutation = number }) d

-- ---- the entry

-- the entry that is put together
pub mutate-entry : (schema : Shape) (log : List Entry) (i : ℕ) (e : Entry) (id : ℕ) (numbers : List (Option ℕ × ℕ)) (command : CheckedMutation) (old : Name) → Lawful schema log → entry_at log i ≡ Some e → e ≡ Mutation id numbers command → IsMutable log old i
    → (number : ℕ) → Some number ≡ number_among numbers old.partition → (new : Name) → new ≡ record old { mutation = number } → (count : ℕ) → count ≡ block_count log old → IsMutateEntry log old i (Mutate old new i count (id + 1))
mutate-entry schema log i e id numbers command old l q k m number f new r count c =
    let same : number ≡ m.number = some-same number m.number (f ∙ mutation-number schema log i e id numbers command old.partition m.number l q k m.at) in
    record {
      name = new;
      count = count;
      mcount = id + 1;
      entry = refl;
      meets = record {
        number = m.number;
        is_live = m.is_live;
        at = m.at;
        pending = m.pending;
        name = r ∙ ap (λ (x : ℕ). record old { mutation = x }) same;
        counted = c;
        mutations = sym (through-is schema log i e id numbers command l q k);
      };
    }

-- ---- the call

module _ (h : Held) (tokens : List (Token Entry)) (logged : h.log ≡ entries tokens) (counts : Counts) (is : IsTableTree h tokens counts) (now : Held) (same : h ≡ now)
    (copy : History) (whole : copy.log ≡ h.log) (old : Name) (upto : ℕ) where
  -- the cause of the error is why the part isn't mutated
  abbrev pub HasCause : Held → MutateError → Type 0
  HasCause k e = IfSome (mutate_cause e) (NotMutated (table_at k) (length copy.log))

  no-mutate : (e : MutateError) → HasCause h e → HasCause now e
  no-mutate e n = subst (λ (k : Held). HasCause k e) same n

  long : length copy.log ≡ length h.log
  long = ap (λ (l : List Entry). length l) whole

  pub mutate-few : length copy.log ≤ 65536
  mutate-few = let k = sound-length (table_of h) is.held.sound in omega (arith, long, k)

  pub mutate-full : (value : ℕ) → value ≡ counts.workers → 32768 ≤ counts.workers → HasCause now (mutate.LimitReached limits.WorkerEntries value)
  mutate-full value e l = no-mutate (mutate.LimitReached limits.WorkerEntries value) (long, work-full h.log value (e ∙ is.counted.workers) (subst (λ (n : ℕ). 32768 ≤ n) (sym e) l))

  module _ (few : counts.workers < 32768) (e : Entry) (made : IsMutateEntry copy.log old upto e) where
    r : IsMutateEntry h.log old upto e
    r = subst (λ (l : List Entry). IsMutateEntry l old upto e) whole made

    may : MayMutateOne old r.meets.number upto (table_of h)
    may = record { is_live = r.meets.is_live; at = r.meets.at; pending = r.meets.pending; worker_entries = subst (λ (n : ℕ). n < 32768) is.counted.workers few }

    e-is : Mutate old r.name upto r.count r.mcount ≡ Mutate old (record old { mutation = r.meets.number }) upto (block_count h.log old) (mutations_through h.log upto)
    e-is =
        ap (λ (x : Name). Mutate old x upto r.count r.mcount) (r.meets.name)
        ∙ ap (λ (n : ℕ). Mutate old (record old { mutation = r.meets.number }) upto n r.mcount) (r.meets.counted)
        ∙ ap (λ (n : ℕ). Mutate old (record old { mutation = r.meets.number }) upto (block_count h.log old) n) (r.meets.mutations)

    pub mutate-in-range : EntryInRange e
    mutate-in-range = subst EntryInRange (sym (r.entry ∙ e-is)) (mutate-range (table_of h) is.held.sound old r.meets.number upto may)

    steps : Steps entry_bytes h.tree (entry_ops e) (record (table_of h) { log = e ∷ h.log })
    steps = subst (λ (x : Entry). Steps entry_bytes h.tree (entry_ops x) (record (table_of h) { log = x ∷ h.log })) (sym (r.entry ∙ e-is)) (mutate-steps entry_bytes h.tree (table_of h) is.held old r.meets.number upto may)

    seen : AssignsMutate (table_at h) old r.name upto r.count r.mcount (shown (record (table_of h) { log = e ∷ h.log }))
    seen =
        subst (λ (x : Entry). AssignsMutate (table_at h) old r.name upto r.count r.mcount (shown (record (table_of h) { log = x ∷ h.log }))) (sym r.entry)
        (subst (λ (x : Name). AssignsMutate (table_at h) old x upto r.count r.mcount (shown (record (table_of h) { log = Mutate old x upto r.count r.mcount ∷ h.log }))) (sym (r.meets.name))
        (subst (λ (n : ℕ). AssignsMutate (table_at h) old (record old { mutation = r.meets.number }) upto n r.mcount (shown (record (table_of h) { log = Mutate old (record old { mutation = r.meets.number }) upto n r.mcount ∷ h.log }))) (sym (r.meets.counted))
        (subst (λ (n : ℕ). AssignsMutate (table_at h) old (record old { mutation = r.meets.number }) upto (block_count h.log old) n (shown (record (table_of h) { log = Mutate old (record old { mutation = r.meets.number }) upto (block_count h.log old) n ∷ h.log }))) (sym (r.meets.mutations))
        (mutate-bridge (table_of h) old r.meets.number upto may))))

    pub mutate-fine : (ops : List Op) → ops ≡ entry_ops e → first_refusal h.tree ops 0 ≡ None
    mutate-fine ops o = ap (λ (os : List Op). first_refusal h.tree os 0) o ∙ steps.makes.none_refused 0

    worker : is_client e ≡ false
    worker = ap is_client r.entry

    other : is_mutation e ≡ false
    other = ap is_mutation r.entry

    window : in_order h.schema.window (e ∷ h.log) ≡ in_order h.schema.window h.log
    window = ap (λ (x : Entry). in_order h.schema.window (x ∷ h.log)) r.entry

    no-block : is_get e ≡ false
    no-block = ap is_get r.entry

    module _ (t : Token Entry) (t-is : t ≡ token_in h.row (length tokens) e)
        (more : List (Token Entry)) (more-is : more ≡ tokens ++ t ∷ []) (tree : TreeView) (ops : List Op) (ops-is : ops ≡ entry_ops e) (tree-is : tree ≡ after_all h.tree ops) where
      tree-at : tree ≡ after_all h.tree (entry_ops e)
      tree-at = tree-is ∙ ap (after_all h.tree) ops-is

      pub mutate-tree : IsTableTree (record h { log = entries more; tree = tree }) more (record counts { workers = counts.workers + 1 })
      mutate-tree = worked-tree h tokens logged counts is e worker other window no-block steps few t t-is more more-is tree tree-at

      pub mutate-done : IsMutateOf now old upto t (record h { log = entries more; tree = tree })
      mutate-done = subst (λ (k : Held). IsMutateOf k old upto t (record h { log = entries more; tree = tree })) same (record {
        name = r.name;
        count = r.count;
        mcount = r.mcount;
        token_is = worked-token h tokens logged counts is e worker other window no-block steps few t t-is more more-is tree tree-at ∙ ap (next_token h) r.entry;
        seen = subst (AssignsMutate (table_at h) old r.name upto r.count r.mcount) (sym (worked-seen h tokens logged counts is e worker other window no-block steps few t t-is more more-is tree tree-at)) seen;
        tree = tree-at ∙ ap (λ (x : Entry). after_all h.tree (entry_ops x)) r.entry;
      })
