-- What a merge makes of a table, and why there is none.
use Rattle.std.proofs.Common.{◌≡◌, ℕ, ◌+◌, ◌<◌, ◌≤◌, ◌^◌, inl, inr, Bool, true, false, List, [], ◌∷◌, ◌++◌, length, refl, sym, ap, subst, arith, ◌∙◌, nat_lt}
use Rattle.std.specs.Prelude.{IfSome}
use Rattle.std.proofs.lemmas.Bool.Decides.{nat_tests}
use Rattle.std.specs.declared.option.Option.{Option}
use Rattle.std.specs.declared.option.Option.TheVariants.{Some, None}
use Rattle.rmt_values.specs.Order.{tally}
use Rattle.rmt_values.specs.declared.limit.Limit.TheVariants as limits
use Rattle.rmt_names.specs.Names.{Name, Spans, rank, last, highest, merged_name, AreRising, CanMerge, IsMergedOf}
use Rattle.rmt_row.specs.Token.{Token}
use Rattle.rmt_model.specs.Quorum.{Pending}
use Rattle.rmt_entries.specs.declared.entry.Entry.{Entry}
use Rattle.rmt_entries.specs.declared.entry.Entry.TheVariants.{Merge}
use Rattle.rmt_entries.specs.EntryBytes.{entry_bytes, EntryInRange}
use Rattle.rmt_model.specs.Words.{Has, Each, Pairwise}
use Rattle.rmt_model.specs.Live.{Before, live}
use Rattle.rmt_model.specs.Lawful.{Merges, block_count, is_mutation}
use Rattle.rmt_model.proofs.Lists.{Each-at, Each-all}
use Rattle.rmt_model.proofs.LiveLaws.{Tight, tight, source-live, sources-lined}
use Rattle.rmt_model.proofs.VersionLaws.{live-made, highest-reached}
use Rattle.rmt_model.specs.EntryLimits.{is_client, worker_count}
use Rattle.rmt_history.specs.Copies.{History, entries}
use Rattle.rmt_tree.specs.Trees.{TreeView}
use Rattle.rmt_tree.specs.Ops.{first_refusal, after_all}
use Rattle.rmt_tree.specs.declared.op.Op.{Op}
use Rattle.rmt_table_model.specs.Numbers as numbers
use Rattle.rmt_table_model.specs.Kept.{is_get, in_order}
use Rattle.rmt_table_model.specs.Inserts.{IsLeastLocked}
use Rattle.rmt_table_model.specs.Tables.{TableView, IsSound}
use Rattle.rmt_table_model.specs.Changes.{MayMerge}
use Rattle.rmt_table_model.specs.Steps.{Steps}
use Rattle.rmt_table_model.specs.Held.{Held, table_of, holders_in}
use Rattle.rmt_table_model.proofs.CountLemmas.{merged-count}
use Rattle.rmt_table_model.proofs.TableLemmas.{merge-steps}
use Rattle.rmt_events.specs.TableRefusals.{AreFirstToDiffer, AreFirstInQuorum, AreAlike, IsInFlight, NotMerged}
use Rattle.rmt_events.specs.LogEvents.{AreMergeable}
use Rattle.rmt_events.specs.Views.{Table}
use Rattle.rmt_events.specs.TableCalls.{AreQuiet, AssignsMerge}
use Rattle.rmt_table.specs.SeenTable.{shown}
use Rattle.rmt_table.proofs.CallBridge.{shown-locked, locked-shown, merge-bridge}
use Rattle.rmt_table.specs.TableTrees.{Counts, IsTableTree, IsMergeOf, table_at, next_token, token_in, entry_ops}
use Rattle.rmt_table.specs.Causes.{merge_cause}
use Rattle.rmt_table.specs.Neighbours.{IsPartOf, AreFirstApart}
use Rattle.rmt_table.specs.declared.merge_error.MergeError.{MergeError}
use Rattle.rmt_table.specs.declared.merge_error.MergeError.TheVariants as merge
use Rattle.rmt_table.proofs.LevelLemmas.{level-of-made}
use Rattle.rmt_table.proofs.CountedLemmas.{blocks-most}
use Rattle.rmt_table.proofs.SoundRanges.{sound-length, merge-range}
use Rattle.rmt_table.proofs.Differing.{alike-version, alike-quiet}
use Rattle.rmt_table.proofs.Worked.{work-full, worked-token, worked-seen, worked-tree}

-- ---- names that can be merged

-- neighbours of one version, as a merge has them
merges-of : (log : List Entry) (pending : Option Pending) (a b : Name) (rest : List Name) → AreMergeable log (a ∷ b ∷ rest) → AreAlike log pending (a ∷ b ∷ rest) → Merges log a b rest (merged_name a (b ∷ rest)) (block_count log (merged_name a (b ∷ rest)))
merges-of log pending a b rest fit alike = record { neighbours = fit.0; partition = fit.1; version = alike-version log pending a (b ∷ rest) alike; name = refl; counted = refl }

rising-from : (a : Name) (rest : List Name) → Pairwise Before (a ∷ rest) → Each (λ c. c.partition ≡ a.partition) rest → AreRising a rest
rising-from a [] p e = tt
rising-from a (b ∷ rest) p e = (sym e.0, below p.0.0, rising-from b rest p.1 (Each-all (λ c. c.partition ≡ b.partition) rest (λ c h. Each-at (λ c. c.partition ≡ a.partition) rest c e.1 h ∙ sym e.0)))
  where
    below : Before a b → a.max < b.min
    below (inl l) = let q : rank b.partition ≡ rank a.partition = ap rank e.0 in absurd (omega (arith, l, q))
    below (inr l) = l.1

-- they can be merged
pub can-merge : (v : TableView) → IsSound v → (names : List Name) → AreMergeable v.log names → AreAlike v.log v.quorum.pending names → CanMerge names
can-merge v s [] fit alike = absurd fit
can-merge v s (a ∷ []) fit alike = absurd fit
can-merge v s (a ∷ b ∷ rest) fit alike = (
  rising-from a (b ∷ rest) (sources-lined v.log t a b rest new count m) fit.1,
  (let l = level-of-made v.schema v.log s.lawful top.0 (live-made v.log top.0 (source-live v.log t a b rest new count m top.0 top.1)) in
      let k = sound-length v s in
      let e = top.2 in
      omega (arith, l, k, e)),
)
  where
    t : Tight v.log
    t = tight v.schema v.log s.lawful

    new : Name
    new = merged_name a (b ∷ rest)

    count : ℕ
    count = block_count v.log new

    m : Merges v.log a b rest new count
    m = merges-of v.log v.quorum.pending a b rest fit alike

    top : (c : Name) × Has (a ∷ b ∷ rest) c × (c.level ≡ highest (λ c. c.level) a (b ∷ rest))
    top = highest-reached (λ c. c.level) a (b ∷ rest)

-- each is live, and together they have few blocks
pub sources-living : (v : TableView) → IsSound v → (names : List Name) → AreMergeable v.log names → AreAlike v.log v.quorum.pending names → Each (Has (live v.log)) names
sources-living v s [] fit alike = tt
sources-living v s (a ∷ []) fit alike = absurd fit
sources-living v s (a ∷ b ∷ rest) fit alike =
    Each-all (Has (live v.log)) (a ∷ b ∷ rest) (λ c h. source-live v.log (tight v.schema v.log s.lawful) a b rest (merged_name a (b ∷ rest)) (block_count v.log (merged_name a (b ∷ rest))) (merges-of v.log v.quorum.pending a b rest fit alike) c h)

sum-is : (v : TableView) → IsSound v → (a b : Name) (rest : List Name) → AreMergeable v.log (a ∷ b ∷ rest) → AreAlike v.log v.quorum.pending (a ∷ b ∷ rest) → tally (block_count v.log) (a ∷ b ∷ rest) ≡ block_count v.log (merged_name a (b ∷ rest))
sum-is v s a b rest fit alike = merged-count v.schema v.log a b rest (merged_name a (b ∷ rest)) (block_count v.log (merged_name a (b ∷ rest))) s.lawful (merges-of v.log v.quorum.pending a b rest fit alike)

pub sources-few : (v : TableView) → IsSound v → (names : List Name) → AreMergeable v.log names → AreAlike v.log v.quorum.pending names → tally (block_count v.log) names < 2 ^ 32
sources-few v s [] fit alike = absurd fit
sources-few v s (a ∷ []) fit alike = absurd fit
sources-few v s (a ∷ b ∷ rest) fit alike =
    let e = sum-is v s a b rest fit alike in
    let c = blocks-most v.log (merged_name a (b ∷ rest)) in
    let k = sound-length v s in
    omega (arith, e, c, k)

-- ---- a number in flight

-- a lock's answer in other words
pub least-of : (holders : numbers.Holders) (p q : Option ℕ) (a b c d : ℕ) (o u : Option ℕ) → p ≡ q → a ≡ b → c ≡ d → o ≡ u → IsLeastLocked holders p a c o → IsLeastLocked holders q b d u
least-of holders p q a b c d o u e f g i l =
    subst (IsLeastLocked holders q b d) i (subst (λ (n : ℕ). IsLeastLocked holders q b n o) g (subst (λ (n : ℕ). IsLeastLocked holders q n c o) f (subst (λ (x : Option ℕ). IsLeastLocked holders x a c o) e l)))

-- the least lock in the range of the merged name
pub record IsLeastInFlight (t : Table) (names : List Name) (n : ℕ) : Type 0 where
  pub is : IsInFlight t names n
  pub least : (m : ℕ) → IsInFlight t names m → n ≤ m

pub least-in-flight : (v : TableView) → IsSound v → (names : List Name) (new : Name) → IsMergedOf names new → (n : ℕ) → IsLeastLocked v.holders new.partition new.min new.max (Some n) → IsLeastInFlight (shown v) names n
least-in-flight v s [] new e n l = absurd e
least-in-flight v s (a ∷ rest) new e n l = record {
  is = (shown-locked v a.partition n at.2.0 s at.2.1, record { partition = refl; low = at.0; high = at.1 });
  least = λ m f. go m f (nat_lt m n) refl;
}
  where
    at : IsLeastLocked v.holders a.partition a.min (last a rest).max (Some n)
    at = subst (λ (x : Name). IsLeastLocked v.holders x.partition x.min x.max (Some n)) e.1 l

    go : (m : ℕ) → IsInFlight (shown v) (a ∷ rest) m → (b : Bool) → nat_lt m n ≡ b → n ≤ m
    go m f true q = absurd (at.3 m (Spans.low f.1) (grind (arith, nat_tests)) (locked-shown v a.partition m s f.0))
    go m f false q = grind (arith, nat_tests)

pub none-in-flight : (v : TableView) → IsSound v → (names : List Name) (new : Name) → IsMergedOf names new → IsLeastLocked v.holders new.partition new.min new.max None → (n : ℕ) → IsInFlight (shown v) names n → ⊥
none-in-flight v s [] new e l n f = absurd f
none-in-flight v s (a ∷ rest) new e l n f = at n (Spans.low f.1) (Spans.high f.1) (locked-shown v a.partition n s f.0)
  where
    at : IsLeastLocked v.holders a.partition a.min (last a rest).max None
    at = subst (λ (x : Name). IsLeastLocked v.holders x.partition x.min x.max None) e.1 l

-- ---- a merge that may be

-- what the names are, and that they may be merged
record IsReady (v : TableView) (names : List Name) (new : Name) : Type 0 where
  first : Name
  second : Name
  rest : List Name
  names_are : names ≡ first ∷ second ∷ rest
  may : MayMerge first second rest v
  quiet : AreQuiet v.quorum.pending (first ∷ second ∷ rest)
  new_is : new ≡ merged_name first (second ∷ rest)
  sum : tally (block_count v.log) names ≡ block_count v.log (merged_name first (second ∷ rest))

ready : (v : TableView) → IsSound v → (names : List Name) → AreMergeable v.log names → AreAlike v.log v.quorum.pending names → (new : Name) → IsMergedOf names new → IsLeastLocked v.holders new.partition new.min new.max None → worker_count v.log < 32768 → IsReady v names new
ready v s [] fit alike new e free few = absurd fit
ready v s (a ∷ []) fit alike new e free few = absurd fit
ready v s (a ∷ b ∷ rest) fit alike new e free few = record {
  first = a;
  second = b;
  rest = rest;
  names_are = refl;
  may = record { neighbours = fit.0; partition = fit.1; version = alike-version v.log v.quorum.pending a (b ∷ rest) alike; none_in_flight = λ n k low high. at n low high k; worker_entries = few };
  quiet = alike-quiet v.log v.quorum.pending a b rest alike;
  new_is = e.1;
  sum = sum-is v s a b rest fit alike;
}
  where
    at : IsLeastLocked v.holders a.partition a.min (last a (b ∷ rest)).max None
    at = subst (λ (x : Name). IsLeastLocked v.holders x.partition x.min x.max None) e.1 free

-- its entry
entry-is : (v : TableView) (names : List Name) (new : Name) (count : ℕ) (r : IsReady v names new) → count ≡ tally (block_count v.log) names
    → Merge new names count ≡ Merge (merged_name r.first (r.second ∷ r.rest)) (r.first ∷ r.second ∷ r.rest) (block_count v.log (merged_name r.first (r.second ∷ r.rest)))
entry-is v names new count r c =
    ap (λ (x : Name). Merge x names count) r.new_is
    ∙ ap (λ (xs : List Name). Merge (merged_name r.first (r.second ∷ r.rest)) xs count) r.names_are
    ∙ ap (λ (n : ℕ). Merge (merged_name r.first (r.second ∷ r.rest)) (r.first ∷ r.second ∷ r.rest) n) (c ∙ r.sum)

-- it is seen by events
seen-of : (v : TableView) → IsSound v → (names : List Name) (new : Name) (count : ℕ) (r : IsReady v names new) → count ≡ tally (block_count v.log) names → AssignsMerge (shown v) new names count (shown (record v { log = Merge new names count ∷ v.log }))
seen-of v s names new count r c =
    along new r.new_is names r.names_are count (c ∙ r.sum)
  where
    whole : Name
    whole = merged_name r.first (r.second ∷ r.rest)

    along : (x : Name) → x ≡ whole → (xs : List Name) → xs ≡ r.first ∷ r.second ∷ r.rest → (n : ℕ) → n ≡ block_count v.log whole → AssignsMerge (shown v) x xs n (shown (record v { log = Merge x xs n ∷ v.log }))
    along x e xs f n g =
        subst (λ (y : Name). AssignsMerge (shown v) y xs n (shown (record v { log = Merge y xs n ∷ v.log }))) (sym e)
        (subst (λ (ys : List Name). AssignsMerge (shown v) whole ys n (shown (record v { log = Merge whole ys n ∷ v.log }))) (sym f)
        (subst (λ (m : ℕ). AssignsMerge (shown v) whole (r.first ∷ r.second ∷ r.rest) m (shown (record v { log = Merge whole (r.first ∷ r.second ∷ r.rest) m ∷ v.log }))) (sym g)
        (merge-bridge v s r.first r.second r.rest r.may r.quiet)))

-- ---- the call

module _ (h : Held) (tokens : List (Token Entry)) (logged : h.log ≡ entries tokens) (counts : Counts) (is : IsTableTree h tokens counts) (now : Held) (same : h ≡ now)
    (copy : History) (whole : copy.log ≡ h.log) (names : List Name) (fit : AreMergeable copy.log names) where
  sound : IsSound (table_of h)
  sound = is.held.sound

  fit-here : AreMergeable h.log names
  fit-here = subst (λ (l : List Entry). AreMergeable l names) whole fit

  -- the cause of the error is why the names aren't merged
  abbrev pub HasCause : Held → MergeError → Type 0
  HasCause k e = IfSome (merge_cause e) (NotMerged (table_at k) (length copy.log) names)

  no-merge : (e : MergeError) → HasCause h e → HasCause now e
  no-merge e n = subst (λ (k : Held). HasCause k e) same n

  long : length copy.log ≡ length h.log
  long = ap (λ (l : List Entry). length l) whole

  merge-differs : (l r : Name) → AreFirstToDiffer copy.log h.quorum.pending names l r → HasCause now (merge.Differ l r)
  merge-differs l r d = no-merge (merge.Differ l r) (long, subst (λ (k : List Entry). AreFirstToDiffer k h.quorum.pending names l r) whole d)

  merge-held : (l r part : Name) → AreFirstInQuorum copy.log h.quorum.pending names l r part → HasCause now (merge.InQuorum l r part)
  merge-held l r part d = no-merge (merge.InQuorum l r part) (long, subst (λ (k : List Entry). AreFirstInQuorum k h.quorum.pending names l r part) whole d)

  pub merge-apart : (part : Option Name) → IsPartOf h.quorum.pending part → (e : MergeError) → AreFirstApart copy.log part names e → HasCause now e
  merge-apart part is-of (merge.Differ l r) d = merge-differs l r (d h.quorum.pending is-of)
  merge-apart part is-of (merge.InQuorum l r a) d = merge-held l r a (d h.quorum.pending is-of)
  merge-apart part is-of (merge.LogMoved seen found) d = absurd d
  merge-apart part is-of (merge.InFlight n) d = absurd d
  merge-apart part is-of (merge.LimitReached limit value) d = absurd d
  merge-apart part is-of merge.Memory d = absurd d

  module _ (alike-there : AreAlike copy.log h.quorum.pending names) where
    alike : AreAlike h.log h.quorum.pending names
    alike = subst (λ (l : List Entry). AreAlike l h.quorum.pending names) whole alike-there

    pub merge-can : CanMerge names
    merge-can = can-merge (table_of h) sound names fit-here alike

    pub merge-living : Each (Has (live copy.log)) names
    merge-living = subst (λ (l : List Entry). Each (Has (live l)) names) (sym whole) (sources-living (table_of h) sound names fit-here alike)

    pub merge-few : tally (block_count copy.log) names < 2 ^ 32
    merge-few = subst (λ (l : List Entry). tally (block_count l) names < 2 ^ 32) (sym whole) (sources-few (table_of h) sound names fit-here alike)

    module _ (new : Name) (new-is : IsMergedOf names new) where
      pub merge-flies : (n : ℕ) → IsLeastLocked (holders_in h.tree) new.partition new.min new.max (Some n) → HasCause now (merge.InFlight n)
      merge-flies n l = let w = least-in-flight (table_of h) sound names new new-is n l in no-merge (merge.InFlight n) (long, alike, w.is, w.least)

      module _ (free : IsLeastLocked (holders_in h.tree) new.partition new.min new.max None) where
        pub merge-full : (value : ℕ) → value ≡ counts.workers → 32768 ≤ counts.workers → HasCause now (merge.LimitReached limits.WorkerEntries value)
        merge-full value e l = no-merge (merge.LimitReached limits.WorkerEntries value)
            (long, alike, none-in-flight (table_of h) sound names new new-is free, work-full h.log value (e ∙ is.counted.workers) (subst (λ (n : ℕ). 32768 ≤ n) (sym e) l))

        module _ (few : counts.workers < 32768) (count : ℕ) (count-is : count ≡ tally (block_count copy.log) names) (e : Entry) (e-at : e ≡ Merge new names count) where
          sum-here : count ≡ tally (block_count h.log) names
          sum-here = count-is ∙ ap (λ (l : List Entry). tally (block_count l) names) whole

          r : IsReady (table_of h) names new
          r = ready (table_of h) sound names fit-here alike new new-is free (subst (λ (n : ℕ). n < 32768) is.counted.workers few)

          e-is : e ≡ Merge (merged_name r.first (r.second ∷ r.rest)) (r.first ∷ r.second ∷ r.rest) (block_count h.log (merged_name r.first (r.second ∷ r.rest)))
          e-is = e-at ∙ entry-is (table_of h) names new count r sum-here

          pub merge-in-range : EntryInRange e
          merge-in-range = subst EntryInRange (sym e-is) (merge-range (table_of h) sound r.first r.second r.rest r.may)

          steps : Steps entry_bytes h.tree (entry_ops e) (record (table_of h) { log = e ∷ h.log })
          steps = subst (λ (x : Entry). Steps entry_bytes h.tree (entry_ops x) (record (table_of h) { log = x ∷ h.log })) (sym e-is) (merge-steps entry_bytes h.tree (table_of h) is.held r.first r.second r.rest r.may)

          seen : AssignsMerge (table_at h) new names count (shown (record (table_of h) { log = e ∷ h.log }))
          seen = subst (λ (x : Entry). AssignsMerge (table_at h) new names count (shown (record (table_of h) { log = x ∷ h.log }))) (sym e-at) (seen-of (table_of h) sound names new count r sum-here)

          pub merge-fine : (ops : List Op) → ops ≡ entry_ops e → first_refusal h.tree ops 0 ≡ None
          merge-fine ops o = ap (λ (os : List Op). first_refusal h.tree os 0) o ∙ steps.makes.none_refused 0

          worker : is_client e ≡ false
          worker = ap is_client e-at

          other : is_mutation e ≡ false
          other = ap is_mutation e-at

          window : in_order h.schema.window (e ∷ h.log) ≡ in_order h.schema.window h.log
          window = ap (λ (x : Entry). in_order h.schema.window (x ∷ h.log)) e-at

          no-block : is_get e ≡ false
          no-block = ap is_get e-at

          module _ (t : Token Entry) (t-is : t ≡ token_in h.row (length tokens) e)
              (more : List (Token Entry)) (more-is : more ≡ tokens ++ t ∷ []) (tree : TreeView) (ops : List Op) (ops-is : ops ≡ entry_ops e) (tree-is : tree ≡ after_all h.tree ops) where
            tree-at : tree ≡ after_all h.tree (entry_ops e)
            tree-at = tree-is ∙ ap (after_all h.tree) ops-is

            pub merge-tree : IsTableTree (record h { log = entries more; tree = tree }) more (record counts { workers = counts.workers + 1 })
            merge-tree = worked-tree h tokens logged counts is e worker other window no-block steps few t t-is more more-is tree tree-at

            pub merge-done : IsMergeOf now names t (record h { log = entries more; tree = tree })
            merge-done = subst (λ (k : Held). IsMergeOf k names t (record h { log = entries more; tree = tree })) same (record {
              name = new;
              count = count;
              token_is = worked-token h tokens logged counts is e worker other window no-block steps few t t-is more more-is tree tree-at ∙ ap (next_token h) e-at;
              seen = subst (AssignsMerge (table_at h) new names count) (sym (worked-seen h tokens logged counts is e worker other window no-block steps few t t-is more more-is tree tree-at)) seen;
              tree = tree-at ∙ ap (λ (x : Entry). after_all h.tree (entry_ops x)) e-at;
            })
