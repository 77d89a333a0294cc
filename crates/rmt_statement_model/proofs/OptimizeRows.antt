-- OPTIMIZE .. FINAL, partition by partition: one more, the one at which it ends, and what the event for one partition comes to.
use Rattle.std.proofs.Common.{◌≡◌, ℕ, ◌≤◌, inl, inr, Bool, false, List, [], ◌∷◌, ◌++◌, length, refl, sym, ap, subst, ◌∙◌}
use Rattle.std.specs.declared.option.Option.{Option}
use Rattle.std.specs.declared.option.Option.TheVariants.{Some, None}
use Rattle.rmt_values.specs.Rows.{Shape}
use Rattle.rmt_values.specs.declared.limit.Limit.{Limit}
use Rattle.rmt_names.specs.Names.{Name, merged_name}
use Rattle.rmt_entries.specs.declared.entry.Entry.{Entry}
use Rattle.rmt_entries.specs.declared.entry.Entry.TheVariants.{Merge}
use Rattle.rmt_model.specs.Words.{Has}
use Rattle.rmt_model.specs.Lawful.{Merges, Lawful}
use Rattle.rmt_model.specs.Quorum.{Pending, Quorum}
use Rattle.rmt_model.proofs.Lists.{Each-at}
use Rattle.rmt_model.specs.EntryLimits.{worker_limit}
use Rattle.rmt_reply.specs.declared.refusal.Refusal.{Refusal}
use Rattle.rmt_reply.specs.declared.refusal.Refusal.TheVariants.{LimitReached, Unmergeable}
use Rattle.rmt_events.specs.Views.{Table}
use Rattle.rmt_events.specs.Sound.{IsSoundTable}
use Rattle.rmt_events.specs.Clusters.{Cluster, committed_at, blocks_in}
use Rattle.rmt_events.specs.Whole.{IsWhole}
use Rattle.rmt_events.specs.TableCalls.{AreQuiet}
use Rattle.rmt_events.specs.TableRefusals.{AreAlike}
use Rattle.rmt_events.specs.LogEvents.{NoMerge}
use Rattle.rmt_events.specs.Steps.{Does, Step}
use Rattle.rmt_events.proofs.Moves.{blocks-same}
use Rattle.rmt_events.proofs.WholeSteps.{whole-step}
use Rattle.rmt_statement_model.specs.TableStates.{TableState, synced}
use Rattle.rmt_statement_model.specs.Optimizes.{live_of, MergesLive, Optimizes, AreFirstUnmergeable, CantOptimize, OptimizesLater, CantLater, OptimizesAll}
use Rattle.rmt_statement_model.specs.Shows.{Shows, Leads}
use Rattle.rmt_statement_model.proofs.RestLaws.{rests-none}
use Rattle.rmt_statement_model.proofs.SwitchLaws.{switch-step}
use Rattle.rmt_statement_model.proofs.KnowsLaws.{knows-step}
use Rattle.rmt_statement_model.proofs.ShownSteps.{shows-quiet}
use Rattle.rmt_statement_model.proofs.PartitionLaws.{live-alike, others-live}
use Rattle.rmt_events.specs.declared.event.Event.TheVariants as ev
use Rattle.rmt_events.specs.declared.reply.Reply.{Reply}
use Rattle.rmt_events.specs.declared.reply.Reply.TheVariants as rp
use Rattle.rmt_events.specs.declared.step_refused.StepRefused.{StepRefused}
use Rattle.rmt_events.specs.declared.step_refused.StepRefused.TheVariants as rf

-- ---- several partitions

-- one more partition that is optimized, the replica brought up to date after it
pub optimizes-more : (m : Bool) (t u v w : TableState) (r : ℕ) (ps : List (Option ℕ)) (p : Option ℕ) (names : List Name) (name : Name) → OptimizesAll m t r ps names None u → OptimizesLater m u p name v → w ≡ synced r v → OptimizesAll m t r (ps ++ p ∷ []) (names ++ name ∷ []) None w
optimizes-more m t u v w r [] p [] name k o e = (v, subst (λ (x : TableState). OptimizesLater m x p name v) k o, e)
optimizes-more m t u v w r [] p (n ∷ names) name k o e = absurd k
optimizes-more m t u v w r (q ∷ ps) p [] name k o e = absurd k
optimizes-more m t u v w r (q ∷ ps) p (n ∷ names) name k o e = (k.0, k.1, optimizes-more m (synced r k.0) u v w r ps p names name k.2 o e)

-- the partition at which it ends; what is behind it isn't tried
pub optimizes-stop : (m : Bool) (t u v : TableState) (r : ℕ) (ps rest : List (Option ℕ)) (p : Option ℕ) (names : List Name) (why : Refusal) → OptimizesAll m t r ps names None u → CantLater m u p why v → OptimizesAll m t r (ps ++ p ∷ rest) names (Some why) v
optimizes-stop m t u v r [] rest p [] why k o = subst (λ (x : TableState). CantLater m x p why v) k o
optimizes-stop m t u v r [] rest p (n ∷ names) why k o = absurd k
optimizes-stop m t u v r (q ∷ ps) rest p [] why k o = absurd k
optimizes-stop m t u v r (q ∷ ps) rest p (n ∷ names) why k o = (k.0, k.1, optimizes-stop m (synced r k.0) u v r ps rest p names why k.2 o)

-- the table needn't rest around a partition
pub optimizes-now : (m : Bool) (t u : TableState) (p : Option ℕ) (name : Name) → Optimizes t p name u → OptimizesLater m t p name u
optimizes-now m t u p name o = record { at = t; rests = inl refl; mid = u; optimizes = o; after = inl refl }

pub cant-now : (m : Bool) (t u : TableState) (p : Option ℕ) (why : Refusal) → CantOptimize t p why × (u ≡ t) → CantLater m t p why u
cant-now m t u p why o = record { rests = inl o.1; cant = subst (λ (x : TableState). CantOptimize x p why) (sym o.1) o.0 }

-- and doesn't where no workers run
pub optimizes-then : (t u : TableState) (p : Option ℕ) (name : Name) → OptimizesLater false t p name u → Optimizes t p name u
optimizes-then t u p name o =
    subst (λ (x : TableState). Optimizes t p name x) (sym (rests-none o.mid u o.after))
    (subst (λ (x : TableState). Optimizes x p name o.mid) (rests-none t o.at o.rests) o.optimizes)

-- a merge of all live names of one partition leaves what is live of another
merges-still : (t u : TableState) (p : Option ℕ) (name : Name) (q : Option ℕ) → MergesLive t p name u → (p ≡ q → ⊥) → live_of u.log q ≡ live_of t.log q
merges-still t u p name q m n =
    ap (λ (x : TableState). live_of x.log q) m.change
    ∙ others-live t.schema t.log name (m.first ∷ m.second ∷ m.rest) m.count q m.lawful (λ e. n (sym of-p ∙ e))
  where
    merges : Merges t.log m.first m.second m.rest name m.count
    merges = m.lawful.1

    first-of-p : m.first.partition ≡ p
    first-of-p = Each-at (λ (a : Name). a.partition ≡ p) (live_of t.log p) m.first (live-alike t.log p) (subst (λ (xs : List Name). Has xs m.first) (sym m.sources) (inl refl))

    of-p : name.partition ≡ p
    of-p = ap (λ (x : Name). x.partition) merges.name ∙ first-of-p

-- what is live of a partition is so still behind those that were optimized, where it is none of these
pub still-live : (t u : TableState) (r : ℕ) (ps : List (Option ℕ)) (names : List Name) (q : Option ℕ) → Lawful t.schema t.log → OptimizesAll false t r ps names None u → (Has ps q → ⊥) → live_of u.log q ≡ live_of t.log q
still-live t u r [] [] q l k n = ap (λ (x : TableState). live_of x.log q) k
still-live t u r [] (name ∷ names) q l k n = absurd k
still-live t u r (p ∷ ps) [] q l k n = absurd k
still-live t u r (p ∷ ps) (name ∷ names) q l k n = go (optimizes-then t k.0 p name k.1) (λ f. still-live (synced r k.0) u r ps names q f k.2 (λ h. n (inr h)))
  where
    go : Optimizes t p name k.0 → (Lawful k.0.schema k.0.log → live_of u.log q ≡ live_of k.0.log q) → live_of u.log q ≡ live_of t.log q
    go (inl m) f = f (subst (λ (x : TableState). Lawful x.schema x.log) (sym m.1) l) ∙ ap (λ (x : TableState). live_of x.log q) m.1
    go (inr m) f = f (subst (λ (x : TableState). Lawful x.schema x.log) (sym m.change) m.lawful) ∙ merges-still t k.0 p name q m (λ e. n (inl e))

-- ---- the names are merged

-- a merge of the names is the newest entry, and nothing else changed
record MergesInto (s : Cluster) (k : ℕ) (sources : List Name) (reply : Reply) (u : Cluster) : Type 0 where
  name : Name
  count : ℕ
  table : Table
  log : table.log ≡ Merge name sources count ∷ s.table.log
  schema : table.schema ≡ s.table.schema
  next : table.next ≡ s.table.next
  quorum : table.quorum ≡ s.table.quorum
  quiet : AreQuiet s.table.quorum.pending sources
  within : worker_limit s.table.log ≡ None
  change : u ≡ record s { table = table; events = (ev.Merge k sources, reply) ∷ s.events }

-- the merge enters the log
merges-into : (s u : Cluster) (k : ℕ) (sources : List Name) (place : ℕ) → Step s (ev.Merge k sources) (rp.Entry place) u → MergesInto s k sources (rp.Entry place) u
merges-into s u k sources place step = go step.does
  where
    go : Does s (ev.Merge k sources) (rp.Entry place) step.after → MergesInto s k sources (rp.Entry place) u
    go (inl a) =
        let c = a.appends.at.does.change in
        record {
          name = a.name;
          count = a.count;
          table = a.appends.at.new;
          log = ap (λ (x : Table). x.log) c;
          schema = ap (λ (x : Table). x.schema) c;
          next = ap (λ (x : Table). x.next) c;
          quorum = ap (λ (x : Table). x.quorum) c;
          quiet = a.appends.at.does.quiet;
          within = a.appends.at.does.within;
          change = step.stored ∙ ap (λ (x : Cluster). record x { events = (ev.Merge k sources, rp.Entry place) ∷ x.events }) a.appends.at.change;
        }
    go (inr a) = let e = a.answer in absurd (cc)

-- the log with the merge is lawful
merged-lawful : (s u : Cluster) (k : ℕ) (sources : List Name) (place : ℕ) → IsWhole s → Step s (ev.Merge k sources) (rp.Entry place) u → (m : MergesInto s k sources (rp.Entry place) u) → Lawful s.table.schema (Merge m.name sources m.count ∷ s.table.log)
merged-lawful s u k sources place w step m =
    let e : u.table ≡ m.table = ap (λ (x : Cluster). x.table) m.change in
    subst (λ (c : Shape). Lawful c (Merge m.name sources m.count ∷ s.table.log)) m.schema
    (subst (λ (l : List Entry). Lawful m.table.schema l) m.log
    (subst (λ (x : Table). Lawful x.schema x.log) e (IsSoundTable.lawful (IsWhole.table (whole-step s u (ev.Merge k sources) (rp.Entry place) w step)))))

-- the cluster shows the table with the merge
merged-shows : (s u : Cluster) (k : ℕ) (sources : List Name) (place : ℕ) → IsWhole s → Step s (ev.Merge k sources) (rp.Entry place) u → (m : MergesInto s k sources (rp.Entry place) u) → (t : TableState) → Shows s t → Shows u (record t { log = Merge m.name sources m.count ∷ t.log })
merged-shows s u k sources place w step m t h =
    record {
      table = record {
        schema = h.table.schema ∙ sym (ap (λ (x : Cluster). x.table.schema) m.change ∙ m.schema);
        log = ap (λ (l : List Entry). Merge m.name sources m.count ∷ l) h.table.log ∙ sym log-is;
        next = h.table.next ∙ sym (ap (λ (x : Cluster). x.table.next) m.change ∙ m.next);
        quorum = h.table.quorum ∙ sym (ap (λ (x : Cluster). x.table.quorum) m.change ∙ m.quorum);
        fetching = h.table.fetching ∙ sym (switch-step s u (ev.Merge k sources) (rp.Entry place) w tt step);
        knows = knows-step s u (ev.Merge k sources) (rp.Entry place) t.known w step h.table.knows;
      };
      blocks = h.blocks ∙ (sym (blocks-same s.table.log s.events u.events (λ i l. ap (λ (x : Cluster). committed_at x.events i) m.change)) ∙ ap (λ (l : List Entry). blocks_in l u.events) (sym log-is));
    }
  where
    log-is : u.table.log ≡ Merge m.name sources m.count ∷ s.table.log
    log-is = ap (λ (x : Cluster). x.table.log) m.change ∙ m.log

-- all live names of the partition are merged into one
pub merged-row : (s u : Cluster) (k : ℕ) (p : Option ℕ) (first second : Name) (rest : List Name) (place : ℕ) → IsWhole s → live_of s.table.log p ≡ first ∷ second ∷ rest → Step s (ev.Merge k (first ∷ second ∷ rest)) (rp.Entry place) u → (t : TableState) → Shows s t → Leads u (λ v. Optimizes t p (merged_name first (second ∷ rest)) v)
merged-row s u k p first second rest place w e step t h =
    record {
      state = record t { log = Merge m.name (first ∷ second ∷ rest) m.count ∷ t.log };
      holds = inr (subst (λ (x : Name). MergesLive t p x (record t { log = Merge m.name (first ∷ second ∷ rest) m.count ∷ t.log })) l.1.name (record {
        first = first;
        second = second;
        rest = rest;
        sources = ap (λ (x : List Entry). live_of x p) h.table.log ∙ e;
        count = m.count;
        quiet = subst (λ (q : Quorum). AreQuiet q.pending (first ∷ second ∷ rest)) (sym h.table.quorum) m.quiet;
        room = ap worker_limit h.table.log ∙ m.within;
        lawful = subst (λ (c : Shape). Lawful c (Merge m.name (first ∷ second ∷ rest) m.count ∷ t.log)) (sym h.table.schema) (subst (λ (x : List Entry). Lawful s.table.schema (Merge m.name (first ∷ second ∷ rest) m.count ∷ x)) (sym h.table.log) l);
        change = refl;
      }));
      shows = merged-shows s u k (first ∷ second ∷ rest) place w step m t h;
    }
  where
    m : MergesInto s k (first ∷ second ∷ rest) (rp.Entry place) u
    m = merges-into s u k (first ∷ second ∷ rest) place step

    l : Lawful s.table.schema (Merge m.name (first ∷ second ∷ rest) m.count ∷ s.table.log)
    l = merged-lawful s u k (first ∷ second ∷ rest) place w step m

-- the partition has one live name, which stays
pub one-row : (s : Cluster) (p : Option ℕ) (a : Name) → live_of s.table.log p ≡ a ∷ [] → (t : TableState) → Shows s t → Leads s (λ v. Optimizes t p a v)
one-row s p a e t h = record { state = t; holds = inl (ap (λ (x : List Entry). live_of x p) h.table.log ∙ e, refl); shows = h }

-- ---- the names aren't merged

-- a merge that is refused has its cause, and what is shown stays
record Refuses (s : Cluster) (k : ℕ) (names : List Name) (why : StepRefused) (u : Cluster) : Type 0 where
  cause : NoMerge s k names why
  shows : (t : TableState) → Shows s t → Shows u t

-- nothing changes
refuses : (s u : Cluster) (k : ℕ) (names : List Name) (why : StepRefused) → IsWhole s → Step s (ev.Merge k names) (rp.Refused why) u → Refuses s k names why u
refuses s u k names why w step = go step.does
  where
    go : Does s (ev.Merge k names) (rp.Refused why) step.after → Refuses s k names why u
    go (inl a) = let e = a.appends.answer in absurd (cc)
    go (inr a) =
        let e : a.why ≡ why = let q = a.answer in cc in
        record {
          cause = subst (λ (y : StepRefused). NoMerge s k names y) e a.cause;
          shows = λ t h. shows-quiet s u (ev.Merge k names) (rp.Refused why) t w tt step (ap (λ (x : Cluster). x.table) a.unchanged) (ap (λ (x : Cluster). x.events) a.unchanged) (λ xs i. refl) h;
        }

-- what is said of the log, the part that waits for its quorum and the partition's live names is said of the table's
names-shown : (C : List Entry → Option Pending → List Name → Type 0) (s : Cluster) (p : Option ℕ) (names : List Name) (t : TableState) → live_of s.table.log p ≡ names → Shows s t → C s.table.log s.table.quorum.pending names → C t.log t.quorum.pending (live_of t.log p)
names-shown C s p names t e h c =
    subst (λ (q : Quorum). C t.log q.pending (live_of t.log p)) (sym h.table.quorum)
    (subst (λ (l : List Entry). C l s.table.quorum.pending (live_of l p)) (sym h.table.log)
    (subst (λ (xs : List Name). C s.table.log s.table.quorum.pending xs) (sym e) c))

-- the first two neighbours of different versions are named
pub differ-row : (s u : Cluster) (k : ℕ) (p : Option ℕ) (names : List Name) (left right : Name) → IsWhole s → live_of s.table.log p ≡ names → Step s (ev.Merge k names) (rp.Refused (rf.Differ left right)) u → (t : TableState) → Shows s t → Leads u (λ v. CantOptimize t p (Unmergeable left right) × (v ≡ t))
differ-row s u k p names left right w e step t h =
    let r = refuses s u k names (rf.Differ left right) w step in
    record {
      state = t;
      holds = (names-shown (λ log pending xs. AreFirstUnmergeable log pending xs left right) s p names t e h (inl r.cause.3.1), refl);
      shows = r.shows t h;
    }

-- the first two neighbours of one version of which one covers the part that waits for its quorum
pub in-quorum-row : (s u : Cluster) (k : ℕ) (p : Option ℕ) (names : List Name) (left right part : Name) → IsWhole s → live_of s.table.log p ≡ names → Step s (ev.Merge k names) (rp.Refused (rf.InQuorum left right part)) u → (t : TableState) → Shows s t → Leads u (λ v. CantOptimize t p (Unmergeable left right) × (v ≡ t))
in-quorum-row s u k p names left right part w e step t h =
    let r = refuses s u k names (rf.InQuorum left right part) w step in
    record {
      state = t;
      holds = (names-shown (λ log pending xs. AreFirstUnmergeable log pending xs left right) s p names t e h (inr (part, r.cause.3.1)), refl);
      shows = r.shows t h;
    }

-- one more entry would pass a limit
pub no-entry-row : (s u : Cluster) (k : ℕ) (p : Option ℕ) (names : List Name) (limit : Limit) (value : ℕ) → IsWhole s → 2 ≤ length names → live_of s.table.log p ≡ names → Step s (ev.Merge k names) (rp.Refused (rf.LimitReached limit value)) u → (t : TableState) → Shows s t → Leads u (λ v. CantOptimize t p (LimitReached limit value) × (v ≡ t))
no-entry-row s u k p names limit value w n e step t h =
    let r = refuses s u k names (rf.LimitReached limit value) w step in
    record {
      state = t;
      holds = (
        names-shown (λ log pending xs. (2 ≤ length xs) × AreAlike log pending xs × (worker_limit log ≡ Some (limit, value))) s p names t e h (n, r.cause.3.1, r.cause.3.3),
        refl,
      );
      shows = r.shows t h;
    }
