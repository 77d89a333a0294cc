-- The partitions of an OPTIMIZE, one after the other.
use Rattle.std.proofs.Common.{◌≡◌, ℕ, suc, ◌+◌, ◌<◌, ◌≤◌, inl, inr, false, List, [], ◌∷◌, ◌++◌, length, take, drop, get_or, refl, sym, ap, subst, arith, ◌∙◌}
use Rattle.std.proofs.lemmas.List.{take_all, take_more, drop_more, take-append-drop}
use Rattle.std.specs.declared.option.Option.{Option}
use Rattle.std.specs.declared.option.Option.TheVariants.{Some, None}
use Rattle.rmt_names.specs.Names.{Name, rank}
use Rattle.rmt_entries.specs.declared.entry.Entry.{Entry}
use Rattle.rmt_model.specs.Words.{Has, Each, Pairwise}
use Rattle.rmt_model.specs.Live.{live}
use Rattle.rmt_model.specs.Lawful.{Lawful}
use Rattle.rmt_model.proofs.Lists.{Pairwise-filter}
use Rattle.rmt_values.specs.Rows.{Shape}
use Rattle.rmt_reply.specs.declared.refusal.Refusal.{Refusal}
use Rattle.rmt_events.specs.Sound.{IsSoundTable}
use Rattle.rmt_events.specs.Clusters.{Cluster}
use Rattle.rmt_events.specs.Whole.{IsWhole}
use Rattle.rmt_statement_model.specs.TableStates.{TableState, synced}
use Rattle.rmt_statement_model.specs.Optimizes.{live_of, partitions_of, partitions_asked, OptimizesAll, OptimizesTable}
use Rattle.rmt_statement_model.specs.Shows.{Shows, Leads, IsIdle, IsUpToDate, ups}
use Rattle.rmt_statement_model.proofs.OptimizeRows.{optimizes-more, optimizes-stop, optimizes-now, cant-now}
use Rattle.rmt_statement_model.proofs.PartitionLaws.{has-live, partitions-once, asked-live}
use Rattle.rmt_statement_model.proofs.StillLive.{live-left}
use Rattle.rmt_acts.specs.Syncing.{SyncsReplica}
use Rattle.rmt_acts.specs.StatementEvents.{AtMost, CatchesUp, MergesOnce, OptimizeEvents, SyncsThen}
use Rattle.rmt_acts.specs.Optimizing.{MergesSome, OptimizesTo}
use Rattle.rmt_acts.proofs.EventLists.{at-most-next, Reaches, reaches-merges, reaches-synced, reaches-then}
use Rattle.rmt_live_names.specs.declared.optimized.Optimized.{Optimized}
use Rattle.rmt_live_names.specs.declared.optimized.Optimized.TheVariants as optimized

-- ---- the partitions that are asked for

-- they rise
asked-rising : (schema : Shape) (log : List Entry) (asked : Option (Option ℕ)) → Lawful schema log → Pairwise (λ p q. rank p < rank q) (partitions_asked asked log)
asked-rising schema log None l = partitions-once schema log l
asked-rising schema log (Some p) l = Pairwise-filter (λ x y. rank x < rank y) _ (partitions_of (live log)) (partitions-once schema log l)

-- so that one isn't among those before it
not-before : (ps rest : List (Option ℕ)) (p : Option ℕ) → Pairwise (λ x y. rank x < rank y) (ps ++ p ∷ rest) → Has ps p → ⊥
not-before [] rest p r h = h
not-before (q ∷ ps) rest p r (inl e) = let l = behind ps r.0 in let k : rank q ≡ rank p = ap rank e in absurd (omega (arith, l, k))
  where
    behind : (xs : List (Option ℕ)) → Each (λ y. rank q < rank y) (xs ++ p ∷ rest) → rank q < rank p
    behind [] f = f.0
    behind (x ∷ xs) f = behind xs f.1
not-before (q ∷ ps) rest p r (inr h) = not-before ps rest p r.1 h

-- one stands among all
stands-among : (ps rest : List (Option ℕ)) (p : Option ℕ) → Has (ps ++ p ∷ rest) p
stands-among [] rest p = inl refl
stands-among (q ∷ ps) rest p = inr (stands-among ps rest p)

-- the one at a place
abbrev pub there : List (Option ℕ) → ℕ → Option ℕ
there ps i = get_or ps i None

-- those before a place, the one there, and those behind
split-at : (ps : List (Option ℕ)) (i : ℕ) → i < length ps → take i ps ++ there ps i ∷ drop (i + 1) ps ≡ ps
split-at ps i l = ap (λ (xs : List (Option ℕ)). take i ps ++ xs) (sym (drop_more ps i None l)) ∙ take-append-drop i ps

-- one more name
length-more : (names : List Name) (a : Name) → length (names ++ a ∷ []) ≡ suc (length names)
length-more [] a = refl
length-more (x ∷ names) a = ap suc (length-more names a)

-- ---- so far

-- these partitions were optimized, and have these names
pub record IsOptimizing (s : Cluster) (r : ℕ) (ps : List (Option ℕ)) (names : List Name) (u : Cluster) : Type 0 where
  pub optimizes : (t : TableState) → Shows s t → Leads u (λ v. OptimizesAll false (synced r t) r ps names None v)
  pub whole : IsUpToDate u r
  pub idle : IsIdle u r
  pub ups_are : ups u ≡ ups s
  pub schema : u.table.schema ≡ s.table.schema
  pub replicas : length u.replicas ≡ length s.replicas
  pub events : SyncsThen s r (length names) (MergesOnce r) u
  pub reaches : Reaches s u

-- none yet, where the replica was brought up to date
pub none-yet : (s u : Cluster) (r : ℕ) (names : List Name) → names ≡ [] → ((t : TableState) → Shows s t → Shows u (synced r t)) → IsUpToDate u r → IsIdle u r → ups u ≡ ups s → u.table.schema ≡ s.table.schema → length u.replicas ≡ length s.replicas → CatchesUp s r u → IsOptimizing s r [] names u
none-yet s u r names e f d i up p q y = record {
  optimizes = λ t h. record { state = synced r t; holds = subst (λ (ns : List Name). OptimizesAll false (synced r t) r [] ns None (synced r t)) (sym e) refl; shows = f t h };
  whole = d;
  idle = i;
  ups_are = up;
  schema = p;
  replicas = q;
  events = record { mid = u; syncs = y; then_on = subst (λ (ns : List Name). AtMost (length ns) (MergesOnce r) u u) (sym e) refl };
  reaches = reaches-synced s u r y.syncs;
}

-- the next partition has a live name
pub next-live : (s u : Cluster) (r : ℕ) (asked : Option (Option ℕ)) (all : List (Option ℕ)) (i : ℕ) (names : List Name) → IsWhole s → all ≡ partitions_asked asked s.table.log → i < length all → IsOptimizing s r (take i all) names u
    → (a : Name) × Has (live_of u.table.log (there all i)) a
next-live s u r asked all i names w e l k =
    let x = has-live s.table.log p (asked-live s.table.log asked p (subst (λ (ps : List (Option ℕ)). Has ps p) (split ∙ e) (stands-among (take i all) (drop (i + 1) all) p))) in
    (x.0, subst (λ (ns : List Name). Has ns x.0) (sym (live-left s u r (take i all) names p w k.optimizes fresh)) x.1)
  where
    p : Option ℕ
    p = there all i

    split : take i all ++ p ∷ drop (i + 1) all ≡ all
    split = split-at all i l

    fresh : Has (take i all) p → ⊥
    fresh = not-before (take i all) (drop (i + 1) all) p (subst (Pairwise (λ x y. rank x < rank y)) (sym (split ∙ e)) (asked-rising s.table.schema s.table.log asked (IsSoundTable.lawful w.table)))

-- one more partition
pub one-more : (s u v : Cluster) (r : ℕ) (all : List (Option ℕ)) (i : ℕ) (names out : List Name) (o : Optimized) (name : Name) → i < length all → IsOptimizing s r (take i all) names u → OptimizesTo u r (there all i) o v
    → o ≡ optimized.Name name → out ≡ names ++ name ∷ [] → IsUpToDate v r → IsIdle v r → ups v ≡ ups u → v.table.schema ≡ u.table.schema → length v.replicas ≡ length u.replicas → MergesSome u r v → IsOptimizing s r (take (i + 1) all) out v
one-more s u v r all i names out o name l k f e g d idle up a b m =
    subst (λ (ns : List Name). IsOptimizing s r (take (i + 1) all) ns v) (sym g) (subst (λ (ps : List (Option ℕ)). IsOptimizing s r ps (names ++ name ∷ []) v) (sym (take_more all i None l)) (record {
      optimizes = λ t h.
          let x = k.optimizes t h in
          let y = one x.state x.shows in
          record { state = y.state; holds = optimizes-more false (synced r t) x.state y.holds.mid y.state r (take i all) (there all i) names name x.holds (optimizes-now false x.state y.holds.mid (there all i) name y.holds.optimizes) y.holds.syncs; shows = y.shows };
      whole = d;
      idle = idle;
      ups_are = up ∙ k.ups_are;
      schema = a ∙ k.schema;
      replicas = b ∙ k.replicas;
      events = record { mid = k.events.mid; syncs = k.events.syncs; then_on = subst (λ n. AtMost n (MergesOnce r) k.events.mid v) (sym (length-more names name)) (at-most-next (MergesOnce r) k.events.mid u v (length names) k.events.then_on m) };
      reaches = reaches-then s u v k.reaches (reaches-merges u v r m);
    }))
  where
    one : OptimizesTo u r (there all i) (optimized.Name name) v
    one = subst (λ (x : Optimized). OptimizesTo u r (there all i) x v) e f

-- ---- at the end

-- the partitions that are asked for are so in every state that is shown
shown-asked : (s : Cluster) (t : TableState) (asked : Option (Option ℕ)) (all : List (Option ℕ)) → all ≡ partitions_asked asked s.table.log → Shows s t → all ≡ partitions_asked asked t.log
shown-asked s t asked all e h = e ∙ ap (partitions_asked asked) (sym h.table.log)

-- it ends at one that can't be merged
pub ends-there : (s u v : Cluster) (r : ℕ) (asked : Option (Option ℕ)) (all : List (Option ℕ)) (i : ℕ) (names out : List Name) (o : Optimized) (why : Refusal) → all ≡ partitions_asked asked s.table.log → i < length all
    → IsOptimizing s r (take i all) names u → OptimizesTo u r (there all i) o v → o ≡ optimized.Refused why → out ≡ names → (t : TableState) → Shows s t → Leads v (OptimizesTable false (ups s) t r asked out (Some why))
ends-there s u v r asked all i names out o why e l k f q g t h =
    let x = k.optimizes t h in
    let y = one x.state x.shows in
    subst (λ (ns : List Name). Leads v (OptimizesTable false (ups s) t r asked ns (Some why))) (sym g) (record {
      state = y.state;
      holds = inr (subst (λ (ps : List (Option ℕ)). OptimizesAll false (synced r t) r ps names (Some why) y.state) (split-at all i l ∙ shown-asked s t asked all e h)
          (optimizes-stop false (synced r t) x.state y.state r (take i all) (drop (i + 1) all) (there all i) names why x.holds (cant-now false x.state y.state (there all i) why y.holds)));
      shows = y.shows;
    })
  where
    one : OptimizesTo u r (there all i) (optimized.Refused why) v
    one = subst (λ (x : Optimized). OptimizesTo u r (there all i) x v) q f

-- or with the last
pub ends-all : (s u : Cluster) (r : ℕ) (asked : Option (Option ℕ)) (all : List (Option ℕ)) (i : ℕ) (names out : List Name) → all ≡ partitions_asked asked s.table.log → length all ≤ i → IsOptimizing s r (take i all) names u
    → out ≡ names → (t : TableState) → Shows s t → Leads u (OptimizesTable false (ups s) t r asked out None)
ends-all s u r asked all i names out e l k g t h =
    let x = k.optimizes t h in
    subst (λ (ns : List Name). Leads u (OptimizesTable false (ups s) t r asked ns None)) (sym g) (record {
      state = x.state;
      holds = inr (subst (λ (ps : List (Option ℕ)). OptimizesAll false (synced r t) r ps names None x.state) (take_all i all l ∙ shown-asked s t asked all e h) x.holds);
      shows = x.shows;
    })

-- the replica lacks a part, and nothing is merged
pub lacks-part : (s u : Cluster) (r : ℕ) (asked : Option (Option ℕ)) (names : List Name) (refusal : Refusal) → names ≡ [] → SyncsReplica s r (Some refusal) u → (t : TableState) → Shows s t → Leads u (OptimizesTable false (ups s) t r asked names (Some refusal))
lacks-part s u r asked names refusal e f t h =
    let l = f t h in
    record { state = l.state; holds = inl (record { none = e; refusal = refusal; is_refused = refl; lacks = l.holds }); shows = l.shows }

-- ---- its events

-- it ends at one that can't be merged
pub ends-there-by : (s u v : Cluster) (r : ℕ) (ps : List (Option ℕ)) (names out : List Name) (refused : Option Refusal) → IsOptimizing s r ps names u → MergesSome u r v → out ≡ names → OptimizeEvents s r out refused v
ends-there-by s u v r ps names out refused k m g = subst (λ (ns : List Name). OptimizeEvents s r ns refused v) (sym g)
    (inl (record { mid = k.events.mid; syncs = k.events.syncs; then_on = at-most-next (MergesOnce r) k.events.mid u v (length names) k.events.then_on m }))

-- or with the last
pub ends-all-by : (s u : Cluster) (r : ℕ) (ps : List (Option ℕ)) (names out : List Name) → IsOptimizing s r ps names u → out ≡ names → OptimizeEvents s r out None u
ends-all-by s u r ps names out k g = ends-there-by s u u r ps names out None k (inl refl) g
