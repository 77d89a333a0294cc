-- What the mutate of a part comes to, and a mutation that is waited for.
use Rattle.std.proofs.Common.{◌≡◌, ◌∙◌, ℕ, suc, ◌+◌, ◌<◌, ◌≤◌, inl, List, [], ◌∷◌, length, drop, get_or, refl, sym, ap, subst, arith, inr}
use Rattle.std.proofs.lemmas.List.{drop_more}
use Rattle.std.specs.Prelude.{MatchOption}
use Rattle.std.specs.declared.option.Option.{Option}
use Rattle.std.specs.declared.option.Option.TheVariants.{Some, None}
use Rattle.rmt_values.specs.declared.limit.Limit.{Limit}
use Rattle.rmt_names.specs.Names.{Name}
use Rattle.rmt_entries.specs.declared.entry.Entry.{Entry}
use Rattle.rmt_entries.specs.declared.entry.Entry.TheVariants.{Mutate}
use Rattle.rmt_model.specs.Live.{live}
use Rattle.rmt_model.specs.Lawful.{Lawful}
use Rattle.rmt_model.proofs.Drops.{entry-below}
use Rattle.rmt_model.specs.Choices.{last_pending}
use Rattle.rmt_reply.specs.declared.refusal.Refusal.{Refusal}
use Rattle.rmt_reply.specs.declared.refusal.Refusal.TheVariants.{LimitReached}
use Rattle.rmt_events.specs.Views.{Replica, Table}
use Rattle.rmt_events.specs.Sound.{IsSoundTable}
use Rattle.rmt_events.specs.Clusters.{Cluster}
use Rattle.rmt_events.specs.ClusterChanges.{IsNumbered}
use Rattle.rmt_events.specs.Whole.{IsWhole}
use Rattle.rmt_events.specs.Steps.{Does, Step}
use Rattle.rmt_events.specs.declared.event.Event.TheVariants as ev
use Rattle.rmt_events.specs.declared.reply.Reply.TheVariants as rp
use Rattle.rmt_events.specs.declared.step_refused.StepRefused.{StepRefused}
use Rattle.rmt_events.specs.declared.step_refused.StepRefused.TheVariants as rf
use Rattle.rmt_events.proofs.WholeSteps.{whole-step}
use Rattle.rmt_statement_model.specs.TableStates.{TableState, synced}
use Rattle.rmt_statement_model.specs.Shows.{IsIdle, IsUpToDate, Shows, Leads, ups}
use Rattle.rmt_statement_model.proofs.PendingLaws.{AreToCome, pending-mutable, all-to-come, none-to-come, one-passed, one-mutated}
use Rattle.rmt_statement_model.proofs.WaitRows.{IsMutateReply, MutatesSynced, mutated, mutate-shows, refused-shows}
use Rattle.rmt_statement_model.proofs.WaitLeads.{placed-still, wait-begins, wait-goes-on, wait-ends, wait-stops}
use Rattle.rmt_live_names.specs.Places.{IsPlaceOf}
use Rattle.rmt_acts.specs.StatementEvents.{CatchesUp, MutatesOnce, SyncsThen, WaitEvents}
use Rattle.rmt_acts.specs.Waiting.{MutatesSome, BecomesMutated, MutatesOne, Settles, WaitsTo}
use Rattle.rmt_acts.specs.Syncing.{KeepsButQuorum, SyncsReplica, HasDoneGets}
use Rattle.rmt_acts.proofs.SyncActs.{gets-done, gets-done-still}
use Rattle.rmt_acts.proofs.OptimizeActs.{whole-log}
use Rattle.rmt_acts.proofs.EventLists.{at-most-more, at-most-next, Reaches, reaches-mutates, reaches-synced, reaches-then}

-- ---- one part

-- its Mutate enters the log, and the replica is brought up to date
pub becomes-mutated : (s u w : Cluster) (r : ℕ) (old : Name) (upto place : ℕ) → IsWhole s → Step s (ev.Mutate r old upto) (rp.Entry place) u → KeepsButQuorum u w → IsUpToDate w r → ((t : TableState) → Shows u t → Shows w (synced r t)) → BecomesMutated s r old upto w
becomes-mutated s u w r old upto place h st e d f =
    let m = mutated s u r old upto place st in
    record {
      name = m.name;
      count = m.count;
      mcount = m.mcount;
      log = ap (λ (x : Table). x.log) e ∙ m.log;
      room = m.within;
      lawful = subst (λ (x : Table). Lawful x.schema x.log) (sym e) (IsSoundTable.lawful (IsWhole.table (whole-step s u (ev.Mutate r old upto) (rp.Entry place) h st)));
      whole = d;
      shows = λ t v. f (record t { log = Mutate old m.name upto m.count m.mcount ∷ t.log }) (mutate-shows s u r old upto place h st m t v);
    }

-- one more entry would pass a limit
pub mutates-none-more : (s u : Cluster) (r : ℕ) (old : Name) (upto : ℕ) (limit : Limit) (value : ℕ) → IsWhole s → Step s (ev.Mutate r old upto) (rp.Refused (rf.LimitReached limit value)) u → MutatesOne s r old upto (Some (LimitReached limit value)) u
mutates-none-more s u r old upto limit value h st = λ t v. refused-shows s u r old upto limit value h st t v

-- a refusal is for a limit
pub only-limit : (why : StepRefused) → IsMutateReply (rp.Refused why) → ((limit : Limit) (value : ℕ) → why ≡ rf.LimitReached limit value → ⊥) → ⊥
only-limit (rf.LimitReached limit value) a f = f limit value refl
only-limit why a f = a

-- the last mutation that is pending for a live part, as a copy of the whole log tells it
pub pending-told : (s : Cluster) (r : ℕ) (part : Name) (upto : ℕ) (log : List Entry) (o found : Option ℕ) → IsUpToDate s r → ((x : Replica) → IsNumbered s r x → log ≡ x.log) → o ≡ last_pending log part upto → o ≡ found → last_pending s.table.log part upto ≡ found
pending-told s r part upto log o found d f e q = ap (λ (l : List Entry). last_pending l part upto) (sym (whole-log s r log d f)) ∙ (sym e ∙ q)

-- ---- part by part

-- the parts so far wait no more, and these are to come; the replica is up to date
pub record IsWaiting (s : Cluster) (r id place : ℕ) (parts : List Name) (u : Cluster) : Type 0 where
  pub idle : IsIdle u r
  pub ups_are : ups u ≡ ups s
  pub whole : IsUpToDate u r
  pub schema : u.table.schema ≡ s.table.schema
  pub replicas : length u.replicas ≡ length s.replicas
  pub placed : IsPlaceOf u.table.log id place
  pub to_come : AreToCome u.table.log (place + 1) parts
  pub waits : (t : TableState) → Shows s t → Leads u (λ v. MutatesSynced t r id v)
  pub count : ℕ
  pub events : SyncsThen s r count (MutatesOnce r) u
  pub few : count + length parts ≤ length (live s.table.log)
  pub reaches : Reaches s u

-- all are to come
pub waiting-begins : (s u : Cluster) (r id place : ℕ) → IsWhole u → IsPlaceOf u.table.log id place → IsIdle u r → ups u ≡ ups s → IsUpToDate u r → u.table.schema ≡ s.table.schema → length u.replicas ≡ length s.replicas → ((t : TableState) → Shows s t → Shows u (synced r t)) → CatchesUp s r u → KeepsButQuorum s u → IsWaiting s r id place (live u.table.log) u
waiting-begins s u r id place h p i up d e n f y q = record {
  idle = i;
  ups_are = up;
  whole = d;
  schema = e;
  replicas = n;
  placed = p;
  to_come = all-to-come u.table.schema u.table.log (place + 1) (IsSoundTable.lawful h.table);
  waits = λ t v. wait-begins t u r id place p.0 p.1 h p.2 (f t v);
  count = 0;
  events = record { mid = u; syncs = y; then_on = refl };
  few = let n : length (live u.table.log) ≡ length (live s.table.log) = ap (λ (x : Table). length (live x.log)) q in omega (arith, n);
  reaches = reaches-synced s u r y.syncs;
}

-- a mutation stands below the length of the log
pub place-below : (log : List Entry) (id place : ℕ) → IsPlaceOf log id place → place < length log
place-below log id place p = entry-below log place _ p.2

-- the next part is mutated, or has none pending
pub waiting-goes-on : (s u w : Cluster) (r id place : ℕ) (part : Name) (parts : List Name) → IsWhole u → Settles u r part place None w → IsIdle w r → ups w ≡ ups u → w.table.schema ≡ u.table.schema → length w.replicas ≡ length u.replicas → MutatesSome u r w → IsWaiting s r id place (part ∷ parts) u → IsWaiting s r id place parts w
waiting-goes-on s u w r id place part parts h m k up c n y g = go (last_pending u.table.log part (place + 1)) refl m
  where
    go : (o : Option ℕ) → last_pending u.table.log part (place + 1) ≡ o → MatchOption o ((◌≡◌ {A = Option Refusal} None None) × (w ≡ u)) (λ last. MutatesOne u r part last None w) → IsWaiting s r id place parts w
    go None e q = subst (IsWaiting s r id place parts) (sym q.1) (record {
      idle = g.idle;
      ups_are = g.ups_are;
      whole = g.whole;
      schema = g.schema;
      replicas = g.replicas;
      placed = g.placed;
      to_come = one-passed u.table.log (place + 1) part parts g.to_come e;
      waits = g.waits;
      count = g.count;
      events = g.events;
      few = let l = g.few in omega (arith, l);
      reaches = g.reaches;
    })
    go (Some i) e b =
        let l = (pending-mutable u.table.schema u.table.log (place + 1) part i (IsSoundTable.lawful h.table) (g.to_come.are_live part (inl refl)) e).1 in
        record {
          idle = k;
          ups_are = up ∙ g.ups_are;
          whole = b.whole;
          schema = c ∙ g.schema;
          replicas = n ∙ g.replicas;
          placed = (g.placed.0, g.placed.1, placed-still u w (Mutate part b.name i b.count b.mcount) place _ b.log g.placed.2);
          to_come = subst (λ (x : List Entry). AreToCome x (place + 1) parts) (sym b.log)
              (one-mutated w.table.schema u.table.log (place + 1) part b.name parts i b.count b.mcount g.to_come e (subst (Lawful w.table.schema) b.log b.lawful));
          waits = λ t v. wait-goes-on t u w r id place i b.count b.mcount part b.name g.placed.0 g.placed.1 b.lawful g.placed.2 e (omega (arith, l)) b.room b.shows (g.waits t v);
          count = suc g.count;
          events = record { mid = g.events.mid; syncs = g.events.syncs; then_on = at-most-next (MutatesOnce r) g.events.mid u w g.count g.events.then_on y };
          few = let f = g.few in omega (arith, f);
          reaches = reaches-then s u w g.reaches (reaches-mutates u w r y);
        }

-- the next of the parts
pub next-part : (parts : List Name) (i : ℕ) (part : Name) → i < length parts → part ≡ get_or parts i part → drop i parts ≡ part ∷ drop (i + 1) parts
next-part parts i part l e = drop_more parts i part l ∙ ap (λ (a : Name). a ∷ drop (i + 1) parts) (sym e)

-- none waits any more
pub waiting-ends : (s u : Cluster) (r id place : ℕ) → IsWhole u → IsWaiting s r id place [] u → WaitsTo s r id None u
waiting-ends s u r id place h g = λ t v. wait-ends t u r id place g.placed.0 g.placed.1 h g.placed.2 (none-to-come u.table.log (place + 1) g.to_come) (g.waits t v)

-- one more entry would pass a limit
pub waiting-stops : (s u w : Cluster) (r id place : ℕ) (part : Name) (parts : List Name) (refusal : Refusal) → IsWhole u → Settles u r part place (Some refusal) w → IsWaiting s r id place (part ∷ parts) u → WaitsTo s r id (Some refusal) w
waiting-stops s u w r id place part parts refusal h m g = go (last_pending u.table.log part (place + 1)) refl m
  where
    full : (i : ℕ) → last_pending u.table.log part (place + 1) ≡ Some i → (x : Refusal) → MutatesOne u r part i (Some x) w → WaitsTo s r id (Some x) w
    full i e (LimitReached limit value) f = λ t v.
        let x = wait-stops t u w r id place i part g.placed.0 g.placed.1 limit value h g.placed.2 (g.to_come.are_live part (inl refl)) e f (g.waits t v) in
        record { state = x.state; holds = inr x.holds; shows = x.shows }
    full i e x f = λ t v. let l = g.waits t v in absurd ((f l.state l.shows).0)

    go : (o : Option ℕ) → last_pending u.table.log part (place + 1) ≡ o → MatchOption o ((Some refusal ≡ None) × (w ≡ u)) (λ last. MutatesOne u r part last (Some refusal) w) → WaitsTo s r id (Some refusal) w
    go None e q = let x = q.0 in absurd (cc)
    go (Some i) e f = full i e refusal f

-- the replica lacks a part, and nothing is mutated
pub wait-lacks : (s u : Cluster) (r id : ℕ) (refusal : Refusal) → SyncsReplica s r (Some refusal) u → WaitsTo s r id (Some refusal) u
wait-lacks s u r id refusal f t h = let l = f t h in record { state = l.state; holds = inl l.holds; shows = l.shows }

-- the replica has done each Get still once a Mutate is in the log
pub mutate-gets : (s u : Cluster) (r : ℕ) (old : Name) (upto place : ℕ) → IsWhole s → IsUpToDate s r → Step s (ev.Mutate r old upto) (rp.Entry place) u → HasDoneGets u r
mutate-gets s u r old upto place w d st = go st.does
  where
    go : Does s (ev.Mutate r old upto) (rp.Entry place) st.after → HasDoneGets u r
    go (inr a) = let e = a.answer in absurd (cc)
    go (inl a) = gets-done-still s u r (Mutate old a.name upto a.count a.mcount) tt
        (ap (λ (x : Cluster). x.replicas) st.stored ∙ ap (λ (x : Cluster). x.replicas) a.appends.at.change)
        (ap (λ (x : Cluster). x.table.log) st.stored ∙ (ap (λ (x : Cluster). x.table.log) a.appends.at.change ∙ ap (λ (x : Table). x.log) a.appends.at.does.change))
        (gets-done s r w d)

-- ---- its events

-- none waits any more
pub waited-all : (s u : Cluster) (r id place : ℕ) → IsWaiting s r id place [] u → WaitEvents s r None u
waited-all s u r id place g = inl (record { mid = g.events.mid; syncs = g.events.syncs; then_on = at-most-more (MutatesOnce r) g.events.mid u g.count (length (live s.table.log)) (let l = g.few in omega (arith, l)) g.events.then_on })

-- one more entry would pass a limit
pub waited-some : (s u w : Cluster) (r id place : ℕ) (part : Name) (parts : List Name) (refusal : Refusal) → MutatesSome u r w → IsWaiting s r id place (part ∷ parts) u → WaitEvents s r (Some refusal) w
waited-some s u w r id place part parts refusal m g =
    inl (record { mid = g.events.mid; syncs = g.events.syncs; then_on = at-most-more (MutatesOnce r) g.events.mid w (suc g.count) (length (live s.table.log)) (let l = g.few in omega (arith, l)) (at-most-next (MutatesOnce r) g.events.mid u w g.count g.events.then_on m) })
