-- A sync pulls, does entries, and notes a part: of the table it leaves all but the quorum, and the replica knows the whole log then,
-- or lacks a part.
use Rattle.std.proofs.Common.{◌≡◌, ℕ, zero, suc, ◌⊎◌, inl, inr, Bool, true, false, List, [], ◌∷◌, ◌++◌, length, refl, ap, sym, subst, arith, ◌∙◌}
use Rattle.std.specs.Prelude.{IfOk, OnErr}
use Rattle.std.specs.declared.result.Result.{Result}
use Rattle.std.specs.declared.result.Result.TheVariants.{Ok, Err}
use Rattle.std.specs.declared.alloc.AllocError.{AllocError}
use Rattle.std.specs.declared.option.Option.{Option}
use Rattle.std.specs.declared.option.Option.TheVariants.{Some, None}
use Rattle.rmt_names.specs.Names.{Name, block_name}
use Rattle.rmt_entries.specs.declared.entry.Entry.{Entry}
use Rattle.rmt_entries.specs.declared.entry.Entry.TheVariants.{Get}
use Rattle.rmt_model.specs.Words.{Each}
use Rattle.rmt_model.specs.Live.{Dropped}
use Rattle.rmt_model.specs.Lawful.{entry_at}
use Rattle.rmt_model.proofs.Drops.{entry-below, entry-cases}
use Rattle.rmt_queue.specs.Marks.{done_at}
use Rattle.rmt_events.specs.Views.{Replica, Table}
use Rattle.rmt_events.specs.Clusters.{Cluster}
use Rattle.rmt_events.specs.ClusterChanges.{IsNumbered, Declines}
use Rattle.rmt_events.specs.Whole.{IsWhole}
use Rattle.rmt_events.specs.Steps.{PullsLog, NoPull}
use Rattle.rmt_events.proofs.WholeSteps.{whole-step, whole-after}
use Rattle.rmt_events.proofs.WholeTries.{one-replica}
use Rattle.rmt_events.specs.declared.event.Event.{Event}
use Rattle.rmt_events.specs.declared.event.Event.TheVariants as ev
use Rattle.rmt_events.specs.declared.reply.Reply.{Reply}
use Rattle.rmt_cluster.specs.Syncs.{AreApplied, Drains, Syncs, SyncsTo, HasDone, IsNotedBy, LacksSource as LacksHere, EndsLacking}
use Rattle.rmt_cluster.specs.declared.sync_error.SyncError.{SyncError}
use Rattle.rmt_cluster.specs.declared.sync_error.SyncError.TheVariants as errors
use Rattle.rmt_reply.specs.declared.refusal.Refusal.{Refusal}
use Rattle.rmt_reply.specs.declared.refusal.Refusal.TheVariants.{NoSource}
use Rattle.rmt_statement_model.specs.TableStates.{TableState, learned_to}
use Rattle.rmt_model.specs.Quorum.{Quorum, quorum_after_note}
use Rattle.rmt_statement_model.specs.LostSources.{LacksSource}
use Rattle.rmt_statement_model.specs.BackgroundWork.{IsOfWorker}
use Rattle.rmt_statement_model.specs.Shows.{EachKnows, Shows, Leads, IsIdle, IsUpToDate, fetching_of, ups}
use Rattle.rmt_statement_model.proofs.Replaced.{numbered-new, numbered-still}
use Rattle.rmt_statement_model.proofs.AttemptSteps.{IsPullOrApply}
use Rattle.rmt_statement_model.proofs.KnowsLaws.{done-known}
use Rattle.rmt_statement_model.proofs.SyncLaws.{after-shows, after-ups, after-table, synced-shows}
use Rattle.rmt_statement_model.proofs.LostSourceLaws.{unknown-there}
use Rattle.rmt_statement_model.proofs.UpLaws.{not-down, down-told, ups-step}
use Rattle.rmt_statement_model.proofs.SwitchLaws.{fetching-told}
use Rattle.rmt_statement_model.proofs.NoteRows.{note-again, noted-shows}
use Rattle.rmt_acts.specs.StatementEvents.{CatchesUp, SyncEvents}
use Rattle.rmt_acts.specs.Syncing.{IsSynced, IsToldAs, KeepsButQuorum, SyncsReplica, HasDoneGets}

-- the entries that a sync looked at
are-quiet : (p : Cluster) (k below : ℕ) (events : List (Event × Reply)) → AreApplied p k below events → Each (λ x. IsPullOrApply x.0) events
are-quiet p k below [] f = tt
are-quiet p k below ((ev.Apply r i, reply) ∷ xs) f = (tt, are-quiet p k i xs f.3)
are-quiet p k below ((ev.Allocate r block need, q) ∷ xs) f = absurd f
are-quiet p k below ((ev.Again id, q) ∷ xs) f = absurd f
are-quiet p k below ((ev.Stage id, q) ∷ xs) f = absurd f
are-quiet p k below ((ev.Commit id, q) ∷ xs) f = absurd f
are-quiet p k below ((ev.Abandon id, q) ∷ xs) f = absurd f
are-quiet p k below ((ev.Pull r, q) ∷ xs) f = absurd f
are-quiet p k below ((ev.Merge r sources, q) ∷ xs) f = absurd f
are-quiet p k below ((ev.Mutate r old upto, q) ∷ xs) f = absurd f
are-quiet p k below ((ev.CreateMutation command, q) ∷ xs) f = absurd f
are-quiet p k below ((ev.DropPartition n, q) ∷ xs) f = absurd f
are-quiet p k below ((ev.Kill r, q) ∷ xs) f = absurd f
are-quiet p k below ((ev.Restart r, q) ∷ xs) f = absurd f
are-quiet p k below ((ev.Note r, q) ∷ xs) f = absurd f
are-quiet p k below ((ev.Fetches r allowed, q) ∷ xs) f = absurd f

-- the pull of one sync, and its entries
module _ (s u : Cluster) (k : ℕ) (w : IsWhole s) (y : Drains s k u) where
  quiet : Each (λ x. IsPullOrApply x.0) y.events
  quiet = are-quiet y.pulled k (length y.pulled.table.log) y.events y.applied

  whole-pulled : IsWhole y.pulled
  whole-pulled = whole-step s y.pulled (ev.Pull k) y.reply w y.pulls

  -- the cluster is whole still
  pub drain-whole : IsWhole u
  drain-whole = whole-after y.pulled u y.events whole-pulled y.made

  -- the table stays
  pub drain-table : u.table ≡ s.table
  drain-table = after-table y.pulled u y.events y.made quiet ∙ after-table s y.pulled ((ev.Pull k, y.reply) ∷ []) (s, refl, y.pulls) (tt, tt)

  -- the same replicas are up
  pub drain-ups : ups u ≡ ups s
  drain-ups = after-ups y.pulled u y.events whole-pulled y.made quiet ∙ after-ups s y.pulled ((ev.Pull k, y.reply) ∷ []) w (s, refl, y.pulls) (tt, tt)

  -- no insert gets under way
  pub drain-idle : IsIdle s k → IsIdle u k
  drain-idle i = record { up = ap (λ (f : ℕ → Bool). f k) drain-ups ∙ i.up; free = ap (λ t. t.locks) drain-table ∙ i.free }

  -- what is shown is so still
  drain-keeps : (t : TableState) → Shows s t → Shows u t
  drain-keeps t h = after-shows y.pulled u y.events whole-pulled y.made quiet t (after-shows s y.pulled ((ev.Pull k, y.reply) ∷ []) w (s, refl, y.pulls) (tt, tt) t h)

-- the events of one sync
module _ (s u : Cluster) (k : ℕ) (w : IsWhole s) (y : Syncs s k u) (n : IsNotedBy s k u) where
  whole-drained : IsWhole y.drained
  whole-drained = drain-whole s y.drained k w y.drains

  -- the cluster is whole still
  pub sync-whole : IsWhole u
  sync-whole = whole-step y.drained u (ev.Note k) y.reply whole-drained y.notes

  -- of the table all but the quorum stays
  pub sync-table : KeepsButQuorum s u
  sync-table = n ∙ ap (λ (q : Quorum). record s.table { quorum = q }) (sym (ap (λ (t : Table). t.quorum) n))

  -- the same replicas are up
  pub sync-ups : ups u ≡ ups s
  sync-ups = ups-step y.drained u (ev.Note k) y.reply whole-drained tt y.notes ∙ drain-ups s y.drained k w y.drains

  -- no insert gets under way
  pub sync-idle : IsIdle s k → IsIdle u k
  sync-idle i = record { up = ap (λ (f : ℕ → Bool). f k) sync-ups ∙ i.up; free = ap (λ (t : Table). t.locks) n ∙ i.free }

  -- it is noted already
  is-noted : quorum_after_note k u.table.quorum ≡ u.table.quorum
  is-noted = let q = ap (λ (t : Table). t.quorum) n in ap (quorum_after_note k) q ∙ (note-again k s.table.quorum ∙ sym q)

  -- what is shown is so still, with the note
  sync-keeps : (t : TableState) → Shows s t → Shows u (record t { quorum = quorum_after_note k t.quorum })
  sync-keeps t h =
      noted-shows y.drained u k y.reply whole-drained y.notes
      (n ∙ ap (λ (x : Table). record x { quorum = quorum_after_note k x.quorum }) (sym (drain-table s y.drained k w y.drains))) t
      (drain-keeps s y.drained k w y.drains t h)

  -- the whole log is known at the replica
  pub is-synced : HasDone u k (length u.table.log) → IsSynced s k u
  is-synced d =
      let done : IsUpToDate u k = record {
        replica = d.replica;
        at = d.is.at;
        whole = d.whole;
        drained = λ j l. let e : length d.replica.log ≡ length u.table.log = ap (λ (x : List Entry). length x) d.whole in d.done j (omega (arith, e, l));
        allowed = d.allowed;
        noted = is-noted;
      } in
      record {
        shows = λ t h.
            subst (λ (q : Quorum). Shows u (record t { known = learned_to t.known k (length t.log); quorum = q })) (note-again k t.quorum)
            (synced-shows u k (record t { quorum = quorum_after_note k t.quorum }) sync-whole done (sync-keeps t h));
        whole = done;
      }

-- ---- a part is nowhere

-- it is known at no replica that is up, and what stands before it is known here
pub is-lacking : (s u : Cluster) (k : ℕ) (a : Name) (source : ℕ) → IsWhole s → ups s k ≡ true → EndsLacking s k a source u → (t : TableState) → Shows s t → Leads u (LacksSource (ups s) t k (NoSource a source))
is-lacking s u k a source w up e t h = record {
  state = record t { known = learned_to t.known k l.place };
  holds = record {
    place = l.place;
    partition = l.partition;
    number = l.number;
    digest = l.digest;
    source = source;
    need = l.need;
    entry = subst (λ (log : List Entry). entry_at log l.place ≡ Some (Get l.partition l.number l.digest source l.need)) same-log l.waits.at;
    kept = λ d. l.waits.waits.not_dropped (record {
      name = block_name l.partition l.number;
      makes = record { entry = Get l.partition l.number l.digest source l.need; stands = l.waits.at; makes = refl };
      dropped = subst (λ (log : List Entry). Dropped log (block_name l.partition l.number)) (sym same-log) d;
    });
    down = ap (λ (f : ℕ → Bool). f source) (sym ups-are) ∙ down-told u source whole l.down;
    unknown = nowhere k up;
    nowhere = nowhere;
    reply = ap (λ (b : Name). NoSource b source) l.lacks.0;
    change = refl;
  };
  shows = record {
    table = record {
      schema = v.table.schema;
      log = v.table.log;
      next = v.table.next;
      quorum = v.table.quorum;
      fetching = v.table.fetching;
      knows = subst (λ j. EachKnows u.replicas (learned_to t.known j l.place)) l.before.is.at.number
          (done-known u l.before.replica t.known l.place whole l.before.is.at.is_in (let b = entry-below l.before.replica.log l.place _ l.waits.at in omega (arith, b)) l.before.done v.table.knows);
    };
    blocks = v.blocks;
  };
}
  where
    l : LacksHere u k a source
    l = e.source_lost

    whole : IsWhole u
    whole = drain-whole s u k w e.drains

    ups-are : ups u ≡ ups s
    ups-are = drain-ups s u k w e.drains

    v : Shows u t
    v = drain-keeps s u k w e.drains t h

    same-log : l.before.replica.log ≡ t.log
    same-log = l.before.whole ∙ sym v.table.log

    nowhere : (j : ℕ) → ups s j ≡ true → t.known j l.place ≡ false
    nowhere j b = unknown-there u k l.place l.before.replica l.partition l.number source l.need l.digest a t.known whole l.before.whole l.waits l.lacks (λ z i. v.table.knows z i) j (ap (λ (f : ℕ → Bool). f j) ups-are ∙ b)

-- ---- a replica that has done each Get

grown-done : (ds xs : List Bool) (i : ℕ) → done_at ds i ≡ true → done_at (ds ++ xs) i ≡ true
grown-done [] xs i e = absurd (cc)
grown-done (d ∷ ds) xs zero e = e
grown-done (d ∷ ds) xs (suc i) e = grown-done ds xs i e

-- it lacks no part
pub never-lacks : (s u : Cluster) (k : ℕ) (a : Name) (source : ℕ) → IsWhole s → HasDoneGets s k → EndsLacking s k a source u → ⊥
never-lacks s u k a source w f e = go y.pulls.does
  where
    y : Drains s k u
    y = e.drains

    l : LacksHere u k a source
    l = e.source_lost

    there : entry_at s.table.log l.place ≡ Some (Get l.partition l.number l.digest source l.need)
    there = subst (λ (log : List Entry). entry_at log l.place ≡ Some (Get l.partition l.number l.digest source l.need)) (l.before.whole ∙ ap (λ t. t.log) (drain-table s u k w y)) l.waits.at

    go : PullsLog s k y.reply y.pulls.after ⊎ Declines s (NoPull s k) y.reply y.pulls.after → ⊥
    go (inl p) =
        let x = p.at.new in
        let n : IsNumbered y.pulled k x = numbered-new s y.pulled k p.at.old x (ap (λ (z : Cluster). z.replicas) y.pulls.stored ∙ ap (λ (z : Cluster). z.replicas) p.at.change) (ap (λ (z : Replica). z.number) p.at.does) p.at.at in
        let same : e.pending.replica ≡ x = one-replica y.pulled e.pending.replica x (whole-step s y.pulled (ev.Pull k) y.reply w y.pulls) e.pending.at.is_in n.is_in (e.pending.at.number ∙ sym n.number) in
        let old = (f p.at.old p.at.at).1 l.place l.partition l.number source l.need l.digest there in
        let new : done_at x.done l.place ≡ true = subst (λ (ds : List Bool). done_at ds l.place ≡ true) (sym (ap (λ (z : Replica). z.done) p.at.does)) (grown-done p.at.old.done _ l.place old) in
        let is : done_at x.done l.place ≡ false = subst (λ (z : Replica). done_at z.done l.place ≡ false) same e.pending.pending in
        absurd (cc)
    go (inr p) =
        let n : IsNumbered s k e.pending.replica = numbered-still y.pulled s k e.pending.replica (sym (ap (λ (z : Cluster). z.replicas) y.pulls.stored ∙ ap (λ (z : Cluster). z.replicas) p.unchanged)) e.pending.at in
        let old = (f e.pending.replica n).1 l.place l.partition l.number source l.need l.digest there in
        let is = e.pending.pending in
        absurd (cc)

-- one that is up to date has done each
pub gets-done : (s : Cluster) (k : ℕ) → IsWhole s → IsUpToDate s k → HasDoneGets s k
gets-done s k w d x n = (
  subst (λ (z : Replica). z.fetches ≡ true) same d.allowed,
  λ i p m source need digest e.
      let l = entry-below s.table.log i _ e in
      let q = ap (λ (log : List Entry). length log) d.whole in
      subst (λ (z : Replica). done_at z.done i ≡ true) same (d.drained i (omega (arith, l, q))),
)
  where
    same : d.replica ≡ x
    same = one-replica s d.replica x w d.at.is_in n.is_in (d.at.number ∙ sym n.number)

-- so has one after an entry of background work
pub gets-done-still : (s u : Cluster) (k : ℕ) (e : Entry) → IsOfWorker e → u.replicas ≡ s.replicas → u.table.log ≡ e ∷ s.table.log → HasDoneGets s k → HasDoneGets u k
gets-done-still s u k e worker same log f x n = (
  old.0,
  λ i p m source need digest q. elim (entry-cases e s.table.log i (Get p m digest source need) (subst (λ (l : List Entry). entry_at l i ≡ Some (Get p m digest source need)) log q)) [
    | inl c ↦ absurd (subst IsOfWorker c.1 worker)
    | inr c ↦ old.1 i p m source need digest c
  ],
)
  where
    old : (x.fetches ≡ true) × ((i : ℕ) (p : Option ℕ) (n source need : ℕ) (digest : List ℕ) → entry_at s.table.log i ≡ Some (Get p n digest source need) → done_at x.done i ≡ true)
    old = f x (numbered-still u s k x (sym same) n)

-- ---- what a call told

-- no refusal was told
pub synced-told : (s u : Cluster) (r : ℕ) (o : Option Refusal) → ((x : Refusal) → o ≡ Some x → ⊥) → SyncsReplica s r o u → IsSynced s r u
synced-told s u r None f y = y
synced-told s u r (Some x) f y = absurd (f x refl)

-- a sync at a replica that is up doesn't find it down
pub not-refused : (s u : Cluster) (k : ℕ) (e : SyncError) → IsWhole s → ups s k ≡ true → SyncsTo s k (Err e) u → e ≡ errors.ReplicaDown → ⊥
not-refused s u k errors.ReplicaDown w up y e = not-down s k w up y.down
not-refused s u k errors.FetchesStopped w up y e = absurd (cc)
not-refused s u k (errors.NoSource part source) w up y e = absurd (cc)
not-refused s u k errors.Memory w up y e = absurd (cc)

-- nor does it lack a part where the replica has done each Get
pub never-lost : (s u : Cluster) (k : ℕ) (a : Name) (source : ℕ) (e : SyncError) → IsWhole s → HasDoneGets s k → SyncsTo s k (Err e) u → e ≡ errors.NoSource a source → ⊥
never-lost s u k a source errors.ReplicaDown w f y e = absurd (cc)
never-lost s u k a source errors.FetchesStopped w f y e = absurd (cc)
never-lost s u k a source (errors.NoSource part from) w f y e = never-lacks s u k part from w f y
never-lost s u k a source errors.Memory w f y e = absurd (cc)

-- nor is it stopped where it may fetch
pub never-stopped : (s u : Cluster) (k : ℕ) (e : SyncError) → ((x : Replica) → IsNumbered s k x → x.fetches ≡ true) → SyncsTo s k (Err e) u → e ≡ errors.FetchesStopped → ⊥
never-stopped s u k errors.ReplicaDown f y e = absurd (cc)
never-stopped s u k errors.FetchesStopped f y e = let a = f y.0.replica y.0.is.at in let b = y.0.stopped in absurd (cc)
never-stopped s u k (errors.NoSource part from) f y e = absurd (cc)
never-stopped s u k errors.Memory f y e = absurd (cc)

-- as it may where that is so of its number
pub may-fetch : (s : Cluster) (k : ℕ) → IsWhole s → fetching_of s k ≡ true → (x : Replica) → IsNumbered s k x → x.fetches ≡ true
may-fetch s k w f x n = sym (fetching-told s k x w n) ∙ f

-- what is told of a sync that ended early
pub record IsEarly (s u : Cluster) (k : ℕ) (o : Option Refusal) : Type 0 where
  pub syncs : SyncsReplica s k o u
  pub table : KeepsButQuorum s u
  pub idle : IsIdle u k
  pub ups_are : ups u ≡ ups s
  pub events : SyncEvents s k o u

pub early-told : (s u : Cluster) (k : ℕ) (e : SyncError) (result : Result (Option Refusal) AllocError) → IsWhole s → IsIdle s k → SyncsTo s k (Err e) u → IsToldAs e result → IfOk result (IsEarly s u k)
early-told s u k errors.ReplicaDown result w i y t = absurd t
early-told s u k errors.FetchesStopped result w i y t = absurd t
early-told s u k (errors.NoSource part source) result w i y t = subst (λ (r : Result (Option Refusal) AllocError). IfOk r (IsEarly s u k)) (sym t) (record {
  syncs = is-lacking s u k part source w i.up y;
  table = let e = drain-table s u k w y.drains in e ∙ ap (λ (q : Quorum). record s.table { quorum = q }) (sym (ap (λ (t : Table). t.quorum) e));
  idle = drain-idle s u k w y.drains i;
  ups_are = drain-ups s u k w y.drains;
  events = y;
})
early-told s u k errors.Memory (Ok o) w i y t = let q = t in absurd (cc)
early-told s u k errors.Memory (Err a) w i y t = tt

-- no memory was left, where no refusal was told
pub stopped-told : (s u : Cluster) (k : ℕ) (e : SyncError) (result : Result (Option Refusal) AllocError) → SyncsTo s k (Err e) u → IsToldAs e result → OnErr result (SyncsTo s k (Err errors.Memory) u)
stopped-told s u k errors.ReplicaDown result y t = absurd t
stopped-told s u k errors.FetchesStopped result y t = absurd t
stopped-told s u k (errors.NoSource part source) result y t = subst (λ (r : Result (Option Refusal) AllocError). OnErr r (SyncsTo s k (Err errors.Memory) u)) (sym t) tt
stopped-told s u k errors.Memory (Ok o) y t = let q = t in absurd (cc)
stopped-told s u k errors.Memory (Err a) y t = y

-- the events of a sync at whose end no refusal was told
pub synced-events : (s u : Cluster) (r : ℕ) (o : Option Refusal) → ((x : Refusal) → o ≡ Some x → ⊥) → SyncEvents s r o u → CatchesUp s r u
synced-events s u r None f y = y
synced-events s u r (Some x) f y = absurd (f x refl)
