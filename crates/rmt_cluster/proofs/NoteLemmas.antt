-- A note at the end of a sync.
use Rattle.std.proofs.Common.{◌≡◌, ℕ, ◌⊎◌, inl, inr, Bool, true, false, not, List, [], ◌∷◌, length, refl, sym, ap, subst, arith, ◌∙◌}
use Rattle.std.specs.declared.option.Option.{Option}
use Rattle.std.specs.declared.option.Option.TheVariants.{Some, None}
use Rattle.std.specs.declared.result.Result.{Result}
use Rattle.std.specs.declared.result.Result.TheVariants.{Ok, Err}
use Rattle.rmt_model.specs.Quorum.{Pending, Quorum, noted_by, quorum_after_note}
use Rattle.rmt_model.specs.Fair.{CoveredBy}
use Rattle.rmt_model.specs.CopiedParts.{names_of}
use Rattle.rmt_queue.specs.Marks.{done_at}
use Rattle.rmt_events.specs.Views.{Replica, Table}
use Rattle.rmt_events.specs.ReplicaCalls.{IsDrained}
use Rattle.rmt_events.specs.Clusters.{Cluster, with_replica}
use Rattle.rmt_events.specs.ClusterChanges.{IsNumbered, IsUp, IsDown, Declines}
use Rattle.rmt_events.specs.Whole.{IsWhole}
use Rattle.rmt_events.specs.ApplyEvents.{Applies, NoApply}
use Rattle.rmt_events.specs.Steps.{Step, After, PullsLog, NoPull, NotesPending, NotesNothing, NoNote}
use Rattle.rmt_events.proofs.WholeNotes.{drained-covers}
use Rattle.rmt_events.specs.declared.event.Event.{Event}
use Rattle.rmt_events.specs.declared.event.Event.TheVariants as ev
use Rattle.rmt_events.specs.declared.reply.Reply.{Reply}
use Rattle.rmt_events.specs.declared.step_refused.StepRefused.{StepRefused}
use Rattle.rmt_events.specs.declared.step_refused.StepRefused.TheVariants as rf
use Rattle.rmt_cluster.specs.Syncs.{AreApplied, Drains, HasDone, IsNotedBy, IsStopped, MayFetchAt, DrainsTo, SyncsTo, NotesFor}
use Rattle.rmt_cluster.specs.declared.sync_error.SyncError.{SyncError}
use Rattle.rmt_cluster.specs.declared.sync_error.SyncError.TheVariants as errors
use Rattle.rmt_cluster.proofs.SyncLemmas.{one-up, up-not-down, has-set}

-- ---- the table stays until then

pulled-table : (s u : Cluster) (k : ℕ) (reply : Reply) → Step s (ev.Pull k) reply u → u.table ≡ s.table
pulled-table s u k reply g = ap (λ (z : Cluster). z.table) g.stored ∙ go g.does
  where
    go : PullsLog s k reply g.after ⊎ Declines s (NoPull s k) reply g.after → g.after.table ≡ s.table
    go (inl p) = ap (λ (z : Cluster). z.table) p.at.change
    go (inr p) = ap (λ (z : Cluster). z.table) p.unchanged

applied-table : (s u : Cluster) (k i : ℕ) (reply : Reply) → Step s (ev.Apply k i) reply u → u.table ≡ s.table
applied-table s u k i reply g = ap (λ (z : Cluster). z.table) g.stored ∙ go g.does
  where
    go : Applies s k i reply g.after ⊎ Declines s (NoApply s k i) reply g.after → g.after.table ≡ s.table
    go (inl a) = ap (λ (z : Cluster). z.table) a.at.change
    go (inr d) = ap (λ (z : Cluster). z.table) d.unchanged

after-table : (s u : Cluster) (k below : ℕ) (xs : List (Event × Reply)) (p : Cluster) → After s xs u → AreApplied p k below xs → u.table ≡ s.table
after-table s u k below [] p a f = ap (λ (z : Cluster). z.table) a
after-table s u k below ((ev.Apply r i, reply) ∷ xs) p a f = applied-table a.0 u r i reply a.2 ∙ after-table s a.0 k i xs p a.1 f.3
after-table s u k below ((ev.Allocate r block need, q) ∷ xs) p a f = absurd f
after-table s u k below ((ev.Again id, q) ∷ xs) p a f = absurd f
after-table s u k below ((ev.Stage id, q) ∷ xs) p a f = absurd f
after-table s u k below ((ev.Commit id, q) ∷ xs) p a f = absurd f
after-table s u k below ((ev.Abandon id, q) ∷ xs) p a f = absurd f
after-table s u k below ((ev.Pull r, q) ∷ xs) p a f = absurd f
after-table s u k below ((ev.Merge r sources, q) ∷ xs) p a f = absurd f
after-table s u k below ((ev.Mutate r old upto, q) ∷ xs) p a f = absurd f
after-table s u k below ((ev.CreateMutation command, q) ∷ xs) p a f = absurd f
after-table s u k below ((ev.DropPartition n, q) ∷ xs) p a f = absurd f
after-table s u k below ((ev.Kill r, q) ∷ xs) p a f = absurd f
after-table s u k below ((ev.Restart r, q) ∷ xs) p a f = absurd f
after-table s u k below ((ev.Note r, q) ∷ xs) p a f = absurd f
after-table s u k below ((ev.Fetches r allowed, q) ∷ xs) p a f = absurd f

drains-table : (s t : Cluster) (k : ℕ) → Drains s k t → t.table ≡ s.table
drains-table s t k d = after-table d.pulled t k (length d.pulled.table.log) d.events d.pulled d.made d.applied ∙ pulled-table s d.pulled k d.reply d.pulls

-- ---- the note

-- a quorum for which no part waits is as it was
note-nothing : (k : ℕ) (q : Quorum) → ((p : Pending) → q.pending ≡ Some p → ⊥) → quorum_after_note k q ≡ q
note-nothing k q f = go q.pending refl
  where
    go : (o : Option Pending) → q.pending ≡ o → noted_by k q o ≡ q
    go None e = refl
    go (Some p) e = absurd (f p e)

note-cause : (s : Cluster) (k : ℕ) (why : StepRefused) → NoNote s k why → IsDown s k
note-cause s k rf.NoSession c = absurd c
note-cause s k (rf.TooFewLive live need) c = absurd c
note-cause s k (rf.QuorumPending a) c = absurd c
note-cause s k (rf.Duplicate a) c = absurd c
note-cause s k (rf.LimitReached limit value) c = absurd c
note-cause s k (rf.LockGone n) c = absurd c
note-cause s k (rf.LogMoved seen found) c = absurd c
note-cause s k (rf.Differ left right) c = absurd c
note-cause s k (rf.InQuorum left right part) c = absurd c
note-cause s k (rf.InFlight n) c = absurd c
note-cause s k rf.Down c = c
note-cause s k rf.FetchesStopped c = absurd c
note-cause s k (rf.NeedsPart a) c = absurd c
note-cause s k rf.NoAttempt c = absurd c
note-cause s k rf.NotStaged c = absurd c
note-cause s k rf.LockHeld c = absurd c
note-cause s k rf.NotLive c = absurd c

-- what a note leaves of a replica that has done the whole log
record Noted (k : ℕ) (s t : Cluster) : Type 0 where
  done : HasDone t k (length t.table.log)
  noted : IsNotedBy s k t

note-done : (s t : Cluster) (k : ℕ) (reply : Reply) → IsWhole s → HasDone s k (length s.table.log) → Step s (ev.Note k) reply t → Noted k s t
note-done s t k reply w h g = go g.does
  where
    same : (u : Cluster) → u ≡ record s { events = (ev.Note k, reply) ∷ g.after.events } → s.table ≡ record s.table { quorum = quorum_after_note k s.table.quorum } → Noted k s u
    same u e q = subst (λ (z : Cluster). Noted k s z) (sym e) (record {
      done = record { replica = h.replica; is = record { at = record { is_in = h.is.at.is_in; number = h.is.at.number }; up = h.is.up }; allowed = h.allowed; whole = h.whole; done = h.done };
      noted = q;
    })

    drained : IsDrained h.replica
    drained = λ i l. h.done i (let e = ap length h.whole in omega (arith, l, e))

    go : NotesPending s k reply g.after ⊎ (NotesNothing s k reply g.after ⊎ Declines s (NoNote s k) reply g.after) → Noted k s t
    go (inl d) =
        let c : t ≡ record s { table = d.table; replicas = with_replica s.replicas k d.new; events = (ev.Note k, reply) ∷ g.after.events } =
        g.stored ∙ ap (λ (z : Cluster). record z { events = (ev.Note k, reply) ∷ g.after.events }) d.change in
        let q : h.replica ≡ d.old = one-up s k h.replica d.old w h.is.at d.is.at in
        let log : d.table.log ≡ s.table.log = ap (λ (z : Table). z.log) d.call in
        subst (λ (z : Cluster). Noted k s z) (sym c) (record {
          done = record {
            replica = d.new;
            is = record {
              at = record { is_in = has-set s.replicas k d.old d.new d.is.at.is_in d.is.at.number; number = ap (λ (z : Replica). z.number) d.notes.change ∙ d.is.at.number };
              up = ap (λ (z : Replica). z.up) d.notes.change ∙ d.is.up;
            };
            allowed = ap (λ (z : Replica). z.fetches) d.notes.change ∙ subst (λ (z : Replica). z.fetches ≡ true) q h.allowed;
            whole = ap (λ (z : Replica). z.log) d.notes.change ∙ (subst (λ (z : Replica). z.log ≡ s.table.log) q h.whole ∙ sym log);
            done = λ j l. ap (λ (z : Replica). done_at z.done j) d.notes.change ∙ subst (λ (z : Replica). done_at z.done j ≡ true) q (h.done j (let e = ap length log in omega (arith, l, e)));
          };
          noted = d.call;
        })
    go (inr (inl d)) =
        let q : h.replica ≡ d.replica = one-up s k h.replica d.replica w h.is.at d.is.at in
        let none : (p : Pending) → s.table.quorum.pending ≡ Some p → ⊥ =
        λ p e. d.none p e (subst (λ (z : Replica). CoveredBy (names_of z.parts) p.part) q (drained-covers s h.replica p w h.is.at.is_in h.whole drained e)) in
        same t (g.stored ∙ ap (λ (z : Cluster). record z { events = (ev.Note k, reply) ∷ g.after.events }) d.unchanged)
        (sym (ap (λ (z : Quorum). record s.table { quorum = z }) (note-nothing k s.table.quorum none)))
    go (inr (inr d)) = absurd (up-not-down s k h.replica w h.is (note-cause s k d.why d.cause))

pub note-told : (s t : Cluster) (k : ℕ) (reply : Reply) → IsWhole s → HasDone s k (length s.table.log) → Step s (ev.Note k) reply t → NotesFor s k (Ok tt) t
note-told s t k reply w h g = let n = note-done s t k reply w h g in ((reply, g), n.done, n.noted)

-- ---- what a sync came to

pub drained-err : (s t : Cluster) (k : ℕ) (e : SyncError) → DrainsTo s k (Err e) t → SyncsTo s k (Err e) t
drained-err s t k errors.ReplicaDown d = d
drained-err s t k errors.FetchesStopped d = absurd d
drained-err s t k (errors.NoSource part source) d = d
drained-err s t k errors.Memory d = elim d [ inl a ↦ inl a | inr a ↦ inr (inl a) ]

pub synced : (s m t : Cluster) (k : ℕ) (r : Result (Unit {0}) SyncError) → Drains s k m × HasDone m k (length m.table.log) → NotesFor m k r t → SyncsTo s k r t
synced s m t k (Ok u) d n = (
  record { drained = m; drains = d.0; reply = n.0.0; notes = n.0.1 },
  n.1,
  n.2 ∙ ap (λ (z : Table). record z { quorum = quorum_after_note k z.quorum }) (drains-table s m k d.0),
)
synced s m t k (Err errors.Memory) d n = inr (inr (record { mid = m; drains = d.0; done = d.1; stops = n }))
synced s m t k (Err errors.ReplicaDown) d n = absurd n
synced s m t k (Err errors.FetchesStopped) d n = absurd n
synced s m t k (Err (errors.NoSource part source)) d n = absurd n

-- ---- whether the replica may fetch

pub told-stopped : (told is : Bool) → told ≡ is → not told ≡ true → is ≡ false
told-stopped true is e n = absurd (cc)
told-stopped false is e n = sym e

pub told-allowed : (told is : Bool) → told ≡ is → not told ≡ false → is ≡ true
told-allowed true is e n = sym e
told-allowed false is e n = absurd (cc)

pub down-may : (s : Cluster) (k : ℕ) (y : Replica) → IsWhole s → IsNumbered s k y → y.up ≡ false → MayFetchAt s k
down-may s k y w n d x u = let q = ap (λ (z : Replica). z.up) (one-up s k x y w u.at n) in let e = u.up in absurd (cc)

pub allowed-may : (s : Cluster) (k : ℕ) (y : Replica) → IsWhole s → IsNumbered s k y → y.fetches ≡ true → MayFetchAt s k
allowed-may s k y w n f x u = ap (λ (z : Replica). z.fetches) (one-up s k x y w u.at n) ∙ f

pub never-stopped : (s : Cluster) (k : ℕ) (x : Replica) → IsWhole s → IsUp s k x → x.fetches ≡ true → IsStopped s k → ⊥
never-stopped s k x w u f h = let q = ap (λ (z : Replica). z.fetches) (one-up s k x h.replica w u.at h.is.at) in let e = h.stopped in absurd (cc)
