-- A replica that is brought to the whole log.
use Rattle.std.proofs.Common.{◌≡◌, ◌⊎◌, ℕ, zero, suc, ◌+◌, ◌<◌, ◌≤◌, inl, inr, Bool, true, false, cond, List, [], ◌∷◌, length, refl, sym, ap, subst, ◌∙◌, arith, nat_eq, slice_set}
use Rattle.std.proofs.lemmas.Bool.Decides.{nat_tests}
use Rattle.std.specs.Prelude.{is_err, max, IfOk, IfSome, OnErr, MatchResult}
use Rattle.std.specs.declared.alloc.AllocError.{AllocError}
use Rattle.std.specs.declared.result.Result.{Result}
use Rattle.std.specs.declared.result.Result.TheVariants.{Ok, Err}
use Rattle.std.specs.declared.option.Option.{Option}
use Rattle.std.specs.declared.option.Option.TheVariants.{Some, None}
use Rattle.rmt_names.specs.Names.{Name}
use Rattle.rmt_entries.specs.declared.entry.Entry.{Entry}
use Rattle.rmt_entries.specs.declared.entry.Entry.TheVariants as entries
use Rattle.rmt_model.specs.Words.{Has, Each}
use Rattle.rmt_model.specs.Lawful.{entry_at}
use Rattle.rmt_model.specs.CopiedParts.{names_of}
use Rattle.rmt_model.proofs.Lists.{Each-at}
use Rattle.rmt_queue.specs.Marks.{done_at}
use Rattle.rmt_events.specs.Views.{Replica}
use Rattle.rmt_events.specs.Clusters.{Cluster, with_replica}
use Rattle.rmt_events.specs.ClusterChanges.{IsNumbered, IsOther, IsUp, IsDown, Declines, cluster_with}
use Rattle.rmt_events.specs.ReplicaCalls.{with_entry_done}
use Rattle.rmt_events.specs.ApplyEvents.{Applies, AppliesTo, WaitsAt, IsHolder, LacksBlock, IsFirstInactive, LacksPart, NoApply}
use Rattle.rmt_events.specs.Whole.{Follows, IsWhole, KeepsBlock}
use Rattle.rmt_events.specs.Shown.{IsHeld}
use Rattle.rmt_events.specs.Steps.{PullsLog, NoPull, Step, After}
use Rattle.rmt_events.specs.declared.event.Event.{Event}
use Rattle.rmt_events.specs.declared.event.Event.TheVariants as ev
use Rattle.rmt_events.specs.declared.reply.Reply.{Reply}
use Rattle.rmt_events.specs.declared.reply.Reply.TheVariants as rp
use Rattle.rmt_events.specs.declared.step_refused.StepRefused.{StepRefused}
use Rattle.rmt_events.specs.declared.step_refused.StepRefused.TheVariants as rf
use Rattle.rmt_events.specs.declared.applied.Applied.{Applied}
use Rattle.rmt_events.specs.declared.applied.Applied.TheVariants as came
use Rattle.rmt_events.proofs.Moves.{has-with}
use Rattle.rmt_events.proofs.WholeSteps.{whole-step}
use Rattle.rmt_events.proofs.WholeTries.{one-replica}
use Rattle.rmt_events.proofs.Drains.{merge-ready, mutate-ready, get-ready}
use Rattle.rmt_cluster.specs.Syncs.{IsPendingAt, AreApplied, Drains, HasDone, LacksSource, IsRefused, DrainsTo, MayFetchAt, SourcesAreUp, IsDoneOrStopped, IsNext, IsNextDone, IsNextEntry, PullsAll, PullsFor, DoesEntry, CantDo, DoesNext, missing, pulled, source_of}
use Rattle.rmt_cluster.specs.declared.sync_error.SyncError.{SyncError}
use Rattle.rmt_cluster.specs.declared.sync_error.SyncError.TheVariants as errors

-- ---- replicas

pub has-set : (xs : List Replica) (k : ℕ) (x y : Replica) → Has xs x → x.number ≡ k → Has (with_replica xs k y) y
has-set [] k x y h n = absurd h
has-set (z ∷ xs) k x y h n = go (nat_eq z.number k) refl h (λ i. has-set xs k x y i n)
  where
    go : (b : Bool) → nat_eq z.number k ≡ b → Has (z ∷ xs) x → (Has xs x → Has (with_replica xs k y) y) → Has (cond b (y ∷ xs) (z ∷ with_replica xs k y)) y
    go true e h f = inl refl
    go false e (inl q) f = let m = ap (λ (w : Replica). w.number) q in absurd (grind (arith, nat_tests))
    go false e (inr i) f = inr (f i)

-- two replicas of one number are one
pub one-up : (s : Cluster) (k : ℕ) (x y : Replica) → IsWhole s → IsNumbered s k x → IsNumbered s k y → x ≡ y
one-up s k x y w a b = one-replica s x y w a.is_in b.is_in (a.number ∙ sym b.number)

pub up-not-down : (s : Cluster) (k : ℕ) (x : Replica) → IsWhole s → IsUp s k x → IsDown s k → ⊥
up-not-down s k x w u d = let q = one-up s k x d.replica w u.at d.at in let p = ap (λ (z : Replica). z.up) q in let e = u.up in let f = d.down in absurd (cc)

-- ---- the pull

pull-cause : (s : Cluster) (k : ℕ) (why : StepRefused) → NoPull s k why → IsDown s k
pull-cause s k rf.NoSession c = absurd c
pull-cause s k (rf.TooFewLive live need) c = absurd c
pull-cause s k (rf.QuorumPending a) c = absurd c
pull-cause s k (rf.Duplicate a) c = absurd c
pull-cause s k (rf.LimitReached limit value) c = absurd c
pull-cause s k (rf.LockGone n) c = absurd c
pull-cause s k (rf.LogMoved seen found) c = absurd c
pull-cause s k (rf.Differ left right) c = absurd c
pull-cause s k (rf.InQuorum left right part) c = absurd c
pull-cause s k (rf.InFlight n) c = absurd c
pull-cause s k rf.Down c = c
pull-cause s k rf.FetchesStopped c = absurd c
pull-cause s k (rf.NeedsPart a) c = absurd c
pull-cause s k rf.NoAttempt c = absurd c
pull-cause s k rf.NotStaged c = absurd c
pull-cause s k rf.LockHeld c = absurd c
pull-cause s k rf.NotLive c = absurd c

pull-why : (s : Cluster) (k : ℕ) (why : StepRefused) → NoPull s k why → why ≡ rf.Down
pull-why s k rf.NoSession c = absurd c
pull-why s k (rf.TooFewLive live need) c = absurd c
pull-why s k (rf.QuorumPending a) c = absurd c
pull-why s k (rf.Duplicate a) c = absurd c
pull-why s k (rf.LimitReached limit value) c = absurd c
pull-why s k (rf.LockGone n) c = absurd c
pull-why s k (rf.LogMoved seen found) c = absurd c
pull-why s k (rf.Differ left right) c = absurd c
pull-why s k (rf.InQuorum left right part) c = absurd c
pull-why s k (rf.InFlight n) c = absurd c
pull-why s k rf.Down c = refl
pull-why s k rf.FetchesStopped c = absurd c
pull-why s k (rf.NeedsPart a) c = absurd c
pull-why s k rf.NoAttempt c = absurd c
pull-why s k rf.NotStaged c = absurd c
pull-why s k rf.LockHeld c = absurd c
pull-why s k rf.NotLive c = absurd c

pull-done : (s t : Cluster) (k : ℕ) (reply : Reply) → IsWhole s → MayFetchAt s k → Step s (ev.Pull k) reply t → pulled reply ≡ true → PullsAll s k t
pull-done s t k reply w f g e = record { reply = reply; pulls = g; whole = whole-step s t (ev.Pull k) reply w g; done = go g.does }
  where
    go : PullsLog s k reply g.after ⊎ Declines s (NoPull s k) reply g.after → HasDone t k 0
    go (inr d) = absurd (let q = sym e ∙ ap pulled d.answer in cc)
    go (inl p) =
        let c : t ≡ record (cluster_with s k p.at.new) { events = (ev.Pull k, reply) ∷ g.after.events } = g.stored ∙ ap (λ (z : Cluster). record z { events = (ev.Pull k, reply) ∷ g.after.events }) p.at.change in
        let y = p.at.new in
        let m = p.at.does in
        subst (λ (z : Cluster). HasDone z k 0) (sym c) (record {
          replica = y;
          is = record { at = record { is_in = has-set s.replicas k p.at.old y p.at.at.is_in p.at.at.number; number = ap (λ (z : Replica). z.number) m ∙ p.at.at.number }; up = ap (λ (z : Replica). z.up) m ∙ p.at.up };
          allowed = ap (λ (z : Replica). z.fetches) m ∙ f p.at.old (record { at = p.at.at; up = p.at.up });
          whole = ap (λ (z : Replica). z.log) m;
          done = λ j l. absurd (omega (arith, l));
        })

pull-down : (s t : Cluster) (k : ℕ) (reply : Reply) → Step s (ev.Pull k) reply t → pulled reply ≡ false → IsRefused s k t
pull-down s t k reply g e = go g.does
  where
    go : PullsLog s k reply g.after ⊎ Declines s (NoPull s k) reply g.after → IsRefused s k t
    go (inl p) = absurd (let q = sym e ∙ ap pulled p.answer in cc)
    go (inr d) = record {
      down = pull-cause s k d.why d.cause;
      refused = subst (λ (r : Reply). Step s (ev.Pull k) r t) (d.answer ∙ ap rp.Refused (pull-why s k d.why d.cause)) g;
    }

-- ---- an entry

-- what an entry that is done changes of its replica
record IsMarked (x : Replica) (i : ℕ) (y : Replica) : Type 0 where
  pub number : y.number ≡ x.number
  pub up : y.up ≡ x.up
  pub fetches : y.fetches ≡ x.fetches
  pub log : y.log ≡ x.log
  pub done : y.done ≡ slice_set x.done i true

marked-by : (x y z : Replica) (i : ℕ) → y ≡ z → z.number ≡ x.number → z.up ≡ x.up → z.fetches ≡ x.fetches → z.log ≡ x.log → z.done ≡ slice_set x.done i true → IsMarked x i y
marked-by x y z i e a b f c d = subst (IsMarked x i) (sym e) (record { number = a; up = b; fetches = f; log = c; done = d })

marked : (s : Cluster) (i : ℕ) (c : Applied) (x y : Replica) → AppliesTo s i c x y → IsMarked x i y
marked s i came.Already x y a = marked-by x y (with_entry_done x i) i a.1.change refl refl refl refl refl
marked s i came.Dropped x y a = marked-by x y (with_entry_done x i) i a.1.change refl refl refl refl refl
marked s i came.Installed x y (inl a) = marked-by x y _ i a.1.change refl refl refl refl refl
marked s i came.Installed x y (inr a) = marked-by x y _ i a.does.change refl refl refl refl refl

set-done : (xs : List Bool) (i j : ℕ) → i < length xs → ((m : ℕ) → m < i → done_at xs m ≡ true) → j < i + 1 → done_at (slice_set xs i true) j ≡ true
set-done [] i j l f g = absurd (omega (arith, l))
set-done (b ∷ xs) zero zero l f g = refl
set-done (b ∷ xs) zero (suc j) l f g = absurd (omega (arith, g))
set-done (b ∷ xs) (suc i) zero l f g = f 0 (omega arith)
set-done (b ∷ xs) (suc i) (suc j) l f g = set-done xs i j (omega (arith, l)) (λ m n. f (suc m) (omega (arith, n))) (omega (arith, g))

-- the marks after the entry stay
set-later : (xs : List Bool) (i j : ℕ) → i < j → done_at (slice_set xs i true) j ≡ done_at xs j
set-later [] i j g = refl
set-later (b ∷ xs) zero zero g = absurd (omega (arith, g))
set-later (b ∷ xs) zero (suc j) g = refl
set-later (b ∷ xs) (suc i) zero g = absurd (omega (arith, g))
set-later (b ∷ xs) (suc i) (suc j) g = set-later xs i j (omega (arith, g))

-- the marks are as many as the entries
marks-of : (s : Cluster) (x : Replica) → IsWhole s → Has s.replicas x → length x.done ≡ length x.log
marks-of s x w h = (Follows.stands (Each-at (Follows s) s.replicas x w.follow h)).marks

missing-none : (reply : Reply) (why : StepRefused) (a : Name) → missing reply ≡ None → reply ≡ rp.Refused (rf.NeedsPart a) → ⊥
missing-none reply why a m e = let q = sym m ∙ ap missing e in absurd (cc)

-- why an entry isn't done that the replica has: its part is missing
apply-cause : (s : Cluster) (k i : ℕ) (x : Replica) (why : StepRefused) → IsWhole s → IsUp s k x → i < length x.log → x.fetches ≡ true → NoApply s k i why → (a : Name) × (why ≡ rf.NeedsPart a) × (e : Entry) × WaitsAt s k i x e × LacksPart s k x e a
apply-cause s k i x rf.NoSession w u l f c = absurd c
apply-cause s k i x (rf.TooFewLive live need) w u l f c = absurd c
apply-cause s k i x (rf.QuorumPending a) w u l f c = absurd c
apply-cause s k i x (rf.Duplicate a) w u l f c = absurd c
apply-cause s k i x (rf.LimitReached limit value) w u l f c = absurd c
apply-cause s k i x (rf.LockGone n) w u l f c = absurd c
apply-cause s k i x (rf.LogMoved seen found) w u l f c = absurd c
apply-cause s k i x (rf.Differ left right) w u l f c = absurd c
apply-cause s k i x (rf.InQuorum left right part) w u l f c = absurd c
apply-cause s k i x (rf.InFlight n) w u l f c = absurd c
apply-cause s k i x rf.Down w u l f c = absurd (up-not-down s k x w u c)
apply-cause s k i x rf.FetchesStopped w u l f c = let q = ap (λ (z : Replica). z.fetches) (one-up s k x c.0 w u.at (IsUp.at (WaitsAt.is c.2))) in let m = c.3 in absurd (cc)
apply-cause s k i x (rf.NeedsPart a) w u l f c =
    let q = sym (one-up s k x c.0 w u.at (IsUp.at (WaitsAt.is c.2))) in
    (a, refl, c.1, subst (λ (z : Replica). WaitsAt s k i z c.1) q c.2, subst (λ (z : Replica). LacksPart s k z c.1 a) q c.3)
apply-cause s k i x rf.NoAttempt w u l f c = absurd c
apply-cause s k i x rf.NotStaged w u l f c = absurd c
apply-cause s k i x rf.LockHeld w u l f c = absurd c
apply-cause s k i x rf.NotLive w u l f c = let q = ap (λ (z : Replica). length z.log) (one-up s k x c.0 w u.at (IsUp.at c.1)) in let m = c.2 in absurd (omega (arith, q, m, l))

apply-done : (s t : Cluster) (k i : ℕ) (x : Replica) (reply : Reply) → IsWhole s → IsNumbered s k x → HasDone s k i → i < length s.table.log → Step s (ev.Apply k i) reply t → missing reply ≡ None → DoesEntry s k i t
apply-done s t k i x reply w n h l g m = go g.does
  where
    go : Applies s k i reply g.after ⊎ Declines s (NoApply s k i) reply g.after → DoesEntry s k i t
    go (inr d) =
        let u = h.is in
        let p = one-up s k x h.replica w n u.at in
        let c = apply-cause s k i h.replica d.why w u (subst (λ (z : List Entry). i < length z) (sym h.whole) l) h.allowed d.cause in
        absurd (missing-none reply d.why c.0 m (d.answer ∙ ap rp.Refused c.1))
    go (inl a) =
        let c : t ≡ record (cluster_with s k a.at.new) { events = (ev.Apply k i, reply) ∷ g.after.events } = g.stored ∙ ap (λ (z : Cluster). record z { events = (ev.Apply k i, reply) ∷ g.after.events }) a.at.change in
        let y = a.at.new in
        let m = marked s i a.comes a.at.old y a.at.does.1 in
        let q : h.replica ≡ a.at.old = one-up s k h.replica a.at.old w (IsUp.at h.is) a.at.at in
        let marks = marks-of s a.at.old w a.at.at.is_in in
        let whole : a.at.old.log ≡ s.table.log = subst (λ (z : Replica). z.log ≡ s.table.log) q h.whole in
        let within : i < length a.at.old.done = let e = ap length whole in omega (arith, marks, e, l) in
        let after : IsNumbered t k y = subst (λ (z : Cluster). IsNumbered z k y) (sym c) (record { is_in = has-set s.replicas k a.at.old y a.at.at.is_in a.at.at.number; number = m.number ∙ a.at.at.number }) in
        record {
          reply = reply;
          step = g;
          done = record {
            replica = y;
            is = record { at = after; up = m.up ∙ a.at.up };
            allowed = m.fetches ∙ subst (λ (z : Replica). z.fetches ≡ true) q h.allowed;
            whole = m.log ∙ (whole ∙ sym (ap (λ (z : Cluster). z.table.log) c));
            done = λ j b. subst (λ (z : List Bool). done_at z j ≡ true) (sym m.done) (set-done a.at.old.done i j within (λ o p. subst (λ (z : Replica). done_at z.done o ≡ true) q (h.done o p)) b);
          };
          later = λ v z nv nz j b.
              let pv : a.at.old ≡ v = one-up s k a.at.old v w a.at.at nv in
              let pz : y ≡ z = one-up t k y z (whole-step s t (ev.Apply k i) reply w g) after nz in
              subst (λ (o : Replica). done_at o.done j ≡ done_at v.done j) pz (subst (λ (o : Replica). done_at y.done j ≡ done_at o.done j) pv (ap (λ (ms : List Bool). done_at ms j) m.done ∙ set-later a.at.old.done i j b));
        }

-- ---- a part that is missing

no-first : (names active : List Name) (a : Name) → Each (Has active) names → IsFirstInactive names active a → ⊥
no-first [] active a e f = f
no-first (c ∷ names) active a e (inl f) = f.0 e.0
no-first (c ∷ names) active a e (inr f) = no-first names active a e.1 f.1

-- whether a replica that holds the source's number is up
source-down : (s : Cluster) (source : ℕ) (y : Replica) → IsWhole s → IsNumbered s source y → (((z : Replica) → Has s.replicas z → z.number ≡ source → z.up ≡ true) → ⊥) → IsDown s source
source-down s source y w n f = go y.up refl
  where
    go : (b : Bool) → y.up ≡ b → IsDown s source
    go false e = record { replica = y; at = n; down = e }
    go true e = absurd (f (λ z h m. subst (λ (v : Replica). v.up ≡ true) (one-replica s y z w n.is_in h (n.number ∙ sym m)) e))

held-nowhere : (s : Cluster) (k : ℕ) (x : Replica) (p : Option ℕ) (n : ℕ) (digest : List ℕ) → x.number ≡ k → LacksBlock x p n → ((y : Replica) → IsOther s k y → IsHolder (length x.log) p n y → ⊥) → KeepsBlock x p n digest ⊎ IsHeld s x.number (length x.log) p n digest → ⊥
held-nowhere s k x p n digest e l f (inl b) = l b.block b.staged
held-nowhere s k x p n digest e l f (inr h) = f h.holder (record { is_in = h.other.is_in; up = h.other.up; other = λ q. h.other.other (q ∙ sym e) }) (elim h.has [ inl c ↦ inl c | inr b ↦ inr (b.block, b.staged) ])

-- a part that an entry lacks whose replica has done all before it is that of a Get, whose source is down
lacks-source : (s : Cluster) (k i : ℕ) (h : HasDone s k i) (e : Entry) (a : Name) → IsWhole s → WaitsAt s k i h.replica e → LacksPart s k h.replica e a → (l : LacksSource s k a (source_of e)) × (l.place ≡ i)
lacks-source s k i h (entries.Get p n digest source need) a w t l = (
  record {
    place = i;
    partition = p;
    number = n;
    need = need;
    digest = digest;
    before = h;
    waits = t;
    lacks = l;
    down =
        let has = (w.committed i p n source need digest (subst (λ (z : List Entry). entry_at z i ≡ Some (entries.Get p n digest source need)) h.whole t.at)).1 in
        source-down s source has.replica w (record { is_in = has.is_in; number = has.numbered })
        (λ up. held-nowhere s k h.replica p n digest t.is.at.number l.1 l.2 (get-ready s h.replica i p n source need digest w t.is.at.is_in h.whole t.waits t.at up));
  },
  refl,
)
lacks-source s k i h (entries.Merge new sources count) a w t l =
    absurd (no-first sources (names_of h.replica.parts) a (merge-ready s.table.schema h.replica i new sources count (Follows.stands (Each-at (Follows s) s.replicas h.replica w.follow t.is.at.is_in)) t.waits h.done t.at) l)
lacks-source s k i h (entries.Mutate old new upto count mcount) a w t l =
    absurd (no-first (old ∷ []) (names_of h.replica.parts) a (mutate-ready s.table.schema h.replica i old new upto count mcount (Follows.stands (Each-at (Follows s) s.replicas h.replica w.follow t.is.at.is_in)) t.waits h.done t.at, tt) l)
lacks-source s k i h (entries.Mutation id numbers command) a w t l = absurd l
lacks-source s k i h (entries.DropRange p n) a w t l = absurd l

-- the same once the event is stored
lacks-stored : (s : Cluster) (k : ℕ) (a : Name) (source : ℕ) (events : List (Event × Reply)) → LacksSource s k a source → LacksSource (record s { events = events }) k a source
lacks-stored s k a source events l =
    let h = l.before in record {
      place = l.place;
      partition = l.partition;
      number = l.number;
      need = l.need;
      digest = l.digest;
      before = record { replica = h.replica; is = record { at = record { is_in = h.is.at.is_in; number = h.is.at.number }; up = h.is.up }; allowed = h.allowed; whole = h.whole; done = h.done };
      waits = record { is = record { at = record { is_in = l.waits.is.at.is_in; number = l.waits.is.at.number }; up = l.waits.is.up }; waits = l.waits.waits; at = l.waits.at };
      lacks = (l.lacks.0, l.lacks.1, λ y o. l.lacks.2 y (record { is_in = o.is_in; up = o.up; other = o.other }));
      down = record { replica = l.down.replica; at = record { is_in = l.down.at.is_in; number = l.down.at.number }; down = l.down.down };
    }

apply-lacks : (s t : Cluster) (k i : ℕ) (x : Replica) (reply : Reply) (a : Name) (source : ℕ) → IsWhole s → IsNumbered s k x → HasDone s k i → i < length s.table.log → Step s (ev.Apply k i) reply t → missing reply ≡ Some a
    → ((e : Entry) → entry_at x.log i ≡ Some e → source ≡ source_of e) → CantDo s k i a source t
unfolding lacks-stored lacks-source
apply-lacks s t k i x reply a source w n h l g m told = go g.does
  where
    one-name : (b c : Name) → ◌≡◌ {A = Option Name} (Some b) (Some c) → b ≡ c
    one-name b c e = cc

    go : Applies s k i reply g.after ⊎ Declines s (NoApply s k i) reply g.after → CantDo s k i a source t
    go (inl c) = absurd (let q = sym m ∙ ap missing c.answer in cc)
    go (inr d) =
        let u = h.is in
        let p = one-up s k x h.replica w n u.at in
        let c = apply-cause s k i h.replica d.why w u (subst (λ (z : List Entry). i < length z) (sym h.whole) l) h.allowed d.cause in
        let b : c.0 ≡ a = one-name c.0 a (sym (ap missing (d.answer ∙ ap rp.Refused c.1)) ∙ m) in
        let k1 = lacks-source s k i h c.2 c.0 w c.3 c.4 in
        let o : source_of c.2 ≡ source = sym (told c.2 (subst (λ (z : Replica). entry_at z.log i ≡ Some c.2) (sym p) (WaitsAt.at c.3))) in
        let z : t ≡ record s { events = (ev.Apply k i, reply) ∷ g.after.events } = g.stored ∙ ap (λ (v : Cluster). record v { events = (ev.Apply k i, reply) ∷ g.after.events }) d.unchanged in
        let lost = subst (λ (v : Cluster). (y : LacksSource v k a source) × (y.place ≡ i)) (sym z)
        (subst (λ (v : ℕ). (y : LacksSource (record s { events = (ev.Apply k i, reply) ∷ g.after.events }) k a v) × (y.place ≡ i)) o
        (subst (λ (v : Name). (y : LacksSource (record s { events = (ev.Apply k i, reply) ∷ g.after.events }) k v (source_of c.2)) × (y.place ≡ i)) b
        (lacks-stored s k c.0 (source_of c.2) ((ev.Apply k i, reply) ∷ g.after.events) k1.0, k1.1))) in
        record { reply = reply; step = g; source_lost = lost.0; there = lost.1 }

-- ---- told by the step's call

pub pulled-told : (s t : Cluster) (k : ℕ) (q : Result Reply AllocError) (b : Bool) → IsWhole s → MayFetchAt s k → is_err q ≡ false → IfOk q (λ reply. Step s (ev.Pull k) reply t) → MatchResult q (λ r. b ≡ pulled r) (λ e. b ≡ false) → b ≡ true → PullsAll s k t
pulled-told s t k (Ok reply) b w f e g m h = pull-done s t k reply w f g (sym m ∙ h)
pulled-told s t k (Err z) b w f e g m h = absurd (cc)

pub down-told : (s t : Cluster) (k : ℕ) (q : Result Reply AllocError) (b : Bool) → is_err q ≡ false → IfOk q (λ reply. Step s (ev.Pull k) reply t) → MatchResult q (λ r. b ≡ pulled r) (λ e. b ≡ false) → b ≡ false → IsRefused s k t
down-told s t k (Ok reply) b e g m h = pull-down s t k reply g (sym m ∙ h)
down-told s t k (Err z) b e g m h = absurd (cc)

pub done-told : (s t : Cluster) (k i : ℕ) (x : Replica) (q : Result Reply AllocError) (o : Option Name) → is_err q ≡ false → IfOk q (λ reply. Step s (ev.Apply k i) reply t) → MatchResult q (λ r. o ≡ missing r) (λ e. o ≡ None) → o ≡ None
    → IsWhole s → IsNumbered s k x → HasDone s k i → i < length s.table.log → DoesEntry s k i t
done-told s t k i x (Ok reply) o e g m h w n d l = apply-done s t k i x reply w n d l g (sym m ∙ h)
done-told s t k i x (Err z) o e g m h w n d l = absurd (cc)

pub lacks-told : (s t : Cluster) (k i source : ℕ) (x : Replica) (q : Result Reply AllocError) (o : Option Name) (a : Name) → is_err q ≡ false → IfOk q (λ reply. Step s (ev.Apply k i) reply t) → MatchResult q (λ r. o ≡ missing r) (λ e. o ≡ None) → o ≡ Some a
    → IsWhole s → IsNumbered s k x → HasDone s k i → i < length s.table.log → ((e : Entry) → entry_at x.log i ≡ Some e → source ≡ source_of e) → CantDo s k i a source t
lacks-told s t k i source x (Ok reply) o a e g m h w n d l told = apply-lacks s t k i x reply a source w n d l g (sym m ∙ h) told
lacks-told s t k i source x (Err z) o a e g m h w n d l told = absurd (cc)

-- ---- from entry to entry

-- a replica that has done all below a place, and passed over what was done from there on
pub passed-on : (s : Cluster) (k from i : ℕ) (x : Replica) → IsWhole s → IsNumbered s k x → HasDone s k from → ((j : ℕ) → from ≤ j → j < i → done_at x.done j ≡ true) → HasDone s k i
passed-on s k from i x w n h p = record { replica = h.replica; is = h.is; allowed = h.allowed; whole = h.whole; done = λ j l. go j l (before j) }
  where
    q : x ≡ h.replica
    q = one-up s k x h.replica w n (IsUp.at h.is)

    before : (j : ℕ) → (j < from) ⊎ (from ≤ j)
    before j = grind arith

    go : (j : ℕ) → j < i → (j < from) ⊎ (from ≤ j) → done_at h.replica.done j ≡ true
    go j l (inl b) = h.done j b
    go j l (inr b) = subst (λ (z : Replica). done_at z.done j ≡ true) q (p j b l)

-- the next entry of a replica, where those below the greater of two places are done
pub next-entry : (s : Cluster) (k from first : ℕ) (x : Replica) (o : Option ℕ) → IsWhole s → IsNumbered s k x → HasDone s k from → ((j : ℕ) → j < first → done_at x.done j ≡ true) → IsNext x (max from first) o → IsNextEntry s k from o
unfolding passed-on
next-entry s k from first x None w n h f m =
    let q = ap (λ (z : Replica). length z.log) (one-up s k x h.replica w n (IsUp.at h.is)) in
    let e = ap length h.whole in
    passed-on s k from (length s.table.log) x w n h (λ j a b. below j (grind arith) (omega (arith, b, q, e)))
  where
    below : (j : ℕ) → (j < first) ⊎ (first ≤ j) → j < length x.log → done_at x.done j ≡ true
    below j (inl c) l = f j c
    below j (inr c) l = go (grind arith) l
      where
        go : (j < from) ⊎ (from ≤ j) → j < length x.log → done_at x.done j ≡ true
        go (inl d) l = subst (λ (z : Replica). done_at z.done j ≡ true) (sym (one-up s k x h.replica w n (IsUp.at h.is))) (h.done j d)
        go (inr d) l = m j (grind arith) l
next-entry s k from first x (Some i) w n h f m = record {
  from_on = let a = m.from_on in grind (arith, a);
  within = let q = ap (λ (z : Replica). length z.log) (one-up s k x h.replica w n (IsUp.at h.is)) in let e = ap length h.whole in let l = m.within in omega (arith, l, q, e);
  done = passed-on s k from i x w n h (λ j a b. below j (grind arith) b);
  pending = subst (λ (z : Replica). done_at z.done i ≡ false) (one-up s k x h.replica w n (IsUp.at h.is)) m.pending;
}
  where
    below : (j : ℕ) → (j < first) ⊎ (first ≤ j) → j < i → done_at x.done j ≡ true
    below j (inl c) l = f j c
    below j (inr c) l = go (grind arith) l
      where
        go : (j < from) ⊎ (from ≤ j) → j < i → done_at x.done j ≡ true
        go (inl d) l = subst (λ (z : Replica). done_at z.done j ≡ true) (sym (one-up s k x h.replica w n (IsUp.at h.is))) (h.done j d)
        go (inr d) l = m.passed j (grind arith) l

-- where there is none, all is done
pub next-none : (s : Cluster) (k from : ℕ) (o : Option ℕ) → ((i : ℕ) → o ≡ Some i → ⊥) → IsNextEntry s k from o → HasDone s k (length s.table.log)
next-none s k from None f n = n
next-none s k from (Some i) f n = absurd (f i refl)

pub next-few : (s : Cluster) (k from : ℕ) (o : Option ℕ) → IsNextEntry s k from o → length s.table.log ≤ 65536 → IfSome o (λ i. i < 65536)
next-few s k from None n l = tt
next-few s k from (Some i) n l = let w = n.within in omega (arith, w, l)

-- ---- the log stays while entries are done

applied-log : (s t : Cluster) (k i : ℕ) (reply : Reply) → Step s (ev.Apply k i) reply t → t.table.log ≡ s.table.log
applied-log s t k i reply g = ap (λ (z : Cluster). z.table.log) g.stored ∙ go g.does
  where
    go : Applies s k i reply g.after ⊎ Declines s (NoApply s k i) reply g.after → g.after.table.log ≡ s.table.log
    go (inl a) = ap (λ (z : Cluster). z.table.log) a.at.change
    go (inr d) = ap (λ (z : Cluster). z.table.log) d.unchanged

pub log-told : (s t : Cluster) (k i : ℕ) (q : Result Reply AllocError) → IfOk q (λ reply. Step s (ev.Apply k i) reply t) → OnErr q (t.table.log ≡ s.table.log) → t.table.log ≡ s.table.log
log-told s t k i (Ok reply) g e = applied-log s t k i reply g
log-told s t k i (Err z) g e = e

-- ---- the loop of a sync

-- the pull, the events so far, and what the replica has done: its marks from here on are as they were after the pull
pub record IsSyncing (s : Cluster) (k from : ℕ) (t : Cluster) : Type 0 where
  pub whole : IsWhole s
  pub pulled : Cluster
  pub reply : Reply
  pub pulls : Step s (ev.Pull k) reply pulled
  pub events : List (Event × Reply)
  pub made : After pulled events t
  pub applied : AreApplied pulled k from events
  pub first : Replica
  pub at : IsNumbered pulled k first
  pub within : from ≤ length pulled.table.log
  pub log : t.table.log ≡ pulled.table.log
  pub done : HasDone t k from
  pub kept : (y : Replica) → IsNumbered t k y → (j : ℕ) → from ≤ j → done_at y.done j ≡ done_at first.done j
  pub schema : t.table.schema ≡ s.table.schema
  pub replicas : length t.replicas ≡ length s.replicas

applied-below : (s : Cluster) (k a b : ℕ) (xs : List (Event × Reply)) → a ≤ b → AreApplied s k a xs → AreApplied s k b xs
applied-below s k a b [] l f = tt
applied-below s k a b ((ev.Allocate r block need, q) ∷ xs) l f = absurd f
applied-below s k a b ((ev.Again id, q) ∷ xs) l f = absurd f
applied-below s k a b ((ev.Stage id, q) ∷ xs) l f = absurd f
applied-below s k a b ((ev.Commit id, q) ∷ xs) l f = absurd f
applied-below s k a b ((ev.Abandon id, q) ∷ xs) l f = absurd f
applied-below s k a b ((ev.Pull r, q) ∷ xs) l f = absurd f
applied-below s k a b ((ev.Apply r i, q) ∷ xs) l f = (f.0, let m = f.1 in omega (arith, m, l), f.2, f.3)
applied-below s k a b ((ev.Merge r sources, q) ∷ xs) l f = absurd f
applied-below s k a b ((ev.Mutate r old upto, q) ∷ xs) l f = absurd f
applied-below s k a b ((ev.CreateMutation command, q) ∷ xs) l f = absurd f
applied-below s k a b ((ev.DropPartition p, q) ∷ xs) l f = absurd f
applied-below s k a b ((ev.Kill r, q) ∷ xs) l f = absurd f
applied-below s k a b ((ev.Restart r, q) ∷ xs) l f = absurd f
applied-below s k a b ((ev.Note r, q) ∷ xs) l f = absurd f
applied-below s k a b ((ev.Fetches r allowed, q) ∷ xs) l f = absurd f

pub syncing-begins : (s t : Cluster) (k : ℕ) → IsWhole s → PullsAll s k t → t.table.schema ≡ s.table.schema → length t.replicas ≡ length s.replicas → IsSyncing s k 0 t
syncing-begins s t k w p m n = record {
  whole = w;
  pulled = t;
  reply = p.reply;
  pulls = p.pulls;
  events = [];
  made = refl;
  applied = tt;
  first = p.done.replica;
  at = p.done.is.at;
  within = omega arith;
  log = refl;
  done = p.done;
  kept = λ y at j l. ap (λ (z : Replica). done_at z.done j) (one-up t k y p.done.replica p.whole at p.done.is.at);
  schema = m;
  replicas = n;
}

-- a sync whose last event was of the entry at a place
syncs-to : (s t u : Cluster) (k from i : ℕ) (reply : Reply) → (f : IsSyncing s k from t) → IsNextDone t k from i → Step t (ev.Apply k i) reply u → (y : Drains s k u) × IsPendingAt y.pulled k i × AreApplied f.pulled k (i + 1) ((ev.Apply k i, reply) ∷ f.events)
syncs-to s t u k from i reply f d g =
    let pending : IsPendingAt f.pulled k i = record { replica = f.first; at = f.at; pending = sym (f.kept d.done.replica d.done.is.at i d.from_on) ∙ d.pending } in
    let earlier = applied-below f.pulled k from i f.events d.from_on f.applied in
    let l : i < length f.pulled.table.log = let e = ap length f.log in let m = d.within in omega (arith, e, m) in (
      record {
        pulled = f.pulled;
        reply = f.reply;
        pulls = f.pulls;
        events = (ev.Apply k i, reply) ∷ f.events;
        made = (t, f.made, g);
        applied = (refl, l, pending, earlier);
      },
      pending,
      (refl, omega arith, pending, earlier),
    )

-- so far
syncs-now : (s t : Cluster) (k from : ℕ) → IsSyncing s k from t → Drains s k t
syncs-now s t k from f = record { pulled = f.pulled; reply = f.reply; pulls = f.pulls; events = f.events; made = f.made; applied = applied-below f.pulled k from (length f.pulled.table.log) f.events f.within f.applied }

-- a sync that did all
pub sync-done : (s t : Cluster) (k from : ℕ) → IsSyncing s k from t → HasDone t k (length t.table.log) → Drains s k t × HasDone t k (length t.table.log)
sync-done s t k from f d = (syncs-now s t k from f, d)

-- a sync that stopped at an entry
pub sync-stopped : (s t u : Cluster) (k from i : ℕ) (e : SyncError) → IsSyncing s k from t → IsNextDone t k from i → DoesNext t k i (Err e) u → DrainsTo s k (Err e) u
sync-stopped s t u k from i errors.ReplicaDown f n d = absurd d
sync-stopped s t u k from i errors.FetchesStopped f n d = absurd d
sync-stopped s t u k from i (errors.NoSource part source) f n d =
    let y = syncs-to s t u k from i d.reply f n d.step in
    record { drains = y.0; source_lost = d.source_lost; pending = subst (λ j. IsPendingAt (y.0).pulled k j) (sym d.there) y.1 }
sync-stopped s t u k from i errors.Memory f n d = inr (record { mid = t; entry = i; drains = syncs-now s t k from f; stops = d })

-- a sync that stopped at its pull
pub pull-stopped : (s t : Cluster) (k : ℕ) (e : SyncError) → PullsFor s k (Err e) t → DrainsTo s k (Err e) t
pull-stopped s t k errors.ReplicaDown d = d
pull-stopped s t k errors.FetchesStopped d = absurd d
pull-stopped s t k (errors.NoSource part source) d = absurd d
pull-stopped s t k errors.Memory d = inl d

pub syncing-on : (s t u : Cluster) (k from i : ℕ) → IsSyncing s k from t → IsNextDone t k from i → DoesEntry t k i u → u.table.log ≡ t.table.log → u.table.schema ≡ t.table.schema → length u.replicas ≡ length t.replicas → IsSyncing s k (i + 1) u
syncing-on s t u k from i f n d g m l =
    let y = syncs-to s t u k from i d.reply f n d.step in record {
      whole = f.whole;
      pulled = f.pulled;
      reply = f.reply;
      pulls = f.pulls;
      events = (ev.Apply k i, d.reply) ∷ f.events;
      made = (t, f.made, d.step);
      applied = y.2;
      first = f.first;
      at = f.at;
      within = let e = ap length f.log in let b = n.within in omega (arith, e, b);
      log = g ∙ f.log;
      done = d.done;
      kept = λ z at j b. d.later n.done.replica z n.done.is.at at j (omega (arith, b)) ∙ f.kept n.done.replica n.done.is.at j (let c = n.from_on in omega (arith, b, c));
      schema = m ∙ f.schema;
      replicas = l ∙ f.replicas;
    }

-- ---- a sync that can't fail

-- one replica that is up changed, and is up: who is down was so before
down-at : (s u : Cluster) (k m : ℕ) (y : Replica) → u.replicas ≡ with_replica s.replicas k y → y.up ≡ true → IsDown u m → IsDown s m
down-at s u k m y e up d = elim (has-with s.replicas k y d.replica (subst (λ (xs : List Replica). Has xs d.replica) e d.at.is_in)) [
  | inl q ↦ absurd (let a = ap (λ (z : Replica). z.up) q in let b = d.down in cc)
  | inr h ↦ record { replica = d.replica; at = record { is_in = h; number = d.at.number }; down = d.down }
]

down-same : (s u : Cluster) (m : ℕ) → u.replicas ≡ s.replicas → IsDown u m → IsDown s m
down-same s u m e d = record { replica = d.replica; at = record { is_in = subst (λ (xs : List Replica). Has xs d.replica) e d.at.is_in; number = d.at.number }; down = d.down }

pull-downs : (s u : Cluster) (k m : ℕ) (reply : Reply) → Step s (ev.Pull k) reply u → IsDown u m → IsDown s m
pull-downs s u k m reply g d = go g.does
  where
    go : PullsLog s k reply g.after ⊎ Declines s (NoPull s k) reply g.after → IsDown s m
    go (inl p) = down-at s u k m p.at.new (ap (λ (z : Cluster). z.replicas) g.stored ∙ ap (λ (z : Cluster). z.replicas) p.at.change) (ap (λ (z : Replica). z.up) p.at.does ∙ p.at.up) d
    go (inr p) = down-same s u m (ap (λ (z : Cluster). z.replicas) g.stored ∙ ap (λ (z : Cluster). z.replicas) p.unchanged) d

apply-downs : (s u : Cluster) (k i m : ℕ) (reply : Reply) → Step s (ev.Apply k i) reply u → IsDown u m → IsDown s m
apply-downs s u k i m reply g d = go g.does
  where
    go : Applies s k i reply g.after ⊎ Declines s (NoApply s k i) reply g.after → IsDown s m
    go (inl p) = down-at s u k m p.at.new (ap (λ (z : Cluster). z.replicas) g.stored ∙ ap (λ (z : Cluster). z.replicas) p.at.change) (IsMarked.up (marked s i p.comes p.at.old p.at.new p.at.does.1) ∙ p.at.up) d
    go (inr p) = down-same s u m (ap (λ (z : Cluster). z.replicas) g.stored ∙ ap (λ (z : Cluster). z.replicas) p.unchanged) d

-- entries that were looked at leave the log, and who is down was so before
after-applied : (s u : Cluster) (k below m : ℕ) (xs : List (Event × Reply)) (p : Cluster) → After s xs u → AreApplied p k below xs → (u.table.log ≡ s.table.log) × (IsDown u m → IsDown s m)
after-applied s u k below m [] p a f = (ap (λ (z : Cluster). z.table.log) a, λ d. subst (λ (z : Cluster). IsDown z m) a d)
after-applied s u k below m ((ev.Apply r i, reply) ∷ xs) p a f =
    let e = after-applied s a.0 k i m xs p a.1 f.3 in
    (applied-log a.0 u r i reply a.2 ∙ e.0, λ d. e.1 (apply-downs a.0 u r i m reply a.2 d))
after-applied s u k below m ((ev.Allocate r block need, q) ∷ xs) p a f = absurd f
after-applied s u k below m ((ev.Again id, q) ∷ xs) p a f = absurd f
after-applied s u k below m ((ev.Stage id, q) ∷ xs) p a f = absurd f
after-applied s u k below m ((ev.Commit id, q) ∷ xs) p a f = absurd f
after-applied s u k below m ((ev.Abandon id, q) ∷ xs) p a f = absurd f
after-applied s u k below m ((ev.Pull r, q) ∷ xs) p a f = absurd f
after-applied s u k below m ((ev.Merge r sources, q) ∷ xs) p a f = absurd f
after-applied s u k below m ((ev.Mutate r old upto, q) ∷ xs) p a f = absurd f
after-applied s u k below m ((ev.CreateMutation command, q) ∷ xs) p a f = absurd f
after-applied s u k below m ((ev.DropPartition n, q) ∷ xs) p a f = absurd f
after-applied s u k below m ((ev.Kill r, q) ∷ xs) p a f = absurd f
after-applied s u k below m ((ev.Restart r, q) ∷ xs) p a f = absurd f
after-applied s u k below m ((ev.Note r, q) ∷ xs) p a f = absurd f
after-applied s u k below m ((ev.Fetches r allowed, q) ∷ xs) p a f = absurd f

pulled-log : (s u : Cluster) (k : ℕ) (reply : Reply) → Step s (ev.Pull k) reply u → u.table.log ≡ s.table.log
pulled-log s u k reply g = ap (λ (z : Cluster). z.table.log) g.stored ∙ go g.does
  where
    go : PullsLog s k reply g.after ⊎ Declines s (NoPull s k) reply g.after → g.after.table.log ≡ s.table.log
    go (inl p) = ap (λ (z : Cluster). z.table.log) p.at.change
    go (inr p) = ap (λ (z : Cluster). z.table.log) p.unchanged

-- a replica that is up lacks no part where all sources are up
pub none-lost : (s t : Cluster) (k : ℕ) (e : SyncError) → IsWhole s → DrainsTo s k (Err e) t → (x : Replica) → IsUp s k x → SourcesAreUp s → IsDoneOrStopped (Err e)
none-lost s t k errors.ReplicaDown w d x u f = absurd (up-not-down s k x w u d.down)
none-lost s t k errors.FetchesStopped w d x u f = absurd d
none-lost s t k (errors.NoSource part source) w d x u f =
    let y = d.drains in
    let l = d.source_lost in
    let a = after-applied y.pulled t k (length y.pulled.table.log) source y.events y.pulled y.made y.applied in
    let e = l.before.whole ∙ (a.0 ∙ pulled-log s y.pulled k y.reply y.pulls) in
    f l.place l.partition l.number source l.need l.digest (subst (λ (z : List Entry). entry_at z l.place ≡ Some (entries.Get l.partition l.number l.digest source l.need)) e l.waits.at)
    (pull-downs s y.pulled k source y.reply y.pulls (a.1 l.down))
none-lost s t k errors.Memory w d x u f = tt
