-- Merges and mutations of parts that a worker assigns, as a cluster sees them.
use Rattle.std.proofs.Common.{◌≡◌, ℕ, ◌+◌, inl, inr, true, false, List, length, refl, sym, ap, subst}
use Rattle.std.specs.Prelude.{slice_get, IfOk, IfErr, IfSome, IsErr, OnOk, OnErr, MatchOption}
use Rattle.std.specs.declared.alloc.AllocError.{AllocError}
use Rattle.std.specs.declared.option.Option.{Option}
use Rattle.std.specs.declared.option.Option.TheVariants.{Some, None}
use Rattle.std.specs.declared.result.Result.{Result}
use Rattle.std.specs.declared.result.Result.TheVariants.{Ok, Err}
use Rattle.rmt_names.specs.Names.{Name}
use Rattle.rmt_entries.specs.declared.entry.Entry.{Entry}
use Rattle.rmt_row.specs.Token.{Token}
use Rattle.rmt_table_model.specs.Held.{Held}
use Rattle.rmt_table.specs.TableTrees.{table_at, IsMergeOf, IsMutateOf}
use Rattle.rmt_table.specs.Causes.{merge_cause, mutate_cause}
use Rattle.rmt_table.specs.declared.merge_error.MergeError.{MergeError}
use Rattle.rmt_table.specs.declared.mutate_error.MutateError.{MutateError}
use Rattle.rmt_replica.specs.Replicas.{ReplicaView}
use Rattle.rmt_replica.specs.SeenReplica.{shown}
use Rattle.rmt_events.specs.Views.{Table}
use Rattle.rmt_events.specs.Clusters.{Attempt, Cluster}
use Rattle.rmt_events.specs.ClusterChanges.{IsUp, Declines}
use Rattle.rmt_events.specs.TableRefusals.{NotMerged, NotMutated}
use Rattle.rmt_events.specs.LogEvents.{AreMergeable, IsMutable, IsCaughtUp, NoMerge, NoMutate}
use Rattle.rmt_events.specs.declared.event.Event.{Event}
use Rattle.rmt_events.specs.declared.reply.Reply.{Reply}
use Rattle.rmt_events.specs.declared.step_refused.StepRefused.{StepRefused}
use Rattle.rmt_events.specs.declared.event.Event.TheVariants as ev
use Rattle.rmt_events.specs.declared.reply.Reply.TheVariants as rp
use Rattle.rmt_events.specs.declared.step_refused.StepRefused.TheVariants as rf
use Rattle.rmt_state.specs.States.{StateView, IsState, cluster_of, Acts}
use Rattle.rmt_state.specs.Causes.{IsMergeReply, IsMutateReply}
use Rattle.rmt_state.proofs.StateLemmas.{numbered-at, at-err, KeepsTable, GoesOn}
use Rattle.rmt_state.proofs.ChangeLemmas.{appends, appended-on}
use Rattle.rmt_state.proofs.PullLemmas.{down-in}

-- a worker of a state: the replica of a number, which stands at a place
pub record IsWorker (s : StateView) (k i : ℕ) (x : ReplicaView) : Type 0 where
  pub state : IsState s
  pub numbered : k ≡ 1 + i
  pub there : slice_get s.replicas i ≡ Some x

pub up-at : (s : StateView) (k i : ℕ) (x : ReplicaView) → IsWorker s k i x → x.up ≡ true → (made : ℕ) (attempts : List Attempt) (events : List (Event × Reply)) → IsUp (cluster_of s made attempts events) k (shown x)
up-at s k i x w u made attempts events = subst (λ m. IsUp (cluster_of s made attempts events) m (shown x)) (sym w.numbered) (record { at = numbered-at s i x made attempts events w.state w.there; up = u })

caught-up : (s : StateView) (k i : ℕ) (x : ReplicaView) (Meets : List Entry → Type 0) → IsWorker s k i x → x.up ≡ true → Meets x.log → length x.log ≡ length s.tree.log → (made : ℕ) (attempts : List Attempt) (events : List (Event × Reply)) → IsCaughtUp (cluster_of s made attempts events) k Meets
caught-up s k i x Meets w u m l made attempts events = record { replica = shown x; is = up-at s k i x w u made attempts events; meets = m; whole = l }

-- an event is refused, and the table stays
pub declined : (s : StateView) (new : Held) (Cause : Cluster → StepRefused → Type 0) (why : StepRefused) → new ≡ s.tree → (made : ℕ) (attempts : List Attempt) (events : List (Event × Reply)) → Cause (cluster_of s made attempts events) why
    → Declines (cluster_of s made attempts events) (Cause (cluster_of s made attempts events)) (rp.Refused why) (cluster_of (record s { tree = new }) made attempts events)
declined s new Cause why e made attempts events c = record { why = why; cause = c; answer = refl; unchanged = ap (λ (h : Held). cluster_of (record s { tree = h }) made attempts events) e }

-- what is answered where the table refused: the cause, if it has one
refusal-told : (o : Option StepRefused) (q : Result Reply AllocError) (Why : StepRefused → Type 0) (Told : Reply → Type 0) → IfSome o Why → ((why : StepRefused) → Why why → Told (rp.Refused why)) → MatchOption o (IsErr q) (λ why. q ≡ Ok (rp.Refused why)) → IfOk q Told
refusal-told (Some why) q Why Told n f a = subst (λ (z : Result Reply AllocError). IfOk z Told) (sym a) (f why n)
refusal-told None (Ok reply) Why Told n f a = absurd (cc)
refusal-told None (Err z) Why Told n f a = tt

-- ---- Merge

pub merge-down : (s : StateView) (k i : ℕ) (x : ReplicaView) (names : List Name) → IsWorker s k i x → x.up ≡ false → Acts s (ev.Merge k names) (rp.Refused rf.Down) s
merge-down s k i x names w u made attempts events =
    inr (declined s s.tree (λ c. NoMerge c k names) rf.Down refl made attempts events (subst (λ m. NoMerge (cluster_of s made attempts events) m names rf.Down) (sym w.numbered) (down-in s i x w.state w.there u made attempts events)))

pub merge-not-live : (s : StateView) (k i : ℕ) (x : ReplicaView) (names : List Name) → IsWorker s k i x → x.up ≡ true → (AreMergeable x.log names → ⊥) → Acts s (ev.Merge k names) (rp.Refused rf.NotLive) s
merge-not-live s k i x names w u n made attempts events = inr (declined s s.tree (λ c. NoMerge c k names) rf.NotLive refl made attempts events (shown x, up-at s k i x w u made attempts events, n))

pub merge-acts : (s : StateView) (new : Held) (k i : ℕ) (x : ReplicaView) (names : List Name) (token : Token Entry) (place : ℕ) → IsWorker s k i x → x.up ≡ true → AreMergeable x.log names → length x.log ≡ length s.tree.log → place ≡ length s.tree.log → IsMergeOf s.tree names token new
    → Acts s (ev.Merge k names) (rp.Entry place) (record s { tree = new })
merge-acts s new k i x names token place w u m l p d made attempts events = inl (record {
  caught_up = caught-up s k i x (λ log. AreMergeable log names) w u m l made attempts events;
  name = d.name;
  count = d.count;
  appends = appends s new _ place made attempts events p d.seen;
})

-- a merge at a worker that is up, whose names may be merged, and what its table answered
pub record WasMerged (s : StateView) (new : Held) (k i : ℕ) (x : ReplicaView) (names : List Name) (place : ℕ) (r : Result (Token Entry) MergeError) : Type 0 where
  pub worker : IsWorker s k i x
  pub up : x.up ≡ true
  pub chosen : AreMergeable x.log names
  pub place_is : place ≡ length s.tree.log
  pub done : IfOk r (λ token. IsMergeOf s.tree names token new)
  pub current : OnOk r (length x.log ≡ length s.tree.log)
  pub refused : IfErr r (λ e. IfSome (merge_cause e) (NotMerged (table_at s.tree) (length x.log) names))
  pub stays : OnErr r (new ≡ s.tree)

no-merge : (s : StateView) (new : Held) (k i : ℕ) (x : ReplicaView) (names : List Name) (place : ℕ) (e : MergeError) → WasMerged s new k i x names place (Err e) → (why : StepRefused) → NotMerged (table_at s.tree) (length x.log) names why → Acts s (ev.Merge k names) (rp.Refused why) (record s { tree = new })
no-merge s new k i x names place e m why n made attempts events = inr (declined s new (λ z. NoMerge z k names) why m.stays made attempts events (go why n))
  where
    go : (w : StepRefused) → NotMerged (table_at s.tree) (length x.log) names w → NoMerge (cluster_of s made attempts events) k names w
    go rf.Down c = absurd c
    go rf.NotLive c = absurd c
    go w c = (shown x, up-at s k i x m.worker m.up made attempts events, m.chosen, c)

pub merge-told : (s : StateView) (new : Held) (k i : ℕ) (x : ReplicaView) (names : List Name) (place : ℕ) (r : Result (Token Entry) MergeError) (q : Result Reply AllocError) → WasMerged s new k i x names place r → IsMergeReply place r q → IfOk q (λ reply. Acts s (ev.Merge k names) reply (record s { tree = new }))
merge-told s new k i x names place (Ok token) q m a =
    subst (λ (z : Result Reply AllocError). IfOk z (λ reply. Acts s (ev.Merge k names) reply (record s { tree = new }))) (sym a) (merge-acts s new k i x names token place m.worker m.up m.chosen m.current m.place_is m.done)
merge-told s new k i x names place (Err e) q m a =
    refusal-told (merge_cause e) q (NotMerged (table_at s.tree) (length x.log) names) (λ reply. Acts s (ev.Merge k names) reply (record s { tree = new })) m.refused (no-merge s new k i x names place e m) a

-- where no memory was left the table stays
pub merge-stays : (old new : Held) (place : ℕ) (r : Result (Token Entry) MergeError) (q : Result Reply AllocError) → OnErr r (new ≡ old) → IsMergeReply place r q → OnErr q (new ≡ old)
merge-stays old new place (Ok token) q e a = subst (λ (z : Result Reply AllocError). OnErr z (new ≡ old)) (sym a) tt
merge-stays old new place (Err z) q e a = at-err q (new ≡ old) e

pub merge-on : (old new : Held) (names : List Name) → KeepsTable old new → (token : Token Entry) → IsMergeOf old names token new → GoesOn old new
merge-on old new names n token d = appended-on _ old new (ap (λ (t : Table). t.schema) d.seen.change) (ap (λ (t : Table). t.log) d.seen.change) n

-- ---- Mutate

pub mutate-down : (s : StateView) (k i : ℕ) (x : ReplicaView) (old : Name) (upto : ℕ) → IsWorker s k i x → x.up ≡ false → Acts s (ev.Mutate k old upto) (rp.Refused rf.Down) s
mutate-down s k i x old upto w u made attempts events =
    inr (declined s s.tree (λ c. NoMutate c k old upto) rf.Down refl made attempts events (subst (λ m. NoMutate (cluster_of s made attempts events) m old upto rf.Down) (sym w.numbered) (down-in s i x w.state w.there u made attempts events)))

pub mutate-not-live : (s : StateView) (k i : ℕ) (x : ReplicaView) (old : Name) (upto : ℕ) → IsWorker s k i x → x.up ≡ true → (IsMutable x.log old upto → ⊥) → Acts s (ev.Mutate k old upto) (rp.Refused rf.NotLive) s
mutate-not-live s k i x old upto w u n made attempts events = inr (declined s s.tree (λ c. NoMutate c k old upto) rf.NotLive refl made attempts events (shown x, up-at s k i x w u made attempts events, n))

pub mutate-acts : (s : StateView) (new : Held) (k i : ℕ) (x : ReplicaView) (old : Name) (upto : ℕ) (token : Token Entry) (place : ℕ) → IsWorker s k i x → x.up ≡ true → IsMutable x.log old upto → length x.log ≡ length s.tree.log → place ≡ length s.tree.log → IsMutateOf s.tree old upto token new
    → Acts s (ev.Mutate k old upto) (rp.Entry place) (record s { tree = new })
mutate-acts s new k i x old upto token place w u m l p d made attempts events = inl (record {
  caught_up = caught-up s k i x (λ log. IsMutable log old upto) w u m l made attempts events;
  name = d.name;
  count = d.count;
  mcount = d.mcount;
  appends = appends s new _ place made attempts events p d.seen;
})

-- the mutation of a part at a worker that is up, and what its table answered
pub record WasMutated (s : StateView) (new : Held) (k i : ℕ) (x : ReplicaView) (old : Name) (upto place : ℕ) (r : Result (Token Entry) MutateError) : Type 0 where
  pub worker : IsWorker s k i x
  pub up : x.up ≡ true
  pub chosen : IsMutable x.log old upto
  pub place_is : place ≡ length s.tree.log
  pub done : IfOk r (λ token. IsMutateOf s.tree old upto token new)
  pub current : OnOk r (length x.log ≡ length s.tree.log)
  pub refused : IfErr r (λ e. IfSome (mutate_cause e) (NotMutated (table_at s.tree) (length x.log)))
  pub stays : OnErr r (new ≡ s.tree)

no-mutate : (s : StateView) (new : Held) (k i : ℕ) (x : ReplicaView) (old : Name) (upto place : ℕ) (e : MutateError) → WasMutated s new k i x old upto place (Err e) → (why : StepRefused) → NotMutated (table_at s.tree) (length x.log) why → Acts s (ev.Mutate k old upto) (rp.Refused why) (record s { tree = new })
no-mutate s new k i x old upto place e m why n made attempts events = inr (declined s new (λ z. NoMutate z k old upto) why m.stays made attempts events (go why n))
  where
    go : (w : StepRefused) → NotMutated (table_at s.tree) (length x.log) w → NoMutate (cluster_of s made attempts events) k old upto w
    go rf.Down c = absurd c
    go rf.NotLive c = absurd c
    go w c = (shown x, up-at s k i x m.worker m.up made attempts events, m.chosen, c)

pub mutate-told : (s : StateView) (new : Held) (k i : ℕ) (x : ReplicaView) (old : Name) (upto place : ℕ) (r : Result (Token Entry) MutateError) (q : Result Reply AllocError) → WasMutated s new k i x old upto place r → IsMutateReply place r q → IfOk q (λ reply. Acts s (ev.Mutate k old upto) reply (record s { tree = new }))
mutate-told s new k i x old upto place (Ok token) q m a =
    subst (λ (z : Result Reply AllocError). IfOk z (λ reply. Acts s (ev.Mutate k old upto) reply (record s { tree = new }))) (sym a) (mutate-acts s new k i x old upto token place m.worker m.up m.chosen m.current m.place_is m.done)
mutate-told s new k i x old upto place (Err e) q m a =
    refusal-told (mutate_cause e) q (NotMutated (table_at s.tree) (length x.log)) (λ reply. Acts s (ev.Mutate k old upto) reply (record s { tree = new })) m.refused (no-mutate s new k i x old upto place e m) a

pub mutate-stays : (old new : Held) (place : ℕ) (r : Result (Token Entry) MutateError) (q : Result Reply AllocError) → OnErr r (new ≡ old) → IsMutateReply place r q → OnErr q (new ≡ old)
mutate-stays old new place (Ok token) q e a = subst (λ (z : Result Reply AllocError). OnErr z (new ≡ old)) (sym a) tt
mutate-stays old new place (Err z) q e a = at-err q (new ≡ old) e

pub mutate-on : (old new : Held) (part : Name) (upto : ℕ) → KeepsTable old new → (token : Token Entry) → IsMutateOf old part upto token new → GoesOn old new
mutate-on old new part upto n token d = appended-on _ old new (ap (λ (t : Table). t.schema) d.seen.change) (ap (λ (t : Table). t.log) d.seen.change) n
