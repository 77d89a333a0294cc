-- A replica that notes the part that waits for its quorum, or may fetch from now on or not, as a cluster sees it.
use Rattle.std.proofs.Common.{◌≡◌, ℕ, ◌+◌, inl, inr, Bool, true, false, ◌↔◌, List, length, map, refl, sym, ap, subst, ◌∙◌}
use Rattle.std.specs.Prelude.{slice_get, slice_set, OnErr, IfOk}
use Rattle.std.specs.declared.alloc.AllocError.{AllocError}
use Rattle.std.specs.declared.result.Result.{Result}
use Rattle.std.specs.declared.result.Result.TheVariants.{Ok, Err}
use Rattle.std.specs.declared.option.Option.TheVariants.{Some}
use Rattle.rmt_names.specs.Names.{Name}
use Rattle.rmt_entries.specs.declared.entry.Entry.{Entry}
use Rattle.rmt_model.specs.Lawful.{IsPrefix}
use Rattle.rmt_model.specs.Fair.{CoveredBy}
use Rattle.rmt_table_model.specs.Held.{Held}
use Rattle.rmt_table.specs.TableTrees.{table_at}
use Rattle.rmt_replica.specs.Replicas.{ReplicaView}
use Rattle.rmt_replica.specs.NotedParts.{IsNote}
use Rattle.rmt_replica.specs.declared.replica_error.ReplicaError.{ReplicaError}
use Rattle.rmt_replica.specs.declared.replica_error.ReplicaError.TheVariants as errors
use Rattle.rmt_replica.specs.SeenReplica.{shown}
use Rattle.rmt_replica.proofs.CallViews.{notes-seen}
use Rattle.rmt_replica.proofs.StateViews.{names-shown}
use Rattle.rmt_events.specs.Views.{Replica, Table}
use Rattle.rmt_events.specs.Clusters.{Attempt, with_replica}
use Rattle.rmt_events.specs.TableCalls.{Notes}
use Rattle.rmt_events.specs.ClusterChanges.{IsNumbered}
use Rattle.rmt_events.specs.declared.event.Event.{Event}
use Rattle.rmt_events.specs.declared.event.Event.TheVariants as ev
use Rattle.rmt_events.specs.declared.reply.Reply.{Reply}
use Rattle.rmt_events.specs.declared.reply.Reply.TheVariants as rp
use Rattle.rmt_events.specs.declared.step_refused.StepRefused.TheVariants as rf
use Rattle.rmt_state.specs.States.{StateView, Belongs, IsState, cluster_of, Acts}
use Rattle.rmt_state.specs.Notes.{IsReplyTo}
use Rattle.rmt_state.proofs.StateLemmas.{prefix-self, at-place, numbered-at, replicas-set, at-err, KeepsTable, GoesOn, goes-on-same}
use Rattle.rmt_state.proofs.SessionLemmas.{changed-state}
use Rattle.rmt_state.proofs.PullLemmas.{down-in, down-told, same-state}

-- ---- a note

-- what a note did, by what its replica answered
pub record WasNoted (s t : StateView) (i : ℕ) (x y : ReplicaView) (r : Result Bool ReplicaError) : Type 0 where
  pub there : slice_get s.replicas i ≡ Some x
  pub set : t.replicas ≡ slice_set s.replicas i y
  pub noted : IfOk r (λ b. IsNote x s.tree b y t.tree)
  pub down : (r ≡ Err errors.Down) ↔ (x.up ≡ false)
  pub stays : OnErr r (y ≡ x)
  pub table_stays : OnErr r (t.tree ≡ s.tree)

-- what a note leaves of the table
notes-on : (old new : Held) (k : ℕ) → Notes (table_at old) k (table_at new) → KeepsTable old new → GoesOn old new
notes-on old new k c n = record {
  schema = ap (λ (t : Table). t.schema) c;
  log = subst (λ (l : List Entry). IsPrefix old.log l) (sym (ap (λ (t : Table). t.log) c)) (prefix-self old.log);
  table = n;
}

-- the cluster is as it was where the replica and the table are
same-cluster : (s t : StateView) (i : ℕ) (x y : ReplicaView) (made : ℕ) (attempts : List Attempt) (events : List (Event × Reply)) → slice_get s.replicas i ≡ Some x → t.replicas ≡ slice_set s.replicas i y → y ≡ x → t.tree ≡ s.tree
    → cluster_of t made attempts events ≡ cluster_of s made attempts events
same-cluster s t i x y made attempts events e q c h =
    ap (λ (v : StateView). cluster_of v made attempts events) (ap (λ (l : List ReplicaView). record t { replicas = l }) q ∙ same-state s.tree t.tree s.replicas i x y e c h)

noted-acts : (s t : StateView) (i : ℕ) (x y : ReplicaView) → IsState s → slice_get s.replicas i ≡ Some x → x.up ≡ true → t.replicas ≡ slice_set s.replicas i y → IsNote x s.tree true y t.tree → Acts s (ev.Note (1 + i)) (rp.Noted true) t
noted-acts s t i x y w e u q n made attempts events = inl (record {
  old = shown x;
  new = shown y;
  is = record { at = numbered-at s i x made attempts events w e; up = u };
  waiting = n.waiting;
  waits = n.waits;
  notes = notes-seen x n.waiting.part y n.covered n.lists n.others;
  table = table_at t.tree;
  call = subst (λ m. Notes (table_at s.tree) m (table_at t.tree)) (Belongs.numbered (at-place s.tree 1 s.replicas i x w.numbered e)) n.call.seen;
  answer = refl;
  change = ap (λ (rs : List Replica). record (cluster_of t made attempts events) { replicas = rs }) (ap (map shown) q ∙ replicas-set s i x y w e);
})

nothing-acts : (s t : StateView) (i : ℕ) (x y : ReplicaView) → IsState s → slice_get s.replicas i ≡ Some x → x.up ≡ true → t.replicas ≡ slice_set s.replicas i y → IsNote x s.tree false y t.tree → Acts s (ev.Note (1 + i)) (rp.Noted false) t
nothing-acts s t i x y w e u q n made attempts events = inr (inl (record {
  replica = shown x;
  is = record { at = numbered-at s i x made attempts events w e; up = u };
  none = λ p m c. n.0 p m (subst (λ (names : List Name). CoveredBy names p.part) (names-shown x.parts) c);
  answer = refl;
  unchanged = same-cluster s t i x y made attempts events e q n.1 n.2;
}))

refused-acts : (s t : StateView) (i : ℕ) (x y : ReplicaView) → IsState s → slice_get s.replicas i ≡ Some x → x.up ≡ false → t.replicas ≡ slice_set s.replicas i y → y ≡ x → t.tree ≡ s.tree → Acts s (ev.Note (1 + i)) (rp.Refused rf.Down) t
refused-acts s t i x y w e u q c h made attempts events = inr (inr (record {
  why = rf.Down;
  cause = down-in s i x w e u made attempts events;
  answer = refl;
  unchanged = same-cluster s t i x y made attempts events e q c h;
}))

pub note-done : (s t : StateView) (k i : ℕ) (x y : ReplicaView) (r : Result Bool ReplicaError) (q : Result Reply AllocError) → IsState s → k ≡ 1 + i → WasNoted s t i x y r → IsReplyTo r q → IfOk q (λ reply. Acts s (ev.Note k) reply t)
note-done s t k i x y (Ok true) q w e p a =
    subst (λ (z : Result Reply AllocError). IfOk z (λ reply. Acts s (ev.Note k) reply t)) (sym a)
    (subst (λ m. Acts s (ev.Note m) (rp.Noted true) t) (sym e) (noted-acts s t i x y w p.there (down-told (Ok true) x.up p.down) p.set p.noted))
note-done s t k i x y (Ok false) q w e p a =
    subst (λ (z : Result Reply AllocError). IfOk z (λ reply. Acts s (ev.Note k) reply t)) (sym a)
    (subst (λ m. Acts s (ev.Note m) (rp.Noted false) t) (sym e) (nothing-acts s t i x y w p.there (down-told (Ok false) x.up p.down) p.set p.noted))
note-done s t k i x y (Err errors.Down) q w e p a =
    subst (λ (z : Result Reply AllocError). IfOk z (λ reply. Acts s (ev.Note k) reply t)) (sym a)
    (subst (λ m. Acts s (ev.Note m) (rp.Refused rf.Down) t) (sym e) (refused-acts s t i x y w p.there (p.down.0 refl) p.set p.stays p.table_stays))
note-done s t k i x y (Err errors.Memory) (Ok reply) w e p a = absurd (cc)
note-done s t k i x y (Err errors.Memory) (Err z) w e p a = tt

-- where no memory was left, the state is as it was
pub note-stays : (s t : StateView) (i : ℕ) (x y : ReplicaView) (r : Result Bool ReplicaError) (q : Result Reply AllocError) → WasNoted s t i x y r → IsReplyTo r q → OnErr q (t ≡ s)
note-stays s t i x y (Ok b) q p a = subst (λ (z : Result Reply AllocError). OnErr z (t ≡ s)) (sym a) tt
note-stays s t i x y (Err e) q p a = at-err q (t ≡ s) (ap (λ (l : List ReplicaView). record t { replicas = l }) p.set ∙ same-state s.tree t.tree s.replicas i x y p.there p.stays p.table_stays)

-- the replicas are those of the table still
pub state-noted : (old new : Held) (rs : List ReplicaView) (i : ℕ) (x y : ReplicaView) (r : Result Bool ReplicaError) → IsState (record { tree = old; replicas = rs }) → slice_get rs i ≡ Some x → IfOk r (λ b. IsNote x old b y new) → OnErr r (y ≡ x) → OnErr r (new ≡ old) → KeepsTable old new
    → IsState (record { tree = new; replicas = slice_set rs i y })
state-noted old new rs i x y (Ok true) s e n c h m = changed-state old new rs i x y s (notes-on old new x.number n.call.seen m) e (ap (λ (z : ReplicaView). z.number) n.others) (ap (λ (z : ReplicaView). z.schema) n.others) (ap (λ (z : ReplicaView). z.log) n.others) (ap (λ (z : ReplicaView). z.cells) n.others)
state-noted old new rs i x y (Ok false) s e n c h m = changed-state old new rs i x y s (goes-on-same old new n.2) e (ap (λ (z : ReplicaView). z.number) n.1) (ap (λ (z : ReplicaView). z.schema) n.1) (ap (λ (z : ReplicaView). z.log) n.1) (ap (λ (z : ReplicaView). z.cells) n.1)
state-noted old new rs i x y (Err z) s e n c h m = changed-state old new rs i x y s (goes-on-same old new h) e (ap (λ (v : ReplicaView). v.number) c) (ap (λ (v : ReplicaView). v.schema) c) (ap (λ (v : ReplicaView). v.log) c) (ap (λ (v : ReplicaView). v.cells) c)

-- ---- the switch

pub switch-acts : (s t : StateView) (k i : ℕ) (x y : ReplicaView) (allowed : Bool) → IsState s → k ≡ 1 + i → slice_get s.replicas i ≡ Some x → y ≡ record x { fetches = allowed } → t.tree ≡ s.tree → t.replicas ≡ slice_set s.replicas i y → Acts s (ev.Fetches k allowed) rp.Done t
switch-acts s t k i x y allowed w n e d h q made attempts events = record {
  old = shown x;
  at = subst (λ m. IsNumbered (cluster_of s made attempts events) m (shown x)) (sym n) (numbered-at s i x made attempts events w e);
  answer = refl;
  change =
      ap (λ (v : Held). cluster_of (record t { tree = v }) made attempts events) h
      ∙ ap (λ (rs : List Replica). record (cluster_of s made attempts events) { replicas = rs })
      (ap (map shown) q ∙ (replicas-set s i x y w e ∙ (ap (λ m. with_replica (map shown s.replicas) m (shown y)) (sym n) ∙ ap (λ (z : Replica). with_replica (map shown s.replicas) k z) (ap shown d))));
}
