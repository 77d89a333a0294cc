-- A replica that copies the log, or some of it, as a cluster sees it.
use Rattle.std.proofs.Common.{◌≡◌, ℕ, zero, suc, ◌+◌, inl, inr, Bool, true, false, ◌↔◌, List, [], ◌∷◌, length, map, refl, sym, ap, subst, ◌∙◌}
use Rattle.std.specs.Prelude.{slice_get, slice_set, OnOk, OnErr, IfOk}
use Rattle.std.specs.declared.alloc.AllocError.{AllocError}
use Rattle.std.specs.declared.result.Result.{Result}
use Rattle.std.specs.declared.result.Result.TheVariants.{Ok, Err}
use Rattle.std.specs.declared.option.Option.TheVariants.{Some}
use Rattle.rmt_entries.specs.declared.entry.Entry.{Entry}
use Rattle.rmt_model.specs.Lawful.{IsPrefix}
use Rattle.rmt_queue.specs.Marks.{grown}
use Rattle.rmt_table_model.specs.Held.{Held}
use Rattle.rmt_table.specs.TableTrees.{table_at, IsCopyOf}
use Rattle.rmt_replica.specs.Replicas.{ReplicaView, copy_of}
use Rattle.rmt_replica.specs.declared.replica_error.ReplicaError.{ReplicaError}
use Rattle.rmt_replica.specs.declared.replica_error.ReplicaError.TheVariants as errors
use Rattle.rmt_replica.specs.SeenReplica.{shown}
use Rattle.rmt_events.specs.Views.{Replica, Table}
use Rattle.rmt_events.specs.ReplicaCalls.{Pulls}
use Rattle.rmt_events.specs.declared.reply.Reply.{Reply}
use Rattle.rmt_events.specs.declared.event.Event.TheVariants as ev
use Rattle.rmt_events.specs.declared.reply.Reply.TheVariants as rp
use Rattle.rmt_events.specs.declared.step_refused.StepRefused.TheVariants as rf
use Rattle.rmt_state.specs.States.{StateView, Belongs, IsState, cluster_of, Acts, ActsAt, IsDownIn}
use Rattle.rmt_state.specs.Pulls.{IsReplyTo, PullsTo, PullsSome}
use Rattle.rmt_state.proofs.StateLemmas.{prefix-self, some-same, at-place, KeepsTable, GoesOn, state-on, state-set, numbered-at, replicas-set}

-- a replica at a place changes, and the table is seen as it was
pub changed-at : (s t : StateView) (i : ℕ) (x y : ReplicaView) (D : Replica → Replica → Type 0) → IsState s → slice_get s.replicas i ≡ Some x → x.up ≡ true → D (shown x) (shown y) → t.replicas ≡ slice_set s.replicas i y → table_at t.tree ≡ table_at s.tree → ActsAt s (1 + i) D t
changed-at s t i x y D w e u d q h made attempts events = record {
  old = shown x;
  new = shown y;
  at = numbered-at s i x made attempts events w e;
  up = u;
  does = d;
  change =
      ap (λ (v : Table). record { table = v; replicas = map shown t.replicas; attempts_made = made; attempts = attempts; events = events }) h
      ∙ ap (λ (rs : List Replica). record { table = table_at s.tree; replicas = rs; attempts_made = made; attempts = attempts; events = events }) (ap (map shown) q ∙ replicas-set s i x y w e);
}

pub down-in : (s : StateView) (i : ℕ) (x : ReplicaView) → IsState s → slice_get s.replicas i ≡ Some x → x.up ≡ false → IsDownIn s (1 + i)
down-in s i x w e u made attempts events = record { replica = shown x; at = numbered-at s i x made attempts events w e; down = u }

-- a copy of this log
copied : (x y : ReplicaView) (log : List Entry) (cells : List ℕ) → y ≡ record x { log = log; cells = cells; done = grown x.done (length log) } → Pulls (shown x) log (shown y)
copied x y log cells q = ap shown q

pub pull-acts : (s t : StateView) (i len : ℕ) (x y : ReplicaView) (cells : List ℕ) → IsState s → slice_get s.replicas i ≡ Some x → x.up ≡ true → y ≡ record x { log = s.tree.log; cells = cells; done = grown x.done (length s.tree.log) } → t.replicas ≡ slice_set s.replicas i y
    → table_at t.tree ≡ table_at s.tree → len ≡ length s.tree.log → Acts s (ev.Pull (1 + i)) (rp.Pulled len) t
pull-acts s t i len x y cells w e u c q h l made attempts events = inl (record {
  at = changed-at s t i x y (λ a b. Pulls a s.tree.log b) w e u (copied x y s.tree.log cells c) q h made attempts events;
  answer = ap rp.Pulled l;
})

pub down-acts : (s t : StateView) (i : ℕ) (x : ReplicaView) → IsState s → slice_get s.replicas i ≡ Some x → x.up ≡ false → t ≡ s → Acts s (ev.Pull (1 + i)) (rp.Refused rf.Down) t
down-acts s t i x w e u q made attempts events = inr (record {
  why = rf.Down;
  cause = down-in s i x w e u made attempts events;
  answer = refl;
  unchanged = ap (λ (v : StateView). cluster_of v made attempts events) q;
})

pub some-pulled : (s t : StateView) (i : ℕ) (x y : ReplicaView) → IsState s → slice_get s.replicas i ≡ Some x → x.up ≡ true → y ≡ record x { log = y.log; cells = y.cells; done = grown x.done (length y.log) } → IsPrefix x.log y.log → IsPrefix y.log s.tree.log
    → t.replicas ≡ slice_set s.replicas i y → table_at t.tree ≡ table_at s.tree → PullsSome s (1 + i) t
some-pulled s t i x y w e u c g p q h = record {
  log = y.log;
  prefix = p;
  at = changed-at s t i x y (PullsTo y.log) w e u (record { longer = g; pulls = copied x y y.log y.cells c }) q h;
}

-- ---- told by the replica's call

-- a replica is down exactly where the call says so
pub down-told : {A : Type 0} (r : Result A ReplicaError) (up : Bool) → (r ≡ Err errors.Down) ↔ (up ≡ false) → OnOk r (up ≡ true)
down-told (Ok a) true d = refl
down-told (Ok a) false d = let q = d.1 refl in absurd (cc)
down-told (Err e) up d = tt

pub up-told : {A : Type 0} (r : Result A ReplicaError) (up : Bool) → (r ≡ Err errors.Down) ↔ (up ≡ false) → r ≡ Err errors.Memory → up ≡ true
up-told r true d q = refl
up-told r false d q = let e = d.1 refl in absurd (cc)

set-same : (xs : List ReplicaView) (i : ℕ) (x : ReplicaView) → slice_get xs i ≡ Some x → slice_set xs i x ≡ xs
set-same [] i x e = refl
set-same (y ∷ xs) zero x e = ap (λ (z : ReplicaView). z ∷ xs) (sym (some-same y x e))
set-same (y ∷ xs) (suc i) x e = ap (λ (l : List ReplicaView). y ∷ l) (set-same xs i x e)

-- nothing was set
pub same-state : (tree new : Held) (rs : List ReplicaView) (i : ℕ) (x y : ReplicaView) → slice_get rs i ≡ Some x → y ≡ x → new ≡ tree → ◌≡◌ {A = StateView} (record { tree = new; replicas = slice_set rs i y }) (record { tree = tree; replicas = rs })
same-state tree new rs i x y e q h =
    ap (λ (v : Held). record { tree = v; replicas = slice_set rs i y }) h
    ∙ ap (λ (l : List ReplicaView). record { tree = tree; replicas = l }) (ap (λ (z : ReplicaView). slice_set rs i z) q ∙ set-same rs i x e)

-- the table is seen as it was
pub seen-on : (old new : Held) → table_at new ≡ table_at old → KeepsTable old new → GoesOn old new
seen-on old new e n = record { schema = ap (λ (t : Table). t.schema) e; log = subst (λ (l : List Entry). IsPrefix old.log l) (sym (ap (λ (t : Table). t.log) e)) (prefix-self old.log); table = n }

pub state-pulled : (old new : Held) (rs : List ReplicaView) (i : ℕ) (x y : ReplicaView) → IsState (record { tree = old; replicas = rs }) → slice_get rs i ≡ Some x → table_at new ≡ table_at old → KeepsTable old new → y.number ≡ x.number → IsCopyOf new (copy_of y)
    → IsState (record { tree = new; replicas = slice_set rs i y })
state-pulled old new rs i x y s e q n m c =
    state-set new rs i y (state-on old new rs (seen-on old new q n) s) (record { numbered = m ∙ Belongs.numbered (at-place old 1 rs i x s.numbered e); copy = c })

-- what a pull did, by what its replica answered
pub record WasPulled (s t : StateView) (i : ℕ) (x y : ReplicaView) (r : Result ℕ ReplicaError) : Type 0 where
  pub there : slice_get s.replicas i ≡ Some x
  pub set : t.replicas ≡ slice_set s.replicas i y
  pub seen : table_at t.tree ≡ table_at s.tree
  pub length_is : IfOk r (λ len. len ≡ length s.tree.log)
  pub copies : OnOk r (y ≡ record x { log = s.tree.log; cells = y.cells; done = grown x.done (length s.tree.log) })
  pub down : (r ≡ Err errors.Down) ↔ (x.up ≡ false)
  pub nothing : r ≡ Err errors.Down → y ≡ x
  pub tree : OnErr r (t.tree ≡ s.tree)
  pub others : y ≡ record x { log = y.log; cells = y.cells; done = grown x.done (length y.log) }
  pub longer : IsPrefix x.log y.log
  pub prefix : IsPrefix y.log s.tree.log

pub pull-done : (s t : StateView) (k i : ℕ) (x y : ReplicaView) (r : Result ℕ ReplicaError) (q : Result Reply AllocError) → IsState s → k ≡ 1 + i → WasPulled s t i x y r → IsReplyTo r q → IfOk q (λ reply. Acts s (ev.Pull k) reply t)
pull-done s t k i x y (Ok len) q w e p a =
    subst (λ (z : Result Reply AllocError). IfOk z (λ reply. Acts s (ev.Pull k) reply t)) (sym a)
    (subst (λ m. Acts s (ev.Pull m) (rp.Pulled len) t) (sym e) (pull-acts s t i len x y y.cells w p.there (down-told (Ok len) x.up p.down) p.copies p.set p.seen p.length_is))
pull-done s t k i x y (Err errors.Down) q w e p a =
    subst (λ (z : Result Reply AllocError). IfOk z (λ reply. Acts s (ev.Pull k) reply t)) (sym a)
    (subst (λ m. Acts s (ev.Pull m) (rp.Refused rf.Down) t) (sym e) (down-acts s t i x w p.there (p.down.0 refl) (ap (λ (l : List ReplicaView). record t { replicas = l }) p.set ∙ same-state s.tree t.tree s.replicas i x y p.there (p.nothing refl) p.tree)))
pull-done s t k i x y (Err errors.Memory) (Ok reply) w e p a = absurd (cc)
pull-done s t k i x y (Err errors.Memory) (Err z) w e p a = tt

pub pull-stopped : (s t : StateView) (k i : ℕ) (x y : ReplicaView) (r : Result ℕ ReplicaError) (q : Result Reply AllocError) → IsState s → k ≡ 1 + i → WasPulled s t i x y r → IsReplyTo r q → OnErr q (PullsSome s k t)
pull-stopped s t k i x y (Ok len) q w e p a = subst (λ (z : Result Reply AllocError). OnErr z (PullsSome s k t)) (sym a) tt
pull-stopped s t k i x y (Err errors.Down) q w e p a = subst (λ (z : Result Reply AllocError). OnErr z (PullsSome s k t)) (sym a) tt
pull-stopped s t k i x y (Err errors.Memory) (Ok reply) w e p a = absurd (cc)
pull-stopped s t k i x y (Err errors.Memory) (Err z) w e p a =
    subst (λ m. PullsSome s m t) (sym e) (some-pulled s t i x y w p.there (up-told (Err errors.Memory) x.up p.down refl) p.others p.longer p.prefix p.set p.seen)
