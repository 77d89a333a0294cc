-- Sessions that end and begin, as a cluster sees them.
use Rattle.std.proofs.Common.{◌≡◌, ℕ, zero, suc, ◌+◌, List, [], ◌∷◌, map, refl, sym, ap, subst, ◌∙◌, true, false, replicate, length, take}
use Rattle.std.specs.Prelude.{slice_get, slice_set}
use Rattle.std.specs.declared.option.Option.TheVariants.{Some}
use Rattle.rmt_entries.specs.declared.entry.Entry.{Entry}
use Rattle.rmt_model.specs.Lawful.{IsPrefix}
use Rattle.rmt_table_model.specs.Held.{Held}
use Rattle.rmt_table.specs.TableTrees.{table_at}
use Rattle.rmt_replica.specs.Replicas.{ReplicaView}
use Rattle.rmt_replica.specs.SeenReplica.{shown}
use Rattle.rmt_events.specs.Views.{Replica, Table}
use Rattle.rmt_events.specs.Clusters.{with_replica}
use Rattle.rmt_events.specs.TableCalls.{Closes, Opens}
use Rattle.rmt_events.specs.ClusterChanges.{IsNumbered}
use Rattle.rmt_events.specs.declared.event.Event.TheVariants as ev
use Rattle.rmt_events.specs.declared.reply.Reply.TheVariants as rp
use Rattle.rmt_state.specs.States.{StateView, IsState, cluster_of, Acts}
use Rattle.rmt_state.proofs.StateLemmas.{prefix-self, prefix-trans, some-same, at-place, KeepsTable, GoesOn, state-on, state-set, numbered-at, replicas-set}

-- what a call on sessions leaves of the table
pub closes-on : (old new : Held) (k : ℕ) → Closes (table_at old) k (table_at new) → KeepsTable old new → GoesOn old new
closes-on old new k c n = record {
  schema = ap (λ (t : Table). t.schema) c;
  log = subst (λ (l : List Entry). IsPrefix old.log l) (sym (ap (λ (t : Table). t.log) c)) (prefix-self old.log);
  table = n;
}

pub opens-on : (old new : Held) (k : ℕ) → Opens (table_at old) k (table_at new) → KeepsTable old new → GoesOn old new
opens-on old new k c n = record {
  schema = ap (λ (t : Table). t.schema) c;
  log = subst (λ (l : List Entry). IsPrefix old.log l) (sym (ap (λ (t : Table). t.log) c)) (prefix-self old.log);
  table = n;
}

-- a replica at a place that goes down, or comes up
pub changed-state : (old new : Held) (rs : List ReplicaView) (i : ℕ) (x y : ReplicaView) → IsState (record { tree = old; replicas = rs }) → GoesOn old new → slice_get rs i ≡ Some x → y.number ≡ x.number → y.schema ≡ x.schema → y.log ≡ x.log → y.cells ≡ x.cells
    → IsState (record { tree = new; replicas = slice_set rs i y })
changed-state old new rs i x y s g e n m l o =
    let w = state-on old new rs g s in
    let b = at-place new 1 rs i x w.numbered e in
    state-set new rs i y w (record {
      numbered = n ∙ b.numbered;
      copy = record {
        schema = m ∙ b.copy.schema;
        prefix = subst (λ (v : List Entry). IsPrefix v new.log) (sym l) b.copy.prefix;
        cells = o ∙ (b.copy.cells ∙ ap (λ (v : List Entry). take (length v) new.row) (sym l));
      };
    })

pub kill-acts : (s t : StateView) (k i : ℕ) (x y : ReplicaView) → IsState s → k ≡ 1 + i → slice_get s.replicas i ≡ Some x → Closes (table_at s.tree) k (table_at t.tree) → y ≡ record x { up = false } → t.replicas ≡ slice_set s.replicas i y → Acts s (ev.Kill k) rp.Done t
kill-acts s t k i x y w n e c d q made attempts events = record {
  old = shown x;
  new = shown y;
  at = subst (λ m. IsNumbered (cluster_of s made attempts events) m (shown x)) (sym n) (numbered-at s i x made attempts events w e);
  dies = ap shown d;
  table = table_at t.tree;
  closes = c;
  answer = refl;
  change = ap (λ (rs : List Replica). record (cluster_of t made attempts events) { replicas = rs }) (ap (map shown) q ∙ (replicas-set s i x y w e ∙ ap (λ m. with_replica (map shown s.replicas) m (shown y)) (sym n)));
}

pub restart-acts : (s t : StateView) (closed : Table) (k i : ℕ) (x y : ReplicaView) → IsState s → k ≡ 1 + i → slice_get s.replicas i ≡ Some x → Closes (table_at s.tree) k closed → Opens closed k (table_at t.tree)
    → y ≡ record x { up = true; done = replicate (length x.log) false } → t.replicas ≡ slice_set s.replicas i y → Acts s (ev.Restart k) rp.Done t
restart-acts s t closed k i x y w n e c o d q made attempts events = record {
  old = shown x;
  new = shown y;
  at = subst (λ m. IsNumbered (cluster_of s made attempts events) m (shown x)) (sym n) (numbered-at s i x made attempts events w e);
  wakes = ap shown d;
  closed = closed;
  closes = c;
  table = table_at t.tree;
  opens = o;
  answer = refl;
  change = ap (λ (rs : List Replica). record (cluster_of t made attempts events) { replicas = rs }) (ap (map shown) q ∙ (replicas-set s i x y w e ∙ ap (λ m. with_replica (map shown s.replicas) m (shown y)) (sym n)));
}

-- a place that is set twice
pub set-twice : (xs : List ReplicaView) (i : ℕ) (y z : ReplicaView) → slice_set (slice_set xs i y) i z ≡ slice_set xs i z
set-twice [] i y z = refl
set-twice (x ∷ xs) zero y z = refl
set-twice (x ∷ xs) (suc i) y z = ap (λ (l : List ReplicaView). x ∷ l) (set-twice xs i y z)

pub set-there : (xs : List ReplicaView) (i : ℕ) (x y : ReplicaView) → slice_get xs i ≡ Some x → slice_get (slice_set xs i y) i ≡ Some y
set-there [] i x y e = absurd (cc)
set-there (z ∷ xs) zero x y e = refl
set-there (z ∷ xs) (suc i) x y e = set-there xs i x y e

pub goes-on-trans : (a b c : Held) → GoesOn a b → GoesOn b c → GoesOn a c
goes-on-trans a b c g h = record { schema = h.schema ∙ g.schema; log = prefix-trans a.log b.log c.log g.log h.log; table = record { sessions = h.table.sessions ∙ g.table.sessions; row = h.table.row ∙ g.table.row } }

-- a replica that was set at a place, and then found there and set again
pub record IsSetAgain (xs : List ReplicaView) (i j : ℕ) (y found z : ReplicaView) : Type 0 where
  pub same : found ≡ y
  pub set : slice_set (slice_set xs i y) j z ≡ slice_set xs i z

pub set-again : (xs : List ReplicaView) (i j : ℕ) (x y found z : ReplicaView) → j ≡ i → slice_get xs i ≡ Some x → slice_get (slice_set xs i y) j ≡ Some found → IsSetAgain xs i j y found z
set-again xs i j x y found z q e f = record {
  same = sym (some-same y found (sym (set-there xs i x y e) ∙ subst (λ k. slice_get (slice_set xs i y) k ≡ Some found) q f));
  set = ap (λ k. slice_set (slice_set xs i y) k z) q ∙ set-twice xs i y z;
}
