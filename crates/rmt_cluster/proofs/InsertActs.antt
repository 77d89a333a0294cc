-- What is done to a state and its attempts for an insert is what its event does.
use Rattle.std.proofs.Common.{◌≡◌, ℕ, inl, inr, List, length, map, refl, sym, ap, subst, ◌∙◌}
use Rattle.std.specs.declared.option.Option.{Option}
use Rattle.rmt_model.specs.Words.{Has}
use Rattle.rmt_table_model.specs.Held.{Held}
use Rattle.rmt_table.specs.declared.lock.Lock.{Lock}
use Rattle.rmt_table.specs.TableTrees.{table_at}
use Rattle.rmt_replica.specs.Replicas.{ReplicaView}
use Rattle.rmt_replica.specs.SeenReplica.{shown}
use Rattle.rmt_events.specs.Views.{Block, Replica, Table}
use Rattle.rmt_events.specs.Clusters.{Attempt, values_of, with_replica}
use Rattle.rmt_events.specs.TableCalls.{IsLocked, Allocates, Commits, Unlocks}
use Rattle.rmt_events.specs.ReplicaCalls.{Stages, Unstages}
use Rattle.rmt_events.specs.ClusterChanges.{IsAttempt, AtReplica, attempts_without, renumbered}
use Rattle.rmt_events.specs.TableRefusals.{HasQuorum}
use Rattle.rmt_events.specs.InsertEvents as insert
use Rattle.rmt_events.specs.declared.event.Event.{Event}
use Rattle.rmt_events.specs.declared.reply.Reply.{Reply}
use Rattle.rmt_events.specs.declared.event.Event.TheVariants as ev
use Rattle.rmt_events.specs.declared.reply.Reply.TheVariants as rp
use Rattle.rmt_events.specs.declared.step_refused.StepRefused.{StepRefused}
use Rattle.rmt_events.specs.declared.step_refused.StepRefused.TheVariants as rf
use Rattle.rmt_state.specs.States.{StateView, cluster_of, ActsAt, HasSomeBlockAt}
use Rattle.rmt_cluster.specs.Attempts.{OpenAttempts, HoldsBlock}
use Rattle.rmt_cluster.specs.Acting.{ActsWith, SuitAttempts, EndsAt}
use Rattle.rmt_cluster.proofs.CauseLemmas.{IsLostFor, IsGone}

-- a cluster, put together from equal parts
same-cluster : (s t : StateView) (table : Table) (rs : List Replica) (made : ℕ) (attempts : List Attempt) (b : OpenAttempts) (events : List (Event × Reply)) → table_at t.tree ≡ table → map shown t.replicas ≡ rs → b.made ≡ made → b.open_ones ≡ attempts
    → cluster_of t b.made b.open_ones events ≡ record { table = table; replicas = rs; attempts_made = made; attempts = attempts; events = events }
same-cluster s t table rs made attempts b events q r m o =
    ap (λ (v : Table). record { table = v; replicas = map shown t.replicas; attempts_made = b.made; attempts = b.open_ones; events = events }) q
    ∙ (ap (λ (v : List Replica). record { table = table; replicas = v; attempts_made = b.made; attempts = b.open_ones; events = events }) r
    ∙ (ap (λ n. record { table = table; replicas = rs; attempts_made = n; attempts = b.open_ones; events = events }) m
    ∙ ap (λ (v : List Attempt). record { table = table; replicas = rs; attempts_made = made; attempts = v; events = events }) o))

-- the open attempt that was found
found-is : (s : StateView) (a : OpenAttempts) (id : ℕ) (x : Attempt) (events : List (Event × Reply)) → Has a.open_ones x → x.id ≡ id → IsAttempt (cluster_of s a.made a.open_ones events) id x
found-is s a id x events h i = record { is_in = h; id_is = i }

-- ---- Stage, Again

pub stages-acts : (s t : StateView) (a : OpenAttempts) (id k n : ℕ) (b : Block) (x : Attempt) → Has a.open_ones x → x.id ≡ id → k ≡ x.replica → n ≡ x.number → b ≡ x.block → ActsAt s k (λ u v. Stages u n b v) t → ActsWith s a (ev.Stage id) rp.Done t a
stages-acts s t a id k n b x h i r m e at events = inl (record {
  attempt = x;
  is = found-is s a id x events h i;
  at = subst (λ (c : Block). AtReplica (cluster_of s a.made a.open_ones events) x.replica (λ u v. Stages u x.number c v) (cluster_of t a.made a.open_ones events)) e
      (subst (λ q. AtReplica (cluster_of s a.made a.open_ones events) x.replica (λ u v. Stages u q b v) (cluster_of t a.made a.open_ones events)) m
      (subst (λ q. AtReplica (cluster_of s a.made a.open_ones events) q (λ u v. Stages u n b v) (cluster_of t a.made a.open_ones events)) r (at a.made a.open_ones events)));
  answer = refl;
})

pub renews-acts : (s t : StateView) (a b : OpenAttempts) (id n k : ℕ) (p : Option ℕ) (digest : List ℕ) (x : Attempt) → Has a.open_ones x → x.id ≡ id → HasQuorum (table_at s.tree) x.need → (IsLocked (table_at s.tree).locks x.block.partition x.number → ⊥) → k ≡ x.replica → p ≡ x.block.partition → digest ≡ x.block.digest
    → Allocates (table_at s.tree) k p digest n (table_at t.tree) → t.replicas ≡ s.replicas → b.made ≡ a.made → b.open_ones ≡ renumbered a.open_ones id n → ActsWith s a (ev.Again id) (rp.Attempt id n) t b
renews-acts s t a b id n k p digest x h i z g r q d c w m o events = inl (record {
  attempt = x;
  is = found-is s a id x events h i;
  gone = g;
  number = n;
  table = table_at t.tree;
  quorum = z;
  call = subst (λ (v : List ℕ). Allocates (table_at s.tree) x.replica x.block.partition v n (table_at t.tree)) d
      (subst (λ (v : Option ℕ). Allocates (table_at s.tree) x.replica v digest n (table_at t.tree)) q (subst (λ v. Allocates (table_at s.tree) v p digest n (table_at t.tree)) r c));
  answer = refl;
  change = same-cluster s t (table_at t.tree) (map shown s.replicas) a.made (renumbered a.open_ones id n) b events refl (ap (map shown) w) m o;
})

-- ---- an attempt ends

pub ends-acts : (s mid t : StateView) (a b : OpenAttempts) (id : ℕ) (x : Attempt) (lock : Lock) → Has a.open_ones x → x.id ≡ id → HoldsBlock lock x.block → lock.number ≡ x.number → lock.replica ≡ x.replica → Unlocks (table_at s.tree) lock.id.partition lock.number (table_at mid.tree) → mid.replicas ≡ s.replicas
    → EndsAt mid a id lock t b → (events : List (Event × Reply)) → insert.EndsAttempt (cluster_of s a.made a.open_ones events) id (cluster_of t b.made b.open_ones events)
ends-acts s mid t a b id x lock h i own n r u w e events = record {
  attempt = x;
  is = found-is s a id x events h i;
  table = table_at t.tree;
  unlocks = subst (λ m. Unlocks (table_at s.tree) x.block.partition m (table_at t.tree)) n (subst (λ (o : Option ℕ). Unlocks (table_at s.tree) o lock.number (table_at t.tree)) own.partition (subst (λ (v : Held). Unlocks (table_at s.tree) lock.id.partition lock.number (table_at v)) (sym e.unstages.table) u));
  replica = e.unstages.old;
  at =
      let m = e.unstages.at a.made a.open_ones events in
      record { is_in = subst (λ (v : List ReplicaView). Has (map shown v) e.unstages.old) w m.is_in; number = m.number ∙ r };
  new = e.unstages.new;
  unstages = subst (λ m. Unstages e.unstages.old x.block.partition m e.unstages.new) n (subst (λ (o : Option ℕ). Unstages e.unstages.old o lock.number e.unstages.new) own.partition e.unstages.does);
  change = same-cluster s t (table_at t.tree) (with_replica (map shown s.replicas) x.replica e.unstages.new) a.made (attempts_without a.open_ones id) b events refl
      (e.unstages.change ∙ (ap (λ (v : List ReplicaView). with_replica (map shown v) lock.replica e.unstages.new) w ∙ ap (λ m. with_replica (map shown s.replicas) m e.unstages.new) r)) e.made e.ends;
}

-- ---- Commit

-- what is staged under the attempt's number is its block
staged-of : (s : StateView) (a : OpenAttempts) (x : Attempt) (lock : Lock) (events : List (Event × Reply)) → SuitAttempts s a → Has a.open_ones x → HoldsBlock lock x.block → lock.number ≡ x.number → lock.replica ≡ x.replica → HasSomeBlockAt s lock.replica lock.id.partition lock.number
    → insert.HasStaged (cluster_of s a.made a.open_ones events) x
staged-of s a x lock events suit h own n r some =
    let at = some.1.at a.made a.open_ones events in
    let e : some.0 ≡ x.block = suit.staged some.1.replica at.is_in (record { number = lock.number; block = some.0 }) some.1.staged.is_in x h (sym own.partition ∙ sym some.1.staged.partition) (sym n) in
    record {
      replica = some.1.replica;
      at = record { is_in = at.is_in; number = at.number ∙ r };
      staged = record {
        is_in = subst (λ (b : Block). Has some.1.replica.staged (record { number = x.number; block = b })) e (subst (λ m. Has some.1.replica.staged (record { number = m; block = some.0 })) n some.1.staged.is_in);
        partition = refl;
      };
    }

pub not-staged : (s : StateView) (a : OpenAttempts) (id : ℕ) (x : Attempt) (lock : Lock) → Has a.open_ones x → x.id ≡ id → HoldsBlock lock x.block → lock.number ≡ x.number → lock.replica ≡ x.replica → (HasSomeBlockAt s lock.replica lock.id.partition lock.number → ⊥) → ActsWith s a (ev.Commit id) (rp.Refused rf.NotStaged) s a
not-staged s a id x lock h i own n r none events = inr (inr (record {
  why = rf.NotStaged;
  cause = (
    x,
    found-is s a id x events h i,
    λ f. none (
      x.block,
      record {
        replica = f.replica;
        at = λ made attempts others. record { is_in = f.at.is_in; number = f.at.number ∙ sym r };
        staged = record { is_in = subst (λ m. Has f.replica.staged (record { number = m; block = x.block })) (sym n) f.staged.is_in; partition = sym own.partition };
      },
    ),
  );
  answer = refl;
  unchanged = refl;
}))

pub accepts-acts : (s t : StateView) (a b : OpenAttempts) (id place values : ℕ) (x : Attempt) (lock : Lock) → SuitAttempts s a → Has a.open_ones x → x.id ≡ id → HasQuorum (table_at s.tree) x.need → HoldsBlock lock x.block → lock.number ≡ x.number → lock.replica ≡ x.replica → HasSomeBlockAt s lock.replica lock.id.partition lock.number
    → values ≡ values_of s.tree.schema x.block.rows → place ≡ length s.tree.log → Commits (table_at s.tree) lock.id.partition lock.number lock.id.digest lock.replica x.need values (table_at t.tree) → t.replicas ≡ s.replicas → b.made ≡ a.made → b.open_ones ≡ attempts_without a.open_ones id
    → ActsWith s a (ev.Commit id) (rp.Entry place) t b
accepts-acts s t a b id place values x lock suit h i z own n r some v l c w m o events =
    let f = staged-of s a x lock events suit h own n r some in
    inl (record {
      attempt = x;
      is = found-is s a id x events h i;
      replica = f.replica;
      at = record { is_in = f.at.is_in; number = f.at.number };
      staged = record { is_in = f.staged.is_in; partition = f.staged.partition };
      table = table_at t.tree;
      quorum = z;
      call =
          subst (λ q. Commits (table_at s.tree) x.block.partition x.number x.block.digest x.replica x.need q (table_at t.tree)) v
          (subst (λ q. Commits (table_at s.tree) x.block.partition x.number x.block.digest q x.need values (table_at t.tree)) r
          (subst (λ (q : List ℕ). Commits (table_at s.tree) x.block.partition x.number q lock.replica x.need values (table_at t.tree)) own.digest
          (subst (λ q. Commits (table_at s.tree) x.block.partition q lock.id.digest lock.replica x.need values (table_at t.tree)) n
          (subst (λ (q : Option ℕ). Commits (table_at s.tree) q lock.number lock.id.digest lock.replica x.need values (table_at t.tree)) own.partition c))));
      answer = ap rp.Entry l;
      change = same-cluster s t (table_at t.tree) (map shown s.replicas) a.made (attempts_without a.open_ones id) b events refl (ap (map shown) w) m o;
    })

pub loses-acts : (s mid t : StateView) (a b : OpenAttempts) (id : ℕ) (why : StepRefused) (x : Attempt) (lock : Lock) → SuitAttempts s a → Has a.open_ones x → x.id ≡ id → HoldsBlock lock x.block → lock.number ≡ x.number → lock.replica ≡ x.replica → HasSomeBlockAt s lock.replica lock.id.partition lock.number
    → ((events : List (Event × Reply)) → IsLostFor (cluster_of s a.made a.open_ones events) x lock s.tree mid.tree why) → mid.replicas ≡ s.replicas → EndsAt mid a id lock t b → ActsWith s a (ev.Commit id) (rp.Refused why) t b
unfolding ends-acts
loses-acts s mid t a b id why x lock suit h i own n r some lost w e events =
    let k = lost events in
    inr (inl (record {
      ends = ends-acts s mid t a b id x lock h i own n r k.unlocks w e events;
      staged = staged-of s a x lock events suit h own n r some;
      locked = k.locked;
      why = why;
      cause = k.cause;
      answer = refl;
    }))

pub gone-acts : (s t : StateView) (a : OpenAttempts) (id : ℕ) (why : StepRefused) (x : Attempt) (lock : Lock) → SuitAttempts s a → Has a.open_ones x → x.id ≡ id → HoldsBlock lock x.block → lock.number ≡ x.number → lock.replica ≡ x.replica → HasSomeBlockAt s lock.replica lock.id.partition lock.number
    → ((events : List (Event × Reply)) → IsGone (cluster_of s a.made a.open_ones events) x s.tree t.tree why) → t.replicas ≡ s.replicas → ActsWith s a (ev.Commit id) (rp.Refused why) t a
gone-acts s t a id why x lock suit h i own n r some gone w events =
    let k = gone events in
    inr (inr (record {
      why = why;
      cause = subst (insert.NoCommit (cluster_of s a.made a.open_ones events) id) (sym k.cause) (x, found-is s a id x events h i, staged-of s a x lock events suit h own n r some, (refl, k.gone));
      answer = refl;
      unchanged = same-cluster s t (table_at s.tree) (map shown s.replicas) a.made a.open_ones a events (ap table_at k.same) (ap (map shown) w) refl refl;
    }))
