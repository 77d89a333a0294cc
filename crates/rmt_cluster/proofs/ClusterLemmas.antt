-- What an event leaves of a cluster besides that it is whole.
use Rattle.std.proofs.Common.{◌≡◌, ℕ, suc, ◌+◌, ◌≤◌, ◌⊎◌, inl, inr, Bool, true, false, not, cond, List, [], ◌∷◌, length, map, refl, sym, ap, subst, arith, ◌∙◌, nat_eq, nat_lt}
use Rattle.std.proofs.lemmas.Bool.Decides.{nat_tests}
use Rattle.std.specs.declared.option.Option.{Option}
use Rattle.rmt_names.specs.Names.{rank}
use Rattle.rmt_values.specs.Rows.{Shape}
use Rattle.rmt_model.specs.Words.{Has, Each}
use Rattle.rmt_model.proofs.Lists.{Each-at, Has-filter}
use Rattle.rmt_model.specs.BlockNumbers.{next_number, with_next, next_numbers_after}
use Rattle.rmt_table.specs.TableTrees.{table_at}
use Rattle.rmt_replica.specs.Replicas.{ReplicaView}
use Rattle.rmt_replica.specs.SeenReplica.{shown}
use Rattle.rmt_events.specs.Views.{Replica, Table}
use Rattle.rmt_events.specs.Clusters.{Attempt, Cluster, with_replica, without_kinds}
use Rattle.std.specs.Arc.{arc_value}
use Rattle.rmt_events.specs.ClusterChanges.{attempts_without, renumbered}
use Rattle.rmt_events.specs.Whole.{Follows, IsRightlyStaged, IsWhole}
use Rattle.rmt_events.specs.Steps.{Does, Kills}
use Rattle.rmt_events.specs.declared.event.Event.{Event}
use Rattle.rmt_events.specs.declared.event.Event.TheVariants as ev
use Rattle.rmt_events.specs.declared.reply.Reply.{Reply}
use Rattle.rmt_events.specs.declared.reply.Reply.TheVariants as rp
use Rattle.rmt_events.proofs.WholeReplica.{whole-copies}
use Rattle.rmt_events.proofs.WholeSessions.{whole-kills}
use Rattle.rmt_events.proofs.WholeSteps.{whole-step}
use Rattle.rmt_state.specs.States.{StateView, IsState, cluster_of}
use Rattle.rmt_cluster.specs.Attempts.{OpenAttempts}
use Rattle.rmt_cluster.specs.Acting.{ActsWith, AreSame, SuitAttempts}
use Rattle.rmt_state.specs.States.{numbers_given, IsNumber}
use Rattle.rmt_cluster.specs.Clusters.{IsTaken, IsCluster, MayStep, MayAct, Stops, AfterError}

-- ---- numbers given

-- one more number of a partition
pub given-next : (xs : List (Option ℕ × ℕ)) (p : Option ℕ) → numbers_given xs + 1 ≤ numbers_given (with_next xs p (next_number xs p + 1))
given-next [] p = omega arith
given-next (x ∷ xs) p = go (nat_lt (rank x.0) (rank p)) refl (nat_eq (rank x.0) (rank p)) refl (given-next xs p)
  where
    go : (b : Bool) → nat_lt (rank x.0) (rank p) ≡ b → (c : Bool) → nat_eq (rank x.0) (rank p) ≡ c → numbers_given xs + 1 ≤ numbers_given (with_next xs p (next_number xs p + 1))
        → x.1 + numbers_given xs + 1 ≤ numbers_given (cond b (x ∷ with_next xs p (cond c x.1 (next_number xs p) + 1)) (cond c ((p, cond c x.1 (next_number xs p) + 1) ∷ xs) ((p, cond c x.1 (next_number xs p) + 1) ∷ x ∷ xs)))
    go true e true f i = absurd (grind (arith, nat_tests))
    go true e false f i = omega (arith, i)
    go false e true f i = omega arith
    go false e false f i = omega arith

pub given-after : (xs : List (Option ℕ × ℕ)) → numbers_given xs ≤ numbers_given (next_numbers_after xs)
given-after [] = omega arith
given-after (x ∷ xs) = let i = given-after xs in omega (arith, i)

-- ---- replicas

pub length-with : (xs : List Replica) (k : ℕ) (y : Replica) → length (with_replica xs k y) ≡ length xs
length-with [] k y = refl
length-with (x ∷ xs) k y = go (nat_eq x.number k) (length-with xs k y)
  where
    go : (b : Bool) → length (with_replica xs k y) ≡ length xs → length (cond b (y ∷ xs) (x ∷ with_replica xs k y)) ≡ suc (length xs)
    go true e = refl
    go false e = ap suc e

length-shown : (rs : List ReplicaView) → length (map shown rs) ≡ length rs
length-shown [] = refl
length-shown (r ∷ rs) = ap suc (length-shown rs)

-- ---- what an event leaves

-- an attempt at a replica at which one was open, or that the event names
abbrev pub IsFromOne : Cluster → Event → Attempt → Type 0
IsFromOne s e x = ((y : Attempt) × Has s.attempts y × (x.replica ≡ y.replica)) ⊎ ((k need : ℕ) × (b : _) × (e ≡ ev.Allocate k b need) × (x.replica ≡ k))

pub record Leaves (s : Cluster) (e : Event) (t : Cluster) : Type 0 where
  pub counts : t.attempts_made + numbers_given s.table.next ≤ s.attempts_made + numbers_given t.table.next
  pub replicas : length t.replicas ≡ length s.replicas
  pub schema : t.table.schema ≡ s.table.schema
  pub attempts : (x : Attempt) → Has t.attempts x → IsFromOne s e x

old : (s : Cluster) (e : Event) (x : Attempt) → Has s.attempts x → IsFromOne s e x
old s e x h = inl (x, h, refl)

same-leaves : (s : Cluster) (e : Event) (t : Cluster) → t ≡ s → Leaves s e t
same-leaves s e t q = subst (Leaves s e) (sym q) (record { counts = omega arith; replicas = refl; schema = refl; attempts = λ x h. old s e x h })

-- the table and one replica changed, and attempts ended
part-leaves : (s : Cluster) (e : Event) (t : Cluster) (table : Table) (rs : List Replica) (xs : List Attempt) → t ≡ record s { table = table; replicas = rs; attempts = xs } → numbers_given s.table.next ≤ numbers_given table.next → table.schema ≡ s.table.schema → length rs ≡ length s.replicas → ((x : Attempt) → Has xs x → IsFromOne s e x) → Leaves s e t
part-leaves s e t table rs xs q n m l f = subst (Leaves s e) (sym q) (record { counts = omega (arith, n); replicas = l; schema = m; attempts = f })

given-same : (a b : Table) → b.next ≡ a.next → numbers_given a.next ≤ numbers_given b.next
given-same a b q = subst (λ (xs : List (Option ℕ × ℕ)). numbers_given a.next ≤ numbers_given xs) (sym q) (omega arith)

without-old : (s : Cluster) (e : Event) (id : ℕ) (x : Attempt) → Has (attempts_without s.attempts id) x → IsFromOne s e x
without-old s e id x h = old s e x (Has-filter (λ (a : Attempt). not (nat_eq a.id id)) s.attempts x h).0

renumbered-old : (s : Cluster) (e : Event) (xs : List Attempt) (id n : ℕ) (x : Attempt) → ((y : Attempt) → Has xs y → Has s.attempts y) → Has (renumbered xs id n) x → IsFromOne s e x
renumbered-old s e [] id n x f h = absurd h
renumbered-old s e (y ∷ xs) id n x f h = go (nat_eq y.id id) h (renumbered-old s e xs id n x (λ z k. f z (inr k)))
  where
    go : (b : Bool) → Has (cond b (record y { number = n } ∷ xs) (y ∷ renumbered xs id n)) x → (Has (renumbered xs id n) x → IsFromOne s e x) → IsFromOne s e x
    go true (inl q) g = inl (y, f y (inl refl), sym (ap (λ (z : Attempt). z.replica) q))
    go true (inr k) g = old s e x (f x (inr k))
    go false (inl q) g = old s e x (f x (inl q))
    go false (inr k) g = g k

pub leaves : (s t : Cluster) (e : Event) (r : Reply) → MayStep s e → Does s e r t → Leaves s e t
leaves s t (ev.Allocate k b need) r m (inr d) = same-leaves s (ev.Allocate k b need) t d.unchanged
leaves s t (ev.Allocate k b need) r m (inl d) = record {
  counts =
      let made = ap (λ (c : Cluster). c.attempts_made) d.change in
      let p : Option ℕ = (arc_value b).partition in
      let g = given-next s.table.next p in
      let n : numbers_given t.table.next ≡ numbers_given (with_next s.table.next p (next_number s.table.next p + 1)) = ap (λ (c : Cluster). numbers_given c.table.next) d.change ∙ (ap (λ (u : Table). numbers_given u.next) d.call.change ∙ ap (λ n. numbers_given (with_next s.table.next p (n + 1))) d.call.number) in
      omega (arith, made, g, n);
  replicas = ap (λ (c : Cluster). length c.replicas) d.change;
  schema = ap (λ (c : Cluster). c.table.schema) d.change ∙ ap (λ (u : Table). u.schema) d.call.change;
  attempts = λ x h. first x (subst (λ (c : Cluster). Has c.attempts x) d.change h);
}
  where
    first : (x : Attempt) → Has (record { id = s.attempts_made; replica = k; block = without_kinds (arc_value b); number = d.number; need = need } ∷ s.attempts) x → IsFromOne s (ev.Allocate k b need) x
    first x (inl q) = inr (k, need, b, refl, sym (ap (λ (z : Attempt). z.replica) q))
    first x (inr h) = old s (ev.Allocate k b need) x h
leaves s t (ev.Again id) r m (inr d) = same-leaves s (ev.Again id) t d.unchanged
leaves s t (ev.Again id) r m (inl d) =
    part-leaves s (ev.Again id) t d.table s.replicas (renumbered s.attempts id d.number) d.change
    (let g = given-next s.table.next d.attempt.block.partition in let n = ap (λ (u : Table). numbers_given u.next) d.call.change ∙ ap (λ n. numbers_given (with_next s.table.next d.attempt.block.partition (n + 1))) d.call.number in omega (arith, g, n))
    (ap (λ (u : Table). u.schema) d.call.change) refl (λ x h. renumbered-old s (ev.Again id) s.attempts id d.number x (λ y k. k) h)
leaves s t (ev.Stage id) r m (inr d) = same-leaves s (ev.Stage id) t d.unchanged
leaves s t (ev.Stage id) r m (inl d) = part-leaves s (ev.Stage id) t s.table (with_replica s.replicas d.attempt.replica d.at.new) s.attempts d.at.change (omega arith) refl (length-with s.replicas d.attempt.replica d.at.new) (λ x h. old s (ev.Stage id) x h)
leaves s t (ev.Commit id) r m (inr (inr d)) = same-leaves s (ev.Commit id) t d.unchanged
leaves s t (ev.Commit id) r m (inl d) = part-leaves s (ev.Commit id) t d.table s.replicas (attempts_without s.attempts id) d.change (given-same s.table d.table (ap (λ (u : Table). u.next) d.call.change)) (ap (λ (u : Table). u.schema) d.call.change) refl (λ x h. without-old s (ev.Commit id) id x h)
leaves s t (ev.Commit id) r m (inr (inl d)) =
    let e = d.ends in
    part-leaves s (ev.Commit id) t e.table (with_replica s.replicas e.attempt.replica e.new) (attempts_without s.attempts id) e.change (given-same s.table e.table (ap (λ (u : Table). u.next) e.unlocks)) (ap (λ (u : Table). u.schema) e.unlocks) (length-with s.replicas e.attempt.replica e.new) (λ x h. without-old s (ev.Commit id) id x h)
leaves s t (ev.Abandon id) r m (inr d) = same-leaves s (ev.Abandon id) t d.unchanged
leaves s t (ev.Abandon id) r m (inl d) =
    let e = d.0 in
    part-leaves s (ev.Abandon id) t e.table (with_replica s.replicas e.attempt.replica e.new) (attempts_without s.attempts id) e.change (given-same s.table e.table (ap (λ (u : Table). u.next) e.unlocks)) (ap (λ (u : Table). u.schema) e.unlocks) (length-with s.replicas e.attempt.replica e.new) (λ x h. without-old s (ev.Abandon id) id x h)
leaves s t (ev.Pull k) r m (inr d) = same-leaves s (ev.Pull k) t d.unchanged
leaves s t (ev.Pull k) r m (inl d) = part-leaves s (ev.Pull k) t s.table (with_replica s.replicas k d.at.new) s.attempts d.at.change (omega arith) refl (length-with s.replicas k d.at.new) (λ x h. old s (ev.Pull k) x h)
leaves s t (ev.Apply k i) r m (inr d) = same-leaves s (ev.Apply k i) t d.unchanged
leaves s t (ev.Apply k i) r m (inl d) = part-leaves s (ev.Apply k i) t s.table (with_replica s.replicas k d.at.new) s.attempts d.at.change (omega arith) refl (length-with s.replicas k d.at.new) (λ x h. old s (ev.Apply k i) x h)
leaves s t (ev.Merge k sources) r m (inr d) = same-leaves s (ev.Merge k sources) t d.unchanged
leaves s t (ev.Merge k sources) r m (inl d) =
    let a = d.appends.at in
    part-leaves s (ev.Merge k sources) t a.new s.replicas s.attempts a.change (given-same s.table a.new (ap (λ (u : Table). u.next) a.does.change)) (ap (λ (u : Table). u.schema) a.does.change) refl (λ x h. old s (ev.Merge k sources) x h)
leaves s t (ev.Mutate k part upto) r m (inr d) = same-leaves s (ev.Mutate k part upto) t d.unchanged
leaves s t (ev.Mutate k part upto) r m (inl d) =
    let a = d.appends.at in
    part-leaves s (ev.Mutate k part upto) t a.new s.replicas s.attempts a.change (given-same s.table a.new (ap (λ (u : Table). u.next) a.does.change)) (ap (λ (u : Table). u.schema) a.does.change) refl (λ x h. old s (ev.Mutate k part upto) x h)
leaves s t (ev.Note k) r m (inr (inl d)) = same-leaves s (ev.Note k) t d.unchanged
leaves s t (ev.Note k) r m (inr (inr d)) = same-leaves s (ev.Note k) t d.unchanged
leaves s t (ev.Note k) r m (inl d) =
    part-leaves s (ev.Note k) t d.table (with_replica s.replicas k d.new) s.attempts d.change (given-same s.table d.table (ap (λ (u : Table). u.next) d.call)) (ap (λ (u : Table). u.schema) d.call) (length-with s.replicas k d.new) (λ x h. old s (ev.Note k) x h)
leaves s t (ev.Fetches k allowed) r m d =
    part-leaves s (ev.Fetches k allowed) t s.table (with_replica s.replicas k (record d.old { fetches = allowed })) s.attempts d.change (omega arith) refl (length-with s.replicas k (record d.old { fetches = allowed })) (λ x h. old s (ev.Fetches k allowed) x h)
leaves s t (ev.CreateMutation command) r m (inr d) = same-leaves s (ev.CreateMutation command) t d.unchanged
leaves s t (ev.CreateMutation command) r m (inl d) =
    part-leaves s (ev.CreateMutation command) t d.at.new s.replicas s.attempts d.at.change (let g = given-after s.table.next in let n = ap (λ (u : Table). numbers_given u.next) d.at.does.change in omega (arith, g, n)) (ap (λ (u : Table). u.schema) d.at.does.change) refl (λ x h. old s (ev.CreateMutation command) x h)
leaves s t (ev.DropPartition p) r m (inr (inr d)) = same-leaves s (ev.DropPartition p) t d.unchanged
leaves s t (ev.DropPartition p) r m (inr (inl d)) = same-leaves s (ev.DropPartition p) t d.unchanged
leaves s t (ev.DropPartition p) r m (inl d) =
    let a = d.1.at in
    part-leaves s (ev.DropPartition p) t a.new s.replicas s.attempts a.change
    (let g = given-next s.table.next p in let n = ap (λ (u : Table). numbers_given u.next) a.does.change ∙ ap (λ n. numbers_given (with_next s.table.next p (n + 1))) a.does.number in omega (arith, g, n)) (ap (λ (u : Table). u.schema) a.does.change) refl (λ x h. old s (ev.DropPartition p) x h)
leaves s t (ev.Kill k) r m d = part-leaves s (ev.Kill k) t d.table (with_replica s.replicas k d.new) s.attempts d.change (given-same s.table d.table (ap (λ (u : Table). u.next) d.closes)) (ap (λ (u : Table). u.schema) d.closes) (length-with s.replicas k d.new) (λ x h. old s (ev.Kill k) x h)
leaves s t (ev.Restart k) r m d =
    part-leaves s (ev.Restart k) t d.table (with_replica s.replicas k d.new) s.attempts d.change (given-same s.table d.table (ap (λ (u : Table). u.next) d.opens ∙ ap (λ (u : Table). u.next) d.closes)) (ap (λ (u : Table). u.schema) d.opens ∙ ap (λ (u : Table). u.schema) d.closes) (length-with s.replicas k d.new) (λ x h. old s (ev.Restart k) x h)

-- ---- a cluster, from event to event

-- as many replicas as the table has
as-all : (s : StateView) → IsState s → length (map shown s.replicas) ≡ length s.tree.sessions
as-all s w = length-shown s.replicas ∙ w.all

pub may-act : (s : StateView) (made : ℕ) (attempts : List Attempt) (events : List (Event × Reply)) (e : Event) → IsState s → MayStep (cluster_of s made attempts events) e → MayAct s e
may-act s made attempts events e w m = subst (λ n. IsTaken s.tree.schema n e) (as-all s w) m

-- what is staged under an attempt's number is its block, as all is whole
pub suits : (s : StateView) (a : OpenAttempts) (events : List (Event × Reply)) → IsState s → IsCluster s a events → SuitAttempts s a
suits s a events w c = record {
  here = λ x h. let k = c.here x h in let f = k.first in let l = k.last in let n = w.all in record { first = f; last = omega (arith, l, n) };
  staged = λ r h z i x k p n. IsRightlyStaged.of_try (Each-at (IsRightlyStaged (cluster_of s a.made a.open_ones events)) r.staged z (Follows.waiting (Each-at (Follows (cluster_of s a.made a.open_ones events)) (map shown s.replicas) r c.whole.follow h)) i) x k p n;
}

-- as many replicas after an event
sizes : (s t : StateView) (a b : OpenAttempts) (events : List (Event × Reply)) (e : Event) → Leaves (cluster_of s a.made a.open_ones events) e (cluster_of t b.made b.open_ones events) → length t.replicas ≡ length s.replicas
sizes s t a b events e l = sym (length-shown t.replicas) ∙ (l.replicas ∙ length-shown s.replicas)

-- each of the events was one that the state's cluster takes
abbrev AreTakenBy : StateView → List (Event × Reply) → Type 0
AreTakenBy s events = Each (λ x. IsTaken s.tree.schema (length s.replicas) x.0) events

-- the rest of a cluster after an event
kept-here : (s t : StateView) (a b : OpenAttempts) (events : List (Event × Reply)) (e : Event) → MayStep (cluster_of s a.made a.open_ones events) e → ((x : Attempt) → Has a.open_ones x → IsNumber x.replica (length s.replicas)) → Leaves (cluster_of s a.made a.open_ones events) e (cluster_of t b.made b.open_ones events)
    → (x : Attempt) → Has b.open_ones x → IsNumber x.replica (length t.replicas)
kept-here s t a b events e m f l x h = go (l.attempts x h)
  where
    moved : (k : ℕ) → IsNumber k (length s.replicas) → IsNumber k (length t.replicas)
    moved k i = subst (IsNumber k) (sym (sizes s t a b events e l)) i

    go : IsFromOne (cluster_of s a.made a.open_ones events) e x → IsNumber x.replica (length t.replicas)
    go (inl y) = moved x.replica (subst (λ k. IsNumber k (length s.replicas)) (sym y.2) (f y.0 y.1))
    go (inr y) = moved x.replica (subst (λ k. IsNumber k (length s.replicas)) (sym y.4) (subst (IsNumber y.0) (length-shown s.replicas) (subst (MayStep (cluster_of s a.made a.open_ones events)) y.3 m).0))

-- the events so far are as they were taken
kept-taken : (s t : StateView) (events : List (Event × Reply)) → AreTakenBy s events → t.tree.schema ≡ s.tree.schema → length t.replicas ≡ length s.replicas → AreTakenBy t events
kept-taken s t events k m n =
    subst (λ (z : Shape). Each (λ x. IsTaken z (length t.replicas) x.0) events) (sym m) (subst (λ l. Each (λ x. IsTaken s.tree.schema l x.0) events) (sym n) k)

pub stepped : (s t : StateView) (a b : OpenAttempts) (events : List (Event × Reply)) (e : Event) (r : Reply) → MayStep (cluster_of s a.made a.open_ones events) e → IsCluster s a events → ActsWith s a e r t b → IsCluster t b ((e, r) ∷ events)
stepped s t a b events e r m c d =
    let l = leaves (cluster_of s a.made a.open_ones events) (cluster_of t b.made b.open_ones events) e r m (d events) in
    let taken : AreTakenBy s ((e, r) ∷ events) = (subst (λ n. IsTaken s.tree.schema n e) (length-shown s.replicas) m, c.taken) in
    record {
      whole = whole-step (cluster_of s a.made a.open_ones events) (cluster_of t b.made b.open_ones ((e, r) ∷ events)) e r c.whole (record { after = cluster_of t b.made b.open_ones events; does = d events; stored = refl });
      some = let n = c.some in let o = sizes s t a b events e l in omega (arith, n, o);
      counted = let n = l.counts in let o = c.counted in omega (arith, n, o);
      here = kept-here s t a b events e m c.here l;
      taken = kept-taken s t ((e, r) ∷ events) taken l.schema (sizes s t a b events e l);
    }

same-cluster : (s t : StateView) (a b : OpenAttempts) (events : List (Event × Reply)) → IsCluster s a events → AreSame a b → t ≡ s → IsCluster t b events
same-cluster s t a b events c e q =
    subst (λ (v : StateView). IsCluster v b events) (sym q) (record {
      whole = subst (λ (xs : List Attempt). IsWhole (cluster_of s b.made xs events)) (sym e.open_ones) (subst (λ n. IsWhole (cluster_of s n a.open_ones events)) (sym e.made) c.whole);
      some = c.some;
      counted = let m = e.made in let o = c.counted in omega (arith, m, o);
      here = λ x h. c.here x (subst (λ (xs : List Attempt). Has xs x) e.open_ones h);
      taken = c.taken;
    })

-- a cluster after an event for which no memory was left
pub stopped : (s t : StateView) (a b : OpenAttempts) (events : List (Event × Reply)) (e : Event) → MayStep (cluster_of s a.made a.open_ones events) e → IsCluster s a events → AfterError s a e t b → IsCluster t b events
stopped s t a b events (ev.Allocate k x need) m c d = same-cluster s t a b events c d.attempts d.state
stopped s t a b events (ev.Again id) m c d = same-cluster s t a b events c d.attempts d.state
stopped s t a b events (ev.Stage id) m c d = same-cluster s t a b events c d.attempts d.state
stopped s t a b events (ev.Commit id) m c d = same-cluster s t a b events c d.attempts d.state
stopped s t a b events (ev.Abandon id) m c d = same-cluster s t a b events c d.attempts d.state
stopped s t a b events (ev.Apply k i) m c d = same-cluster s t a b events c d.attempts d.state
stopped s t a b events (ev.Merge k sources) m c d = same-cluster s t a b events c d.attempts d.state
stopped s t a b events (ev.Mutate k old upto) m c d = same-cluster s t a b events c d.attempts d.state
stopped s t a b events (ev.Note k) m c d = same-cluster s t a b events c d.attempts d.state
stopped s t a b events (ev.Fetches k allowed) m c d = same-cluster s t a b events c d.attempts d.state
stopped s t a b events (ev.CreateMutation command) m c d = same-cluster s t a b events c d.attempts d.state
stopped s t a b events (ev.DropPartition p) m c d = same-cluster s t a b events c d.attempts d.state
stopped s t a b events (ev.Kill k) m c d = same-cluster s t a b events c d.attempts d.state
stopped s t a b events (ev.Pull k) m c d =
    let p = d.0.at a.made a.open_ones events in
    let l = part-leaves (cluster_of s a.made a.open_ones events) (ev.Pull k) (cluster_of t a.made a.open_ones events) (table_at s.tree) (with_replica (map shown s.replicas) k p.new) a.open_ones p.change (omega arith) refl (length-with (map shown s.replicas) k p.new) (λ x h. old (cluster_of s a.made a.open_ones events) (ev.Pull k) x h) in
    same-cluster t t a b events (record {
      whole = whole-copies (cluster_of s a.made a.open_ones events) (cluster_of t a.made a.open_ones events) k d.0.log c.whole d.0.prefix (record { old = p.old; new = p.new; at = record { is_in = p.at.is_in; number = p.at.number }; up = p.up; does = (p.does.longer, p.does.pulls); change = p.change });
      some = let n = c.some in let o = sizes s t a a events (ev.Pull k) l in omega (arith, n, o);
      counted = subst (λ (u : Table). a.made ≤ numbers_given u.next) (sym (ap (λ (z : Cluster). z.table) p.change)) c.counted;
      here = kept-here s t a a events (ev.Pull k) m c.here l;
      taken = kept-taken s t events c.taken l.schema (sizes s t a a events (ev.Pull k) l);
    }) d.1 refl
stopped s t a b events (ev.Restart k) m c d =
    let p = d.0 a.made a.open_ones events in
    let l = leaves (cluster_of s a.made a.open_ones events) (cluster_of t a.made a.open_ones events) (ev.Kill k) rp.Done m p in
    same-cluster t t a b events (record {
      whole = whole-kills (cluster_of s a.made a.open_ones events) (cluster_of t a.made a.open_ones events) k rp.Done c.whole p;
      some = let n = c.some in let o = sizes s t a a events (ev.Kill k) l in omega (arith, n, o);
      counted = let n = l.counts in let o = c.counted in omega (arith, n, o);
      here = kept-here s t a a events (ev.Kill k) m c.here l;
      taken = kept-taken s t events c.taken l.schema (sizes s t a a events (ev.Kill k) l);
    }) d.1 refl

-- as many replicas, whether or not memory was left
pub as-many : (s t : StateView) (a b : OpenAttempts) (events : List (Event × Reply)) (e : Event) (r : Reply) → MayStep (cluster_of s a.made a.open_ones events) e → ActsWith s a e r t b → length (map shown t.replicas) ≡ length (map shown s.replicas)
as-many s t a b events e r m d = Leaves.replicas (leaves (cluster_of s a.made a.open_ones events) (cluster_of t b.made b.open_ones events) e r m (d events))

pub schema-stays : (s t : StateView) (a b : OpenAttempts) (events : List (Event × Reply)) (e : Event) (r : Reply) → MayStep (cluster_of s a.made a.open_ones events) e → ActsWith s a e r t b → t.tree.schema ≡ s.tree.schema
schema-stays s t a b events e r m d = Leaves.schema (leaves (cluster_of s a.made a.open_ones events) (cluster_of t b.made b.open_ones events) e r m (d events))

-- ---- where no memory was left

same-view : (s t : StateView) (a b : OpenAttempts) (events : List (Event × Reply)) → t ≡ s → AreSame a b → cluster_of t b.made b.open_ones events ≡ cluster_of s a.made a.open_ones events
same-view s t a b events q e =
    ap (λ (v : StateView). cluster_of v b.made b.open_ones events) q ∙ (ap (λ n. cluster_of s n b.open_ones events) e.made ∙ ap (λ (xs : List Attempt). cluster_of s a.made xs events) e.open_ones)

pub stops : (s t : StateView) (a b : OpenAttempts) (events : List (Event × Reply)) (e : Event) → AfterError s a e t b → Stops (cluster_of s a.made a.open_ones events) e (cluster_of t b.made b.open_ones events)
stops s t a b events (ev.Allocate k x need) d = inl (same-view s t a b events d.state d.attempts)
stops s t a b events (ev.Again id) d = inl (same-view s t a b events d.state d.attempts)
stops s t a b events (ev.Stage id) d = inl (same-view s t a b events d.state d.attempts)
stops s t a b events (ev.Commit id) d = inl (same-view s t a b events d.state d.attempts)
stops s t a b events (ev.Abandon id) d = inl (same-view s t a b events d.state d.attempts)
stops s t a b events (ev.Apply k i) d = inl (same-view s t a b events d.state d.attempts)
stops s t a b events (ev.Merge k sources) d = inl (same-view s t a b events d.state d.attempts)
stops s t a b events (ev.Mutate k old upto) d = inl (same-view s t a b events d.state d.attempts)
stops s t a b events (ev.Note k) d = inl (same-view s t a b events d.state d.attempts)
stops s t a b events (ev.Fetches k allowed) d = inl (same-view s t a b events d.state d.attempts)
stops s t a b events (ev.CreateMutation command) d = inl (same-view s t a b events d.state d.attempts)
stops s t a b events (ev.DropPartition p) d = inl (same-view s t a b events d.state d.attempts)
stops s t a b events (ev.Kill k) d = inl (same-view s t a b events d.state d.attempts)
stops s t a b events (ev.Pull k) d =
    let p = d.0.at a.made a.open_ones events in
    inr (record { log = d.0.log; prefix = d.0.prefix; at = record { old = p.old; new = p.new; at = p.at; up = p.up; does = p.does; change = same-view t t a b events refl d.1 ∙ p.change } })
stops s t a b events (ev.Restart k) d =
    inr (subst (λ (z : Cluster). Kills (cluster_of s a.made a.open_ones events) k rp.Done z) (sym (same-view t t a b events refl d.1)) (d.0 a.made a.open_ones events))

-- what stays so of a cluster: its log, its schema, and how many replicas it has
pub record Rests (s t : Cluster) : Type 0 where
  pub log : t.table.log ≡ s.table.log
  pub schema : t.table.schema ≡ s.table.schema
  pub replicas : length t.replicas ≡ length s.replicas

same-rests : (s t : Cluster) → t ≡ s → Rests s t
same-rests s t q = record { log = ap (λ (z : Cluster). z.table.log) q; schema = ap (λ (z : Cluster). z.table.schema) q; replicas = ap (λ (z : Cluster). length z.replicas) q }

pub rests : (s t : Cluster) (e : Event) → Stops s e t → Rests s t
rests s t e (inl q) = same-rests s t q
rests s t (ev.Allocate k x need) (inr d) = absurd d
rests s t (ev.Again id) (inr d) = absurd d
rests s t (ev.Stage id) (inr d) = absurd d
rests s t (ev.Commit id) (inr d) = absurd d
rests s t (ev.Abandon id) (inr d) = absurd d
rests s t (ev.Apply k i) (inr d) = absurd d
rests s t (ev.Merge k sources) (inr d) = absurd d
rests s t (ev.Mutate k old upto) (inr d) = absurd d
rests s t (ev.Note k) (inr d) = absurd d
rests s t (ev.Fetches k allowed) (inr d) = absurd d
rests s t (ev.CreateMutation command) (inr d) = absurd d
rests s t (ev.DropPartition p) (inr d) = absurd d
rests s t (ev.Kill k) (inr d) = absurd d
rests s t (ev.Pull k) (inr d) = let q = d.at.change in record {
  log = ap (λ (z : Cluster). z.table.log) q;
  schema = ap (λ (z : Cluster). z.table.schema) q;
  replicas = ap (λ (z : Cluster). length z.replicas) q ∙ length-with s.replicas k d.at.new;
}
rests s t (ev.Restart k) (inr d) = let q = d.change in record {
  log = ap (λ (z : Cluster). z.table.log) q ∙ ap (λ (u : Table). u.log) d.closes;
  schema = ap (λ (z : Cluster). z.table.schema) q ∙ ap (λ (u : Table). u.schema) d.closes;
  replicas = ap (λ (z : Cluster). length z.replicas) q ∙ length-with s.replicas k d.new;
}

-- the event that is stored is the newest
pub stored-next : (olds room news : List (Event × Reply)) (e : Event) (r : Reply) → room ≡ olds → news ≡ (e, r) ∷ room → news ≡ (e, r) ∷ olds
stored-next olds room news e r q n = n ∙ ap (λ (es : List (Event × Reply)). (e, r) ∷ es) q
