-- Which replicas may fetch stays so under each event but Fetches.
use Rattle.std.proofs.Common.{◌≡◌, ℕ, ◌<◌, inl, inr, Bool, true, false, cond, List, [], ◌∷◌, refl, sym, ap, subst, ◌∙◌, arith, nat_eq}
use Rattle.std.proofs.Math.Path.{fun_ext}
use Rattle.std.proofs.lemmas.Bool.Decides.{nat_tests}
use Rattle.rmt_model.specs.Words.{Has, Pairwise}
use Rattle.rmt_model.proofs.Lists.{Each-at}
use Rattle.rmt_events.specs.Views.{Replica}
use Rattle.rmt_events.specs.ReplicaCalls.{Settles}
use Rattle.rmt_events.specs.Clusters.{Cluster, with_replica}
use Rattle.rmt_events.specs.ClusterChanges.{IsNumbered, AtReplica}
use Rattle.rmt_events.specs.InsertEvents.{EndsAttempt}
use Rattle.rmt_events.specs.ApplyEvents.{AppliesTo}
use Rattle.rmt_events.specs.Steps.{Does, Step}
use Rattle.rmt_events.specs.Whole.{IsWhole}
use Rattle.rmt_events.proofs.Supplies.{number-applies}
use Rattle.rmt_statement_model.specs.Shows.{fetching_at, fetching_of}
use Rattle.rmt_events.specs.declared.event.Event.{Event}
use Rattle.rmt_events.specs.declared.reply.Reply.{Reply}
use Rattle.rmt_events.specs.declared.applied.Applied.{Applied}
use Rattle.rmt_events.specs.declared.event.Event.TheVariants as ev
use Rattle.rmt_events.specs.declared.applied.Applied.TheVariants as ap_

-- ---- which replicas may fetch

same-number : (i j : ℕ) → i ≡ j → nat_eq i j ≡ true
same-number i j e = grind (arith, nat_tests)

other-number : (i j : ℕ) → (i ≡ j → ⊥) → nat_eq i j ≡ false
other-number i j n = go (nat_eq i j) refl
  where
    go : (b : Bool) → nat_eq i j ≡ b → b ≡ false
    go false e = refl
    go true e = absurd (n (let u : i ≡ j = grind (arith, nat_tests) in u))

-- each replica tells whether that of its number may fetch
pub fetching-of : (xs : List Replica) (x : Replica) → Pairwise (λ a b. a.number < b.number) xs → Has xs x → fetching_at xs x.number ≡ x.fetches
fetching-of [] x r h = absurd h
fetching-of (z ∷ xs) x r (inl e) = rw (same-number z.number x.number (ap (λ (v : Replica). v.number) e)) (ap (λ (v : Replica). v.fetches) e)
fetching-of (z ∷ xs) x r (inr h) =
    let l = Each-at (λ b. z.number < b.number) xs x r.0 h in
    rw (other-number z.number x.number (λ e. absurd (omega (arith, l, e)))) (fetching-of xs x r.1 h)

-- with another one in place of that of a number
pub fetching-with : (xs : List Replica) (k j : ℕ) (x y : Replica) → Has xs x → x.number ≡ k → y.number ≡ k → fetching_at (with_replica xs k y) j ≡ cond (nat_eq k j) y.fetches (fetching_at xs j)
fetching-with [] k j x y h e f = absurd h
fetching-with (z ∷ xs) k j x y h e f = go (nat_eq z.number k) refl h (λ m. fetching-with xs k j x y m e f)
  where
    same : (b : Bool) → nat_eq k j ≡ b → nat_eq z.number k ≡ true → cond (nat_eq y.number j) y.fetches (fetching_at xs j) ≡ cond b y.fetches (cond (nat_eq z.number j) z.fetches (fetching_at xs j))
    same true q r = let u : nat_eq y.number j ≡ true = grind (arith, nat_tests) in rw u refl
    same false q r = let u : nat_eq y.number j ≡ false = grind (arith, nat_tests) in let v : nat_eq z.number j ≡ false = grind (arith, nat_tests) in rw (u, v) refl

    other : (b d : Bool) → nat_eq k j ≡ b → nat_eq z.number j ≡ d → nat_eq z.number k ≡ false → cond d z.fetches (cond b y.fetches (fetching_at xs j)) ≡ cond b y.fetches (cond d z.fetches (fetching_at xs j))
    other true true q r n = absurd (grind (arith, nat_tests))
    other true false q r n = refl
    other false true q r n = refl
    other false false q r n = refl

    go : (b : Bool) → nat_eq z.number k ≡ b → Has (z ∷ xs) x → (Has xs x → fetching_at (with_replica xs k y) j ≡ cond (nat_eq k j) y.fetches (fetching_at xs j)) → fetching_at (cond b (y ∷ xs) (z ∷ with_replica xs k y)) j ≡ cond (nat_eq k j) y.fetches (cond (nat_eq z.number j) z.fetches (fetching_at xs j))
    go true q m g = same (nat_eq k j) refl q
    go false q (inl m) g = let u : z.number ≡ k = ap (λ (v : Replica). v.number) m ∙ e in absurd (grind (arith, nat_tests))
    go false q (inr m) g = ap (λ (b : Bool). cond (nat_eq z.number j) z.fetches b) (g m) ∙ other (nat_eq k j) (nat_eq z.number j) refl refl q

-- ---- events

-- the event is no switch
abbrev pub IsNoSwitch : Event → Type 0
IsNoSwitch (ev.Fetches k allowed) = ⊥
IsNoSwitch e = Unit {0}

-- each replica may fetch as before
abbrev FetchAsBefore : Cluster → Cluster → Type 0
FetchAsBefore s u = (k : ℕ) → fetching_of u k ≡ fetching_of s k

-- the cluster is another one with the same replicas
switch-same : (s u : Cluster) → u.replicas ≡ s.replicas → FetchAsBefore s u
switch-same s u e k = ap (λ (xs : List Replica). fetching_at xs k) e

-- one replica changes, and may fetch as before
switch-replaced : (s u : Cluster) (k : ℕ) (x y : Replica) → IsWhole s → u.replicas ≡ with_replica s.replicas k y → IsNumbered s k x → y.number ≡ x.number → y.fetches ≡ x.fetches → FetchAsBefore s u
switch-replaced s u k x y w e at n q j =
    ap (λ (xs : List Replica). fetching_at xs j) e ∙ (fetching-with s.replicas k j x y at.is_in at.number (n ∙ at.number) ∙ go (nat_eq k j) refl)
  where
    is : fetching_at s.replicas k ≡ x.fetches
    is = subst (λ i. fetching_at s.replicas i ≡ x.fetches) at.number (fetching-of s.replicas x w.rising at.is_in)

    go : (b : Bool) → nat_eq k j ≡ b → cond b y.fetches (fetching_at s.replicas j) ≡ fetching_at s.replicas j
    go true r = q ∙ (sym is ∙ ap (λ i. fetching_at s.replicas i) (let m : k ≡ j = grind (arith, nat_tests) in m))
    go false r = refl

-- it alone changes
switch-at : (s u : Cluster) (k : ℕ) (Change : Replica → Replica → Type 0) → IsWhole s → (a : AtReplica s k Change u) → a.new.number ≡ a.old.number → a.new.fetches ≡ a.old.fetches → FetchAsBefore s u
switch-at s u k Change w a n q = switch-replaced s u k a.old a.new w (ap (λ (x : Cluster). x.replicas) a.change) a.at n q

-- an attempt ends
switch-ends : (s u : Cluster) (id : ℕ) → IsWhole s → EndsAttempt s id u → FetchAsBefore s u
switch-ends s u id w e = switch-replaced s u e.attempt.replica e.replica e.new w (ap (λ (x : Cluster). x.replicas) e.change) e.at (ap (λ (z : Replica). z.number) e.unstages) (ap (λ (z : Replica). z.fetches) e.unstages)

-- an entry is looked at
fetches-applies : (s : Cluster) (x y : Replica) (i : ℕ) (comes : Applied) → AppliesTo s i comes x y → y.fetches ≡ x.fetches
fetches-applies s x y i ap_.Already a = ap (λ (z : Replica). z.fetches) (Settles.change a.1)
fetches-applies s x y i ap_.Dropped a = ap (λ (z : Replica). z.fetches) (Settles.change a.1)
fetches-applies s x y i ap_.Installed (inl a) = ap (λ (z : Replica). z.fetches) a.1.change
fetches-applies s x y i ap_.Installed (inr a) = ap (λ (z : Replica). z.fetches) a.does.change

-- what the event does, before it is stored
switch-does : (s u : Cluster) (e : Event) (r : Reply) → IsWhole s → IsNoSwitch e → Does s e r u → FetchAsBefore s u
switch-does s u (ev.Allocate k b need) r w q (inl d) = switch-same s u (ap (λ (x : Cluster). x.replicas) d.change)
switch-does s u (ev.Allocate k b need) r w q (inr d) = switch-same s u (ap (λ (x : Cluster). x.replicas) d.unchanged)
switch-does s u (ev.Again id) r w q (inl d) = switch-same s u (ap (λ (x : Cluster). x.replicas) d.change)
switch-does s u (ev.Again id) r w q (inr d) = switch-same s u (ap (λ (x : Cluster). x.replicas) d.unchanged)
switch-does s u (ev.Stage id) r w q (inl d) = switch-at s u d.attempt.replica _ w d.at (ap (λ (z : Replica). z.number) d.at.does) (ap (λ (z : Replica). z.fetches) d.at.does)
switch-does s u (ev.Stage id) r w q (inr d) = switch-same s u (ap (λ (x : Cluster). x.replicas) d.unchanged)
switch-does s u (ev.Commit id) r w q (inl d) = switch-same s u (ap (λ (x : Cluster). x.replicas) d.change)
switch-does s u (ev.Commit id) r w q (inr (inl d)) = switch-ends s u id w d.ends
switch-does s u (ev.Commit id) r w q (inr (inr d)) = switch-same s u (ap (λ (x : Cluster). x.replicas) d.unchanged)
switch-does s u (ev.Abandon id) r w q (inl d) = switch-ends s u id w d.0
switch-does s u (ev.Abandon id) r w q (inr d) = switch-same s u (ap (λ (x : Cluster). x.replicas) d.unchanged)
switch-does s u (ev.Pull k) r w q (inl d) = switch-at s u k _ w d.at (ap (λ (z : Replica). z.number) d.at.does) (ap (λ (z : Replica). z.fetches) d.at.does)
switch-does s u (ev.Pull k) r w q (inr d) = switch-same s u (ap (λ (x : Cluster). x.replicas) d.unchanged)
switch-does s u (ev.Apply k i) r w q (inl d) = switch-at s u k _ w d.at (number-applies s d.at.old d.at.new i d.comes d.at.does.1) (fetches-applies s d.at.old d.at.new i d.comes d.at.does.1)
switch-does s u (ev.Apply k i) r w q (inr d) = switch-same s u (ap (λ (x : Cluster). x.replicas) d.unchanged)
switch-does s u (ev.Merge k sources) r w q (inl d) = switch-same s u (ap (λ (x : Cluster). x.replicas) d.appends.at.change)
switch-does s u (ev.Merge k sources) r w q (inr d) = switch-same s u (ap (λ (x : Cluster). x.replicas) d.unchanged)
switch-does s u (ev.Mutate k part upto) r w q (inl d) = switch-same s u (ap (λ (x : Cluster). x.replicas) d.appends.at.change)
switch-does s u (ev.Mutate k part upto) r w q (inr d) = switch-same s u (ap (λ (x : Cluster). x.replicas) d.unchanged)
switch-does s u (ev.CreateMutation command) r w q (inl d) = switch-same s u (ap (λ (x : Cluster). x.replicas) d.at.change)
switch-does s u (ev.CreateMutation command) r w q (inr d) = switch-same s u (ap (λ (x : Cluster). x.replicas) d.unchanged)
switch-does s u (ev.DropPartition p) r w q (inl d) = switch-same s u (ap (λ (x : Cluster). x.replicas) d.1.at.change)
switch-does s u (ev.DropPartition p) r w q (inr (inl d)) = switch-same s u (ap (λ (x : Cluster). x.replicas) d.unchanged)
switch-does s u (ev.DropPartition p) r w q (inr (inr d)) = switch-same s u (ap (λ (x : Cluster). x.replicas) d.unchanged)
switch-does s u (ev.Kill k) r w q d = switch-replaced s u k d.old d.new w (ap (λ (x : Cluster). x.replicas) d.change) d.at (ap (λ (z : Replica). z.number) d.dies) (ap (λ (z : Replica). z.fetches) d.dies)
switch-does s u (ev.Restart k) r w q d = switch-replaced s u k d.old d.new w (ap (λ (x : Cluster). x.replicas) d.change) d.at (ap (λ (z : Replica). z.number) d.wakes) (ap (λ (z : Replica). z.fetches) d.wakes)
switch-does s u (ev.Note k) r w q (inl d) =
    switch-replaced s u k d.old d.new w (ap (λ (x : Cluster). x.replicas) d.change) d.is.at (ap (λ (z : Replica). z.number) d.notes.change) (ap (λ (z : Replica). z.fetches) d.notes.change)
switch-does s u (ev.Note k) r w q (inr (inl d)) = switch-same s u (ap (λ (x : Cluster). x.replicas) d.unchanged)
switch-does s u (ev.Note k) r w q (inr (inr d)) = switch-same s u (ap (λ (x : Cluster). x.replicas) d.unchanged)
switch-does s u (ev.Fetches k allowed) r w q d = absurd q

-- the same replicas may fetch after such an event
pub switch-step : (s u : Cluster) (e : Event) (r : Reply) → IsWhole s → IsNoSwitch e → Step s e r u → fetching_of u ≡ fetching_of s
switch-step s u e r w q k = fun_ext (λ j. ap (λ (x : Cluster). fetching_at x.replicas j) k.stored ∙ switch-does s k.after e r w q k.does j)

-- the switch is told by the replica itself
pub fetching-told : (s : Cluster) (k : ℕ) (x : Replica) → IsWhole s → IsNumbered s k x → fetching_of s k ≡ x.fetches
fetching-told s k x w at = subst (λ i. fetching_at s.replicas i ≡ x.fetches) at.number (fetching-of s.replicas x w.rising at.is_in)
