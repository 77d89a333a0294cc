-- Which replicas are up stays so under each event but Kill, and Restart of a replica that is down.
use Rattle.std.proofs.Common.{◌≡◌, ℕ, ◌<◌, inl, inr, Bool, true, false, cond, List, [], ◌∷◌, refl, sym, ap, subst, ◌∙◌, arith, nat_eq}
use Rattle.std.proofs.Math.Path.{fun_ext}
use Rattle.std.proofs.lemmas.Bool.Decides.{nat_tests}
use Rattle.rmt_model.specs.Words.{Has, Pairwise}
use Rattle.rmt_model.proofs.Lists.{Each-at}
use Rattle.rmt_events.specs.Views.{Replica}
use Rattle.rmt_events.specs.ReplicaCalls.{Settles}
use Rattle.rmt_events.specs.Clusters.{Cluster, with_replica}
use Rattle.rmt_events.specs.ClusterChanges.{IsNumbered, AtReplica, IsDown}
use Rattle.rmt_events.specs.InsertEvents.{EndsAttempt}
use Rattle.rmt_events.specs.ApplyEvents.{AppliesTo}
use Rattle.rmt_events.specs.Steps.{Does, Step}
use Rattle.rmt_events.specs.Whole.{IsWhole}
use Rattle.rmt_events.proofs.Supplies.{number-applies}
use Rattle.rmt_statement_model.specs.Shows.{up_at, ups}
use Rattle.rmt_events.specs.declared.event.Event.{Event}
use Rattle.rmt_events.specs.declared.reply.Reply.{Reply}
use Rattle.rmt_events.specs.declared.applied.Applied.{Applied}
use Rattle.rmt_events.specs.declared.event.Event.TheVariants as ev
use Rattle.rmt_events.specs.declared.applied.Applied.TheVariants as ap_

-- ---- which replicas are up

same-number : (i j : ℕ) → i ≡ j → nat_eq i j ≡ true
same-number i j e = grind (arith, nat_tests)

other-number : (i j : ℕ) → (i ≡ j → ⊥) → nat_eq i j ≡ false
other-number i j n = go (nat_eq i j) refl
  where
    go : (b : Bool) → nat_eq i j ≡ b → b ≡ false
    go false e = refl
    go true e = absurd (n (let u : i ≡ j = grind (arith, nat_tests) in u))

-- each replica tells whether that of its number is up
pub up-of : (xs : List Replica) (x : Replica) → Pairwise (λ a b. a.number < b.number) xs → Has xs x → up_at xs x.number ≡ x.up
up-of [] x r h = absurd h
up-of (z ∷ xs) x r (inl e) = rw (same-number z.number x.number (ap (λ (v : Replica). v.number) e)) (ap (λ (v : Replica). v.up) e)
up-of (z ∷ xs) x r (inr h) =
    let l = Each-at (λ b. z.number < b.number) xs x r.0 h in
    rw (other-number z.number x.number (λ e. absurd (omega (arith, l, e)))) (up-of xs x r.1 h)

-- with another one in place of that of a number
pub up-with : (xs : List Replica) (k j : ℕ) (x y : Replica) → Has xs x → x.number ≡ k → y.number ≡ k → up_at (with_replica xs k y) j ≡ cond (nat_eq k j) y.up (up_at xs j)
up-with [] k j x y h e f = absurd h
up-with (z ∷ xs) k j x y h e f = go (nat_eq z.number k) refl h (λ m. up-with xs k j x y m e f)
  where
    same : (b : Bool) → nat_eq k j ≡ b → nat_eq z.number k ≡ true → cond (nat_eq y.number j) y.up (up_at xs j) ≡ cond b y.up (cond (nat_eq z.number j) z.up (up_at xs j))
    same true q r = let u : nat_eq y.number j ≡ true = grind (arith, nat_tests) in rw u refl
    same false q r = let u : nat_eq y.number j ≡ false = grind (arith, nat_tests) in let v : nat_eq z.number j ≡ false = grind (arith, nat_tests) in rw (u, v) refl

    other : (b d : Bool) → nat_eq k j ≡ b → nat_eq z.number j ≡ d → nat_eq z.number k ≡ false → cond d z.up (cond b y.up (up_at xs j)) ≡ cond b y.up (cond d z.up (up_at xs j))
    other true true q r n = absurd (grind (arith, nat_tests))
    other true false q r n = refl
    other false true q r n = refl
    other false false q r n = refl

    go : (b : Bool) → nat_eq z.number k ≡ b → Has (z ∷ xs) x → (Has xs x → up_at (with_replica xs k y) j ≡ cond (nat_eq k j) y.up (up_at xs j)) → up_at (cond b (y ∷ xs) (z ∷ with_replica xs k y)) j ≡ cond (nat_eq k j) y.up (cond (nat_eq z.number j) z.up (up_at xs j))
    go true q m g = same (nat_eq k j) refl q
    go false q (inl m) g = let u : z.number ≡ k = ap (λ (v : Replica). v.number) m ∙ e in absurd (grind (arith, nat_tests))
    go false q (inr m) g = ap (λ (b : Bool). cond (nat_eq z.number j) z.up b) (g m) ∙ other (nat_eq k j) (nat_eq z.number j) refl refl q

-- ---- events

-- the event ends no session, and begins none at a replica that is down
abbrev pub KeepsSessions : (ℕ → Bool) → Event → Type 0
KeepsSessions up (ev.Kill k) = ⊥
KeepsSessions up (ev.Restart k) = up k ≡ true
KeepsSessions up e = Unit {0}

-- each replica is up as before
abbrev AreUpAsBefore : Cluster → Cluster → Type 0
AreUpAsBefore s u = (k : ℕ) → ups u k ≡ ups s k

-- the cluster is another one with the same replicas
ups-same : (s u : Cluster) → u.replicas ≡ s.replicas → AreUpAsBefore s u
ups-same s u e k = ap (λ (xs : List Replica). up_at xs k) e

-- one replica changes, and is up as before
ups-replaced : (s u : Cluster) (k : ℕ) (x y : Replica) → IsWhole s → u.replicas ≡ with_replica s.replicas k y → IsNumbered s k x → y.number ≡ x.number → y.up ≡ x.up → AreUpAsBefore s u
ups-replaced s u k x y w e at n q j =
    ap (λ (xs : List Replica). up_at xs j) e ∙ (up-with s.replicas k j x y at.is_in at.number (n ∙ at.number) ∙ go (nat_eq k j) refl)
  where
    is : up_at s.replicas k ≡ x.up
    is = subst (λ i. up_at s.replicas i ≡ x.up) at.number (up-of s.replicas x w.rising at.is_in)

    go : (b : Bool) → nat_eq k j ≡ b → cond b y.up (up_at s.replicas j) ≡ up_at s.replicas j
    go true r = q ∙ (sym is ∙ ap (λ i. up_at s.replicas i) (let m : k ≡ j = grind (arith, nat_tests) in m))
    go false r = refl

-- it alone changes
ups-at : (s u : Cluster) (k : ℕ) (Change : Replica → Replica → Type 0) → IsWhole s → (a : AtReplica s k Change u) → a.new.number ≡ a.old.number → a.new.up ≡ a.old.up → AreUpAsBefore s u
ups-at s u k Change w a n q = ups-replaced s u k a.old a.new w (ap (λ (x : Cluster). x.replicas) a.change) a.at n q

-- an attempt ends
ups-ends : (s u : Cluster) (id : ℕ) → IsWhole s → EndsAttempt s id u → AreUpAsBefore s u
ups-ends s u id w e = ups-replaced s u e.attempt.replica e.replica e.new w (ap (λ (x : Cluster). x.replicas) e.change) e.at (ap (λ (z : Replica). z.number) e.unstages) (ap (λ (z : Replica). z.up) e.unstages)

-- an entry is looked at
up-applies : (s : Cluster) (x y : Replica) (i : ℕ) (comes : Applied) → AppliesTo s i comes x y → y.up ≡ x.up
up-applies s x y i ap_.Already a = ap (λ (z : Replica). z.up) (Settles.change a.1)
up-applies s x y i ap_.Dropped a = ap (λ (z : Replica). z.up) (Settles.change a.1)
up-applies s x y i ap_.Installed (inl a) = ap (λ (z : Replica). z.up) a.1.change
up-applies s x y i ap_.Installed (inr a) = ap (λ (z : Replica). z.up) a.does.change

-- what the event does, before it is stored
ups-does : (s u : Cluster) (e : Event) (r : Reply) → IsWhole s → KeepsSessions (ups s) e → Does s e r u → AreUpAsBefore s u
ups-does s u (ev.Allocate k b need) r w q (inl d) = ups-same s u (ap (λ (x : Cluster). x.replicas) d.change)
ups-does s u (ev.Allocate k b need) r w q (inr d) = ups-same s u (ap (λ (x : Cluster). x.replicas) d.unchanged)
ups-does s u (ev.Again id) r w q (inl d) = ups-same s u (ap (λ (x : Cluster). x.replicas) d.change)
ups-does s u (ev.Again id) r w q (inr d) = ups-same s u (ap (λ (x : Cluster). x.replicas) d.unchanged)
ups-does s u (ev.Stage id) r w q (inl d) = ups-at s u d.attempt.replica _ w d.at (ap (λ (z : Replica). z.number) d.at.does) (ap (λ (z : Replica). z.up) d.at.does)
ups-does s u (ev.Stage id) r w q (inr d) = ups-same s u (ap (λ (x : Cluster). x.replicas) d.unchanged)
ups-does s u (ev.Commit id) r w q (inl d) = ups-same s u (ap (λ (x : Cluster). x.replicas) d.change)
ups-does s u (ev.Commit id) r w q (inr (inl d)) = ups-ends s u id w d.ends
ups-does s u (ev.Commit id) r w q (inr (inr d)) = ups-same s u (ap (λ (x : Cluster). x.replicas) d.unchanged)
ups-does s u (ev.Abandon id) r w q (inl d) = ups-ends s u id w d.0
ups-does s u (ev.Abandon id) r w q (inr d) = ups-same s u (ap (λ (x : Cluster). x.replicas) d.unchanged)
ups-does s u (ev.Pull k) r w q (inl d) = ups-at s u k _ w d.at (ap (λ (z : Replica). z.number) d.at.does) (ap (λ (z : Replica). z.up) d.at.does)
ups-does s u (ev.Pull k) r w q (inr d) = ups-same s u (ap (λ (x : Cluster). x.replicas) d.unchanged)
ups-does s u (ev.Apply k i) r w q (inl d) = ups-at s u k _ w d.at (number-applies s d.at.old d.at.new i d.comes d.at.does.1) (up-applies s d.at.old d.at.new i d.comes d.at.does.1)
ups-does s u (ev.Apply k i) r w q (inr d) = ups-same s u (ap (λ (x : Cluster). x.replicas) d.unchanged)
ups-does s u (ev.Merge k sources) r w q (inl d) = ups-same s u (ap (λ (x : Cluster). x.replicas) d.appends.at.change)
ups-does s u (ev.Merge k sources) r w q (inr d) = ups-same s u (ap (λ (x : Cluster). x.replicas) d.unchanged)
ups-does s u (ev.Mutate k part upto) r w q (inl d) = ups-same s u (ap (λ (x : Cluster). x.replicas) d.appends.at.change)
ups-does s u (ev.Mutate k part upto) r w q (inr d) = ups-same s u (ap (λ (x : Cluster). x.replicas) d.unchanged)
ups-does s u (ev.CreateMutation command) r w q (inl d) = ups-same s u (ap (λ (x : Cluster). x.replicas) d.at.change)
ups-does s u (ev.CreateMutation command) r w q (inr d) = ups-same s u (ap (λ (x : Cluster). x.replicas) d.unchanged)
ups-does s u (ev.DropPartition p) r w q (inl d) = ups-same s u (ap (λ (x : Cluster). x.replicas) d.1.at.change)
ups-does s u (ev.DropPartition p) r w q (inr (inl d)) = ups-same s u (ap (λ (x : Cluster). x.replicas) d.unchanged)
ups-does s u (ev.DropPartition p) r w q (inr (inr d)) = ups-same s u (ap (λ (x : Cluster). x.replicas) d.unchanged)
ups-does s u (ev.Kill k) r w q d = absurd q
ups-does s u (ev.Restart k) r w q d =
    let is : up_at s.replicas k ≡ d.old.up = subst (λ i. up_at s.replicas i ≡ d.old.up) d.at.number (up-of s.replicas d.old w.rising d.at.is_in) in
    ups-replaced s u k d.old d.new w (ap (λ (x : Cluster). x.replicas) d.change) d.at (ap (λ (z : Replica). z.number) d.wakes) (ap (λ (z : Replica). z.up) d.wakes ∙ (sym q ∙ is))
ups-does s u (ev.Note k) r w q (inl d) =
    ups-replaced s u k d.old d.new w (ap (λ (x : Cluster). x.replicas) d.change) d.is.at (ap (λ (z : Replica). z.number) d.notes.change) (ap (λ (z : Replica). z.up) d.notes.change)
ups-does s u (ev.Note k) r w q (inr (inl d)) = ups-same s u (ap (λ (x : Cluster). x.replicas) d.unchanged)
ups-does s u (ev.Note k) r w q (inr (inr d)) = ups-same s u (ap (λ (x : Cluster). x.replicas) d.unchanged)
ups-does s u (ev.Fetches k allowed) r w q d = ups-replaced s u k d.old (record d.old { fetches = allowed }) w (ap (λ (x : Cluster). x.replicas) d.change) d.at refl refl

-- the same replicas are up after such an event
pub ups-step : (s u : Cluster) (e : Event) (r : Reply) → IsWhole s → KeepsSessions (ups s) e → Step s e r u → ups u ≡ ups s
ups-step s u e r w q k = fun_ext (λ j. ap (λ (x : Cluster). up_at x.replicas j) k.stored ∙ ups-does s k.after e r w q k.does j)

-- a replica that is up is so after it
pub up-step : (s u : Cluster) (e : Event) (r : Reply) (k : ℕ) → IsWhole s → KeepsSessions (ups s) e → Step s e r u → ups s k ≡ true → ups u k ≡ true
up-step s u e r k w q st h = ap (λ (f : ℕ → Bool). f k) (ups-step s u e r w q st) ∙ h

-- the replica is up where it is told so
pub up-told : (s : Cluster) (k : ℕ) (x : Replica) → IsWhole s → IsNumbered s k x → ups s k ≡ true → x.up ≡ true
up-told s k x w at h = sym (up-of s.replicas x w.rising at.is_in) ∙ (ap (λ i. up_at s.replicas i) at.number ∙ h)

-- it isn't down then
pub not-down : (s : Cluster) (k : ℕ) → IsWhole s → ups s k ≡ true → IsDown s k → ⊥
not-down s k w h d = let e = up-told s k d.replica w d.at h in let q = d.down in absurd (cc)

-- a replica that is down is told so
pub down-told : (s : Cluster) (k : ℕ) → IsWhole s → IsDown s k → ups s k ≡ false
down-told s k w d = ap (λ i. up_at s.replicas i) (sym d.at.number) ∙ (up-of s.replicas d.replica w.rising d.at.is_in ∙ d.down)
