-- Turns of a generator at a cluster: each event is one that the cluster takes.
use Rattle.std.proofs.Common.{◌≡◌, ℕ, zero, suc, ◌+◌, ◌%◌, ◌<◌, ◌≤◌, inl, inr, Bool, true, false, cond, not, ◌&&◌, ◌||◌, ◌∙◌, List, [], ◌∷◌, length, map, refl, sym, ap, subst, arith, nat_eq, nat_le}
use Rattle.std.specs.Prelude.{slice_get, IfOk}
use Rattle.std.proofs.lemmas.List.{length-append, length-map}
use Rattle.std.specs.declared.option.Option.{Option}
use Rattle.std.specs.declared.result.Result.{Result}
use Rattle.std.specs.declared.result.Result.TheVariants.{Ok, Err}
use Rattle.std.specs.declared.option.Option.TheVariants.{Some, None}
use Rattle.rmt_values.specs.Rows.{Shape}
use Rattle.rmt_names.specs.Names.{Name}
use Rattle.rmt_entries.specs.declared.entry.Entry.{Entry}
use Rattle.rmt_model.specs.Words.{Has}
use Rattle.rmt_model.specs.Lawful.{IsPrefix}
use Rattle.rmt_history.proofs.ListLemmas.{get-has}
use Rattle.rmt_table_model.specs.Held.{Held}
use Rattle.rmt_replica.specs.Replicas.{ReplicaView}
use Rattle.rmt_replica.specs.SeenReplica.{shown}
use Rattle.rmt_events.specs.Views.{Replica}
use Rattle.rmt_events.specs.Clusters.{Attempt, Cluster}
use Rattle.rmt_events.specs.Draws.{Runs, TurnsTo, NotesAfter, noting, covers_pending, stepped, drawn, pending, chosen, next_mutation, turn, turn_with, turn_at, apply_or_pull, merge_or_pull, mutate_or_pull}
use Rattle.rmt_events.specs.declared.event.Event.{Event}
use Rattle.rmt_events.specs.declared.event.Event.TheVariants as ev
use Rattle.rmt_events.specs.declared.reply.Reply.{Reply}
use Rattle.rmt_draws.specs.Turns.{IsTurn}
use Rattle.rmt_state.specs.States.{StateView, AreNumbered, IsState, cluster_of}
use Rattle.rmt_state.specs.States.{IsNumber}
use Rattle.rmt_cluster.specs.Clusters.{IsTaken, MayStep}
use Rattle.rmt_events.specs.Steps.{Step}
use Rattle.rmt_cluster.specs.Runs.{TakesTurn, replica_applying}

-- ---- copies of the log

prefix-short : (a b : List Entry) → IsPrefix a b → length a ≤ length b
prefix-short a b p = let e = ap length p.is in let l = length-append p.gained a in omega (arith, e, l)

-- a copy has no more entries than the table's log
pub copy-short : (tree : Held) (k : ℕ) (rs : List ReplicaView) (r : ReplicaView) → AreNumbered tree k rs → Has rs r → length r.log ≤ length tree.log
copy-short tree k [] r n h = absurd h
copy-short tree k (x ∷ rs) r n (inl q) = subst (λ (z : ReplicaView). length z.log ≤ length tree.log) q (prefix-short x.log tree.log n.0.copy.prefix)
copy-short tree k (x ∷ rs) r n (inr h) = copy-short tree (k + 1) rs r n.1 h

-- ---- the replica of a turn

-- a number of one of so many replicas, where k is the number of the first
record IsFrom (k count n : ℕ) : Type 0 where
  pub first : k ≤ n
  pub last : n < k + count

numbers-from : (tree : Held) (k : ℕ) (rs : List ReplicaView) (x : Replica) → AreNumbered tree k rs → Has (map shown rs) x → IsFrom k (length rs) x.number
numbers-from tree k [] x n h = absurd h
numbers-from tree k (r ∷ rs) x n (inl q) =
    let a = n.0.numbered in
    let b = ap (λ (z : Replica). z.number) q in
    record { first = omega (arith, a, b); last = omega (arith, a, b) }
numbers-from tree k (r ∷ rs) x n (inr h) =
    let i = numbers-from tree (k + 1) rs x n.1 h in
    let f = i.first in
    let l = i.last in
    record { first = omega (arith, f); last = omega (arith, l) }

-- each replica has one of the numbers
abbrev AreAllNumbers : List Replica → Type 0
AreAllNumbers rs = (x : Replica) → Has rs x → IsNumber x.number (length rs)

all-numbers : (s : StateView) → IsState s → AreAllNumbers (map shown s.replicas)
all-numbers s w x h =
    let i = numbers-from s.tree 1 s.replicas x w.numbered h in
    let f = i.first in
    let l = i.last in
    let c = length-map s.replicas shown in
    record { first = omega (arith, f); last = omega (arith, l, c) }

-- ---- the event of a turn

apply-taken : (schema : Shape) (count x k : ℕ) (places : List ℕ) → IsNumber k count → IsTaken schema count (apply_or_pull x k places).event
apply-taken schema count x k [] n = n
apply-taken schema count x k (i ∷ is) n = n

merge-taken : (schema : Shape) (count k : ℕ) (found : Option (List Name)) → IsNumber k count → IsTaken schema count (merge_or_pull k found)
merge-taken schema count k None n = n
merge-taken schema count k (Some names) n = n

mutate-taken : (schema : Shape) (count k : ℕ) (found : Option (Name × ℕ)) → IsNumber k count → IsTaken schema count (mutate_or_pull k found)
mutate-taken schema count k None n = n
mutate-taken schema count k (Some m) n = n

restart-taken : (schema : Shape) (count k : ℕ) (up : Bool) → IsNumber k count → IsTaken schema count (cond up (ev.Restart k) (ev.Pull k))
restart-taken schema count k true n = n
restart-taken schema count k false n = n

turn-taken : (schema : Shape) (count a x : ℕ) (r : Replica) → IsNumber r.number count → IsTaken schema count (turn_at a x r).event
turn-taken schema count a x r n = go (nat_le a 1) (nat_le a 4) (nat_eq a 5) (nat_eq a 6)
  where
    go : (b c d e : Bool) → IsTaken schema count (cond b (record { event = ev.Pull r.number; state = x })
        (cond c (apply_or_pull x r.number (pending r))
        (cond d (record { event = merge_or_pull r.number (chosen r.log 10); state = x })
        (cond e (record { event = mutate_or_pull r.number (next_mutation r.log); state = x })
        (record { event = cond r.up (ev.Restart r.number) (ev.Pull r.number); state = x }))))).event
    go true c d e = n
    go false true d e = apply-taken schema count x r.number (pending r) n
    go false false true e = merge-taken schema count r.number (chosen r.log 10) n
    go false false false true = mutate-taken schema count r.number (next_mutation r.log) n
    go false false false false = restart-taken schema count r.number r.up n

none-past : (rs : List Replica) (i : ℕ) → slice_get rs i ≡ None → i < length rs → ⊥
none-past [] i e l = omega (arith, l)
none-past (r ∷ rs) zero e l = absurd (cc)
none-past (r ∷ rs) (suc i) e l = none-past rs i e (omega (arith, l))

with-taken : (schema : Shape) (rs : List Replica) (a x i : ℕ) → AreAllNumbers rs → i < length rs → IsTaken schema (length rs) (turn_with a x (slice_get rs i)).event
with-taken schema rs a x i f l = go (slice_get rs i) refl
  where
    go : (o : Option Replica) → slice_get rs i ≡ o → IsTaken schema (length rs) (turn_with a x o).event
    go (Some r) e = turn-taken schema (length rs) a x r (f r (get-has rs i r e))
    go None e = absurd (none-past rs i e l)

-- the cluster of a state takes the event of each of its turns
pub turn-may : (s : StateView) (made : ℕ) (attempts : List Attempt) (events : List (Event × Reply)) (x : ℕ) → IsState s → 1 ≤ length s.replicas → MayStep (cluster_of s made attempts events) (turn (cluster_of s made attempts events) x).event
turn-may s made attempts events x w n =
    let c = length-map s.replicas shown in
    let l : drawn (stepped (stepped x)) % length (map shown s.replicas) < length (map shown s.replicas) = omega (arith, n, c) in
    with-taken s.tree.schema (map shown s.replicas) (drawn (stepped x) % 8) (stepped (stepped x)) (drawn (stepped (stepped x)) % length (map shown s.replicas)) (all-numbers s w) l

-- ---- what was drawn

pub drawn-event : {E : Type 0} (r : Result (Event × ℕ) E) (rs : List ReplicaView) (x : ℕ) (s : Cluster) → s.replicas ≡ map shown rs → IfOk r (λ t. IsTurn rs x t.0 t.1) → IfOk r (λ t. t.0 ≡ (turn s x).event)
drawn-event (Ok t) rs x s q d = d.event_is s q
drawn-event (Err e) rs x s q d = tt

pub drawn-state : {E : Type 0} (r : Result (Event × ℕ) E) (rs : List ReplicaView) (x : ℕ) (s : Cluster) → s.replicas ≡ map shown rs → IfOk r (λ t. IsTurn rs x t.0 t.1) → IfOk r (λ t. t.1 ≡ (turn s x).state)
drawn-state (Ok t) rs x s q d = d.state_is s q
drawn-state (Err e) rs x s q d = tt

pub drawn-may : {E : Type 0} (r : Result (Event × ℕ) E) (x : ℕ) (s : Cluster) → MayStep s (turn s x).event → IfOk r (λ t. t.0 ≡ (turn s x).event) → IfOk r (λ t. MayStep s t.0)
drawn-may (Ok t) x s m d = subst (MayStep s) (sym d) m
drawn-may (Err e) x s m d = tt

-- ---- turns

-- one more turn
pub one-more : (s : Cluster) (seed n : ℕ) (mid : Cluster) (x : ℕ) (t : Cluster) (y : ℕ) → Runs s seed n mid x → TakesTurn mid x t y → Runs s seed (n + 1) t y
one-more s seed n mid x t y r d = subst (λ m. Runs s seed m t y) (let q : suc n ≡ n + 1 = omega arith in q) (mid, x, r, d.turns, d.state)

-- ---- the note after an event

pub noting-none : (s : Cluster) (e : Event) (t : Cluster) → replica_applying e ≡ None → noting s e t ≡ None
noting-none s (ev.Apply k i) t q = absurd (cc)
noting-none s (ev.Allocate k block need) t q = refl
noting-none s (ev.Again id) t q = refl
noting-none s (ev.Stage id) t q = refl
noting-none s (ev.Commit id) t q = refl
noting-none s (ev.Abandon id) t q = refl
noting-none s (ev.Pull k) t q = refl
noting-none s (ev.Merge k sources) t q = refl
noting-none s (ev.Mutate k old upto) t q = refl
noting-none s (ev.CreateMutation command) t q = refl
noting-none s (ev.DropPartition p) t q = refl
noting-none s (ev.Kill k) t q = refl
noting-none s (ev.Restart k) t q = refl
noting-none s (ev.Note k) t q = refl
noting-none s (ev.Fetches k allowed) t q = refl

pub noting-some : (s : Cluster) (e : Event) (t : Cluster) (k : ℕ) → replica_applying e ≡ Some k → noting s e t ≡ cond (not (covers_pending s k) && covers_pending t k) (Some k) None
noting-some s (ev.Apply j i) t k q =
    let e : j ≡ k = cc in
    ap (λ m. cond (not (covers_pending s m) && covers_pending t m) (Some m) None) e
noting-some s (ev.Allocate k block need) t m q = absurd (cc)
noting-some s (ev.Again id) t m q = absurd (cc)
noting-some s (ev.Stage id) t m q = absurd (cc)
noting-some s (ev.Commit id) t m q = absurd (cc)
noting-some s (ev.Abandon id) t m q = absurd (cc)
noting-some s (ev.Pull k) t m q = absurd (cc)
noting-some s (ev.Merge k sources) t m q = absurd (cc)
noting-some s (ev.Mutate k old upto) t m q = absurd (cc)
noting-some s (ev.CreateMutation command) t m q = absurd (cc)
noting-some s (ev.DropPartition p) t m q = absurd (cc)
noting-some s (ev.Kill k) t m q = absurd (cc)
noting-some s (ev.Restart k) t m q = absurd (cc)
noting-some s (ev.Note k) t m q = absurd (cc)
noting-some s (ev.Fetches k allowed) t m q = absurd (cc)

pub applying-here : (s : Cluster) (e : Event) (k : ℕ) → MayStep s e → replica_applying e ≡ Some k → IsNumber k (length s.replicas)
applying-here s (ev.Apply j i) k h q = let e : j ≡ k = cc in subst (λ m. IsNumber m (length s.replicas)) e h
applying-here s (ev.Allocate k block need) m h q = absurd (cc)
applying-here s (ev.Again id) m h q = absurd (cc)
applying-here s (ev.Stage id) m h q = absurd (cc)
applying-here s (ev.Commit id) m h q = absurd (cc)
applying-here s (ev.Abandon id) m h q = absurd (cc)
applying-here s (ev.Pull k) m h q = absurd (cc)
applying-here s (ev.Merge k sources) m h q = absurd (cc)
applying-here s (ev.Mutate k old upto) m h q = absurd (cc)
applying-here s (ev.CreateMutation command) m h q = absurd (cc)
applying-here s (ev.DropPartition p) m h q = absurd (cc)
applying-here s (ev.Kill k) m h q = absurd (cc)
applying-here s (ev.Restart k) m h q = absurd (cc)
applying-here s (ev.Note k) m h q = absurd (cc)
applying-here s (ev.Fetches k allowed) m h q = absurd (cc)

-- an event that isn't followed by a note
pub turned : (s : Cluster) (e : Event) (reply : Reply) (t : Cluster) → Step s e reply t → noting s e t ≡ None → TurnsTo s e t
turned s e reply t g q = record { mid = t; reply = reply; step = g; notes = subst (λ (o : Option ℕ). NotesAfter o t t) (sym q) refl }

-- no note comes where the replica had the part before, or hasn't got it now
pub no-note : (s : Cluster) (e : Event) (t : Cluster) (k : ℕ) (had has : Bool) → replica_applying e ≡ Some k → had ≡ covers_pending s k → has ≡ covers_pending t k → (had || not has) ≡ true → noting s e t ≡ None
no-note s e t k had has q h g c =
    noting-some s e t k q ∙ (ap (λ (v : Bool). cond (not v && covers_pending t k) (Some k) None) (sym h) ∙ (ap (λ (v : Bool). cond (not had && v) (Some k) None) (sym g) ∙ go had has c))
  where
    go : (u v : Bool) → (u || not v) ≡ true → cond (not u && v) (Some k) None ≡ None
    go true v c = refl
    go false true c = absurd (cc)
    go false false c = refl

-- the replica has got the part
pub a-note : (s : Cluster) (e : Event) (t : Cluster) (k : ℕ) (had has : Bool) → replica_applying e ≡ Some k → had ≡ covers_pending s k → has ≡ covers_pending t k → (had || not has) ≡ false → noting s e t ≡ Some k
a-note s e t k had has q h g c =
    noting-some s e t k q ∙ (ap (λ (v : Bool). cond (not v && covers_pending t k) (Some k) None) (sym h) ∙ (ap (λ (v : Bool). cond (not had && v) (Some k) None) (sym g) ∙ go had has c))
  where
    go : (u v : Bool) → (u || not v) ≡ false → cond (not u && v) (Some k) None ≡ Some k
    go true v c = absurd (cc)
    go false true c = refl
    go false false c = absurd (cc)

pub noted-after : (s : Cluster) (e : Event) (reply : Reply) (m : Cluster) (k : ℕ) (answer : Reply) (t : Cluster) → Step s e reply m → noting s e m ≡ Some k → Step m (ev.Note k) answer t → TurnsTo s e t
noted-after s e reply m k answer t g q n = record { mid = m; reply = reply; step = g; notes = subst (λ (o : Option ℕ). NotesAfter o m t) (sym q) (answer, n) }
