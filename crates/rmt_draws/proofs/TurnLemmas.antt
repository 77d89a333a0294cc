-- A turn at the replica that is drawn is the turn of each cluster that has these replicas.
use Rattle.std.proofs.Common.{◌≡◌, ℕ, ◌%◌, List, [], ◌∷◌, map, length, sym, ap, ◌∙◌}
use Rattle.std.proofs.lemmas.List.{length-map}
use Rattle.std.proofs.lemmas.Option.{slice_get-map, get_or_from_slice_get}
use Rattle.std.specs.Prelude.{slice_get, IfOk}
use Rattle.std.specs.Option.{option_map}
use Rattle.std.specs.declared.alloc.AllocError.{AllocError}
use Rattle.std.specs.declared.option.Option.{Option}
use Rattle.std.specs.declared.option.Option.TheVariants.{Some}
use Rattle.std.specs.declared.result.Result.{Result}
use Rattle.std.specs.declared.result.Result.TheVariants.{Ok, Err}
use Rattle.rmt_replica.specs.Replicas.{ReplicaView}
use Rattle.rmt_replica.specs.SeenReplica.{shown}
use Rattle.rmt_events.specs.Views.{Replica}
use Rattle.rmt_events.specs.Clusters.{Cluster}
use Rattle.rmt_events.specs.declared.event.Event.{Event}
use Rattle.rmt_events.specs.declared.event.Event.TheVariants as ev
use Rattle.rmt_events.specs.Draws.{Turn, stepped, drawn, apply_or_pull, turn_at, turn_with, turn}
use Rattle.rmt_draws.specs.Turns.{IsTurn}

-- ---- an entry that is drawn

pub some-applies : (x k count entry : ℕ) (places : List ℕ) → count ≡ length places
    → slice_get places (drawn (stepped x) % count) ≡ Some entry
    → apply_or_pull x k places ≡ record { event = ev.Apply k entry; state = stepped x }
some-applies x k count entry [] e g = absurd (cc)
some-applies x k count entry (i ∷ is) e g =
    let places = i ∷ is in
    let got = ap (λ (n : ℕ). slice_get places (drawn (stepped x) % n)) (sym e) ∙ g in
    ap (λ (n : ℕ). record { event = ev.Apply k n; state = stepped x })
    (get_or_from_slice_get places (drawn (stepped x) % length places) entry i got)

-- ---- the turn of a cluster

drawn-replica : (s : Cluster) (replicas : List ReplicaView) (n : ℕ) (r : ReplicaView) → s.replicas ≡ map shown replicas
    → slice_get replicas (n % length replicas) ≡ Some r → slice_get s.replicas (n % length s.replicas) ≡ Some (shown r)
drawn-replica s replicas n r e g =
    ap (λ (rs : List Replica). slice_get rs (n % length rs)) e
    ∙ (ap (λ (k : ℕ). slice_get (map shown replicas) (n % k)) (length-map replicas shown)
    ∙ (slice_get-map shown replicas (n % length replicas)
    ∙ ap (option_map shown) g))

-- the replica that a state of the generator gives
pub record IsDrawn (replicas : List ReplicaView) (x : ℕ) (r : ReplicaView) : Type 0 where
  pub there : slice_get replicas (drawn x % length replicas) ≡ Some r

-- the turn at a replica, from the state before it
abbrev turn_from : ℕ → ReplicaView → Turn
turn_from x r = turn_at (drawn (stepped x) % 8) (stepped (stepped x)) (shown r)

turn-is : (replicas : List ReplicaView) (x : ℕ) (r : ReplicaView) (event : Event) (state : ℕ)
    → IsDrawn replicas (stepped (stepped x)) r → event ≡ (turn_from x r).event → state ≡ (turn_from x r).state
    → IsTurn replicas x event state
turn-is replicas x r event state d e f = record {
  event_is = λ s q. e ∙ ap (λ (t : Turn). t.event) (same s q);
  state_is = λ s q. f ∙ ap (λ (t : Turn). t.state) (same s q);
}
  where
    same : (s : Cluster) → s.replicas ≡ map shown replicas → turn_from x r ≡ turn s x
    same s q =
        let there = drawn-replica s replicas (drawn (stepped (stepped x))) r q d.there in
        ap (λ (o : Option Replica). turn_with (drawn (stepped x) % 8) (stepped (stepped x)) o) (sym there)

pub turn-told : (t : Result (Event × ℕ) AllocError) (replicas : List ReplicaView) (x kind state : ℕ) (r : ReplicaView)
    → kind ≡ drawn (stepped x) → state ≡ stepped (stepped x) → IsDrawn replicas (stepped (stepped x)) r
    → IfOk t (λ y. y.0 ≡ (turn_at (kind % 8) state (shown r)).event)
    → IfOk t (λ y. y.1 ≡ (turn_at (kind % 8) state (shown r)).state) → IfOk t (λ y. IsTurn replicas x y.0 y.1)
turn-told (Err z) replicas x kind state r k s d e f = tt
turn-told (Ok y) replicas x kind state r k s d e f =
    let same : turn_at (kind % 8) state (shown r) ≡ turn_from x r =
    ap (λ (n : ℕ). turn_at (n % 8) state (shown r)) k
    ∙ ap (λ (n : ℕ). turn_at (drawn (stepped x) % 8) n (shown r)) s in
    turn-is replicas x r y.0 y.1 d (e ∙ ap (λ (t : Turn). t.event) same) (f ∙ ap (λ (t : Turn). t.state) same)
