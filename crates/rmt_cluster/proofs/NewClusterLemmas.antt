-- A new cluster, put together from a new state.
use Rattle.std.proofs.Common.{◌≡◌, ℕ, ◌+◌, suc, ◌≤◌, Bool, List, [], ◌∷◌, map, length, refl, sym, ap, subst, arith, ◌∙◌}
use Rattle.rmt_values.specs.Rows.{Shape}
use Rattle.rmt_model.specs.Words.{Has, Each}
use Rattle.rmt_table_model.specs.Held.{Held}
use Rattle.rmt_replica.specs.Replicas.{ReplicaView}
use Rattle.rmt_replica.specs.SeenReplica.{shown}
use Rattle.rmt_events.specs.Clusters.{Attempt}
use Rattle.rmt_events.specs.Whole.{IsWhole}
use Rattle.rmt_events.specs.declared.event.Event.{Event}
use Rattle.rmt_events.specs.declared.reply.Reply.{Reply}
use Rattle.rmt_state.specs.States.{StateView, AreNumbered, Belongs, cluster_of}
use Rattle.rmt_state.specs.NewStates.{IsNewState}
use Rattle.rmt_cluster.specs.Attempts.{OpenAttempts}
use Rattle.rmt_cluster.specs.NewClusters.{AreCounted, IsNewCluster}
use Rattle.rmt_cluster.specs.Clusters.{IsTaken, IsCluster}
use Rattle.rmt_state.proofs.NewLemmas.{new-cluster, new-is-whole}

-- nothing stands beside the state
nothing-beside : (s : StateView) (a : OpenAttempts) (events : List (Event × Reply)) → a.made ≡ 0 → a.open_ones ≡ [] → events ≡ [] → cluster_of s a.made a.open_ones events ≡ cluster_of s 0 [] []
nothing-beside s a events m o e =
    ap (λ n. cluster_of s n a.open_ones events) m ∙ (ap (λ (xs : List Attempt). cluster_of s 0 xs events) o ∙ ap (λ (es : List (Event × Reply)). cluster_of s 0 [] es) e)

length-mapped : {A B : Type 0} (f : A → B) (xs : List A) → length (map f xs) ≡ length xs
length-mapped f [] = refl
length-mapped f (x ∷ xs) = ap suc (length-mapped f xs)

pub new-many : (schema : Shape) (up : List Bool) (s : StateView) → IsNewState schema up s → length (map shown s.replicas) ≡ length up
new-many schema up s n = length-mapped shown s.replicas ∙ (sym (length-mapped (λ (r : ReplicaView). r.up) s.replicas) ∙ ap length n.up_ones)

pub new-invariant : (schema : Shape) (up : List Bool) (s : StateView) (a : OpenAttempts) (events : List (Event × Reply)) → IsNewState schema up s → 1 ≤ length up → a.made ≡ 0 → a.open_ones ≡ [] → events ≡ [] → IsCluster s a events
new-invariant schema up s a events n l m o e = record {
  whole = subst IsWhole (sym (nothing-beside s a events m o e)) (new-is-whole schema up s n);
  some = let k = sym (length-mapped shown s.replicas) ∙ new-many schema up s n in omega (arith, k, l);
  counted = omega (arith, m);
  here = λ x h. absurd (subst (λ (xs : List Attempt). Has xs x) o h);
  taken = subst (λ (es : List (Event × Reply)). Each (λ x. IsTaken s.tree.schema (length s.replicas) x.0) es) (sym e) tt;
}

up-shown : (rs : List ReplicaView) → map (λ r. r.up) (map shown rs) ≡ map (λ r. r.up) rs
up-shown [] = refl
up-shown (r ∷ rs) = ap (λ (l : List Bool). r.up ∷ l) (up-shown rs)

counted : (tree : Held) (k : ℕ) (rs : List ReplicaView) → AreNumbered tree k rs → AreCounted k (map shown rs)
counted tree k [] n = tt
counted tree k (r ∷ rs) n = (Belongs.numbered n.0, counted tree (k + 1) rs n.1)

pub new-is-new : (schema : Shape) (up : List Bool) (s : StateView) (a : OpenAttempts) (events : List (Event × Reply)) → IsNewState schema up s → a.made ≡ 0 → a.open_ones ≡ [] → events ≡ [] → IsNewCluster schema up (cluster_of s a.made a.open_ones events)
new-is-new schema up s a events n m o e = record {
  is_new = nothing-beside s a events m o e ∙ new-cluster schema up s n;
  replicas = n.replicas;
  numbered = counted s.tree 1 s.replicas n.numbered.numbered;
  up_ones = up-shown s.replicas ∙ n.up_ones;
}
