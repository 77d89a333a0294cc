-- What a query reads at the replica of a number.
use Rattle.std.proofs.Common.{◌≡◌, ℕ, zero, suc, ◌+◌, ◌-◌, ◌<◌, ◌^◌, ◌∙◌, ◌↔◌, false, List, [], ◌∷◌, length, map, refl, sym, ap, subst, arith, get_or}
use Rattle.std.specs.Prelude.{slice_get, IfOk}
use Rattle.std.specs.Option.{option_map}
use Rattle.std.specs.List.{All, AllByRecursion}
use Rattle.std.proofs.lemmas.List.Elements.{All-from_recursion}
use Rattle.std.specs.declared.option.Option.{Option}
use Rattle.std.specs.declared.option.Option.TheVariants.{Some}
use Rattle.std.specs.declared.result.Result.{Result}
use Rattle.std.specs.declared.result.Result.TheVariants.{Ok, Err}
use Rattle.std.proofs.lemmas.List.{length-map}
use Rattle.std.proofs.lemmas.Option.{slice_get_read, slice_get-map}
use Rattle.rmt_values.specs.Rows.{Shape}
use Rattle.rmt_values.specs.Schemas.{IsSchema}
use Rattle.rmt_entries.specs.declared.entry.Entry.{Entry}
use Rattle.rmt_granules.specs.Granules.{PartView}
use Rattle.rmt_granules.specs.MadePart.{data_of}
use Rattle.rmt_format.specs.PartBytes.{HasPartBytes}
use Rattle.rmt_model.specs.Words.{Has, Each}
use Rattle.rmt_model.specs.Content.{Row}
use Rattle.rmt_history.proofs.ListLemmas.{get-has}
use Rattle.rmt_table_model.specs.Held.{Held}
use Rattle.rmt_part.specs.Lineages.{PartValue}
use Rattle.rmt_part.specs.CopiedPart.{copied}
use Rattle.rmt_compact.proofs.SentLemmas.{part-has}
use Rattle.rmt_partset.specs.Snapshots.{NamedData}
use Rattle.rmt_partset.specs.ActiveParts.{shown as shown_parts}
use Rattle.rmt_replica.specs.Parts.{IsMadeIn}
use Rattle.rmt_replica.specs.Replicas.{ReplicaView, IsStandingReplica}
use Rattle.rmt_replica.specs.declared.replica_error.ReplicaError.{ReplicaError}
use Rattle.rmt_replica.specs.declared.replica_error.ReplicaError.TheVariants as errors
use Rattle.rmt_replica.specs.SeenReplica.{shown}
use Rattle.rmt_events.specs.Views.{Replica}
use Rattle.rmt_events.specs.Clusters.{Cluster}
use Rattle.rmt_events.specs.Whole.{HasReplica, IsWhole}
use Rattle.rmt_events.specs.ClusterChanges.{IsNumbered, IsDown}
use Rattle.rmt_state.specs.States.{StateView, AreNumbered, IsState}
use Rattle.rmt_state.specs.States.{IsNumber}
use Rattle.rmt_cluster.specs.Readings.{parts_read}
use Rattle.rmt_state.proofs.StateLemmas.{at-place}
use Rattle.rmt_state.proofs.StageLemmas.{one-numbered}
use Rattle.rmt_cluster.proofs.PartSizes.{small-parts}

-- ---- the replica of a number

-- this one has the number, and no other; it is of this schema
pub record IsOnly (s : Cluster) (schema : Shape) (k : ℕ) (r : ReplicaView) : Type 0 where
  pub numbered : IsNumbered s k (shown r)
  pub only : (x : Replica) → IsNumbered s k x → x ≡ shown r
  pub of_schema : r.schema ≡ schema

pub only-one : (s : Cluster) (tree : Held) (rs : List ReplicaView) (k i : ℕ) (r : ReplicaView) → s.replicas ≡ map shown rs → AreNumbered tree 1 rs → IsNumber k (length s.replicas) → i ≡ k - 1 → r ≡ get_or rs i r → IsOnly s tree.schema k r
only-one s tree rs k i r q n w j g =
    let f = w.first in
    let l = w.last in
    let m = ap length q ∙ length-map rs shown in
    let there : slice_get rs i ≡ Some r = slice_get_read rs (length rs) i r refl (omega (arith, f, l, m, j)) g in
    let place : k ≡ 1 + i = omega (arith, f, j) in
    let b = at-place tree 1 rs i r n there in
    let has = get-has (map shown rs) i (shown r) (slice_get-map shown rs i ∙ ap (λ (o : Option ReplicaView). option_map shown o) there) in
    record {
      numbered = record { is_in = subst (λ (xs : List Replica). Has xs (shown r)) (sym q) has; number = b.numbered ∙ sym place };
      only = λ x h. one-numbered tree 1 rs i r x n there (subst (λ (xs : List Replica). Has xs x) q h.is_in) (h.number ∙ place);
      of_schema = b.copy.schema;
    }

there-at : {A : Type 0} (xs : List A) (i : ℕ) → i < length xs → (x : A) × (slice_get xs i ≡ Some x)
there-at [] i l = absurd (omega (arith, l))
there-at (x ∷ xs) zero l = (x, refl)
there-at (x ∷ xs) (suc i) l = there-at xs i (omega (arith, l))

-- each number has its replica
pub has-replica : (s : StateView) (k : ℕ) → IsState s → IsNumber k (length s.replicas) → HasReplica (map shown s.replicas) k
has-replica s k w n =
    let f = n.first in
    let l = n.last in
    let t = there-at s.replicas (k - 1) (omega (arith, f, l)) in
    let b = at-place s.tree 1 s.replicas (k - 1) t.0 w.numbered t.1 in
    record {
      replica = shown t.0;
      is_in = get-has (map shown s.replicas) (k - 1) (shown t.0) (slice_get-map shown s.replicas (k - 1) ∙ ap (λ (o : Option ReplicaView). option_map shown o) t.1);
      numbered = b.numbered ∙ omega (arith, f);
    }

pub has-number : (c : Cluster) (s : StateView) (k : ℕ) → c.replicas ≡ map shown s.replicas → IsState s → IsNumber k (length c.replicas) → HasReplica c.replicas k
has-number c s k e w n =
    subst (λ (xs : List Replica). HasReplica xs k) (sym e) (has-replica s k w (subst (IsNumber k) (ap length e ∙ length-map s.replicas shown) n))

-- ---- what is read

-- a part's data is its rows in granules
body-is : (schema : Shape) (log : List Entry) (p : PartValue) → IsMadeIn schema log p → p.body ≡ data_of schema p.body.rows
body-is schema log p m =
    let c = m.is_part.content in
    c ∙ (ap (λ (rows : List Row). data_of p.schema rows) (sym (ap (λ (d : PartView). d.rows) c)) ∙ ap (λ (z : Shape). data_of z p.body.rows) m.of_schema)

parts-shown : (schema : Shape) (log : List Entry) (parts : List PartValue) → Each (IsMadeIn schema log) parts → shown_parts parts ≡ parts_read schema (map copied parts)
parts-shown schema log [] m = refl
parts-shown schema log (p ∷ parts) m =
    ap (λ (b : PartView). record { name = p.name; rows = b } ∷ shown_parts parts) (body-is schema log p m.0)
    ∙ ap (λ (xs : List NamedData). record { name = p.name; rows = data_of schema p.body.rows } ∷ xs) (parts-shown schema log parts m.1)

pub reads : {E : Type 0} (read : Result (List NamedData) E) (s : Cluster) (schema : Shape) (k : ℕ) (r : ReplicaView) → IsOnly s schema k r → IsStandingReplica r → schema ≡ s.table.schema → IfOk read (λ d. d ≡ shown_parts r.parts) → IfOk read (λ d. (x : Replica) → IsNumbered s k x → d ≡ parts_read s.table.schema x.parts)
reads (Ok d) s schema k r o w c e = λ x h.
    e ∙ (parts-shown r.schema r.log r.parts w.made
    ∙ (ap (λ (z : Shape). parts_read z (map copied r.parts)) (o.of_schema ∙ c) ∙ sym (ap (λ (z : Replica). parts_read s.table.schema z.parts) (o.only x h))))
reads (Err z) s schema k r o w c e = tt

have-bytes : (schema : Shape) (log : List Entry) (parts : List PartValue) → Each (IsMadeIn schema log) parts → Each (λ part. length part.body.rows < 2 ^ 32) parts → AllByRecursion (λ d. HasPartBytes schema d.rows) (shown_parts parts)
have-bytes schema log [] m f = tt
have-bytes schema log (p ∷ parts) m f = (part-has schema p m.0.is_part m.0.of_schema f.0, have-bytes schema log parts m.1 f.1)

-- each part that is read has bytes
pub reads-bytes : {E : Type 0} (read : Result (List NamedData) E) (s : Cluster) (k : ℕ) (r : ReplicaView) → IsOnly s s.table.schema k r → IsStandingReplica r → IsWhole s → IsSchema s.table.schema → IfOk read (λ d. d ≡ shown_parts r.parts) → IfOk read (All (λ part. HasPartBytes s.table.schema part.rows))
reads-bytes (Ok d) s k r o w z c e =
    subst (All (λ (part : NamedData). HasPartBytes s.table.schema part.rows)) (sym e)
    (All-from_recursion (λ (part : NamedData). HasPartBytes s.table.schema part.rows) (shown_parts r.parts)
    (subst (λ (v : Shape). AllByRecursion (λ (part : NamedData). HasPartBytes v part.rows) (shown_parts r.parts)) o.of_schema
    (have-bytes r.schema r.log r.parts w.made (small-parts s r z c o.numbered.is_in))))
reads-bytes (Err e) s k r o w z c q = tt

pub reads-down : {A : Type 0} (read : Result A ReplicaError) (s : Cluster) (schema : Shape) (k : ℕ) (r : ReplicaView) → IsOnly s schema k r → (read ≡ Err errors.Down) ↔ (r.up ≡ false) → (read ≡ Err errors.Down) ↔ IsDown s k
reads-down read s schema k r o d = (
  λ e. record { replica = shown r; at = o.numbered; down = d.0 e },
  λ h. d.1 (sym (ap (λ (z : Replica). z.up) (o.only h.replica h.at)) ∙ h.down),
)

-- ---- the copy of the log

pub copies : (s : Cluster) (schema : Shape) (k : ℕ) (r : ReplicaView) (log : List Entry) → IsOnly s schema k r → log ≡ r.log → (x : Replica) → IsNumbered s k x → log ≡ x.log
copies s schema k r log o e x h = e ∙ sym (ap (λ (z : Replica). z.log) (o.only x h))
