-- The digests of parts that are read at a replica.
use Rattle.std.proofs.Common.{◌≡◌, ◌∙◌, ℕ, List, [], ◌∷◌, map, refl, ap, sym}
use Rattle.std.specs.Prelude.{IfOk}
use Rattle.std.specs.declared.result.Result.{Result}
use Rattle.std.specs.declared.result.Result.TheVariants.{Ok, Err}
use Rattle.sha2.specs.Sha256.{sha256}
use Rattle.rmt_values.specs.Rows.{Shape}
use Rattle.rmt_names.specs.Names.{Name}
use Rattle.rmt_granules.specs.Granules.{PartView}
use Rattle.rmt_format.specs.PartBytes.{part_bytes}
use Rattle.rmt_partset.specs.Snapshots.{NamedData, names_in, data_in}
use Rattle.rmt_events.specs.Clusters.{Cluster}
use Rattle.rmt_statement_model.specs.TableStates.{TableState, data_at, shown_at}
use Rattle.rmt_statement_model.specs.Reads.{IsReading}
use Rattle.rmt_statement_model.specs.Shows.{Shows, Leads}
use Rattle.rmt_acts.specs.Checking.{AreDigests, digest_in}

-- the digests of parts whose data is that of their names
each-digest : (schema : Shape) (of : Name → PartView) (parts : List NamedData) → data_in parts ≡ map of (names_in parts) → map {B = Name × List ℕ} (λ part. (part.name, digest_in schema part)) parts ≡ map {B = Name × List ℕ} (λ a. (a, sha256 (part_bytes schema (of a)))) (names_in parts)
each-digest schema of [] e = refl
each-digest schema of (part ∷ parts) e =
    let first : part.rows ≡ of part.name = cc in
    let others : data_in parts ≡ map of (names_in parts) = cc in
    ap (λ (d : PartView). (part.name, sha256 (part_bytes schema d)) ∷ map {B = Name × List ℕ} (λ p. (p.name, digest_in schema p)) parts) first
    ∙ ap (λ (l : List (Name × List ℕ)). (part.name, sha256 (part_bytes schema (of part.name))) ∷ l) (each-digest schema of parts others)

pub digests-told : {A E : Type 0} (s : Cluster) (r : ℕ) (read parts : List NamedData) (schema : Shape) (result : Result A E) (items : A → List (Name × List ℕ)) → parts ≡ read → schema ≡ s.table.schema → ((t : TableState) → Shows s t → IsReading t r read) → ((t : TableState) → Shows s t → Shows s (shown_at r (names_in read) t))
    → IfOk result (λ a. items a ≡ map {B = Name × List ℕ} (λ part. (part.name, digest_in schema part)) parts) → IfOk result (λ a. (t : TableState) → Shows s t → Leads s (AreDigests t r (items a)))
digests-told s r read parts schema (Ok a) items e f g k q = λ t h.
    let reading = g t h in record {
      state = shown_at r (names_in read) t;
      holds = record {
        names = names_in read;
        fair = reading.fair;
        are = q ∙ (ap (λ (c : Shape). map {B = Name × List ℕ} (λ part. (part.name, digest_in c part)) parts) (f ∙ sym h.table.schema)
            ∙ (ap (λ (ps : List NamedData). map {B = Name × List ℕ} (λ part. (part.name, digest_in t.schema part)) ps) e ∙ each-digest t.schema (data_at t) read reading.holds));
        change = refl;
      };
      shows = k t h;
    }
digests-told s r read parts schema (Err e) items p f g k q = tt
