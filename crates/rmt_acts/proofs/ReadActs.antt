-- What is read at a replica, from what its cluster says.
use Rattle.std.proofs.Common.{◌≡◌, ℕ, zero, suc, ◌∙◌, List, [], ◌∷◌, ◌++◌, map, filter, length, Ok, Err, inl, inr, refl, ap, sym, subst, arith}
use Rattle.std.proofs.lemmas.List.{length-append}
use Rattle.std.specs.Prelude.{IfOk}
use Rattle.std.specs.declared.result.Result.{Result}
use Rattle.std.specs.List.{All}
use Rattle.rmt_values.specs.declared.cell.Cell.{Cell}
use Rattle.rmt_values.specs.declared.checked_query.CheckedQuery.{CheckedQuery}
use Rattle.rmt_values.specs.Rows.{Shape}
use Rattle.rmt_names.specs.Names.{Name}
use Rattle.rmt_entries.specs.declared.entry.Entry.{Entry}
use Rattle.rmt_granules.specs.Granules.{PartView}
use Rattle.rmt_granules.specs.MadePart.{data_of}
use Rattle.rmt_model.specs.Lawful.{Lawful, is_mutation}
use Rattle.rmt_model.specs.Words.{Has}
use Rattle.rmt_model.specs.Content.{Row, content}
use Rattle.rmt_model.specs.Fair.{AreFair}
use Rattle.rmt_model.specs.CopiedParts.{Copied, names_of}
use Rattle.rmt_query.specs.Answers.{answer_of}
use Rattle.rmt_query.specs.ReadRows.{rows_read}
use Rattle.rmt_query.proofs.BagLaws.{one-answer}
use Rattle.rmt_partset.specs.Snapshots.{NamedData, names_in, data_in}
use Rattle.rmt_events.specs.Views.{Replica}
use Rattle.rmt_events.specs.Clusters.{Cluster, Accepted, rows_at}
use Rattle.rmt_events.specs.ClusterChanges.{IsNumbered}
use Rattle.rmt_events.specs.Whole.{Follows, HasReplica, IsWhole}
use Rattle.rmt_events.proofs.FairSteps.{fair-behind}
use Rattle.rmt_events.proofs.Converge.{part-content}
use Rattle.rmt_events.proofs.WholeReplica.{follower}
use Rattle.rmt_cluster.specs.Readings.{parts_read}
use Rattle.rmt_statement_model.specs.TableStates.{TableState, data_at, plain_rows, shown_at}
use Rattle.rmt_statement_model.specs.Reads.{IsReading, KnowsAll}
use Rattle.rmt_statement_model.specs.Shows.{Knows, Shows}
use Rattle.rmt_statement_model.proofs.ReadLaws.{all-mutations-read, plain-read}
use Rattle.rmt_statement_model.proofs.ShownParts.{shown-shows}

-- the names of what is read
names-read : (schema : Shape) (parts : List Copied) → names_in (parts_read schema parts) ≡ names_of parts
names-read schema [] = refl
names-read schema (p ∷ parts) = ap (λ (ns : List Name). p.name ∷ ns) (names-read schema parts)

-- the data of what is read, where each part has the content of its name
data-read : (schema : Shape) (t : TableState) (parts : List Copied) → schema ≡ t.schema → ((p : Copied) → Has parts p → p.rows ≡ content t.schema t.log (rows_at t.blocks) p.name)
    → data_in (parts_read schema parts) ≡ map (data_at t) (names_in (parts_read schema parts))
data-read schema t [] e f = refl
data-read schema t (p ∷ parts) e f =
    ap (λ (c : Shape). data_of c p.rows ∷ data_in (parts_read schema parts)) e
    ∙ (ap (λ (rows : List Row). data_of t.schema rows ∷ data_in (parts_read schema parts)) (f p (inl refl))
    ∙ ap (λ (ds : List PartView). data_at t p.name ∷ ds) (data-read schema t parts e (λ q h. f q (inr h))))

-- what is read at the replica of a number
reading : (s : Cluster) (k : ℕ) (x : Replica) (parts : List NamedData) → IsWhole s → IsNumbered s k x → parts ≡ parts_read s.table.schema x.parts → (t : TableState) → Shows s t → IsReading t k parts
reading s k x parts w at e t h = subst (IsReading t k) (sym e) (record {
  fair = subst (AreFair t.log (t.known k)) (sym (names-read s.table.schema x.parts))
      (subst (λ (l : List Entry). AreFair l (t.known k) (names_of x.parts)) (sym (h.table.log ∙ f.prefix.is)) (fair-behind f.prefix.gained x.log (t.known k) (names_of x.parts) knows.within knows.fair));
  holds = data-read s.table.schema t x.parts (sym h.table.schema) (λ p j. (part-content s x p w f j).1 ∙ sym (ap (λ (c : Shape). content c t.log (rows_at t.blocks) p.name) h.table.schema
      ∙ (ap (λ (l : List Entry). content s.table.schema l (rows_at t.blocks) p.name) h.table.log ∙ ap (λ (bs : List Accepted). content s.table.schema s.table.log (rows_at bs) p.name) h.blocks)));
})
  where
    f : Follows s x
    f = follower s k x w at

    knows : Knows x (t.known k)
    knows = subst (λ n. Knows x (t.known n)) at.number (h.table.knows x at.is_in)

-- the key of what is read
keys-read : (schema : Shape) (parts : List Copied) → All (λ part. part.rows.key ≡ schema.key) (parts_read schema parts)
keys-read schema [] k d l = absurd (omega (arith, l))
keys-read schema (p ∷ parts) zero d l = refl
keys-read schema (p ∷ parts) (suc k) d l = keys-read schema parts k d (omega (arith, l))

-- ---- by what a snapshot says

-- a snapshot of the replica of a number
abbrev pub IsSnapshot : Cluster → ℕ → List NamedData → Type 0
IsSnapshot s k parts = (x : Replica) → IsNumbered s k x → parts ≡ parts_read s.table.schema x.parts

numbered : (s : Cluster) (k : ℕ) → (h : HasReplica s.replicas k) → IsNumbered s k h.replica
numbered s k h = record { is_in = h.is_in; number = h.numbered }

pub snapshot-reads : (s : Cluster) (k : ℕ) (parts : List NamedData) → IsWhole s → HasReplica s.replicas k → IsSnapshot s k parts → (t : TableState) → Shows s t → IsReading t k parts
snapshot-reads s k parts w h f t v = reading s k h.replica parts w (numbered s k h) (f h.replica (numbered s k h)) t v

-- and known there then
pub snapshot-known : (s : Cluster) (k : ℕ) (parts : List NamedData) → IsWhole s → HasReplica s.replicas k → IsSnapshot s k parts → (t : TableState) → Shows s t → Shows s (shown_at k (names_in parts) t)
snapshot-known s k parts w h f t v =
    subst (λ (names : List Name). Shows s (shown_at k names t)) (sym (ap names_in (f h.replica (numbered s k h)) ∙ names-read s.table.schema h.replica.parts))
    (shown-shows s k h.replica t w (numbered s k h) v)

pub snapshot-keys : (s : Cluster) (k : ℕ) (parts : List NamedData) → HasReplica s.replicas k → IsSnapshot s k parts → All (λ part. part.rows.key ≡ s.table.schema.key) parts
snapshot-keys s k parts h f = subst (λ (ps : List NamedData). All (λ part. part.rows.key ≡ s.table.schema.key) ps) (sym (f h.replica (numbered s k h))) (keys-read s.table.schema h.replica.parts)

-- ---- all of the log

-- where every place is known, the copy is whole
known-whole : (s : Cluster) (k : ℕ) (x : Replica) → IsWhole s → IsNumbered s k x → (t : TableState) → Shows s t → KnowsAll t k → x.log ≡ s.table.log
known-whole s k x w at t h all = go f.prefix.gained f.prefix.is
  where
    f : Follows s x
    f = follower s k x w at

    knows : Knows x (t.known k)
    knows = subst (λ n. Knows x (t.known n)) at.number (h.table.knows x at.is_in)

    go : (gained : List Entry) → s.table.log ≡ gained ++ x.log → x.log ≡ s.table.log
    go [] e = sym e
    go (g ∷ gained) e =
        let long = length-append gained x.log in
        let lt = ap (λ (l : List Entry). length l) (h.table.log ∙ e) in
        absurd (cc (knows.within (length x.log) (omega arith), all (length x.log) (omega (arith, long, lt))))

-- the log that is shown is lawful
shown-lawful : (s : Cluster) (t : TableState) → IsWhole s → Shows s t → Lawful t.schema t.log
shown-lawful s t w v = subst (λ (c : Shape). Lawful c t.log) (sym v.table.schema) (subst (λ (l : List Entry). Lawful s.table.schema l) (sym v.table.log) w.table.lawful)

-- what is answered over its parts, with the mutations of its copy
pub answers-all : {A E : Type 0} (result : Result A E) (tuples : A → List (List Cell)) (s : Cluster) (k : ℕ) (parts : List NamedData) (pending log : List Entry) (query : CheckedQuery)
    → IsWhole s → HasReplica s.replicas k → pending ≡ filter is_mutation log → ((x : Replica) → IsNumbered s k x → log ≡ x.log) → ((t : TableState) → Shows s t → IsReading t k parts)
    → IfOk result (λ a. tuples a ≡ answer_of s.table.schema query (rows_read pending parts))
    → IfOk result (λ a. (t : TableState) → Shows s t → KnowsAll t k → tuples a ≡ answer_of t.schema query (plain_rows t))
answers-all (Ok a) tuples s k parts pending log query w h p l r e = λ t v all.
    let same : log ≡ t.log = l h.replica (numbered s k h) ∙ (known-whole s k h.replica w (numbered s k h) t v all ∙ sym v.table.log) in
    let rows : rows_read pending parts ≡ rows_read t.log parts = ap (λ (m : List Entry). rows_read m parts) p ∙ (all-mutations-read log parts ∙ ap (λ (m : List Entry). rows_read m parts) same) in
    e ∙ (ap (λ (c : Shape). answer_of c query (rows_read pending parts)) (sym v.table.schema) ∙ (ap (answer_of t.schema query) rows
    ∙ one-answer t.schema query (rows_read t.log parts) (plain_rows t) (plain-read t k parts (shown-lawful s t w v) (r t v) all)))
answers-all (Err x) tuples s k parts pending log query w h p l r e = tt
