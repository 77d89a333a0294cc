-- A read of all that was accepted: what workers do beside it changes no answer.
use Rattle.std.proofs.Common.{◌≡◌, inl, inr, ℕ, Bool, true, false, List, [], ◌∷◌, ◌++◌, length, filter, refl, ap, subst, arith, ◌∙◌}
use Rattle.rmt_values.specs.Rows.{Shape}
use Rattle.rmt_values.specs.declared.checked_query.CheckedQuery.{CheckedQuery}
use Rattle.rmt_entries.specs.declared.entry.Entry.{Entry}
use Rattle.rmt_model.specs.Content.{Row}
use Rattle.rmt_model.specs.Lawful.{Lawful, is_mutation}
use Rattle.rmt_partset.specs.Snapshots.{NamedData, names_in}
use Rattle.rmt_query.specs.Answers.{answer_of}
use Rattle.rmt_query.specs.ReadRows.{rows_read}
use Rattle.rmt_query.proofs.BagLaws.{one-answer}
use Rattle.rmt_values.specs.Order.{SameBag}
use Rattle.rmt_events.specs.Views.{Block}
use Rattle.rmt_events.specs.Clusters.{rows_at}
use Rattle.rmt_events.proofs.Copies.{lawful-behind}
use Rattle.rmt_table_model.specs.Held.{Held}
use Rattle.rmt_replica.specs.Replicas.{ReplicaView}
use Rattle.rmt_statement_model.specs.TableStates.{TableState, plain_rows, shown_at}
use Rattle.rmt_statement_model.specs.Rests.{Rests}
use Rattle.rmt_statement_model.specs.Reads.{IsReading}
use Rattle.rmt_statement_model.specs.ActOutcomes.{ReadsParts}
use Rattle.rmt_statement_model.proofs.ReadLaws.{all-mutations-read}
use Rattle.rmt_statement_model.proofs.WorkerEntries.{rows-stay}
use Rattle.rmt_clients.specs.Clients.{Client, ClientsMarked, KnowsTable, RestsAnd, StepsTo, after_work, known_table}
use Rattle.rmt_clients.proofs.ClientReadings.{client-read, marked-gained, reads-own}
use Rattle.rmt_readings.specs.Readable.{AnswersAll}
use Rattle.rmt_readings.proofs.CallerLemmas.{reads-step}
use Rattle.rmt_shared.specs.SharedTables.{NamedTable}
use Rattle.rmt_pass.specs.Passes.{PassView, SeesTable, client_at}
use Rattle.rmt_pass.specs.ReadSteps.{IsReadableAt}
use Rattle.rmt_workers.specs.Crews.{MayRead, Saw}
use Rattle.rmt_workers.proofs.StepLemmas.{Looked, sees-then-steps}

-- ---- what is answered

-- parts that are read after a rest answer what is answered over the plain rows of before
read-still : (t at : TableState) (r : ℕ) (parts : List NamedData) (query : CheckedQuery) → Lawful t.schema t.log → ClientsMarked t.log (t.known r) → Rests true t at → IsReading at r parts → answer_of t.schema query (rows_read (filter is_mutation t.log) parts) ≡ answer_of t.schema query (plain_rows t)
read-still t at r parts query l clients (inl e) i =
    ap (answer_of t.schema query) (all-mutations-read t.log parts)
    ∙ one-answer t.schema query (rows_read t.log parts) (plain_rows t) (client-read t r parts l (subst (λ (s : TableState). IsReading s r parts) e i) clients)
read-still t at r parts query l clients (inr h) i =
    let gained = h.works.gained in
    let later = after_work gained h.works.noted t in
    ap (answer_of t.schema query) (reads-own gained t.log parts h.works.workers)
    ∙ one-answer t.schema query (rows_read (gained ++ t.log) parts) (plain_rows t)
    (subst (λ (rows : List Row). SameBag (rows_read (gained ++ t.log) parts) rows) (rows-stay gained t.log (rows_at t.blocks) h.works.workers)
    (client-read later r parts h.works.lawful (subst (λ (s : TableState). IsReading s r parts) h.works.change i) (marked-gained gained t.log (t.known r) h.works.workers clients)))

-- what can be read answers what is answered over the plain rows, where each entry of a client was known
pub read-answers : (O : Block → Type 0) (p : Client) (r : ℕ) (parts : List NamedData) → Lawful p.schema p.log → MayRead O p r parts → AnswersAll O p r parts
read-answers O p r parts l m clear t f clients query =
    let s : RestsAnd O m.noting (ReadsParts r parts) t = m.steps clear t f in
    let lawful : Lawful t.schema t.log = subst (λ (x : Shape). Lawful x t.log) f.knows.schema (subst (λ (x : List Entry). Lawful p.schema x) f.knows.log l) in
    ap (λ (x : Shape). answer_of x query (rows_read (filter is_mutation p.log) parts)) f.knows.schema
    ∙ (ap (λ (x : List Entry). answer_of t.schema query (rows_read (filter is_mutation x) parts)) f.knows.log
    ∙ read-still t s.at r parts query lawful clients s.rests s.comes.change.reading)

-- ---- what can be read

-- the client that knows this table, but for its blocks
abbrev knowing : TableState → Client
knowing u = record { schema = u.schema; log = u.log; next = u.next; quorum = u.quorum; fetching = u.fetching; known = u.known }

knows : (u : TableState) → KnowsTable (knowing u) u
knows u = record { schema = refl; log = refl; next = refl; quorum = refl; fetching = λ n. refl; known = λ n i. refl }

-- what is readable once the client has seen the table can be read
pub may-read : (O : ℕ → Block → Type 0) (named : NamedTable) (old mid : PassView) (k r : ℕ) (tables : List Held) (v : ReplicaView) (parts : List NamedData) → SeesTable old k tables mid → v.number ≡ r → IsReadableAt O named mid k v parts → MayRead (O k) (client_at old k) r parts
may-read O named old mid k r tables v parts s e h =
    let shown : TableState = shown_at v.number (names_in parts) (known_table (client_at mid k)) in
    let q : Client = knowing shown in
    let read : StepsTo (O k) (client_at mid k) (ReadsParts v.number parts) q = reads-step (O k) (client_at mid k) v parts h.lawful h.schema h.offered h.readable q (knows shown) in
    record {
      noting = q;
      steps = sees-then-steps (O k) (client_at old k) (client_at mid k) q s.all.gained s.all.noted (ReadsParts r parts) s.all.sees s.all.seen
          (subst (λ (n : ℕ). StepsTo (O k) (client_at mid k) (ReadsParts n parts) q) e read);
    }

-- what can be read after looks could be read before them
pub looked-may-read : (O : ℕ → Block → Type 0) (old mid : PassView) (k r : ℕ) (parts : List NamedData) → Looked old k mid → MayRead (O k) (client_at mid k) r parts → MayRead (O k) (client_at old k) r parts
looked-may-read O old mid k r parts (inl e) m = subst (λ (p : PassView). MayRead (O k) (client_at p k) r parts) e m
looked-may-read O old mid k r parts (inr s) m = record {
  noting = m.noting;
  steps = sees-then-steps (O k) (client_at old k) (client_at mid k) m.noting s.gained s.noted (ReadsParts r parts) s.sees s.seen m.steps;
}

-- the client's copy was lawful before it saw more
pub saw-lawful : (old new : PassView) (k : ℕ) → Saw old k new → Lawful (client_at old k).schema (client_at old k).log
saw-lawful old new k s = lawful-behind (client_at old k).schema s.gained (client_at old k).log s.sees.lawful
