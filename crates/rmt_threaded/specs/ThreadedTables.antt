-- What is seen of a table among workers: what its client knows of it, and the states that it may be in for all that.
-- No public source: this program's own.
use Rattle.std.specs.Prelude.{◌≡◌, ◌<◌, ◌↔◌, ℕ, Bool, true, false, List, [], length, filter}
use Rattle.std.specs.List.{All}
use Rattle.std.specs.declared.option.Option.{Option}
use Rattle.std.specs.declared.option.Option.TheVariants.{Some, None}
use Rattle.std.proofs.Common.{◌∙◌, inl, inr, ap, sym}
use Rattle.std.proofs.Math.Path.{fun_ext}
use Rattle.rmt_values.specs.Rows.{Shape}
use Rattle.rmt_values.specs.declared.checked_query.CheckedQuery.{CheckedQuery}
use Rattle.rmt_values.specs.declared.cell.Cell.{Cell}
use Rattle.rmt_entries.specs.declared.entry.Entry.{Entry}
use Rattle.rmt_row.specs.Token.{Token}
use Rattle.rmt_model.specs.Lawful.{is_mutation, mutation_count}
use Rattle.rmt_history.specs.Copies.{History}
use Rattle.rmt_history.specs.Mutations.{HasOrder}
use Rattle.rmt_changes.specs.Changes.{entries_of}
use Rattle.rmt_changes.specs.Laws.{EntryFits}
use Rattle.rmt_query.specs.Answers.{answer_of}
use Rattle.rmt_events.specs.Views.{Block}
use Rattle.rmt_events.specs.Clusters.{Cluster}
use Rattle.rmt_statement_model.specs.TableStates.{TableState, plain_rows}
use Rattle.rmt_statement_model.specs.Rests.{Rests}
use Rattle.rmt_statement_model.proofs.WorkerEntries.{mutations-stay}
use Rattle.rmt_clients.specs.Clients.{Client, AreClear, ChangesInto, ClientsMarked, Fits}
use Rattle.rmt_shared.specs.SharedTables.{NamedTable, name_at}
use Rattle.rmt_pass.specs.Passes.{PassView, client_at, no_schema, up_in}
use Rattle.rmt_acting.specs.Acting.{Sight}

-- ---- what a rest leaves as it is

pub rested-schema : (t u : TableState) → Rests true t u → u.schema ≡ t.schema
rested-schema t u (inl e) = ap (λ (x : TableState). x.schema) e
rested-schema t u (inr i) = ap (λ (x : TableState). x.schema) i.works.change

pub rested-fetching : (t u : TableState) → Rests true t u → u.fetching ≡ t.fetching
rested-fetching t u (inl e) = ap (λ (x : TableState). x.fetching) e
rested-fetching t u (inr i) = ap (λ (x : TableState). x.fetching) i.works.change

pub rested-mutations : (t u : TableState) → Rests true t u → mutation_count u.log ≡ mutation_count t.log
rested-mutations t u (inl e) = ap (λ (x : TableState). mutation_count x.log) e
rested-mutations t u (inr i) = ap (λ (x : TableState). mutation_count x.log) i.works.change ∙ mutations-stay i.works.gained t.log i.works.workers

-- ---- the table

-- the place of a table, and what its client knows of all tables
pub record ThreadedView : Type 0 where
  pub table : ℕ
  pub pass : PassView

-- what the client knows of the table
abbrev pub client_in : ThreadedView → Client
client_in v = client_at v.pass v.table

-- the blocks that may be inserted into a named table are those that are offered to a table of its schema
abbrev pub SameOffers : (Shape → Block → Type 0) → List NamedTable → (ℕ → Block → Type 0) → Type 0
SameOffers Offers names Offered = (k : ℕ) (b : Block) → Offered k b ↔ Offers (name_at names k).schema b

-- for all that its client knows, the table rests from this state into one that it may be in; and no two blocks of one id that are offered
-- to it differ
pub record MayBe (Offers : Shape → Block → Type 0) (p : Client) (t : TableState) : Type 0 where
  pub clear : AreClear (Offers p.schema)
  pub now : TableState
  pub rests : Rests true t now
  pub fits : Fits (Offers p.schema) p now

-- where workers run, no cluster is made of events
abbrev pub no_cluster : Cluster
no_cluster = record {
  table = record { schema = no_schema; log = []; next = []; locks = []; window = []; sessions = []; quorum = record { pending = None; last = None }; values = 0 };
  replicas = [];
  attempts_made = 0;
  attempts = [];
  events = [];
}

-- its schema is asked for nowhere
pub no-shape : (shape : Shape) → true ≡ false → no_cluster.table.schema ≡ shape
no-shape shape e = absurd (cc)

-- what is seen of a table of which a client knows this, at so many replicas, of which these are up, at a place among others of which it
-- knows that: the states that the table may be in. No insert is under way between two calls of one client
abbrev pub sight_of : (Shape → Block → Type 0) → Client → ℕ → (ℕ → Bool) → ℕ → (ℕ → Option Client) → Sight true
sight_of Offers p count ups place others = record {
  shows = MayBe Offers p;
  shape = p.schema;
  count = count;
  ups = ups;
  fetching = p.fetching;
  mutations = mutation_count p.log;
  free = Unit {0};
  cluster = no_cluster;
  place = place;
  others = others;
  schema-shown = λ t h. sym (rested-schema t h.now h.rests) ∙ sym h.fits.knows.schema;
  fetching-shown = λ t h. sym (rested-fetching t h.now h.rests) ∙ fun_ext (λ r. sym (h.fits.knows.fetching r));
  mutations-shown = λ t h. sym (rested-mutations t h.now h.rests) ∙ ap (λ (l : List Entry). mutation_count l) (sym h.fits.knows.log);
  cluster-shape = λ e. no-shape p.schema e;
}

-- what is seen of the table at a place
abbrev pub seen_at : (Shape → Block → Type 0) → ℕ → ThreadedView → Sight true
seen_at Offers replicas v = sight_of Offers (client_in v) replicas (up_in v.pass.up) v.table (λ k. Some (client_at v.pass k))

-- ---- what only private clauses cite

-- the table is there, its schema is this one and the one that is named, and its blocks are those that are offered to a table of a schema
pub record IsThreaded (Offers : Shape → Block → Type 0) (names : List NamedTable) (Offered : ℕ → Block → Type 0) (shape : Shape) (v : ThreadedView) : Type 0 where
  pub there : v.table < length v.pass.tables
  pub schema : shape ≡ (client_in v).schema
  pub named : (client_in v).schema ≡ (name_at names v.table).schema
  pub offers : SameOffers Offers names Offered

-- where no two offered blocks of one id differ: whatever state fitted what the client knew changes so, into one that fits what it knows now
abbrev pub ComesTo : (Block → Type 0) → Client → (TableState → TableState → Type 0) → Client → Type 0
ComesTo Offered p Change q = AreClear Offered → (t : TableState) → Fits Offered p t → ChangesInto Offered q (Change t)

-- these are the mutations of the copy, the oldest first
pub record AreMutations (copy : History) (tokens : List (Token Entry)) : Type 0 where
  pub entries : entries_of tokens ≡ filter is_mutation copy.log
  pub fit : All (λ token. EntryFits copy.schema token.value) tokens
  pub ordered : All (λ token. HasOrder token.value) tokens

-- where no two offered blocks of one id differ: whatever state fits what the client knows, and each client's entry of which is known at
-- the replica, the query answers these tuples over its plain rows
abbrev pub AnswersAt : (Block → Type 0) → Client → ℕ → CheckedQuery → List (List Cell) → Type 0
AnswersAt Offered p r query tuples = AreClear Offered → (t : TableState) → Fits Offered p t → ClientsMarked t.log (t.known r) → tuples ≡ answer_of t.schema query (plain_rows t)
