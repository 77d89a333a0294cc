-- What a client knows once it has taken over what lies in a table.
use Rattle.std.proofs.Common.{◌≡◌, ℕ, ◌<◌, ◌≤◌, List, [], length, set, get_or, refl, sym, ap, subst, arith, ◌∙◌}
use Rattle.std.proofs.lemmas.List.{get_or-set_same}
use Rattle.std.specs.declared.option.Option.{Option}
use Rattle.rmt_entries.specs.declared.entry.Entry.{Entry}
use Rattle.rmt_model.specs.Lawful.{Lawful, IsPrefix}
use Rattle.rmt_model.specs.EntryLimits.{client_count, worker_count}
use Rattle.rmt_table_model.specs.Held.{Held}
use Rattle.rmt_statement_model.specs.Books.{GainsWork, GainWork, all_clients}
use Rattle.rmt_clients.specs.Clients.{Client}
use Rattle.rmt_clients.proofs.ClientMeets.{meets, Met}
use Rattle.rmt_known.specs.KnownTables.{Known, client_of, new_known, seen_of, GoesOnFromKnown}
use Rattle.rmt_shared.specs.SharedTables.{NamedTable, logs_of}
use Rattle.rmt_statement_model.proofs.WorkerEntries.{clients-stay}
use Rattle.rmt_shared.proofs.NamedLemmas.{between, gained-at, log-at, map-length}
use Rattle.rmt_pass.specs.Passes.{PassView, AreKnownOf, IsPass, KeepsPass, Sees, no_schema, known_at, client_at, logs_in}
use Rattle.rmt_pass.proofs.KnownLemmas.{clients-with, log-in}

-- the pass with other knowledge of the table at a place
abbrev pub with_known : PassView → ℕ → Known → PassView
with_known p k known = record p { tables = set p.tables k known }

pub known-there : (p : PassView) (k : ℕ) (known : Known) → k < length p.tables → known_at (with_known p k known) k ≡ known
known-there p k known h = get_or-set_same p.tables k known (new_known no_schema 0) h

-- nothing else changes
pub keeps : (p : PassView) (k : ℕ) (known : Known) → k < length p.tables → known.schema ≡ (known_at p k).schema → length known.fetching ≡ length (known_at p k).fetching → length known.marks ≡ length (known_at p k).marks → KeepsPass p k (with_known p k known)
keeps p k known h s f m =
    let e = known-there p k known h in
    record {
      rest = ap (λ (x : Known). record p { tables = set p.tables k x }) (sym e);
      schema = ap (λ (x : Known). x.schema) e ∙ s;
      fetching = ap (λ (x : Known). length x.fetching) e ∙ f;
      marks = ap (λ (x : Known). length x.marks) e ∙ m;
    }

module _ (p : PassView) (k : ℕ) (here : k < length p.tables) (h : Held) (few : worker_count h.log ≤ 32768) (lawful : Lawful h.schema h.log) (schema : h.schema ≡ (known_at p k).schema) (gains : GainsWork (known_at p k).log h.log) (goes : GoesOnFromKnown (known_at p k) h) where
  met : Met (client_at p k) h.log h.quorum
  met = meets (client_at p k) h.log h.quorum (record {
    work = gains;
    few = few;
    lawful = subst (λ s. Lawful s h.log) schema lawful;
    noted = goes.noted;
  })

  -- the client has seen all of the table
  pub sees-all : (cells : List ℕ) → Sees p k h (with_known p k (seen_of h cells (known_at p k)))
  sees-all cells =
      let new = seen_of h cells (known_at p k) in
      let e = known-there p k new here in
      let now : client_at (with_known p k new) k ≡ client_of new = ap client_of e in
      record {
        gained = met.gained;
        noted = met.noted;
        sees = met.sees;
        seen = now ∙ (ap (λ (x : List (Option ℕ × ℕ)). record (client_at p k) { log = h.log; quorum = h.quorum; next = x }) goes.next ∙ met.is);
        now = record { schema = ap (λ (c : Client). c.schema) now ∙ sym schema; log = ap (λ (c : Client). c.log) now; next = ap (λ (c : Client). c.next) now; quorum = ap (λ (c : Client). c.quorum) now };
        keeps = keeps p k new here refl refl refl;
      }

-- what the log of the table at a place has gained
pub gains-there : (p : PassView) (k : ℕ) (tables : List Held) (h : Held) → k < length p.tables → k < length tables → h ≡ get_or tables k h → GainWork (logs_in p.tables) (logs_of tables) → GainsWork (known_at p k).log h.log
gains-there p k tables h here there is g =
    let m = map-length (λ (x : Known). x.log) p.tables in
    subst (λ (l : List Entry). GainsWork l h.log) (log-in p.tables k (new_known no_schema 0) here)
    (subst (λ (l : List Entry). GainsWork (get_or (logs_in p.tables) k []) l) (log-at tables k h there is)
    (gained-at (logs_in p.tables) (logs_of tables) k [] [] g (omega (arith, m, here))))

-- the entries of clients stay as many where a log of background work is taken over
pub clients-kept : (p : PassView) (k : ℕ) (n : Known) → k < length p.tables → client_count n.log ≡ client_count (known_at p k).log → all_clients (logs_in (set p.tables k n)) ≡ all_clients (logs_in p.tables)
clients-kept p k n here e = let a = clients-with p.tables k (new_known no_schema 0) n here in omega (arith, a, e)

-- the whole of it, or some of it
pub work-count : (copy log : List Entry) → GainsWork copy log → client_count log ≡ client_count copy
work-count copy log g = ap client_count g.is ∙ clients-stay g.gained copy g.workers

pub some-count : (copy log new : List Entry) → GainsWork copy log → IsPrefix copy new → IsPrefix new log → client_count new ≡ client_count copy
some-count copy log new g longer within = between copy new log g.gained g.is g.workers longer within

-- ---- a pass that has taken over a table, or some of it

module _ (names : List NamedTable) (replicas all : ℕ) (p : PassView) (k : ℕ) (here : k < length p.tables) (parts amount : ℕ) (old : IsPass names replicas all p parts amount) (known : List Known) (now : AreKnownOf replicas names known) (n : Known) (is : known ≡ set p.tables k n) (count : client_count n.log ≡ client_count (known_at p k).log) where
  pub is-pass : IsPass names replicas all (record p { tables = known }) parts amount
  is-pass = record {
    known = now;
    ups = old.ups;
    whole = old.whole;
    some = old.some;
    counted = λ g. old.counted g ∙ (sym (clients-kept p k n here count) ∙ ap (λ (ks : List Known). all_clients (logs_in ks)) (sym is));
  }
