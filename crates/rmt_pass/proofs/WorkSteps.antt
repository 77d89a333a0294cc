-- A client's own entry of background work: what it knows once it has taken it over, or some of it.
use Rattle.std.proofs.Common.{◌≡◌, ℕ, ◌<◌, Bool, false, List, [], ◌∷◌, length, get_or, refl, sym, ap, subst, ◌∙◌}
use Rattle.std.specs.declared.option.Option.{Option}
use Rattle.rmt_entries.specs.declared.entry.Entry.{Entry}
use Rattle.rmt_model.specs.Lawful.{IsPrefix}
use Rattle.rmt_model.specs.Quorum.{Quorum}
use Rattle.rmt_events.specs.Views.{Table}
use Rattle.rmt_events.specs.TableCalls.{with_entry}
use Rattle.rmt_table_model.specs.Held.{Held}
use Rattle.rmt_history.specs.Copies.{History}
use Rattle.rmt_table.specs.TableTrees.{IsCopyOf, table_at}
use Rattle.rmt_statement_model.specs.BackgroundWork.{IsOfWorker}
use Rattle.rmt_statement_model.specs.Books.{GainsWork}
use Rattle.rmt_clients.specs.Clients.{Client, seeing}
use Rattle.rmt_known.specs.KnownTables.{Known, client_of, copy_in, new_known, seen_of, with_copy}
use Rattle.rmt_shared.specs.SharedTables.{NamedTable, ChangesTable, named, name_at}
use Rattle.rmt_shared.specs.ClientCalls.{HasTable}
use Rattle.rmt_pass.specs.Passes.{PassView, AreKnownOf, IsPass, KeepsPass, SeesAs, IsCurrent, TakesOver, TakesSome, no_schema, known_in, known_at, client_at}
use Rattle.rmt_pass.proofs.TakingLemmas.{copy-there, get-same, one-there}
use Rattle.rmt_pass.proofs.SeenLemmas.{is-pass, some-count, work-count}
use Rattle.rmt_pass.proofs.OwnLemmas.{knowing, known-now, keeps-known, before-there, after-there, left-there, left-in}

-- ---- before it

-- the copy of a table that is known as it is has its whole log
pub copy-of : (replicas : ℕ) (names : List NamedTable) (p : PassView) (k : ℕ) (tables : List Held) (x : Known) (tree : Held) (copy : History) → AreKnownOf replicas names p.tables → k < length p.tables → x ≡ get_or p.tables k x → copy ≡ copy_in x → named tree ≡ name_at names k → tree ≡ get_or tables k tree → IsCurrent p k tables → HasTable tables k (λ t. IsCopyOf t copy)
copy-of replicas names p k tables x tree copy a here at c is there now = record {
  table = tree;
  is = there;
  fact = subst (λ (y : History). IsCopyOf tree y) (sym c) (copy-there replicas names p.tables k x tree a here at is
      (record { gained = []; is = ap (λ (h : Held). h.log) (one-there tables k tree now.table now.there there now.is) ∙ sym now.now.log }));
}

pub copy-log : (p : PassView) (k : ℕ) (x : Known) (copy : History) → k < length p.tables → x ≡ get_or p.tables k x → copy ≡ copy_in x → copy.log ≡ (known_at p k).log
copy-log p k x copy here at c = ap (λ (y : History). y.log) c ∙ ap (λ (y : Known). y.log) (at ∙ get-same p.tables k x (new_known no_schema 0) here)

-- ---- it enters the log

module _ (p : PassView) (k : ℕ) (here : k < length p.tables) (old new : List Held) (there : k < length old) (now : IsCurrent p k old) (Change : Held → Held → Type 0) (c : ChangesTable old k Change new) (e : Entry) (change : table_at c.after ≡ with_entry e (table_at c.table)) (work : IsOfWorker e) where
  -- the client knew the table that changed
  pub work-sees : SeesAs (client_at p k) c.table
  work-sees = subst (λ (h : Held). SeesAs (client_at p k) h) (sym (before-there old k Change new c now.table there now.is)) now.now

  log : c.after.log ≡ e ∷ (known_at p k).log
  log = ap (λ (x : Table). x.log) change ∙ ap (λ (l : List Entry). e ∷ l) (sym work-sees.log)

  -- the log goes on from the copy by the entry
  pub work-goes-on : HasTable new k (λ h. IsPrefix (known_at p k).log h.log)
  work-goes-on = record { table = c.after; is = left-there old k Change new c there; fact = record { gained = e ∷ []; is = log } }

  gains : (h : Held) → h ≡ c.after → GainsWork (known_at p k).log h.log
  gains h left = record { gained = e ∷ []; is = ap (λ (x : Held). x.log) left ∙ log; workers = (work, tt) }

  -- ---- it is taken over

  module _ (known : List Known) (o : HasTable new k (λ h. TakesOver p.tables k h known)) where
    left : o.table ≡ c.after
    left = after-there old k Change new c o.table there o.is

    abbrev seen : Known
    seen = seen_of o.table o.fact.cells (known_at p k)

    q : client_of (known_in known k) ≡ client_of seen
    q = ap client_of (known-now p k here known seen o.fact.change)

    -- the client knows what it knew, and the entry
    pub work-seen : client_of (known_in known k) ≡ seeing (e ∷ []) [] (client_at p k)
    work-seen =
        let next : o.table.next ≡ (known_at p k).next = ap (λ (h : Held). h.next) left ∙ (ap (λ (x : Table). x.next) change ∙ sym work-sees.next) in
        let quorum : o.table.quorum ≡ (known_at p k).quorum = ap (λ (h : Held). h.quorum) left ∙ (ap (λ (x : Table). x.quorum) change ∙ sym work-sees.quorum) in
        q ∙ (ap (λ (l : List Entry). record (client_at p k) { log = l; next = o.table.next; quorum = o.table.quorum }) (ap (λ (h : Held). h.log) left ∙ log)
        ∙ (ap (λ (n : List (Option ℕ × ℕ)). record (client_at p k) { log = e ∷ (known_at p k).log; next = n; quorum = o.table.quorum }) next
        ∙ ap (λ (x : Quorum). record (client_at p k) { log = e ∷ (known_at p k).log; quorum = x }) quorum))

    -- nothing else of the pass changes
    pub work-keeps : (gave_up : Bool) → KeepsPass p k (knowing p known gave_up)
    work-keeps gave_up = keeps-known p k here known seen o.fact.change gave_up refl refl refl

    -- the table is known as it is
    pub work-now : (gave_up : Bool) → gave_up ≡ false → IsCurrent (knowing p known gave_up) k new
    work-now gave_up goes = record {
      there = left-in old k Change new c there;
      table = o.table;
      is = o.is;
      now = record {
        schema = ap (λ (x : Client). x.schema) q ∙ (work-sees.schema ∙ (ap (λ (x : Table). x.schema) (sym change) ∙ ap (λ (h : Held). h.schema) (sym left)));
        log = ap (λ (x : Client). x.log) q;
        next = ap (λ (x : Client). x.next) q;
        quorum = ap (λ (x : Client). x.quorum) q;
      };
      goes = goes;
    }

    -- and the entries of clients are counted as before
    pub work-pass : (names : List NamedTable) (replicas all parts amount : ℕ) → IsPass names replicas all p parts amount → AreKnownOf replicas names known → IsPass names replicas all (record p { tables = known }) parts amount
    work-pass names replicas all parts amount was are = is-pass names replicas all p k here parts amount was known are seen o.fact.change (work-count (known_at p k).log o.table.log (gains o.table left))

  -- ---- or some of it

  module _ (known : List Known) (o : HasTable new k (λ h. TakesSome p.tables k h known)) where
    abbrev some : Known
    some = with_copy o.fact.log o.fact.cells (known_at p k)

    pub some-keeps : (gave_up : Bool) → KeepsPass p k (knowing p known gave_up)
    some-keeps gave_up = keeps-known p k here known some o.fact.change gave_up refl refl refl

    pub some-pass : (names : List NamedTable) (replicas all parts amount : ℕ) → IsPass names replicas all p parts amount → AreKnownOf replicas names known → IsPass names replicas all (record p { tables = known }) parts amount
    some-pass names replicas all parts amount was are =
        is-pass names replicas all p k here parts amount was known are some o.fact.change
        (some-count (known_at p k).log o.table.log o.fact.log (gains o.table (after-there old k Change new c o.table there o.is)) o.fact.longer o.fact.within)
