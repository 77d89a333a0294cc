-- What a caller needs of what is known.
use Rattle.std.proofs.Common.{◌≡◌, ℕ, zero, suc, Bool, true, List, [], refl, ap, sym, subst, append-nil}
use Rattle.std.specs.Prelude.{replicate, slice_index_or}
use Rattle.rmt_values.specs.Rows.{Shape}
use Rattle.rmt_queue.specs.Marks.{done_at}
use Rattle.rmt_statement_model.specs.TableStates.{empty_table}
use Rattle.rmt_clients.specs.Clients.{KnowsTable}
use Rattle.rmt_table_model.specs.Held.{Held}
use Rattle.rmt_table.specs.TableTrees.{IsCopyOf}
use Rattle.rmt_known.specs.KnownTables.{Known, copy_in, client_of, new_known, fetching_at, marks_at}

each-same : {A : Type 0} (n m : ℕ) (x : A) → slice_index_or (replicate n x) m x ≡ x
each-same zero m x = refl
each-same (suc n) zero x = refl
each-same (suc n) (suc m) x = each-same n m x

all-fetch : (n r : ℕ) → fetching_at (replicate n true) r ≡ true
all-fetch n zero = refl
all-fetch n (suc r) = each-same n r true

no-marks : (n r : ℕ) → marks_at (replicate n []) r ≡ []
no-marks n zero = refl
no-marks n (suc r) = each-same n r []

-- of a table of which nothing was seen a client knows what a table without rows has
pub new-known : (schema : Shape) (n : ℕ) → KnowsTable (client_of (new_known schema n)) (empty_table schema)
new-known schema n = record {
  schema = refl;
  log = refl;
  next = refl;
  quorum = refl;
  fetching = all-fetch n;
  known = λ r i. ap (λ (marks : List Bool). done_at marks i) (no-marks n r);
}

-- its copy is of each table of this schema
pub new-copy : (h : Held) (k : Known) (schema : Shape) (n : ℕ) → k ≡ new_known schema n → schema ≡ h.schema → IsCopyOf h (copy_in k)
new-copy h k schema n e s = subst (λ (x : Known). IsCopyOf h (copy_in x)) (sym e) (record { schema = s; prefix = record { gained = h.log; is = sym (append-nil h.log) }; cells = refl })
