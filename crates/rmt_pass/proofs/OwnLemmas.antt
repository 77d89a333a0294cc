-- A client's own entries: what it knows once it has taken them over.
use Rattle.std.proofs.Common.{◌≡◌, ℕ, zero, suc, ◌+◌, ◌<◌, Bool, false, List, [], ◌∷◌, length, arith, set, get_or, refl, sym, ap, subst, ◌∙◌}
use Rattle.std.proofs.lemmas.List.{get_or-set_same, set-get_or}
use Rattle.std.specs.declared.result.Result.TheVariants.{Ok}
use Rattle.rmt_values.specs.declared.checked_mutation.CheckedMutation.{CheckedMutation}
use Rattle.rmt_entries.specs.declared.entry.Entry.{Entry}
use Rattle.rmt_entries.specs.declared.entry.Entry.TheVariants.{Mutation}
use Rattle.rmt_model.specs.Lawful.{IsPrefix, mutation_count}
use Rattle.rmt_model.specs.EntryLimits.{client_count}
use Rattle.rmt_statement_model.specs.Books.{all_clients}
use Rattle.rmt_events.specs.Views.{Block, Table}
use Rattle.rmt_events.specs.TableCalls.{CreatesMutation}
use Rattle.rmt_history.specs.Copies.{History}
use Rattle.rmt_table_model.specs.Held.{Held}
use Rattle.rmt_table.specs.TableTrees.{table_at}
use Rattle.rmt_table.proofs.Appended.{clients-next}
use Rattle.rmt_statement_model.specs.TableStates.{TableState, learned}
use Rattle.rmt_statement_model.specs.ActOutcomes.{MutatesOr}
use Rattle.rmt_clients.specs.Clients.{Client, KnowsTable, StepsTo}
use Rattle.rmt_known.specs.KnownTables.{Known, KeepsCopy, client_of, known_state, new_known, seen_of}
use Rattle.rmt_shared.specs.SharedTables.{ChangesTable}
use Rattle.rmt_shared.specs.ClientCalls.{HasTable}
use Rattle.rmt_pass.specs.Passes.{PassView, KeepsPass, SeesAs, IsCurrent, KeepsOthers, TakesStep, TakesOver, no_schema, known_in, known_at, client_at, logs_in}
use Rattle.rmt_pass.proofs.TakingLemmas.{one-there}
use Rattle.rmt_pass.proofs.KnownLemmas.{clients-with}
use Rattle.rmt_pass.proofs.ChangeSteps.{SeesOwn, alters}

-- what the client knows, with this of the tables
abbrev pub knowing : PassView → List Known → Bool → PassView
knowing p known gave_up = record { tables = known; up = p.up; gave_up = gave_up }

module _ (p : PassView) (k : ℕ) (here : k < length p.tables) (known : List Known) (n : Known) (is : known ≡ set p.tables k n) where
  pub known-now : known_in known k ≡ n
  known-now = ap (λ (ks : List Known). known_in ks k) is ∙ get_or-set_same p.tables k n (new_known no_schema 0) here

  pub keeps-known : (gave_up : Bool) → n.schema ≡ (known_at p k).schema → length n.fetching ≡ length (known_at p k).fetching → length n.marks ≡ length (known_at p k).marks → KeepsPass p k (knowing p known gave_up)
  keeps-known gave_up s f m = record {
    rest = ap (λ (ks : List Known). knowing p ks gave_up) (is ∙ ap (λ (x : Known). set p.tables k x) (sym known-now));
    schema = ap (λ (x : Known). x.schema) known-now ∙ s;
    fetching = ap (λ (x : Known). length x.fetching) known-now ∙ f;
    marks = ap (λ (x : Known). length x.marks) known-now ∙ m;
  }

-- the table that a change left at its place is the one that is found there
pub after-there : (old : List Held) (k : ℕ) (Change : Held → Held → Type 0) (new : List Held) (c : ChangesTable old k Change new) (h : Held) → k < length old → h ≡ get_or new k h → h ≡ c.after
after-there old k Change new c h here at = at ∙ (ap (λ (ts : List Held). get_or ts k h) c.rest ∙ get_or-set_same old k c.after h here)

-- and the one that it found is the one that the client knew
pub before-there : (old : List Held) (k : ℕ) (Change : Held → Held → Type 0) (new : List Held) (c : ChangesTable old k Change new) (h : Held) → k < length old → h ≡ get_or old k h → c.table ≡ h
before-there old k Change new c h here at = one-there old k c.table h here c.is at

-- nothing but that table changes
pub others : (old : List Held) (k : ℕ) (Change : Held → Held → Type 0) (new : List Held) → ChangesTable old k Change new → KeepsOthers old k new
others old k Change new c = record { table = c.after; rest = c.rest }

-- the table is there still
pub left-in : (old : List Held) (k : ℕ) (Change : Held → Held → Type 0) (new : List Held) → ChangesTable old k Change new → k < length old → k < length new
left-in old k Change new c here =
    let a = set-length old k c.after in
    let b : length new ≡ length (set old k c.after) = ap (λ (ts : List Held). length ts) c.rest in
    omega (arith, a, b, here)
  where
    set-length : (xs : List Held) (i : ℕ) (x : Held) → length (set xs i x) ≡ length xs
    set-length [] i x = refl
    set-length (y ∷ ys) zero x = refl
    set-length (y ∷ ys) (suc i) x = ap suc (set-length ys i x)

-- the client has one entry more of its own
pub one-more : (p : PassView) (k : ℕ) (h : Held) (known : List Known) (e : Entry) (log : List Entry) → k < length p.tables → TakesOver p.tables k h known → h.log ≡ e ∷ log → (known_at p k).log ≡ log → client_count (e ∷ log) ≡ 1 + client_count log → all_clients (logs_in known) ≡ all_clients (logs_in p.tables) + 1
one-more p k h known e log here o is same one =
    let n : Known = seen_of h o.cells (known_at p k) in
    let a = clients-with p.tables k (new_known no_schema 0) n here in
    let b : all_clients (logs_in known) ≡ all_clients (logs_in (set p.tables k n)) = ap (λ (ks : List Known). all_clients (logs_in ks)) o.change in
    let c : client_count n.log ≡ client_count (e ∷ log) = ap client_count is in
    let d : client_count (known_at p k).log ≡ client_count log = ap client_count same in
    omega (arith, a, b, c, d, one)

-- ---- a mutation

module _ (Offered : ℕ → Block → Type 0) (p : PassView) (k : ℕ) (here : k < length p.tables) (old new : List Held) (there : k < length old) (now : IsCurrent p k old) (command : CheckedMutation) (c : ChangesTable old k (λ t u. CreatesMutation (table_at t) command (table_at u)) new) (known : List Known) (o : HasTable new k (λ h. TakesOver p.tables k h known)) where
  before : SeesAs (client_at p k) c.table
  before = subst (λ (h : Held). SeesAs (client_at p k) h) (sym (before-there old k (λ t u. CreatesMutation (table_at t) command (table_at u)) new c now.table there now.is)) now.now

  after : o.table ≡ c.after
  after = after-there old k (λ t u. CreatesMutation (table_at t) command (table_at u)) new c o.table there o.is

  abbrev seen : Known
  seen = seen_of o.table o.fact.cells (known_at p k)

  at : known_in known k ≡ seen
  at = known-now p k here known seen o.fact.change

  q : client_of (known_in known k) ≡ client_of seen
  q = ap client_of at

  sees : SeesAs (client_of (known_in known k)) c.after
  sees = subst (λ (h : Held). SeesAs (client_of (known_in known k)) h) after (record {
    schema = ap (λ (x : Client). x.schema) q ∙ (before.schema ∙ (ap (λ (x : Table). x.schema) (sym c.change.change) ∙ ap (λ (h : Held). h.schema) (sym after)));
    log = ap (λ (x : Client). x.log) q;
    next = ap (λ (x : Client). x.next) q;
    quorum = ap (λ (x : Client). x.quorum) q;
  })

  own : SeesOwn (client_at p k) c.after (client_of (known_in known k))
  own = record {
    schema = ap (λ (x : Client). x.schema) q;
    sees = sees;
    fetching = λ r. ap (λ (x : Client). x.fetching r) q;
    known = λ r i. ap (λ (x : Client). x.known r i) q;
  }

  pub altered : (id : ℕ) → id ≡ mutation_count now.table.log → TakesStep Offered p k (MutatesOr command (Ok id)) (knowing p known false)
  altered id numbered = record {
    steps = alters (Offered k) (client_at p k) (client_of (known_in known k)) c.table c.after command id before c.change own
        (numbered ∙ ap (λ (h : Held). mutation_count h.log) (sym (before-there old k (λ t u. CreatesMutation (table_at t) command (table_at u)) new c now.table there now.is)));
    keeps = keeps-known p k here known seen o.fact.change false refl refl refl;
    goes = refl;
  }

  -- and has counted it
  pub altered-counted : all_clients (logs_in known) ≡ all_clients (logs_in p.tables) + 1
  altered-counted = one-more p k o.table known (Mutation (mutation_count c.table.log) c.table.next command) c.table.log here o.fact (ap (λ (h : Held). h.log) after ∙ ap (λ (x : Table). x.log) c.change.change) before.log (clients-next (Mutation (mutation_count c.table.log) c.table.next command) c.table.log)

  pub altered-now : IsCurrent (knowing p known false) k new
  altered-now = record { there = left-in old k (λ t u. CreatesMutation (table_at t) command (table_at u)) new c there; table = o.table; is = o.is; now = subst (λ (h : Held). SeesAs (client_of (known_in known k)) h) (sym after) sees; goes = refl }

-- ---- before what was appended is taken over

-- an entry more goes on from a copy of the log
pub entry-more : (e : Entry) (copy log new : List Entry) → new ≡ e ∷ log → copy ≡ log → IsPrefix copy new
entry-more e copy log new is same = record { gained = e ∷ []; is = is ∙ ap (λ (l : List Entry). e ∷ l) (sym same) }

-- the table that a change left is there
pub left-there : (old : List Held) (k : ℕ) (Change : Held → Held → Type 0) (new : List Held) (c : ChangesTable old k Change new) → k < length old → c.after ≡ get_or new k c.after
left-there old k Change new c here = sym (ap (λ (ts : List Held). get_or ts k c.after) c.rest ∙ get_or-set_same old k c.after c.after here)

-- so the log of a table in which a mutation was made goes on from what is known
pub mutation-goes-on : (p : PassView) (k : ℕ) (old new : List Held) (command : CheckedMutation) → k < length old → IsCurrent p k old → ChangesTable old k (λ t u. CreatesMutation (table_at t) command (table_at u)) new → HasTable new k (λ h. IsPrefix (known_at p k).log h.log)
mutation-goes-on p k old new command there now c =
    let same = before-there old k (λ t u. CreatesMutation (table_at t) command (table_at u)) new c now.table there now.is in
    record {
      table = c.after;
      is = left-there old k (λ t u. CreatesMutation (table_at t) command (table_at u)) new c there;
      fact = entry-more (Mutation (mutation_count c.table.log) c.table.next command) (known_at p k).log c.table.log c.after.log (ap (λ (x : Table). x.log) c.change.change) (now.now.log ∙ ap (λ (h : Held). h.log) (sym same));
    }

-- ---- where nothing changes

-- the pass as it was
pub keeps-itself : (p : PassView) (k : ℕ) → KeepsPass p k p
keeps-itself p k = record {
  rest = ap (λ (ks : List Known). record p { tables = ks }) (sym (set-get_or p.tables k (new_known no_schema 0)));
  schema = refl;
  fetching = refl;
  marks = refl;
}

-- a step that leaves what the client knows
pub stays : (Offered : ℕ → Block → Type 0) (p : PassView) (k : ℕ) (Change : TableState → TableState → Type 0) → p.gave_up ≡ false → StepsTo (Offered k) (client_at p k) Change (client_at p k) → TakesStep Offered p k Change p
stays Offered p k Change goes steps = record {
  steps = steps;
  keeps = keeps-itself p k;
  goes = goes;
}

-- no table changes
pub others-stay : (tables now : List Held) (k : ℕ) (h : Held) → now ≡ tables → KeepsOthers tables k now
others-stay tables now k h e = record { table = get_or tables k h; rest = e ∙ sym (set-get_or tables k h) }

-- what is so of the table at a place is so of the one that the client knows
pub of-current : (p : PassView) (k : ℕ) (tables : List Held) (F : Held → Type 0) → k < length tables → (now : IsCurrent p k tables) → HasTable tables k F → F now.table
of-current p k tables F there now h = subst F (one-there tables k h.table now.table there h.is now.is) h.fact

-- ---- a place that is known at a replica then

set-twice : (xs : List Known) (i : ℕ) (a b : Known) → set (set xs i a) i b ≡ set xs i b
set-twice [] i a b = refl
set-twice (x ∷ xs) zero a b = refl
set-twice (x ∷ xs) (suc i) a b = ap (λ (ys : List Known). x ∷ ys) (set-twice xs i a b)

-- what the client knows of the table that was found, and that a place is known at a replica
module _ (p : PassView) (k : ℕ) (here : k < length p.tables) (h : Held) (schema : (known_at p k).schema ≡ h.schema) (known : List Known) (o : TakesOver p.tables k h known) (r place : ℕ) (n1 n2 : Known) (at1 : n1 ≡ known_in known k) (l : KnowsTable (client_of n2) (record (known_state n1) { known = learned (known_state n1).known r place })) (keep : KeepsCopy n1 n2) where
  abbrev seen1 : Known
  seen1 = seen_of h o.cells (known_at p k)

  is1 : n1 ≡ seen1
  is1 = at1 ∙ known-now p k here known seen1 o.change

  list : set known k n2 ≡ set p.tables k n2
  list = ap (λ (ks : List Known). set ks k n2) o.change ∙ set-twice p.tables k seen1 n2

  pub known2 : known_in (set known k n2) k ≡ n2
  known2 = known-now p k here (set known k n2) n2 list

  pub learned-keeps : (gave_up : Bool) → KeepsPass p k (knowing p (set known k n2) gave_up)
  learned-keeps gave_up = keeps-known p k here (set known k n2) n2 list gave_up
      (ap (λ (x : History). x.schema) keep.copy ∙ ap (λ (x : Known). x.schema) is1)
      (keep.fetching ∙ ap (λ (x : Known). length x.fetching) is1)
      (keep.marks ∙ ap (λ (x : Known). length x.marks) is1)

  q2 : client_of (known_in (set known k n2) k) ≡ client_of n2
  q2 = ap client_of known2

  pub learned-sees : SeesAs (client_of (known_in (set known k n2) k)) h
  learned-sees = record {
    schema = ap (λ (x : Client). x.schema) q2 ∙ (l.schema ∙ (ap (λ (x : Known). x.schema) is1 ∙ schema));
    log = ap (λ (x : Client). x.log) q2 ∙ (l.log ∙ ap (λ (x : Known). x.log) is1);
    next = ap (λ (x : Client). x.next) q2 ∙ (l.next ∙ ap (λ (x : Known). x.next) is1);
    quorum = ap (λ (x : Client). x.quorum) q2 ∙ (l.quorum ∙ ap (λ (x : Known). x.quorum) is1);
  }

  pub learned-schema : (client_of (known_in (set known k n2) k)).schema ≡ (client_at p k).schema
  learned-schema = ap (λ (x : Client). x.schema) q2 ∙ (l.schema ∙ ap (λ (x : Known). x.schema) is1)

  pub learned-fetching : (j : ℕ) → (client_of (known_in (set known k n2) k)).fetching j ≡ (client_at p k).fetching j
  learned-fetching j = ap (λ (x : Client). x.fetching j) q2 ∙ (l.fetching j ∙ ap (λ (x : Known). (client_of x).fetching j) is1)

  pub learned-known : (j i : ℕ) → (client_of (known_in (set known k n2) k)).known j i ≡ learned (client_at p k).known r place j i
  learned-known j i = ap (λ (x : Client). x.known j i) q2 ∙ (l.known j i ∙ ap (λ (x : Known). learned (client_of x).known r place j i) is1)

  pub learned-clients : all_clients (logs_in (set known k n2)) ≡ all_clients (logs_in known)
  learned-clients =
      let a = clients-with p.tables k (new_known no_schema 0) n2 here in
      let b = clients-with p.tables k (new_known no_schema 0) seen1 here in
      let c : all_clients (logs_in (set known k n2)) ≡ all_clients (logs_in (set p.tables k n2)) = ap (λ (ks : List Known). all_clients (logs_in ks)) list in
      let d : all_clients (logs_in known) ≡ all_clients (logs_in (set p.tables k seen1)) = ap (λ (ks : List Known). all_clients (logs_in ks)) o.change in
      let e : client_count n2.log ≡ client_count seen1.log = ap client_count (ap (λ (x : History). x.log) keep.copy ∙ ap (λ (x : Known). x.log) is1) in
      omega (arith, a, b, c, d, e)
