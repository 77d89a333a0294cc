-- Replicas are switched: who may fetch, and who has a session.
use Rattle.std.proofs.Common.{◌≡◌, ◌≢◌, ℕ, zero, suc, ◌+◌, ◌-◌, ◌<◌, ◌≤◌, ◌↔◌, inl, inr, Bool, true, false, not, nat_eq, nat_lt, List, length, filter, set, get_or, replicate, refl, sym, ap, subst, arith, ◌∙◌}
use Rattle.std.proofs.lemmas.Bool.Decides.{nat_tests}
use Rattle.std.proofs.lemmas.List.{get_or_past, get_or-replicate, set-get_or, set-set}
use Rattle.std.specs.Prelude.{IsTrue}
use Rattle.std.specs.Bool.{beq}
use Rattle.std.specs.declared.option.Option.{Option}
use Rattle.std.specs.declared.option.Option.TheVariants.{Some, None}
use Rattle.rmt_model.specs.Words.{Has, Pairwise}
use Rattle.rmt_model.proofs.Lists.{Has-filter, Has-kept, Pairwise-filter}
use Rattle.rmt_events.specs.Views.{Block, Table}
use Rattle.rmt_events.specs.TableCalls.{Opens, Closes, with_session}
use Rattle.rmt_events.proofs.TableSteps.{session-from, session-new, session-old}
use Rattle.rmt_table_model.specs.Held.{Held}
use Rattle.rmt_table.specs.SeenTable.{opened_from}
use Rattle.rmt_table.specs.TableTrees.{table_at}
use Rattle.rmt_table.proofs.Orders.{same-lists}
use Rattle.rmt_table.proofs.SessionLemmas.{opened-from, opened-has, opened-rising, numbers-order}
use Rattle.rmt_statement_model.specs.TableStates.{with_switch}
use Rattle.rmt_statement_model.specs.QuorumCopies.{replica_numbers}
use Rattle.rmt_clients.specs.Clients.{Client, KnowsTable}
use Rattle.rmt_clients.proofs.ClientRests.{steps-now}
use Rattle.rmt_clients.proofs.ClientChanges.{switched-here}
use Rattle.rmt_known.specs.KnownTables.{Known, KeepsCopy, client_of, known_state}
use Rattle.rmt_shared.specs.SharedTables.{ChangesTable}
use Rattle.rmt_shared.specs.ClientCalls.{HasTable}
use Rattle.rmt_pass.specs.Passes.{PassView, SeesAs, IsCurrent, KeepsOthers, TakesStep, known_in, client_at, up_in}
use Rattle.rmt_pass.specs.InsertSteps.{AreOpen}
use Rattle.rmt_pass.specs.DrainSteps.{HasSession, SetsSession}
use Rattle.rmt_pass.proofs.OwnLemmas.{knowing, before-there, left-in, left-there}
use Rattle.rmt_pass.proofs.DrainLemmas.{keeps-noted, knows-noted}

-- ---- fetches

module _ (Offered : ℕ → Block → Type 0) (p : PassView) (k : ℕ) (here : k < length p.tables) (goes : p.gave_up ≡ false) (r : ℕ) (allowed : Bool) (n1 n2 : Known) (at : n1 ≡ get_or p.tables k n1) (keep : KeepsCopy n1 n2) (knows : KnowsTable (client_of n2) (with_switch (known_state n1) r allowed)) where
  abbrev after : Client
  after = client_of (known_in (set p.tables k n2) k)

  pub switch-done : TakesStep Offered p k (λ t u. u ≡ with_switch t r allowed) (knowing p (set p.tables k n2) p.gave_up)
  switch-done = record {
    steps = λ clear. steps-now (Offered k) (client_at p k) after (λ t u. u ≡ with_switch t r allowed) (λ t f.
        switched-here (Offered k) (client_at p k) r allowed after (record { after = knows-noted p k here n1 n2 at keep (λ t. with_switch t r allowed) knows }) t f);
    keeps = keeps-noted p k here n1 n2 at keep p.gave_up;
    goes = goes;
  }

-- ---- the session of one replica

-- what a test told of a session
session-told : (t : Held) (r : ℕ) (b : Bool) → IsTrue b ↔ Has (table_at t).sessions r → HasSession t r b
session-told t r true f = f.0 refl
session-told t r false f = λ h. let e : false ≡ true = f.1 h in absurd (cc)

-- the test says that both are the same
same-test : (a b : Bool) → beq a b ≡ true → a ≡ b
same-test true true e = refl
same-test true false e = absurd (cc)
same-test false true e = absurd (cc)
same-test false false e = refl

pub session-stays : (tables : List Held) (k r : ℕ) (is_open is_up : Bool) → beq is_open is_up ≡ true → HasTable tables k (λ t. IsTrue is_open ↔ Has (table_at t).sessions r) → ChangesTable tables k (λ t u. SetsSession t r is_up u) tables
session-stays tables k r is_open is_up test f = record {
  table = f.table;
  is = f.is;
  after = f.table;
  change = record {
    this = subst (HasSession f.table r) (same-test is_open is_up test) (session-told f.table r is_open f.fact);
    others = λ j b differ h. h;
    schema = refl;
    log = refl;
    next = refl;
    quorum = refl;
  };
  rest = sym (ap (λ (x : Held). set tables k x) f.is ∙ set-get_or tables k f.table);
}

-- the others stay where one is taken away
without : (r k : ℕ) (xs : List ℕ) → k ≢ r → Has xs k → Has (filter (λ s. not (nat_eq s r)) xs) k
without r k xs differ h = Has-kept (λ s. not (nat_eq s r)) xs k h (kept (nat_eq k r) refl)
  where
    kept : (b : Bool) → nat_eq k r ≡ b → not (nat_eq k r) ≡ true
    kept true e = absurd (differ (grind (arith, nat_tests)))
    kept false e = ap not e

gone : (r : ℕ) (xs : List ℕ) → Has (filter (λ s. not (nat_eq s r)) xs) r → ⊥
gone r xs h = let e : not (nat_eq r r) ≡ true = (Has-filter (λ s. not (nat_eq s r)) xs r h).1 in absurd (grind (arith, nat_tests))

module _ (old : Held) (r : ℕ) (new : Held) where
  opens-one : Opens (table_at old) r (table_at new) → SetsSession old r true new
  opens-one o = record {
    this = back r (session-new r rest);
    others = others;
    schema = ap (λ (x : Table). x.schema) o;
    log = ap (λ (x : Table). x.log) o;
    next = ap (λ (x : Table). x.next) o;
    quorum = ap (λ (x : Table). x.quorum) o;
  }
    where
      rest : List ℕ
      rest = filter (λ s. not (nat_eq s r)) (table_at old).sessions

      back : (j : ℕ) → Has (with_session r rest) j → Has (table_at new).sessions j
      back j h = subst (λ (x : Table). Has x.sessions j) (sym o) h

      forth : (j : ℕ) → Has (table_at new).sessions j → Has (with_session r rest) j
      forth j h = subst (λ (x : Table). Has x.sessions j) o h

      others : (j : ℕ) (b : Bool) → j ≢ r → HasSession old j b → HasSession new j b
      others j true differ h = back j (session-old r rest j (without r j (table_at old).sessions differ h))
      others j false differ h = λ g. elim (session-from r rest j (forth j g)) [ inl e ↦ differ (sym e) | inr m ↦ h (Has-filter (λ s. not (nat_eq s r)) (table_at old).sessions j m).0 ]

  closes-one : Closes (table_at old) r (table_at new) → SetsSession old r false new
  closes-one o = record {
    this = λ h. gone r (table_at old).sessions (forth r h);
    others = others;
    schema = ap (λ (x : Table). x.schema) o;
    log = ap (λ (x : Table). x.log) o;
    next = ap (λ (x : Table). x.next) o;
    quorum = ap (λ (x : Table). x.quorum) o;
  }
    where
      forth : (j : ℕ) → Has (table_at new).sessions j → Has (filter (λ s. not (nat_eq s r)) (table_at old).sessions) j
      forth j h = subst (λ (x : Table). Has x.sessions j) o h

      others : (j : ℕ) (b : Bool) → j ≢ r → HasSession old j b → HasSession new j b
      others j true differ h = subst (λ (x : Table). Has x.sessions j) (sym o) (without r j (table_at old).sessions differ h)
      others j false differ h = λ g. h (Has-filter (λ s. not (nat_eq s r)) (table_at old).sessions j (forth j g)).0

pub session-opens : (tables new : List Held) (k r : ℕ) (is_up : Bool) → is_up ≡ true → ChangesTable tables k (λ t u. Opens (table_at t) r (table_at u)) new → ChangesTable tables k (λ t u. SetsSession t r is_up u) new
session-opens tables new k r is_up up c = record { table = c.table; is = c.is; after = c.after; change = subst (λ (b : Bool). SetsSession c.table r b c.after) (sym up) (opens-one c.table r c.after c.change); rest = c.rest }

pub session-closes : (tables new : List Held) (k r : ℕ) (is_up : Bool) → is_up ≡ false → ChangesTable tables k (λ t u. Closes (table_at t) r (table_at u)) new → ChangesTable tables k (λ t u. SetsSession t r is_up u) new
session-closes tables new k r is_up down c = record { table = c.table; is = c.is; after = c.after; change = subst (λ (b : Bool). SetsSession c.table r b c.after) (sym down) (closes-one c.table r c.after c.change); rest = c.rest }

-- ---- those of all replicas

-- each replica below a number has a session just where it is up
abbrev pub AreSet : List Bool → ℕ → Held → Type 0
AreSet up n h = (j : ℕ) → 1 ≤ j → j < n → HasSession h j (up_in up j)

-- of one more replica it is so then, and the client knows the table still
module _ (p : PassView) (k : ℕ) (first old new : List Held) (now : IsCurrent p k old) (others : KeepsOthers first k old) (r : ℕ) (sessions : HasTable old k (AreSet p.up r)) (is_up : Bool) (is : is_up ≡ up_in p.up r) (c : ChangesTable old k (λ t u. SetsSession t r is_up u) new) where
  before : SeesAs (client_at p k) c.table
  before = subst (λ (h : Held). SeesAs (client_at p k) h) (sym (before-there old k (λ t u. SetsSession t r is_up u) new c now.table now.there now.is)) now.now

  pub set-current : IsCurrent p k new
  set-current = record {
    there = left-in old k (λ t u. SetsSession t r is_up u) new c now.there;
    table = c.after;
    is = left-there old k (λ t u. SetsSession t r is_up u) new c now.there;
    now = record {
      schema = before.schema ∙ sym c.change.schema;
      log = before.log ∙ sym c.change.log;
      next = before.next ∙ sym c.change.next;
      quorum = before.quorum ∙ sym c.change.quorum;
    };
    goes = now.goes;
  }

  pub set-others : KeepsOthers first k new
  set-others = record {
    table = c.after;
    rest = c.rest ∙ (ap (λ (ts : List Held). set ts k c.after) others.rest ∙ set-set first k others.table c.after);
  }

  pub set-sessions : HasTable new k (AreSet p.up (r + 1))
  set-sessions = record {
    table = c.after;
    is = left-there old k (λ t u. SetsSession t r is_up u) new c now.there;
    fact = λ j l m. one j l m (nat_eq j r) refl;
  }
    where
      found : c.table ≡ sessions.table
      found = before-there old k (λ t u. SetsSession t r is_up u) new c sessions.table now.there sessions.is

      one : (j : ℕ) → 1 ≤ j → j < r + 1 → (b : Bool) → nat_eq j r ≡ b → HasSession c.after j (up_in p.up j)
      one j l m true e =
          let same : r ≡ j = grind (arith, nat_tests) in
          subst (λ i. HasSession c.after i (up_in p.up i)) same (subst (HasSession c.after r) is c.change.this)
      one j l m false e =
          let below : j < r = grind (arith, nat_tests) in
          c.change.others j (up_in p.up j) (λ s. let t : nat_eq j r ≡ true = grind (arith, nat_tests) in let f : true ≡ false = sym t ∙ e in absurd (cc))
          (subst (λ (h : Held). HasSession h j (up_in p.up j)) (sym found) (sessions.fact j l below))

-- ---- so many

-- what isn't the default is in the list
there-below : {A : Type 0} (xs : List A) (i : ℕ) (d : A) → (get_or xs i d ≡ d → ⊥) → i < length xs
there-below xs i d differ = go (nat_lt i (length xs)) refl
  where
    go : (b : Bool) → nat_lt i (length xs) ≡ b → i < length xs
    go true e = grind (arith, nat_tests)
    go false e = absurd (differ (get_or_past xs i d (let l : length xs ≤ i = grind (arith, nat_tests) in l)))

pub up-below : (up : List Bool) (r : ℕ) → up_in up r ≡ true → (1 ≤ r) × (r ≤ length up)
up-below up zero e = absurd (cc)
up-below up (suc r) e = let l = there-below up r false (λ f. let g : true ≡ false = sym e ∙ f in absurd (cc)) in (omega arith, omega (arith, l))

-- the numbers of replicas are those of 8 that have a session
abbrev all_open : List (Option ℕ)
all_open = replicate 8 (Some 0)

eight : replica_numbers ≡ opened_from 1 all_open
eight = refl

eight-rising : Pairwise ◌<◌ replica_numbers
eight-rising = opened-rising all_open 1

eight-has : (k : ℕ) → 1 ≤ k → k ≤ 8 → Has replica_numbers k
eight-has k l m = opened-has all_open 1 k (k - 1) 0 (omega (arith, l)) (get_or-replicate 8 (k - 1) (Some 0) None (omega (arith, l, m)))

pub are-open : (up : List Bool) (h : Held) (n : ℕ) → AreSet up n h → n ≡ length up + 1 → length h.sessions ≡ length up → length h.sessions ≤ 8 → AreOpen (up_in up) h
are-open up h n s end all few = record { opened = opened; count = ap (λ (xs : List ℕ). length xs) same }
  where
    opened : (r : ℕ) → up_in up r ≡ true → Has (table_at h).sessions r
    opened r e =
        let l = up-below up r e in
        let a = l.0 in
        let b = l.1 in
        subst (HasSession h r) e (s r a (omega (arith, b, end)))

    closed : (k : ℕ) → 1 ≤ k → k ≤ length up → Has (table_at h).sessions k → (b : Bool) → up_in up k ≡ b → up_in up k ≡ true
    closed k l m has true e = e
    closed k l m has false e = absurd (subst (HasSession h k) e (s k l (omega (arith, m, end))) has)

    forth : (k : ℕ) → Has (opened_from 1 h.sessions) k → Has (filter (up_in up) replica_numbers) k
    forth k has =
        let x = opened-from h.sessions 1 k has in
        let n = x.number in
        let l = there-below h.sessions x.replica None (λ f. let g : ◌≡◌ {A = Option ℕ} (Some x.session) None = sym x.opened ∙ f in absurd (cc)) in
        Has-kept (up_in up) replica_numbers k (eight-has k (omega (arith, n)) (omega (arith, n, l, few)))
        (closed k (omega (arith, n)) (omega (arith, n, l, all)) has (up_in up k) refl)

    back : (k : ℕ) → Has (filter (up_in up) replica_numbers) k → Has (opened_from 1 h.sessions) k
    back k has = opened k (Has-filter (up_in up) replica_numbers k has).1

    same : opened_from 1 h.sessions ≡ filter (up_in up) replica_numbers
    same = same-lists ◌<◌ numbers-order (opened_from 1 h.sessions) (filter (up_in up) replica_numbers) (opened-rising h.sessions 1) (Pairwise-filter ◌<◌ (up_in up) replica_numbers eight-rising) forth back
