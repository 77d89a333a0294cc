-- Tables among workers: what is done in one of them, and what it leaves of the others.
use Rattle.std.proofs.Common.{◌≡◌, ◌≢◌, ◌∙◌, ℕ, Bool, zero, suc, ◌<◌, true, List, [], ◌∷◌, length, map, refl, sym, ap, subst, arith}
use Rattle.std.specs.Prelude.{IfOk, OnOk, cond, nat_eq, slice_get, slice_index_or, slice_set}
use Rattle.std.specs.declared.alloc.AllocError.{AllocError}
use Rattle.std.specs.declared.option.Option.{Option}
use Rattle.std.specs.declared.option.Option.TheVariants.{Some}
use Rattle.std.specs.declared.result.Result.{Result}
use Rattle.std.specs.declared.result.Result.TheVariants.{Ok, Err}
use Rattle.rmt_values.specs.Rows.{Shape}
use Rattle.rmt_events.specs.Views.{Block}
use Rattle.rmt_statements.specs.declared.act.Act.{Act}
use Rattle.rmt_reply.specs.declared.line.Line.{Line}
use Rattle.rmt_clients.specs.Clients.{Client}
use Rattle.rmt_known.specs.KnownTables.{Known, client_of}
use Rattle.rmt_pass.specs.Passes.{AreKnownOf, PassView, client_at, known_in, up_in}
use Rattle.rmt_model.specs.Words.{Each}
use Rattle.rmt_shared.specs.SharedReplicas.{IsNumber}
use Rattle.rmt_shared.specs.SharedTables.{NamedTable, named as names_of}
use Rattle.rmt_state.specs.States.{IsNumber as IsNumberOf, StateView}
use Rattle.rmt_threaded.specs.ThreadedTables.{ThreadedView, client_in, seen_at, sight_of}
use Rattle.rmt_acting.specs.Acting.{Sight, GoesOn, KeepsShape}
use Rattle.rmt_play.specs.ActSteps.{ExecutesThere, RunsTable}
use Rattle.rmt_play.specs.PlayerSteps.{ChangesAt, TurnsEach, TurnsTable}
use Rattle.rmt_play.specs.Seats.{IsLent, IsSized, Seat, TurnsPass, schemas_named, seat_of, seat_seen, seats_in, seats_of, seats_seen}

-- ---- what is seen of a table, with the others or without

module _ (O : Shape → Block → Type 0) (p q : Client) (n m a b : ℕ) (up vp : ℕ → Bool) (k j : ℕ) (others later : ℕ → Option Client) where
  -- an act is the same
  pub acts-alone : (r : ℕ) (act : Act) (line : Line) → ExecutesThere (sight_of O p n up k others) r act line (sight_of O q m vp j later) → ExecutesThere (seat_seen O (record { client = p; count = a; ups = up })) r act line (seat_seen O (record { client = q; count = b; ups = vp }))
  acts-alone r act line f t h =
      let l = f t h in
      record { state = l.state; holds = record { at = l.holds.at; rests = l.holds.rests; change = l.holds.change }; shows = l.shows }

  -- so is background work
  pub runs-alone : (turns seed : ℕ) (line : Line) → RunsTable turns seed line (sight_of O p n up k others) (sight_of O q m vp j later) → RunsTable turns seed line (seat_seen O (record { client = p; count = a; ups = up })) (seat_seen O (record { client = q; count = b; ups = vp }))
  runs-alone turns seed line f = record {
    turns_made = λ t h.
        let l = f.turns_made t h in
        record { state = l.state; holds = record { at = l.holds.at; rests = l.holds.rests; change = l.holds.change }; shows = l.shows };
    events = λ e. absurd (cc);
  }

  pub goes-alone : GoesOn (sight_of O p n up k others) (sight_of O q m vp j later) → GoesOn (seat_seen O (record { client = p; count = a; ups = up })) (seat_seen O (record { client = q; count = b; ups = vp }))
  goes-alone g = record { free = tt; ups = g.ups }

  pub keeps-alone : b ≡ a → KeepsShape (sight_of O p n up k others) (sight_of O q m vp j later) → KeepsShape (seat_seen O (record { client = p; count = a; ups = up })) (seat_seen O (record { client = q; count = b; ups = vp }))
  keeps-alone c s = record { shape = s.shape; count = c; place = refl; others = λ i d. refl }

-- ---- tables by their places

-- tables that are known alike are seen alike
seats-same : (up vp : List Bool) (olds news : List Known) → length news ≡ length olds → length vp ≡ length up → up_in vp ≡ up_in up → ((i : ℕ) → client_of (known_in news i) ≡ client_of (known_in olds i)) → seats_of vp news ≡ seats_of up olds
seats-same up vp [] [] n c u f = refl
seats-same up vp [] (x ∷ news) n c u f = absurd (omega (arith, n))
seats-same up vp (x ∷ olds) [] n c u f = absurd (omega (arith, n))
seats-same up vp (x ∷ olds) (y ∷ news) n c u f =
    ap (λ (p : Client). record { client = p; count = length vp; ups = up_in vp } ∷ seats_of vp news) (f 0)
    ∙ (ap (λ (k : ℕ). record { client = client_of x; count = k; ups = up_in vp } ∷ seats_of vp news) c
    ∙ (ap (λ (w : ℕ → Bool). record { client = client_of x; count = length up; ups = w } ∷ seats_of vp news) u
    ∙ ap (λ (l : List Seat). seat_of up x ∷ l) (seats-same up vp olds news (omega (arith, n)) c u (λ i. f (suc i)))))

-- where one may differ, the others are seen alike
pub seats-set : (up vp : List Bool) (olds news : List Known) (k : ℕ) → length news ≡ length olds → length vp ≡ length up → up_in vp ≡ up_in up → ((i : ℕ) → i ≢ k → client_of (known_in news i) ≡ client_of (known_in olds i)) → seats_of vp news ≡ slice_set (seats_of up olds) k (seat_of vp (known_in news k))
seats-set up vp [] [] k n c u f = refl
seats-set up vp [] (x ∷ news) k n c u f = absurd (omega (arith, n))
seats-set up vp (x ∷ olds) [] k n c u f = absurd (omega (arith, n))
seats-set up vp (x ∷ olds) (y ∷ news) zero n c u f = ap (λ (l : List Seat). seat_of vp y ∷ l) (seats-same up vp olds news (omega (arith, n)) c u (λ i. f (suc i) (λ e. absurd (omega (arith, e)))))
seats-set up vp (x ∷ olds) (y ∷ news) (suc k) n c u f =
    ap (λ (p : Client). record { client = p; count = length vp; ups = up_in vp } ∷ seats_of vp news) (f 0 (λ e. absurd (omega (arith, e))))
    ∙ (ap (λ (i : ℕ). record { client = client_of x; count = i; ups = up_in vp } ∷ seats_of vp news) c
    ∙ (ap (λ (w : ℕ → Bool). record { client = client_of x; count = length up; ups = w } ∷ seats_of vp news) u
    ∙ ap (λ (l : List Seat). seat_of up x ∷ l) (seats-set up vp olds news k (omega (arith, n)) c u (λ i d. f (suc i) (λ e. d (let q : i ≡ k = omega (arith, e) in q))))))

-- the table at a place
pub seat-get : (up : List Bool) (known : List Known) (k : ℕ) → k < length known → slice_get (seats_of up known) k ≡ Some (seat_of up (known_in known k))
seat-get up [] k h = absurd (omega (arith, h))
seat-get up (x ∷ known) zero h = refl
seat-get up (x ∷ known) (suc k) h = seat-get up known k (omega (arith, h))

pub seats-length : (up : List Bool) (known : List Known) → length (seats_of up known) ≡ length known
seats-length up [] = refl
seats-length up (x ∷ known) = ap suc (seats-length up known)

-- what others know is the same client
pub same-some : {A : Type 0} (x y : A) → ◌≡◌ {A = Option A} (Some x) (Some y) → x ≡ y
same-some x y e = cc

-- ---- an act in one of them

-- a change of the table at a place changes nothing else
pub changes-at : (O : Shape → Block → Type 0) (p q : PassView) (k : ℕ) (Change : Sight true → Sight true → Type 0) → k < length p.tables → length q.tables ≡ length p.tables
    → Change (seat_seen O (seat_of p.up (known_in p.tables k))) (seat_seen O (seat_of q.up (known_in q.tables k)))
    → GoesOn (seat_seen O (seat_of p.up (known_in p.tables k))) (seat_seen O (seat_of q.up (known_in q.tables k)))
    → KeepsShape (seat_seen O (seat_of p.up (known_in p.tables k))) (seat_seen O (seat_of q.up (known_in q.tables k)))
    → ((i : ℕ) → i ≢ k → client_at q i ≡ client_at p i)
    → ChangesAt (seats_seen O) (seats_of p.up p.tables) k Change (seats_of q.up q.tables)
changes-at O p q k Change here count c g s others = record {
  table = seat_of p.up (known_in p.tables k);
  there = seat-get p.up p.tables k here;
  after = seat_of q.up (known_in q.tables k);
  changes = c;
  goes_on = g;
  keeps = s;
  rest = seats-set p.up q.up p.tables q.tables k count s.count g.ups others;
}

-- ---- an act for a client to whom what it knows was lent

-- what is seen of the table at a place alone
abbrev alone : (Shape → Block → Type 0) → PassView → ℕ → Sight true
alone O p k = seat_seen O (seat_of p.up (known_in p.tables k))

module _ (O : Shape → Block → Type 0) (m n : ℕ) (v w : ThreadedView) (i : IsSized m n v.pass) (j : IsSized m n w.pass) (there : v.table < length v.pass.tables)
    (g : GoesOn (seen_at O n v) (seen_at O n w)) (s : KeepsShape (seen_at O n v) (seen_at O n w)) where
  changes-there : (Change : Sight true → Sight true → Type 0) → Change (alone O v.pass v.table) (alone O w.pass w.table) → ChangesAt (seats_seen O) (seats_of v.pass.up v.pass.tables) v.table Change (seats_of w.pass.up w.pass.tables)
  changes-there Change c =
      let e : w.table ≡ v.table = s.place in
      changes-at O v.pass w.pass v.table Change there (j.count ∙ sym i.count)
      (subst (λ (k : ℕ). Change (alone O v.pass v.table) (alone O w.pass k)) e c)
      (subst (λ (k : ℕ). GoesOn (alone O v.pass v.table) (alone O w.pass k)) e (goes-alone O (client_in v) (client_in w) n n (length v.pass.up) (length w.pass.up) (up_in v.pass.up) (up_in w.pass.up) v.table w.table (seen_at O n v).others (seen_at O n w).others g))
      (subst (λ (k : ℕ). KeepsShape (alone O v.pass v.table) (alone O w.pass k)) e (keeps-alone O (client_in v) (client_in w) n n (length v.pass.up) (length w.pass.up) (up_in v.pass.up) (up_in w.pass.up) v.table w.table (seen_at O n v).others (seen_at O n w).others (j.ups ∙ sym i.ups) s))
      (λ x d. same-some (client_at w.pass x) (client_at v.pass x) (s.others x d))

  pub changes-lent : (old new : Option PassView) (place : ℕ) (Change : Sight true → Sight true → Type 0) → old ≡ Some v.pass → new ≡ Some w.pass → v.table ≡ place → Change (alone O v.pass v.table) (alone O w.pass w.table) → ChangesAt (seats_seen O) (seats_in old) place Change (seats_in new)
  changes-lent old new place Change e f p c =
      subst (λ (o : Option PassView). ChangesAt (seats_seen O) (seats_in o) place Change (seats_in new)) (sym e)
      (subst (λ (o : Option PassView). ChangesAt (seats_seen O) (seats_in (Some v.pass)) place Change (seats_in o)) (sym f)
      (subst (λ (k : ℕ). ChangesAt (seats_seen O) (seats_in (Some v.pass)) k Change (seats_in (Some w.pass))) p (changes-there Change c)))

-- the same of an act, where it comes to its end
pub acts-lent : (O : Shape → Block → Type 0) (m n : ℕ) (old new : Option PassView) (place r : ℕ) (act : Act) (v w : ThreadedView) (result : Result Line AllocError) → IsLent m n old place v → new ≡ Some w.pass → IsSized m n w.pass
    → IfOk result (λ line. ExecutesThere (seen_at O n v) r act line (seen_at O n w)) → OnOk result (GoesOn (seen_at O n v) (seen_at O n w)) → KeepsShape (seen_at O n v) (seen_at O n w)
    → IfOk result (λ line. ChangesAt (seats_seen O) (seats_in old) place (λ s u. ExecutesThere s r act line u) (seats_in new))
acts-lent O m n old new place r act v w (Ok line) l e i f g s =
    changes-lent O m n v w l.sized i l.there g s old new place (λ s u. ExecutesThere s r act line u) l.known e l.at
    (acts-alone O (client_in v) (client_in w) n n (length v.pass.up) (length w.pass.up) (up_in v.pass.up) (up_in w.pass.up) v.table w.table (seen_at O n v).others (seen_at O n w).others r act line f)
acts-lent O m n old new place r act v w (Err x) l e i f g s = tt

-- and of background work
pub runs-lent : (O : Shape → Block → Type 0) (m n : ℕ) (old new : Option PassView) (place turns seed : ℕ) (v w : ThreadedView) (result : Result Line AllocError) → IsLent m n old place v → new ≡ Some w.pass → IsSized m n w.pass
    → IfOk result (λ line. RunsTable turns seed line (seen_at O n v) (seen_at O n w)) → OnOk result (GoesOn (seen_at O n v) (seen_at O n w)) → KeepsShape (seen_at O n v) (seen_at O n w)
    → IfOk result (λ line. ChangesAt (seats_seen O) (seats_in old) place (RunsTable turns seed line) (seats_in new))
runs-lent O m n old new place turns seed v w (Ok line) l e i f g s =
    changes-lent O m n v w l.sized i l.there g s old new place (RunsTable turns seed line) l.known e l.at
    (runs-alone O (client_in v) (client_in w) n n (length v.pass.up) (length w.pass.up) (up_in v.pass.up) (up_in w.pass.up) v.table w.table (seen_at O n v).others (seen_at O n w).others turns seed line f)
runs-lent O m n old new place turns seed v w (Err x) l e i f g s = tt

-- the table that is lent is at all replicas
pub lent-there : (O : Shape → Block → Type 0) (m n : ℕ) (old : Option PassView) (place : ℕ) (v : ThreadedView) → IsLent m n old place v → slice_get (seats_in old) place ≡ Some (seat_of v.pass.up (known_in v.pass.tables v.table))
lent-there O m n old place v l =
    subst (λ (o : Option PassView). slice_get (seats_in o) place ≡ Some (seat_of v.pass.up (known_in v.pass.tables v.table))) (sym l.known)
    (subst (λ (k : ℕ). slice_get (seats_of v.pass.up v.pass.tables) k ≡ Some (seat_of v.pass.up (known_in v.pass.tables v.table))) l.at (seat-get v.pass.up v.pass.tables v.table l.there))

-- ---- sessions

-- tables that are known alike, at replicas of which others are up
pub seats-turned : (O : Shape → Block → Type 0) (up vp : List Bool) (known : List Known) (r : ℕ) (is_up : Bool) → length vp ≡ length up → ((k : ℕ) → up_in vp k ≡ cond (nat_eq r k) is_up (up_in up k)) → TurnsEach (seats_seen O) r is_up (seats_of up known) (seats_of vp known)
seats-turned O up vp known r is_up c u = record { all = seats-length vp known ∙ sym (seats-length up known); each = each known }
  where
    each : (known : List Known) (j : ℕ) (t v : Seat) → slice_get (seats_of up known) j ≡ Some t → slice_get (seats_of vp known) j ≡ Some v → TurnsTable (seats_seen O) r is_up t v
    each [] j t v e f = absurd (cc)
    each (x ∷ known) zero t v e f =
        let a : seat_of up x ≡ t = same-some (seat_of up x) t e in
        let b : seat_of vp x ≡ v = same-some (seat_of vp x) v f in
        subst (λ (s : Seat). TurnsTable (seats_seen O) r is_up s v) a (subst (λ (s : Seat). TurnsTable (seats_seen O) r is_up (seat_of up x) s) b (record {
          shows = λ t h. record { clear = h.clear; now = h.now; rests = h.rests; fits = h.fits };
          turns = record { ups = u; free = λ z. tt };
          all = c;
          events = λ z. absurd (cc);
        }))
    each (x ∷ known) (suc j) t v e f = each known j t v e f

pub pass-turned : (O : Shape → Block → Type 0) (old : Option PassView) (p q : PassView) (r : ℕ) (is_up : Bool) → old ≡ Some p → TurnsPass r is_up p q → TurnsEach (seats_seen O) r is_up (seats_in old) (seats_in (Some q))
pass-turned O old p q r is_up e t =
    subst (λ (o : Option PassView). TurnsEach (seats_seen O) r is_up (seats_in o) (seats_in (Some q))) (sym e)
    (subst (λ (ks : List Known). TurnsEach (seats_seen O) r is_up (seats_of p.up p.tables) (seats_of q.up ks)) (sym t.tables) (seats-turned O p.up q.up p.tables r is_up t.count t.ups))

-- the replica of a number is there, where it is at some table
pub number-first : (O : Shape → Block → Type 0) (up : List Bool) (known : List Known) (r : ℕ) → 0 < length known → Each (λ t. IsNumberOf r (seat_seen O t).count) (seats_of up known) → IsNumber r (length up)
number-first O up [] r l e = absurd (omega (arith, l))
number-first O up (x ∷ known) r l e = record { first = e.0.first; last = e.0.last }

-- nothing is turned where there is no table
pub none-turned : (O : Shape → Block → Type 0) (pass : Option PassView) (r : ℕ) (is_up : Bool) → length (seats_in pass) ≡ 0 → TurnsEach (seats_seen O) r is_up (seats_in pass) (seats_in pass)
none-turned O pass r is_up e = record { all = refl; each = λ j t v f g. absurd (nothing-there (seats_in pass) j t e f) }
  where
    nothing-there : (ss : List Seat) (j : ℕ) (t : Seat) → length ss ≡ 0 → slice_get ss j ≡ Some t → ⊥
    nothing-there [] j t e f = absurd (cc)
    nothing-there (s ∷ ss) j t e f = absurd (omega (arith, e))

-- so it is where a session was turned, or memory for it was not left
pub turned-seats : {A : Type 0} (O : Shape → Block → Type 0) (old new : Option PassView) (p q : PassView) (r : ℕ) (is_up : Bool) (result done : Result A AllocError) → old ≡ Some p → new ≡ Some q → result ≡ done → OnOk done (TurnsPass r is_up p q)
    → OnOk result (TurnsEach (seats_seen O) r is_up (seats_in old) (seats_in new))
turned-seats {A} O old new p q r is_up result done e f same turns =
    subst (λ (x : Result A AllocError). OnOk x (TurnsEach (seats_seen O) r is_up (seats_in old) (seats_in new))) (sym same) (go done turns)
  where
    go : (x : Result A AllocError) → OnOk x (TurnsPass r is_up p q) → OnOk x (TurnsEach (seats_seen O) r is_up (seats_in old) (seats_in new))
    go (Ok a) t = subst (λ (o : Option PassView). TurnsEach (seats_seen O) r is_up (seats_in old) (seats_in o)) (sym f) (pass-turned O old p q r is_up e t)
    go (Err x) t = tt

-- and where there is no table to turn it in
pub unturned-seats : {A : Type 0} (O : Shape → Block → Type 0) (old new : Option PassView) (r : ℕ) (is_up : Bool) (result : Result A AllocError) → new ≡ old → length (seats_in old) ≡ 0 → OnOk result (TurnsEach (seats_seen O) r is_up (seats_in old) (seats_in new))
unturned-seats {A} O old new r is_up result same none = go result
  where
    go : (x : Result A AllocError) → OnOk x (TurnsEach (seats_seen O) r is_up (seats_in old) (seats_in new))
    go (Ok a) = subst (λ (o : Option PassView). TurnsEach (seats_seen O) r is_up (seats_in old) (seats_in o)) (sym same) (none-turned O old r is_up none)
    go (Err x) = tt

-- ---- schemas

-- those of named tables are those of their states
pub schemas-named : (states : List StateView) → schemas_named (map (λ (s : StateView). names_of s.tree) states) ≡ map (λ (s : StateView). s.tree.schema) states
schemas-named [] = refl
schemas-named (s ∷ states) = ap (λ l. s.tree.schema ∷ l) (schemas-named states)

-- the schema of the table at a place, where these are as the named ones and what is known is of them
pub schema-lent : {A : Type 0} (f : A → Shape) (items : List A) (x : A) (replicas : ℕ) (names : List NamedTable) (known : List Known) (k : ℕ) (d : Known) → map f items ≡ schemas_named names → AreKnownOf replicas names known → k < length known → x ≡ slice_index_or items k x → f x ≡ (slice_index_or known k d).schema
schema-lent f items x replicas [] [] k d m a h i = absurd (omega (arith, h))
schema-lent f items x replicas [] (w ∷ known) k d m a h i = absurd a
schema-lent f items x replicas (n ∷ names) [] k d m a h i = absurd a
schema-lent f [] x replicas (n ∷ names) (w ∷ known) k d m a h i = absurd (cc)
schema-lent f (y ∷ items) x replicas (n ∷ names) (w ∷ known) zero d m a h i =
    let e : f y ≡ n.schema = cc in
    ap f i ∙ (e ∙ sym a.0.copy.schema)
schema-lent f (y ∷ items) x replicas (n ∷ names) (w ∷ known) (suc k) d m a h i =
    let e : map f items ≡ schemas_named names = cc in
    schema-lent f items x replicas names known k d e a.1 (omega (arith, h)) i
