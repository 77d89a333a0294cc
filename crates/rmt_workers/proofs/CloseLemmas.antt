-- What is compared once no other thread has a crew.
use Rattle.std.proofs.Common.{◌≡◌, ◌≢◌, inl, ℕ, zero, suc, ◌+◌, ◌-◌, ◌<◌, ◌≤◌, Bool, true, false, nat_eq, List, [], ◌∷◌, ◌++◌, length, length-set, map, set, get_or, get_or-set_other, refl, sym, ap, subst, arith, ◌∙◌}
use Rattle.std.specs.Prelude.{IsTrue, MatchBool, MatchOption, is_some}
use Rattle.std.specs.declared.option.Option.{Option}
use Rattle.std.specs.declared.option.Option.TheVariants.{Some, None}
use Rattle.std.proofs.lemmas.Bool.Decides.{nat_tests}
use Rattle.rmt_model.specs.Words.{Each}
use Rattle.rmt_model.specs.Lawful.{IsPrefix}
use Rattle.rmt_entries.specs.declared.entry.Entry.{Entry}
use Rattle.rmt_events.specs.Views.{Block}
use Rattle.rmt_history.specs.Copies.{IsLogOf}
use Rattle.rmt_table_model.specs.Held.{Held}
use Rattle.rmt_partset.specs.Snapshots.{NamedData}
use Rattle.rmt_replica.specs.Replicas.{IsStandingReplica, ReplicaView, copy_of}
use Rattle.rmt_replica.specs.ReplicaRows.{IsReplicaOfRow}
use Rattle.rmt_state.specs.States.{AreNumbered, Belongs, IsState, StateView}
use Rattle.rmt_statement_model.specs.TableStates.{TableState}
use Rattle.rmt_clients.specs.Clients.{Client, StepsTo}
use Rattle.rmt_known.specs.KnownTables.{Known, client_of, new_known}
use Rattle.rmt_readings.specs.Readable.{IsReadable, IsUnread}
use Rattle.rmt_shared.specs.ClientCalls.{HasTable}
use Rattle.rmt_shared.specs.SharedTables.{HasBlocks, NamedTable, name_at, named}
use Rattle.rmt_shared.specs.SharedReplicas.{HoldsOnly, IsSharedReplica, SharedReplicaView, StagesFitting}
use Rattle.rmt_pass.specs.Passes.{IsCurrent, IsKnownOf, KeepsOthers, KeepsPass, PassView, SeesAs, client_at, known_at, known_in, no_schema, up_in}
use Rattle.rmt_pass.specs.InsertSteps.{AreOpen}
use Rattle.rmt_pass.proofs.TakingLemmas.{one-there}
use Rattle.rmt_workers.specs.Crews.{IsSetAsKnown, Saw}
use Rattle.rmt_workers.specs.Closing.{AreAtRest, IsAtRest, IsAtRestReplica}
use Rattle.rmt_workers.specs.Settled.{AreTakenBack, EachFrom, HasAllKnown, IsHandedBack, IsSettled, IsSettledAt, IsTakenBack, SeesTo, Settles, SettlesTo}
use Rattle.rmt_workers.proofs.StepLemmas.{keeps-up, saw-rests}
use Rattle.rmt_workers.proofs.BeginLemmas.{each-as, shifted, unshifted}

-- ---- tables

-- what is so where a test held
pub from-met : (b : Bool) (P Q : Type 0) → b ≡ true → MatchBool b P Q → P
from-met b P Q e m = subst (λ (x : Bool). MatchBool x P Q) e m

-- the table that was found at a place is settled
pub settled-there : (names : List NamedTable) (count : ℕ) (O : ℕ → Block → Type 0) (p : PassView) (k : ℕ) (tables : List Held) (h : Held) → IsCurrent p k tables → HasTable tables k (AreOpen (up_in p.up)) → h ≡ get_or tables k h → named h ≡ name_at names k → length h.sessions ≡ count → HasBlocks (O k) h → IsSettledAt names count O p k tables
settled-there names count O p k tables h now opened at is n blocks = record {
  there = now.there;
  has = record {
    table = h;
    is = at;
    fact = record {
      named_is = is;
      count_is = n;
      blocks = blocks;
      sees = subst (λ (x : Held). SeesAs (client_at p k) x) (one-there tables k now.table h now.there now.is at) now.now;
      sessions = subst (λ (x : Held). AreOpen (up_in p.up) x) (one-there tables k opened.table h now.there opened.is at) opened.fact;
    };
  };
}

not-same : (j k : ℕ) → nat_eq j k ≡ false → j ≢ k
not-same j k e = λ s. let t : nat_eq j k ≡ true = grind (arith, nat_tests) in let f : true ≡ false = sym t ∙ e in absurd (cc)

-- what is known of another table stays
client-there : (old new : PassView) (k j : ℕ) → KeepsPass old k new → j ≢ k → client_at new j ≡ client_at old j
client-there old new k j keeps differ =
    ap (λ (p : PassView). client_at p j) keeps.rest
    ∙ ap (λ (x : Known). client_of x) (get_or-set_other old.tables k j (known_at new k) (new_known no_schema 0) differ)

-- another table stays settled
module _ (names : List NamedTable) (count : ℕ) (O : ℕ → Block → Type 0) (old new : PassView) (k j : ℕ) (tables now : List Held) (differ : j ≢ k) (keeps : KeepsPass old k new) (others : KeepsOthers tables k now) where
  table-there : (h : Held) → h ≡ get_or tables j h → h ≡ get_or now j h
  table-there h at = at ∙ sym (ap (λ (ts : List Held). get_or ts j h) others.rest ∙ get_or-set_other tables k j others.table h differ)

  is-settled : (h : Held) → IsSettled names count O old j h → IsSettled names count O new j h
  is-settled h s = record {
    named_is = s.named_is;
    count_is = s.count_is;
    blocks = s.blocks;
    sees = subst (λ (c : Client). SeesAs c h) (sym (client-there old new k j keeps differ)) s.sees;
    sessions = subst (λ (up : List Bool). AreOpen (up_in up) h) (sym (keeps-up old k new keeps)) s.sessions;
  }

  stays-settled : IsSettledAt names count O old j tables → IsSettledAt names count O new j now
  stays-settled s =
      let l = s.there in
      let n : length now ≡ length tables = ap (λ (ts : List Held). length ts) others.rest ∙ length-set tables k others.table in
      record {
        there = omega (arith, l, n);
        has = record { table = s.has.table; is = table-there s.has.table s.has.is; fact = is-settled s.has.table s.has.fact };
      }

-- nothing was seen yet
pub starts : (names : List NamedTable) (count : ℕ) (O : ℕ → Block → Type 0) (p : PassView) (tables : List Held) → SettlesTo names count O p 0 p tables
starts names count O p tables = record {
  sees = record { count_is = refl; up = refl; seen = λ k l. absurd (omega (arith, l)); unseen = λ k l. refl };
  settled = λ k l. absurd (omega (arith, l));
}

-- one table more
module _ (names : List NamedTable) (count : ℕ) (O : ℕ → Block → Type 0) (old mid new : PassView) (k : ℕ) (tables now : List Held) (i : SettlesTo names count O old k mid tables) (s : Settles names count O mid k new tables now) where
  seen-one : (j : ℕ) → j < k + 1 → (b : Bool) → nat_eq j k ≡ b → StepsTo (O j) (client_at old j) (λ t u. u ≡ t) (client_at new j)
  seen-one j l true e =
      let same : k ≡ j = grind (arith, nat_tests) in
      subst (λ (n : ℕ). StepsTo (O n) (client_at old n) (λ t u. u ≡ t) (client_at new n)) same
      (subst (λ (c : Client). StepsTo (O k) c (λ t u. u ≡ t) (client_at new k)) (i.sees.unseen k (omega arith)) (saw-rests O mid new k s.saw).steps)
  seen-one j l false e =
      let differ = not-same j k e in
      let less : j < k = grind (arith, nat_tests) in
      subst (λ (c : Client). StepsTo (O j) (client_at old j) (λ t u. u ≡ t) c) (sym (client-there mid new k j s.saw.keeps differ)) (i.sees.seen j less)

  settled-one : (j : ℕ) → j < k + 1 → (b : Bool) → nat_eq j k ≡ b → IsSettledAt names count O new j now
  settled-one j l true e =
      let same : k ≡ j = grind (arith, nat_tests) in
      subst (λ (n : ℕ). IsSettledAt names count O new n now) same s.settled
  settled-one j l false e =
      let differ = not-same j k e in
      let less : j < k = grind (arith, nat_tests) in
      stays-settled names count O mid new k j tables now differ s.saw.keeps s.others (i.settled j less)

  pub settles-more : SettlesTo names count O old (k + 1) new now
  settles-more = record {
    sees = record {
      count_is = ap (λ (p : PassView). length p.tables) s.saw.keeps.rest ∙ (length-set mid.tables k (known_at new k) ∙ i.sees.count_is);
      up = keeps-up mid k new s.saw.keeps ∙ i.sees.up;
      seen = λ j l. seen-one j l (nat_eq j k) refl;
      unseen = λ j l. client-there mid new k j s.saw.keeps (λ q. absurd (omega (arith, l, q))) ∙ i.sees.unseen j (omega (arith, l));
    };
    settled = λ j l. settled-one j l (nat_eq j k) refl;
  }

-- what is so of each element at its place
places : {A : Type 0} (P : ℕ → A → Type 0) (xs : List A) → ((k : ℕ) (x : A) → k < length xs → x ≡ get_or xs k x → P k x) → EachFrom P 0 xs
places P [] f = tt
places P (x ∷ xs) f = (f 0 x (omega arith) refl, shifted P 0 xs (places (λ k y. P (suc k) y) xs (λ k y l at. f (suc k) y (omega (arith, l)) at)))

pub all-settled : (names : List NamedTable) (count : ℕ) (O : ℕ → Block → Type 0) (p : PassView) (tables : List Held) → ((k : ℕ) → k < length tables → IsSettledAt names count O p k tables) → EachFrom (IsSettled names count O p) 0 tables
all-settled names count O p tables s = places (IsSettled names count O p) tables one
  where
    one : (k : ℕ) (h : Held) → k < length tables → h ≡ get_or tables k h → IsSettled names count O p k h
    one k h l at = let a = s k l in subst (λ (x : Held). IsSettled names count O p k x) (one-there tables k a.has.table h l a.has.is at) a.has.fact

-- ---- one replica

-- whether it may be read tells that it has all that is known
has-all : (p : Client) (log : List Entry) (r : ReplicaView) (parts : Option (List NamedData)) → MatchOption parts (IsUnread p log r) (IsReadable p r) → IsTrue (is_some parts) → HasAllKnown p r
has-all p log r (Some parts) m t = record { prefix = m.prefix; known = m.checked }
has-all p log r None m t = let e : false ≡ true = t in absurd (cc)

-- the same where a call told so
pub has-all-there : (p : Client) (log : List Entry) (r : ReplicaView) (parts : Option (List NamedData)) (is : Bool) → MatchOption parts (IsUnread p log r) (IsReadable p r) → is ≡ is_some parts → IsTrue is → HasAllKnown p r
has-all-there p log r parts is m e t = has-all p log r parts m (subst (λ (b : Bool). IsTrue b) e t)

-- one that was down is as it was, but for its marks
pub down-again : (old mid new : ReplicaView) (marks : List Bool) → old.up ≡ false → mid ≡ record old { up = true; done = marks } → new ≡ record mid { up = false } → new ≡ record old { done = new.done }
down-again old mid new marks down up killed =
    let q : new ≡ record old { up = false; done = marks } = killed ∙ ap (λ (r : ReplicaView). record r { up = false }) up in
    q ∙ (ap (λ (b : Bool). record old { up = b; done = marks }) (sym down) ∙ ap (λ (ds : List Bool). record old { done = ds }) (sym (ap (λ (r : ReplicaView). r.done) q)))

-- and has what it had
pub still-has : (p : Client) (mid new : ReplicaView) → new ≡ record mid { up = false } → HasAllKnown p mid → HasAllKnown p new
still-has p mid new e h = subst (λ (r : ReplicaView). HasAllKnown p r) (sym e) (record { prefix = h.prefix; known = h.known })

-- what a replica of the table at a place keeps, by the names of that table
module _ (names : List NamedTable) (count : ℕ) (O : ℕ → Block → Type 0) (p : PassView) (k : ℕ) (tree : Held) (s : IsSettled names count O p k tree) (c : SharedReplicaView) (shared : IsSharedReplica names count O c) (at : c.table ≡ k) where
  name : name_at names c.table ≡ named tree
  name = ap (λ (j : ℕ). name_at names j) at ∙ sym s.named_is

  pub schema-there : c.replica.schema ≡ tree.schema
  schema-there = shared.schema ∙ ap (λ (n : NamedTable). n.schema) name

  row-there : IsReplicaOfRow tree.row c.replica
  row-there = subst (λ (n : NamedTable). IsReplicaOfRow n.row c.replica) name shared.row

  pub log-there : IsLogOf tree.row (copy_of c.replica)
  log-there = row-there.copy

  -- it is as the client knows it
  module _ (a b : SharedReplicaView) (before : ℕ) (turned : IsSetAsKnown p k a b) (rest : c.replica ≡ record b.replica { done = c.replica.done }) (number : a.replica.number - 1 ≡ before) (has : HasAllKnown (client_at p k) c.replica) (stands : IsStandingReplica c.replica) where
    number-is : c.replica.number ≡ a.replica.number
    number-is = ap (λ (r : ReplicaView). r.number) rest ∙ turned.number

    pub taken-back : IsTakenBack O p k tree (before + 1) c.replica
    taken-back = record {
      belongs = record {
        numbered = let f = shared.number.first in omega (arith, f, number, number-is);
        copy = record {
          schema = schema-there;
          prefix = subst (λ (l : List Entry). IsPrefix c.replica.log l) s.sees.log has.prefix;
          cells = log-there;
        };
      };
      at_rest = record {
        standing = stands;
        ups = ap (λ (r : ReplicaView). r.up) rest ∙ (turned.up ∙ ap (λ (n : ℕ). up_in p.up n) (sym number-is));
        fetches = ap (λ (r : ReplicaView). r.fetches) rest ∙ (turned.fetches ∙ ap (λ (n : ℕ). (client_at p k).fetching n) (sym number-is));
        has_known = has.known;
        few = shared.few;
        row = row-there;
        blocks = subst (λ (j : ℕ). HoldsOnly (O j) c.replica) at shared.blocks;
        fitting = subst (λ (n : NamedTable). StagesFitting n.schema c.replica) name shared.fitting;
      };
    }

-- ---- the replicas of a table

numbered-more : (tree : Held) (k n : ℕ) (rs : List ReplicaView) (r : ReplicaView) → AreNumbered tree k rs → n ≡ k + length rs → Belongs tree n r → AreNumbered tree k (rs ++ r ∷ [])
numbered-more tree k n [] r a e b = (subst (λ (j : ℕ). Belongs tree j r) (let q : n ≡ k = omega (arith, e) in q) b, tt)
numbered-more tree k n (x ∷ rs) r a e b = (a.0, numbered-more tree (k + 1) n rs r a.1 (omega (arith, e)) b)

last-too : {A : Type 0} (P : A → Type 0) (xs : List A) (x : A) → Each P xs → P x → Each P (xs ++ x ∷ [])
last-too P [] x e p = (p, tt)
last-too P (y ∷ ys) x e p = (e.0, last-too P ys x e.1 p)

-- one more of them is as the client knows it
pub back-more : (O : ℕ → Block → Type 0) (p : PassView) (k : ℕ) (tree : Held) (before : ℕ) (rs : List ReplicaView) (r : ReplicaView) → before ≡ length rs → AreTakenBack O p k tree rs → IsTakenBack O p k tree (before + 1) r → AreTakenBack O p k tree (rs ++ r ∷ [])
back-more O p k tree before rs r e a b = record {
  numbered = numbered-more tree 1 (before + 1) rs r a.numbered (omega (arith, e)) b.belongs;
  at_rest = last-too (IsAtRestReplica (O k) p.up (known_at p k) tree) rs r a.at_rest b.at_rest;
}

pub none-back : (O : ℕ → Block → Type 0) (p : PassView) (k : ℕ) (tree : Held) → AreTakenBack O p k tree []
none-back O p k tree = record { numbered = tt; at_rest = tt }

-- ---- all tables

at-rest-one : (names : List NamedTable) (count : ℕ) (O : ℕ → Block → Type 0) (p : PassView) → count ≡ length p.up → (k : ℕ) (s : StateView) → IsHandedBack names count O p k s → IsAtRest (O k) p.up (known_in p.tables k) s
at-rest-one names count O p n k s h = record {
  state = record { all = h.all ∙ sym h.settled.count_is; numbered = h.replicas.numbered };
  lawful = h.lawful;
  of = subst (λ (m : ℕ). IsKnownOf m (named s.tree) (known_at p k)) n (subst (λ (x : NamedTable). IsKnownOf count x (known_at p k)) (sym h.settled.named_is) h.of);
  sees = h.settled.sees;
  sessions = h.settled.sessions;
  all = h.all ∙ n;
  blocks = h.settled.blocks;
  replicas = h.replicas.at_rest;
}

by-table : (O : ℕ → Block → Type 0) (up : List Bool) (known : List Known) (states : List StateView) → length states ≡ length known → EachFrom (λ k s. IsAtRest (O k) up (known_in known k) s) 0 states → AreAtRest O up known states
by-table O up [] [] n e = tt
by-table O up (k ∷ known) (s ∷ states) n e = (e.0, by-table (λ j. O (suc j)) up known states (omega (arith, n)) (unshifted (λ j x. IsAtRest (O j) up (known_in (k ∷ known) j) x) 0 states e.1))
by-table O up [] (s ∷ states) n e = absurd (omega (arith, n))
by-table O up (k ∷ known) [] n e = absurd (omega (arith, n))

-- the tables are at rest
pub all-at-rest : (names : List NamedTable) (count : ℕ) (O : ℕ → Block → Type 0) (p : PassView) (states : List StateView) → count ≡ length p.up → length states ≡ length p.tables → EachFrom (IsHandedBack names count O p) 0 states → AreAtRest O p.up p.tables states
all-at-rest names count O p states n m e =
    by-table O p.up p.tables states m (each-as (IsHandedBack names count O p) (λ k s. IsAtRest (O k) p.up (known_in p.tables k) s) 0 states (at-rest-one names count O p n) e)
