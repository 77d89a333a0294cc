-- A client's notes of replicas, in a table and in what it knows of it.
use Rattle.std.proofs.Common.{◌≡◌, ℕ, zero, suc, ◌<◌, ◌≤◌, Bool, true, false, List, length, set, get_or, refl, sym, ap, subst, arith, ◌∙◌, ◌&&◌, not, nat_eq}
use Rattle.std.proofs.lemmas.List.{set-get_or}
use Rattle.std.specs.Option.{option_map}
use Rattle.std.specs.declared.option.Option.{Option}
use Rattle.std.specs.declared.option.Option.TheVariants.{Some, None}
use Rattle.rmt_names.specs.Names.{Name, block_name}
use Rattle.rmt_entries.specs.declared.entry.Entry.{Entry}
use Rattle.rmt_entries.specs.declared.entry.Entry.TheVariants.{Get, Merge, Mutate, Mutation, DropRange}
use Rattle.rmt_values.specs.Rows.{Shape}
use Rattle.rmt_model.specs.Lawful.{Lawful, entry_at}
use Rattle.rmt_model.specs.Live.{Dropped, DroppedAfter}
use Rattle.rmt_model.proofs.Drops.{after-dropped, dropped-after, entry-below}
use Rattle.rmt_model.specs.EntryLimits.{client_count}
use Rattle.rmt_model.specs.Quorum.{Pending, Quorum, quorum_after_note, noted_by}
use Rattle.rmt_events.specs.Views.{Block, Table}
use Rattle.rmt_events.specs.TableCalls.{Notes}
use Rattle.rmt_history.specs.Copies.{History}
use Rattle.rmt_table_model.specs.Held.{Held}
use Rattle.rmt_table.specs.TableTrees.{table_at}
use Rattle.rmt_table.specs.Quorums.{IsPendingPart}
use Rattle.rmt_reply.specs.declared.refusal.Refusal.TheVariants.{NoSource}
use Rattle.rmt_statement_model.specs.TableStates.{TableState}
use Rattle.rmt_statement_model.specs.LostSources.{LacksSource}
use Rattle.rmt_clients.specs.Clients.{Client, known_table, KnowsTable, ChangesInto, StepsTo}
use Rattle.rmt_clients.proofs.ClientRests.{fits-all, knows-fits, steps-now, knows-itself}
use Rattle.rmt_clients.proofs.ClientCopies.{asks, copied-here, is-asked, not-asked}
use Rattle.rmt_statement_model.specs.QuorumCopies.{copied, copied_where, is_asked, is_waiting}
use Rattle.rmt_clients.proofs.ClientDrains.{known_below, lost-here}
use Rattle.rmt_known.specs.KnownTables.{Known, IsReplicaIn, IsKnownAtOne, KeepsCopy, client_of, known_state, new_known}
use Rattle.rmt_shared.specs.SharedTables.{NamedTable, ChangesTable}
use Rattle.rmt_shared.specs.SharedReplicas.{IsNumber}
use Rattle.rmt_shared.specs.ClientCalls.{NotesIn}
use Rattle.rmt_pass.specs.Passes.{PassView, AreKnownOf, IsPass, KeepsPass, SeesAs, IsCurrent, TakesStep, no_schema, known_in, known_at, client_at, up_in}
use Rattle.rmt_pass.specs.DrainSteps.{IsGetAt, IsLostAt, IsPartOf, IsLostPart, part_of, noted_with}
use Rattle.rmt_pass.specs.declared.learned.Learned.{Learned}
use Rattle.rmt_pass.specs.declared.lost_part.LostPart.{LostPart}
use Rattle.rmt_pass.proofs.KnownLemmas.{known-at, known-learned}
use Rattle.rmt_pass.proofs.TakingLemmas.{get-same, one-there}
use Rattle.rmt_pass.proofs.SeenLemmas.{is-pass}
use Rattle.rmt_pass.proofs.OwnLemmas.{knowing, known-now, keeps-known, before-there, left-in, left-there, stays}

-- ---- a note in a table

-- a note changes nothing where no part waits
none-noted : (r : ℕ) (q : Quorum) → option_map (λ (w : Pending). w.part) q.pending ≡ None → quorum_after_note r q ≡ q
none-noted r q e = go q.pending refl e
  where
    go : (o : Option Pending) → q.pending ≡ o → option_map (λ (w : Pending). w.part) o ≡ None → quorum_after_note r q ≡ q
    go None f m = ap (noted_by r q) f
    go (Some w) f m = absurd (cc)

pub notes-none : (tables : List Held) (k r : ℕ) (h : Held) → h ≡ get_or tables k h → option_map (λ (w : Pending). w.part) h.quorum.pending ≡ None → ChangesTable tables k (λ t u. Notes (table_at t) r (table_at u)) tables
notes-none tables k r h at none = record {
  table = h;
  is = at;
  after = h;
  change = sym (ap (λ (q : Quorum). record (table_at h) { quorum = q }) (none-noted r h.quorum none));
  rest = sym (ap (λ (x : Held). set tables k x) at ∙ set-get_or tables k h);
}

-- the part that waits is the one that is noted
part-waits : (o : Option Pending) (part : Name) → Some part ≡ option_map (λ (w : Pending). w.part) o → IsPendingPart o part
part-waits None part e = absurd (cc)
part-waits (Some w) part e = cc

pub notes-some : (tables new : List Held) (k r : ℕ) (h : Held) (part : Name) (noted : Bool) → k < length tables → h ≡ get_or tables k h → Some part ≡ option_map (λ (w : Pending). w.part) h.quorum.pending → NotesIn tables k r part noted new → ChangesTable tables k (λ t u. Notes (table_at t) r (table_at u)) new
notes-some tables new k r h part true there at waits n = record { table = n.table; is = n.is; after = n.after; change = n.change.1; rest = n.rest }
notes-some tables new k r h part false there at waits n =
    let same : h ≡ n.0.table = one-there tables k h n.0.table there at n.0.is in
    absurd (n.0.fact (subst (λ (x : Held). IsPendingPart x.quorum.pending part) same (part-waits h.quorum.pending part waits)))

-- ---- a Get that may be lost

-- the part of a Get, as a function of the entry
abbrev part_in : Option Entry → LostPart
part_in (Some (Get p n digest source need)) = record { part = block_name p n; source = source }
part_in (Some (Merge new sources count)) = record { part = block_name None 0; source = 0 }
part_in (Some (Mutate old new upto count mcount)) = record { part = block_name None 0; source = 0 }
part_in (Some (Mutation id numbers command)) = record { part = block_name None 0; source = 0 }
part_in (Some (DropRange p n)) = record { part = block_name None 0; source = 0 }
part_in None = record { part = block_name None 0; source = 0 }

-- there is one Get at a place
pub one-get : (log : List Entry) (i : ℕ) (get : IsGetAt log i) (p : Option ℕ) (n : ℕ) (digest : List ℕ) (source need : ℕ) → entry_at log i ≡ Some (Get p n digest source need) → part_of log i get ≡ record { part = block_name p n; source = source }
one-get log i get p n digest source need e = ap part_in (sym get.entry ∙ e)

-- it isn't there past the log
pub no-get : (log : List Entry) (i : ℕ) → length log ≤ i → IsGetAt log i → ⊥
no-get log i past get = let l = entry-below log i (Get get.partition get.number get.digest get.source get.need) get.entry in absurd (omega (arith, l, past))

-- it isn't there where it is dropped
pub dropped-get : (log : List Entry) (i : ℕ) (p : Option ℕ) (n : ℕ) (digest : List ℕ) (source need : ℕ) → entry_at log i ≡ Some (Get p n digest source need) → DroppedAfter log i (block_name p n) → IsGetAt log i → ⊥
dropped-get log i p n digest source need e d get =
    let same : block_name get.partition get.number ≡ block_name p n = ap (λ (x : LostPart). x.part) (one-get log i get p n digest source need e) in
    get.stays (subst (Dropped log) (sym same) (after-dropped log i (Get p n digest source need) (block_name p n) e refl d))

-- it is where it isn't
pub standing-get : (schema : Shape) (log : List Entry) (i : ℕ) (p : Option ℕ) (n : ℕ) (digest : List ℕ) (source need : ℕ) → Lawful schema log → entry_at log i ≡ Some (Get p n digest source need) → (DroppedAfter log i (block_name p n) → ⊥) → (part : LostPart) → part ≡ record { part = block_name p n; source = source } → IsPartOf log i part
standing-get schema log i p n digest source need lawful e stays part is = record {
  get = record {
    partition = p;
    number = n;
    digest = digest;
    source = source;
    need = need;
    entry = e;
    stays = λ d. stays (dropped-after schema log i (Get p n digest source need) (block_name p n) lawful e refl d);
  };
  is = is;
}

-- a place that is known at one of those that are up isn't lost
pub known-elsewhere : (up ups : List Bool) (n m : Known) (r place : ℕ) → n ≡ m → ups ≡ up → IsKnownAtOne (client_of n) ups place → IsLostAt (up_in up) (client_of m) r place → ⊥
known-elsewhere up ups n m r place same same_ups k lost =
    let known : IsKnownAtOne (client_of m) up place = subst (λ (x : Known). IsKnownAtOne (client_of x) up place) same (subst (λ (x : List Bool). IsKnownAtOne (client_of n) x place) same_ups k) in
    let e : true ≡ false = sym known.known ∙ lost.nowhere (suc known.replica) known.among in
    absurd (cc)

-- one that isn't known there, nor at the replica, is, where the source is down
module _ (up : List Bool) (m : Known) (r place : ℕ) (part : LostPart) where
  lost-of : IsPartOf m.log place part → up_in up part.source ≡ false → (client_of m).known r place ≡ false → ((k : ℕ) → get_or up k false ≡ true → (client_of m).known (suc k) place ≡ false) → IsLostPart (up_in up) (client_of m) r place part
  lost-of p down unknown none = record {
    lost = record {
      get = p.get;
      down = ap (λ (x : LostPart). up_in up x.source) (sym p.is) ∙ down;
      unknown = unknown;
      nowhere = nowhere;
    };
    is = p.is;
  }
    where
      nowhere : (k : ℕ) → up_in up k ≡ true → (client_of m).known k place ≡ false
      nowhere zero e = absurd (cc)
      nowhere (suc k) e = none k e

  pub lost-so : (ups : List Bool) (n : Known) (log : List Entry) → n ≡ m → ups ≡ up → log ≡ n.log → IsPartOf log place part → up_in up part.source ≡ false → (client_of n).known r place ≡ false → ((k : ℕ) → get_or ups k false ≡ true → (client_of n).known (suc k) place ≡ false) → IsLostPart (up_in up) (client_of m) r place part
  lost-so ups n log same same_ups same_log p down unknown none =
      lost-of
      (subst (λ (l : List Entry). IsPartOf l place part) (same_log ∙ ap (λ (x : Known). x.log) same) p)
      down
      (ap (λ (x : Known). (client_of x).known r place) (sym same) ∙ unknown)
      (λ k e. ap (λ (x : Known). (client_of x).known (suc k) place) (sym same) ∙ none k (ap (λ (x : List Bool). get_or x k false) same_ups ∙ e))

-- ---- what is known of the table at a place is other

-- a replica of the named tables is one of what is known of each
pub replica-there : (replicas : ℕ) (names : List NamedTable) (known : List Known) (k r : ℕ) (n : Known) → AreKnownOf replicas names known → k < length known → n ≡ get_or known k n → IsNumber r replicas → IsReplicaIn n r
replica-there replicas names known k r n a here at number =
    let all : length n.fetching ≡ replicas = ap (λ (x : Known). length x.fetching) at ∙ (known-at replicas names known k n a here).fetching in
    record { first = number.first; last = subst (λ (m : ℕ). r ≤ m) (sym all) number.last }

-- the client knows something else of the table at a place, of which its copy of the log stays
module _ (p : PassView) (k : ℕ) (here : k < length p.tables) (n1 n2 : Known) (at : n1 ≡ get_or p.tables k n1) (keep : KeepsCopy n1 n2) where
  was : n1 ≡ known_at p k
  was = at ∙ get-same p.tables k n1 (new_known no_schema 0) here

  kept : KeepsCopy (known_at p k) n2
  kept = subst (λ (x : Known). KeepsCopy x n2) was keep

  known-then : known_in (set p.tables k n2) k ≡ n2
  known-then = known-now p k here (set p.tables k n2) n2 refl

  pub keeps-noted : (gave_up : Bool) → KeepsPass p k (knowing p (set p.tables k n2) gave_up)
  keeps-noted gave_up = keeps-known p k here (set p.tables k n2) n2 refl gave_up (ap (λ (x : History). x.schema) kept.copy) kept.fetching kept.marks

  pub pass-noted : (names : List NamedTable) (replicas all parts amount : ℕ) → IsPass names replicas all p parts amount → IsPass names replicas all (knowing p (set p.tables k n2) p.gave_up) parts amount
  pass-noted names replicas all parts amount old =
      is-pass names replicas all p k here parts amount old (set p.tables k n2)
      (known-learned replicas names p.tables k n1 n2 old.known here at keep)
      n2 refl (ap client_count (ap (λ (x : History). x.log) kept.copy))

  module _ (F : TableState → TableState) (l : KnowsTable (client_of n2) (F (known_state n1))) where
    pub knows-noted : KnowsTable (client_of (known_in (set p.tables k n2) k)) (F (known_table (client_at p k)))
    knows-noted =
        subst (λ (x : Known). KnowsTable (client_of x) (F (known_table (client_at p k)))) (sym known-then)
        (subst (λ (x : Known). KnowsTable (client_of n2) (F (known_state x))) was l)

    pub sees-noted : (h : Held) → (F (known_table (client_at p k))).schema ≡ h.schema → (F (known_table (client_at p k))).log ≡ h.log → (F (known_table (client_at p k))).next ≡ h.next → (F (known_table (client_at p k))).quorum ≡ h.quorum → SeesAs (client_of (known_in (set p.tables k n2) k)) h
    sees-noted h schema log next quorum = record {
      schema = knows-noted.schema ∙ schema;
      log = knows-noted.log ∙ log;
      next = knows-noted.next ∙ next;
      quorum = knows-noted.quorum ∙ quorum;
    }

    -- where nothing changes that the table has, the client knows it as it is still
    pub current-still : (F (known_table (client_at p k))).schema ≡ (client_at p k).schema → (F (known_table (client_at p k))).log ≡ (client_at p k).log → (F (known_table (client_at p k))).next ≡ (client_at p k).next → (F (known_table (client_at p k))).quorum ≡ (client_at p k).quorum → (ts : List Held) → IsCurrent p k ts → IsCurrent (knowing p (set p.tables k n2) p.gave_up) k ts
    current-still schema log next quorum ts now = record {
      there = now.there;
      table = now.table;
      is = now.is;
      now = sees-noted now.table (schema ∙ now.now.schema) (log ∙ now.now.log) (next ∙ now.now.next) (quorum ∙ now.now.quorum);
      goes = now.goes;
    }

-- ---- a part that is lost

module _ (Offered : ℕ → Block → Type 0) (p : PassView) (k : ℕ) (here : k < length p.tables) (goes : p.gave_up ≡ false) (r place : ℕ) (part : LostPart) (lost : IsLostPart (up_in p.up) (client_at p k) r place part) (n1 n2 : Known) (at : n1 ≡ get_or p.tables k n1) (keep : KeepsCopy n1 n2) (knows : KnowsTable (client_of n2) (known_below r place (known_state n1))) where
  abbrev after : Client
  after = client_of (known_in (set p.tables k n2) k)

  pub lost-done : TakesStep Offered p k (λ t u. LacksSource (up_in p.up) t r (NoSource part.part part.source) u) (knowing p (set p.tables k n2) p.gave_up)
  lost-done =
      let get : IsGetAt (client_at p k).log place = lost.lost.get in
      record {
        steps = λ clear. steps-now (Offered k) (client_at p k) after (λ t u. LacksSource (up_in p.up) t r (NoSource part.part part.source) u) (λ t f.
            subst (λ (x : LostPart). ChangesInto (Offered k) after (LacksSource (up_in p.up) t r (NoSource x.part x.source))) (sym lost.is)
            (lost-here (Offered k) (up_in p.up) (client_at p k) r place get.partition get.number get.digest get.source get.need after (record {
              entry = get.entry;
              stays = get.stays;
              down = lost.lost.down;
              unknown = lost.lost.unknown;
              nowhere = lost.lost.nowhere;
              after = knows-noted p k here n1 n2 at keep (known_below r place) knows;
            }) t f));
        keeps = keeps-noted p k here n1 n2 at keep p.gave_up;
        goes = goes;
      }

-- ---- a note of the client's

pub noted-with : (O : Block → Type 0) (p : Client) (l : Learned) (r : ℕ) (q : Client) → KnowsTable q (noted_with l r (known_table p)) → StepsTo O p (λ t u. u ≡ noted_with l r t) q
noted-with O p l r q h clear = steps-now O p q (λ t u. u ≡ noted_with l r t) (fits-all O p (λ (t : TableState). ChangesInto O q (λ u. u ≡ noted_with l r t)) (λ blocks a. record {
  after = noted_with l r (record (known_table p) { blocks = blocks });
  change = refl;
  fits = knows-fits O q (noted_with l r (known_table p)) blocks h a;
}))

module _ (p : PassView) (k : ℕ) (here : k < length p.tables) (old new : List Held) (there : k < length old) (now : IsCurrent p k old) (r : ℕ) (c : ChangesTable old k (λ t u. Notes (table_at t) r (table_at u)) new) (l : Learned) (n1 n2 : Known) (at : n1 ≡ get_or p.tables k n1) (keep : KeepsCopy n1 n2) (knows : KnowsTable (client_of n2) (noted_with l r (known_state n1))) where
  before : SeesAs (client_at p k) c.table
  before = subst (λ (h : Held). SeesAs (client_at p k) h) (sym (before-there old k (λ t u. Notes (table_at t) r (table_at u)) new c now.table there now.is)) now.now

  pub note-done : (Offered : ℕ → Block → Type 0) → TakesStep Offered p k (λ t u. u ≡ noted_with l r t) (knowing p (set p.tables k n2) p.gave_up)
  note-done Offered = record {
    steps = noted-with (Offered k) (client_at p k) l r (client_of (known_in (set p.tables k n2) k)) (knows-noted p k here n1 n2 at keep (noted_with l r) knows);
    keeps = keeps-noted p k here n1 n2 at keep p.gave_up;
    goes = now.goes;
  }

  pub note-now : IsCurrent (knowing p (set p.tables k n2) p.gave_up) k new
  note-now = record {
    there = left-in old k (λ t u. Notes (table_at t) r (table_at u)) new c there;
    table = c.after;
    is = left-there old k (λ t u. Notes (table_at t) r (table_at u)) new c there;
    now = sees-noted p k here n1 n2 at keep (noted_with l r) knows c.after
        (before.schema ∙ ap (λ (x : Table). x.schema) (sym c.change))
        (before.log ∙ ap (λ (x : Table). x.log) (sym c.change))
        (before.next ∙ ap (λ (x : Table). x.next) (sym c.change))
        (ap (quorum_after_note r) before.quorum ∙ ap (λ (x : Table). x.quorum) (sym c.change));
    goes = now.goes;
  }

-- ---- a replica that is asked for a copy

and-third : (a b c d : Bool) → (a && (b && (c && d))) ≡ true → c ≡ true
and-third false b c d e = absurd (cc)
and-third true false c d e = absurd (cc)
and-third true true false d e = absurd (cc)
and-third true true true d e = refl

-- it is up
pub asked-up : (up : ℕ → Bool) (p : Client) (writer r : ℕ) → asks up writer r p ≡ true → up r ≡ true
asked-up up p writer r e = and-third (is_waiting p.quorum.pending) (not (nat_eq r writer)) (up r) (p.fetching r) e

-- it has made its copy where it was asked
pub copies-asked : (Offered : ℕ → Block → Type 0) (p q : PassView) (k writer place r : ℕ) → asks (up_in p.up) writer r (client_at p k) ≡ true → KnowsTable (client_at q k) (copied place r (known_table (client_at p k))) → KeepsPass p k q → q.gave_up ≡ false → TakesStep Offered p k (λ t u. u ≡ copied_where (is_asked t.quorum.pending (up_in p.up) t.fetching writer r) place r t) q
copies-asked Offered p q k writer place r e knows keeps goes = record {
  steps = λ clear. steps-now (Offered k) (client_at p k) (client_at q k) (λ t u. u ≡ copied_where (is_asked t.quorum.pending (up_in p.up) t.fetching writer r) place r t)
      (copied-here (Offered k) (up_in p.up) (client_at p k) writer place r (client_at q k) (is-asked (up_in p.up) (client_at p k) writer place r (client_at q k) e knows));
  keeps = keeps;
  goes = goes;
}

-- or it wasn't
pub copies-unasked : (Offered : ℕ → Block → Type 0) (p : PassView) (k writer place r : ℕ) → asks (up_in p.up) writer r (client_at p k) ≡ false → p.gave_up ≡ false → TakesStep Offered p k (λ t u. u ≡ copied_where (is_asked t.quorum.pending (up_in p.up) t.fetching writer r) place r t) p
copies-unasked Offered p k writer place r e goes =
    stays Offered p k (λ t u. u ≡ copied_where (is_asked t.quorum.pending (up_in p.up) t.fetching writer r) place r t) goes
    (λ clear. steps-now (Offered k) (client_at p k) (client_at p k) (λ t u. u ≡ copied_where (is_asked t.quorum.pending (up_in p.up) t.fetching writer r) place r t)
    (copied-here (Offered k) (up_in p.up) (client_at p k) writer place r (client_at p k) (not-asked (up_in p.up) (client_at p k) writer place r (client_at p k) e (knows-itself (client_at p k)))))
