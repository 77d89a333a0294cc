-- What an INSERT's block comes to, from what its events come to; and several blocks.
use Rattle.std.proofs.Common.{◌≡◌, ℕ, Bool, inl, true, false, List, [], ◌∷◌, ◌++◌, map, length, Some, None, refl, ◌∙◌, ap, subst, sym, append_assoc, append-nil}
use Rattle.std.proofs.lemmas.List.Elements.{All-head, All-rest}
use Rattle.std.specs.List.{All}
use Rattle.rmt_values.specs.declared.limit.Limit.{Limit}
use Rattle.rmt_values.specs.Rows.{Shape, fits}
use Rattle.rmt_names.specs.Names.{block_name}
use Rattle.rmt_block.specs.declared.block.Block.{Block as Raw}
use Rattle.rmt_events.specs.Views.{Block}
use Rattle.rmt_events.specs.Clusters.{Cluster, without_kinds}
use Rattle.rmt_reply.specs.declared.piece.Piece.{Piece}
use Rattle.rmt_reply.specs.declared.piece.Piece.TheVariants as pieces
use Rattle.rmt_reply.specs.declared.refusal.Refusal.{Refusal}
use Rattle.rmt_reply.specs.declared.refusal.Refusal.TheVariants.{TooFewLive, QuorumPending, QuorumUnmet, LimitReached}
use Rattle.rmt_statement_model.specs.TableStates.{TableState, learned}
use Rattle.rmt_statement_model.specs.Gathered.{gathered_for}
use Rattle.rmt_statement_model.specs.Inserts.{Asked, with_number, Inserts, Refuses, InsertsAll}
use Rattle.rmt_model.specs.Quorum.{Quorum}
use Rattle.rmt_statement_model.specs.Shows.{HoldsNone, IsIdle, Shows, Leads, ups}
use Rattle.rmt_statement_model.proofs.InsertRows.{inserts-more, inserts-stop, inserts-now, refuses-now, part-row, unmet-row, duplicate-row, no-quorum-row, no-number-row, no-room-row}
use Rattle.rmt_acts.specs.StatementEvents.{PieceEvents, TriesBlock}
use Rattle.rmt_acts.specs.Inserting.{Begins, IsUnbegun, HasAttempt, Commits, HasGet, TellsWaiting, BlockEvents, ComesTo, with_get}
use Rattle.rmt_acts.specs.declared.begun.Begun.{Begun}
use Rattle.rmt_acts.specs.declared.outcome.Outcome.{Outcome}
use Rattle.rmt_acts.specs.declared.begun.Begun.TheVariants as begins
use Rattle.rmt_acts.specs.declared.committed.Committed.TheVariants as commits
use Rattle.rmt_acts.specs.declared.outcome.Outcome.TheVariants as outcomes
use Rattle.rmt_acts.proofs.EventLists.{AfterPieces, after-none, after-piece, Reaches, reaches-itself, reaches-then, reaches-piece}

-- the attempt that has begun
pub has-begun : (s u : Cluster) (a : Asked) (b : Block) (id n : ℕ) → Begins s a b (begins.Attempt id n) u → HasAttempt u id
has-begun s u a b id n x = record { asked = a; block = b; number = n; is_open = x.0; only = x.1 }

-- the Get that is in the log
pub has-get : (s m u : Cluster) (a : Asked) (b : Block) (id n place : ℕ) → Begins s a b (begins.Attempt id n) m → Commits m id (commits.Entry place) u → HasGet u place a
has-get s m u a b id n place x c = let y = c a b n x.0 in record { block = b; number = n; is = y.0; waits = y.1 }

-- what the cluster shows where the Get is done, and copied where a quorum is asked for
abbrev pub Spreads : Cluster → (ℕ → Bool) → Asked → ℕ → Cluster → Type 0
Spreads c up a place u = (t : TableState) → Shows c t → Shows u (gathered_for a.need up a.writer place (record t { known = learned t.known a.writer place }))

-- a block that is accepted
pub accepts : (s m c u : Cluster) (a : Asked) (b : Block) (id n place : ℕ) → ups c ≡ ups s → Begins s a b (begins.Attempt id n) m → Commits m id (commits.Entry place) c → Spreads c (ups c) a place u → TellsWaiting a.need u None
    → (t : TableState) → Shows s t → Leads u (ComesTo (ups s) t a b (outcomes.Inserted (pieces.Part (block_name b.partition n))))
accepts s m c u a b id n place e x k g met t h =
    let begun = x.2 t h in
    let done = (k a b n x.0).2 (with_number t b) begun.shows in
    let shown = subst (λ (up : ℕ → Bool). Shows u (gathered_for a.need up a.writer place (record (with_get (with_number t b) a b n) { known = learned t.known a.writer place }))) e (g _ done.shows) in
    part-row (ups s) t a n place b u begun.is_new begun.room begun.given done.room done.placed (λ l. ap (λ (q : Quorum). q.pending) shown.table.quorum ∙ met l) shown

-- a block whose quorum isn't met
pub lacks-copies : (s m c u : Cluster) (a : Asked) (b : Block) (id n place have : ℕ) → ups c ≡ ups s → Begins s a b (begins.Attempt id n) m → Commits m id (commits.Entry place) c → Spreads c (ups c) a place u → TellsWaiting a.need u (Some have)
    → (t : TableState) → Shows s t → Leads u (ComesTo (ups s) t a b (outcomes.Refused (QuorumUnmet have a.need)))
lacks-copies s m c u a b id n place have e x k g waits t h =
    let begun = x.2 t h in
    let done = (k a b n x.0).2 (with_number t b) begun.shows in
    let shown = subst (λ (up : ℕ → Bool). Shows u (gathered_for a.need up a.writer place (record (with_get (with_number t b) a b n) { known = learned t.known a.writer place }))) e (g _ done.shows) in
    unmet-row (ups s) t a n place b waits.1 have u begun.is_new begun.room begun.given done.room done.placed waits.0 (ap (λ (q : Quorum). q.pending) shown.table.quorum ∙ waits.2) waits.3 shown

-- a block that has no room
pub lacks-room : (s m u : Cluster) (a : Asked) (b : Block) (id n : ℕ) (limit : Limit) (value : ℕ) → Begins s a b (begins.Attempt id n) m → Commits m id (commits.Full limit value) u → (t : TableState) → Shows s t → Leads u (ComesTo (ups s) t a b (outcomes.Refused (LimitReached limit value)))
lacks-room s m u a b id n limit value x k t h =
    let begun = x.2 t h in
    let done = k a b n x.0 (with_number t b) begun.shows in
    no-room-row (ups s) t a b limit value u begun.is_new begun.room done.0 done.1

-- a block that gets no number
pub unbegun : (s u : Cluster) (a : Asked) (b : Block) (x : Begun) (o : Outcome) → Begins s a b x u → IsUnbegun x o → (t : TableState) → Shows s t → Leads u (ComesTo (ups s) t a b o)
unbegun s u a b (begins.Attempt id n) o x e t h = absurd e
unbegun s u a b (begins.TooFewLive live need) o x e t h = let k = x.1 t h in subst (λ (z : Outcome). Leads u (ComesTo (ups s) t a b z)) (sym e) (no-quorum-row (ups s) t a b (TooFewLive live need) u k.0 k.1)
unbegun s u a b (begins.QuorumPending part) o x e t h = let k = x.1 t h in subst (λ (z : Outcome). Leads u (ComesTo (ups s) t a b z)) (sym e) (no-quorum-row (ups s) t a b (QuorumPending part) u k.0 k.1)
unbegun s u a b (begins.Duplicate part) o x e t h = let k = x.1 t h in subst (λ (z : Outcome). Leads u (ComesTo (ups s) t a b z)) (sym e) (duplicate-row (ups s) t a b part u k.0 k.1 k.2)
unbegun s u a b (begins.Full limit value) o x e t h = let k = x.1 t h in subst (λ (z : Outcome). Leads u (ComesTo (ups s) t a b z)) (sym e) (no-number-row (ups s) t a b limit value u k.0 k.1 k.2)

-- no number is held then
pub unbegun-free : (s u : Cluster) (a : Asked) (b : Block) (x : Begun) (o : Outcome) → IsUnbegun x o → Begins s a b x u → HoldsNone u
unbegun-free s u a b (begins.Attempt id n) o f x = absurd f
unbegun-free s u a b (begins.TooFewLive live need) o f x = x.0
unbegun-free s u a b (begins.QuorumPending part) o f x = x.0
unbegun-free s u a b (begins.Duplicate part) o f x = x.0
unbegun-free s u a b (begins.Full limit value) o f x = x.0

-- its events
pub unbegun-events : (s u : Cluster) (a : Asked) (x : Begun) (o : Outcome) → TriesBlock s a u → IsUnbegun x o → BlockEvents s a o u
unbegun-events s u a (begins.Attempt id n) o k e = absurd e
unbegun-events s u a (begins.TooFewLive live need) o k e = subst (λ (z : Outcome). BlockEvents s a z u) (sym e) (inl k)
unbegun-events s u a (begins.QuorumPending part) o k e = subst (λ (z : Outcome). BlockEvents s a z u) (sym e) (inl k)
unbegun-events s u a (begins.Duplicate part) o k e = subst (λ (z : Outcome). BlockEvents s a z u) (sym e) k
unbegun-events s u a (begins.Full limit value) o k e = subst (λ (z : Outcome). BlockEvents s a z u) (sym e) (inl k)

-- ---- several blocks

-- the table's columns fit the rows of each block
abbrev pub Fitting : Cluster → List Raw → Type 0
Fitting s blocks = All (λ b. All (λ row. fits s.table.schema.columns row ≡ true) b.rows) blocks

-- so many blocks went in, one after the other
pub record SoFar (s u : Cluster) (r : Asked) (all done rest : List Raw) (pieces : List Piece) : Type 0 where
  pub split : done ++ rest ≡ all
  pub fit : Fitting s rest
  pub inserts : (t : TableState) → Shows s t → Leads u (InsertsAll false (ups s) t r (map without_kinds done) pieces None)
  pub idle : IsIdle u r.writer
  pub ups_are : ups u ≡ ups s
  pub schema : u.table.schema ≡ s.table.schema
  pub replicas : length u.replicas ≡ length s.replicas
  pub events : AfterPieces s r pieces u
  pub reaches : Reaches s u

pub so-far-none : (s : Cluster) (r : Asked) (all rest : List Raw) → rest ≡ all → Fitting s all → IsIdle s r.writer → SoFar s s r all [] rest []
so-far-none s r all rest e f i = record {
  split = e;
  fit = subst (Fitting s) (sym e) f;
  inserts = λ t h. record { state = t; holds = refl; shows = h };
  idle = i;
  ups_are = refl;
  schema = refl;
  replicas = refl;
  events = after-none s r;
  reaches = reaches-itself s;
}

map-append : (xs ys : List Raw) → map without_kinds (xs ++ ys) ≡ map without_kinds xs ++ map without_kinds ys
map-append [] ys = refl
map-append (x ∷ xs) ys = ap (λ (bs : List Block). without_kinds x ∷ bs) (map-append xs ys)

-- one more block
pub so-far-more : (s u v : Cluster) (r : Asked) (all done rest left : List Raw) (b : Raw) (pieces : List Piece) (piece : Piece) → SoFar s u r all done rest pieces → rest ≡ b ∷ left
    → ((t : TableState) → Shows u t → Leads v (ComesTo (ups u) t r (without_kinds b) (outcomes.Inserted piece))) → PieceEvents u r piece v → IsIdle v r.writer → ups v ≡ ups u → v.table.schema ≡ u.table.schema → length v.replicas ≡ length u.replicas
    → SoFar s v r all (done ++ b ∷ []) left (pieces ++ piece ∷ [])
so-far-more s u v r all done rest left b pieces piece x e k made i up c n = record {
  split = append_assoc done (b ∷ []) left ∙ (ap (λ (bs : List Raw). done ++ bs) (sym e) ∙ x.split);
  fit = All-rest (λ (k : Raw). All (λ row. fits s.table.schema.columns row ≡ true) k.rows) b left rest e x.fit;
  inserts = λ t h.
      let m = x.inserts t h in
      let z = k m.state m.shows in
      record {
        state = z.state;
        holds = subst (λ (bs : List Block). InsertsAll false (ups s) t r bs (pieces ++ piece ∷ []) None z.state) (sym (map-append done (b ∷ [])))
            (inserts-more false (ups s) t m.state z.state r (map without_kinds done) (without_kinds b) pieces piece m.holds
            (inserts-now false (ups s) m.state z.state r (without_kinds b) piece (subst (λ (up : ℕ → Bool). Inserts false up m.state r (without_kinds b) piece z.state) x.ups_are z.holds)));
        shows = z.shows;
      };
  idle = i;
  ups_are = up ∙ x.ups_are;
  schema = c ∙ x.schema;
  replicas = n ∙ x.replicas;
  events = after-piece s u v r pieces piece x.events made;
  reaches = reaches-then s u v x.reaches (reaches-piece u v r piece made);
}

-- the block at which it ends
pub so-far-stop : (s u v : Cluster) (r : Asked) (all done rest left : List Raw) (b : Raw) (pieces : List Piece) (why : Refusal) → SoFar s u r all done rest pieces → rest ≡ b ∷ left
    → ((t : TableState) → Shows u t → Leads v (ComesTo (ups u) t r (without_kinds b) (outcomes.Refused why))) → (t : TableState) → Shows s t → Leads v (InsertsAll false (ups s) t r (map without_kinds all) pieces (Some why))
so-far-stop s u v r all done rest left b pieces why x e k t h =
    let m = x.inserts t h in
    let z = k m.state m.shows in
    record {
      state = z.state;
      holds = subst (λ (bs : List Block). InsertsAll false (ups s) t r bs pieces (Some why) z.state) (sym (map-append done (b ∷ left)) ∙ (ap (λ (bs : List Raw). map without_kinds (done ++ bs)) (sym e) ∙ ap (map without_kinds) x.split))
          (inserts-stop false (ups s) t m.state z.state r (map without_kinds done) (map without_kinds left) (without_kinds b) pieces why m.holds
          (refuses-now false (ups s) m.state z.state r (without_kinds b) why (subst (λ (up : ℕ → Bool). Refuses false up m.state r (without_kinds b) why z.state) x.ups_are z.holds)));
      shows = z.shows;
    }

-- no block is left
pub so-far-end : (s u : Cluster) (r : Asked) (all done rest : List Raw) (pieces : List Piece) → SoFar s u r all done rest pieces → rest ≡ [] → (t : TableState) → Shows s t → Leads u (InsertsAll false (ups s) t r (map without_kinds all) pieces None)
so-far-end s u r all done rest pieces x e t h =
    let m = x.inserts t h in
    record {
      state = m.state;
      holds = subst (λ (bs : List Raw). InsertsAll false (ups s) t r (map without_kinds bs) pieces None m.state) (sym (append-nil done) ∙ (ap (λ (bs : List Raw). done ++ bs) (sym e) ∙ x.split)) m.holds;
      shows = m.shows;
    }

-- the next block fits
pub so-far-fits : (s u : Cluster) (r : Asked) (all done rest left : List Raw) (b : Raw) (pieces : List Piece) → SoFar s u r all done rest pieces → rest ≡ b ∷ left → All (λ row. fits u.table.schema.columns row ≡ true) b.rows
so-far-fits s u r all done rest left b pieces x e =
    subst (λ (c : Shape). All (λ row. fits c.columns row ≡ true) b.rows) (sym x.schema) (All-head (λ (k : Raw). All (λ row. fits s.table.schema.columns row ≡ true) k.rows) b left (subst (Fitting s) e x.fit))
