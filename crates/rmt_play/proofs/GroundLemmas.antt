-- What a round among workers leaves to the next, and what is handed back at the end.
use Rattle.std.proofs.Common.{◌≡◌, ◌∙◌, ℕ, zero, suc, ◌+◌, ◌<◌, ◌≤◌, Bool, true, List, [], ◌∷◌, length, map, replicate, take, refl, sym, ap, subst, arith}
use Rattle.std.proofs.Math.Path.{fun_ext}
use Rattle.std.proofs.lemmas.List.{length-take-le}
use Rattle.rmt_values.specs.Rows.{Shape}
use Rattle.rmt_entries.specs.declared.entry.Entry.{Entry}
use Rattle.rmt_model.specs.Words.{Each}
use Rattle.rmt_model.proofs.Lists.{Each-at}
use Rattle.rmt_events.specs.Views.{Block}
use Rattle.rmt_events.specs.Clusters.{without_kinds}
use Rattle.rmt_table_model.specs.Held.{Held}
use Rattle.rmt_partset.specs.ActiveParts.{part_names}
use Rattle.rmt_replica.specs.Replicas.{ReplicaView}
use Rattle.rmt_replica.specs.SeenReplica.{shown}
use Rattle.rmt_replica.proofs.StateViews.{Each-mapped}
use Rattle.rmt_state.specs.States.{AreNumbered, StateView}
use Rattle.rmt_statement_model.specs.TableStates.{TableState}
use Rattle.rmt_statement_model.specs.Rests.{Rests}
use Rattle.rmt_statement_model.proofs.RestLaws.{rests-then}
use Rattle.rmt_clients.specs.Clients.{Client, AreAccepted, AreClear, Fits, RestsAnd, StepsTo}
use Rattle.rmt_clients.specs.ClientReadings.{IsChecked}
use Rattle.rmt_known.specs.KnownTables.{Known, client_of, new_known}
use Rattle.rmt_shared.specs.SharedTables.{NamedTable as NamesTable, name_at, named as names_of}
use Rattle.rmt_pass.specs.Passes.{PassView, client_at, known_in, no_schema, up_in}
use Rattle.rmt_pass.proofs.KnownLemmas.{known-at, known-length}
use Rattle.rmt_workers.specs.declared.carried.Carried.{Carried}
use Rattle.rmt_workers.specs.Closing.{AreAtRest, HasSeenAll, IsAtRest, IsAtRestReplica}
use Rattle.rmt_threaded.specs.ThreadedTables.{MayBe, SameOffers}
use Rattle.rmt_play.specs.World.{Table, World}
use Rattle.rmt_play.specs.WorldRests.{AreRested, RestsAll}
use Rattle.rmt_shared.specs.SharedReplicas.{IsMadeOf}
use Rattle.rmt_play.specs.Shown.{AgreesOn}
use Rattle.rmt_play.specs.Threads.{AreShownBy, HasReplicasUp, ShowsReplica, ShowsState}
use Rattle.rmt_play.specs.declared.threaded.cast.Cast.{Cast}
use Rattle.rmt_play.specs.declared.threaded.ground.Ground.{Ground}
use Rattle.rmt_play.specs.PlayerSteps.{PlayerView, IsAtAll, IsEmptyPlayer, IsIn, IsSoundPlayer, ShowTables, is_up, named}
use Rattle.rmt_play.specs.Seats.{IsCast, IsGround, IsKnownAmong, cast_view, ground_view, offered_to, seats_of, seats_seen}
use Rattle.rmt_play.specs.ThreadedRounds.{IsFirstGround, LeavesGround}
use Rattle.rmt_play.proofs.AgreeLemmas.{StandsAmong, agree-here, stands-among}
use Rattle.rmt_play.proofs.AtRestLemmas.{all-rest-as, each-as, rest-length, steps-as}
use Rattle.rmt_play.proofs.CreateLemmas.{index-take}
use Rattle.rmt_play.proofs.SeatLemmas.{seats-length}

-- ---- what a table may be

-- where the client saw all that workers did, each state that the table may be in is one still
maybe-stays : (O : Shape → Block → Type 0) (A : Block → Type 0) (schema : Shape) (p q : Client) → ((b : Block) → A b → O schema b) → ((b : Block) → O schema b → A b) → p.schema ≡ schema → q.schema ≡ schema → StepsTo A p (λ t u. u ≡ t) q → (t : TableState) → MayBe O p t → MayBe O q t
maybe-stays O A schema p q f g e d s t h =
    let clear : AreClear (O schema) = subst (λ (x : Shape). AreClear (O x)) e h.clear in
    let fits : Fits (O schema) p h.now = subst (λ (x : Shape). Fits (O x) p h.now) e h.fits in
    let r : RestsAnd (O schema) q (λ t u. u ≡ t) h.now = steps-as A (O schema) f g p q (λ t u. u ≡ t) s clear h.now fits in
    record {
      clear = subst (λ (x : Shape). AreClear (O x)) (sym d) clear;
      now = r.comes.after;
      rests = rests-then true t h.now r.comes.after h.rests (subst (λ (x : TableState). Rests true h.now x) (sym r.comes.change) r.rests);
      fits = subst (λ (x : Shape). Fits (O x) q r.comes.after) (sym d) r.comes.fits;
    }

-- ---- tables by their places

shows-closed : (O : Shape → Block → Type 0) (names : List (List ℕ)) (up vp : List Bool) (olds news : List Known) (ts : List Table) → length news ≡ length olds → ((k : ℕ) → k < length olds → (t : TableState) → MayBe O (client_of (known_in olds k)) t → MayBe O (client_of (known_in news k)) t)
    → ShowTables (named (seats_seen O) names (seats_of up olds)) ts → ShowTables (named (seats_seen O) names (seats_of vp news)) ts
shows-closed O [] up vp olds news ts n f s = s
shows-closed O (m ∷ names) up vp [] [] ts n f s = s
shows-closed O (m ∷ names) up vp [] (y ∷ news) ts n f s = absurd (omega (arith, n))
shows-closed O (m ∷ names) up vp (x ∷ olds) [] ts n f s = absurd (omega (arith, n))
shows-closed O (m ∷ names) up vp (x ∷ olds) (y ∷ news) [] n f s = absurd s
shows-closed O (m ∷ names) up vp (x ∷ olds) (y ∷ news) (t ∷ ts) n f s = (
  record { name = s.0.name; cluster = λ e. absurd (cc); shows = f 0 (omega arith) t.state s.0.shows },
  shows-closed O names up vp olds news ts (omega (arith, n)) (λ k l. f (suc k) (omega (arith, l))) s.1,
)

-- each is at all replicas
each-at-all : (O : Shape → Block → Type 0) (names : List (List ℕ)) (vp : List Bool) (news : List Known) (count : ℕ) (bs : List Bool) → length vp ≡ count → up_in vp ≡ is_up count bs → Each (λ t. IsAtAll (seats_seen O) count bs t.table) (named (seats_seen O) names (seats_of vp news))
each-at-all O [] vp news count bs c u = tt
each-at-all O (m ∷ names) vp [] count bs c u = tt
each-at-all O (m ∷ names) vp (x ∷ news) count bs c u = (record { all = c; ups_are = u; free = tt }, each-at-all O names vp news count bs c u)

-- where there is a table, its replicas are those of the player
record IsOfPlayer (up : List Bool) (count : ℕ) (bs : List Bool) : Type 0 where
  all : length up ≡ count
  ups : up_in up ≡ is_up count bs

first-at-all : (O : Shape → Block → Type 0) (names : List (List ℕ)) (up : List Bool) (olds : List Known) (count : ℕ) (bs : List Bool) → length names ≡ length olds → 0 < length olds → Each (λ t. IsAtAll (seats_seen O) count bs t.table) (named (seats_seen O) names (seats_of up olds)) → IsOfPlayer up count bs
first-at-all O names up [] count bs n l e = absurd (omega (arith, l))
first-at-all O [] up (x ∷ olds) count bs n l e = absurd (omega (arith, n))
first-at-all O (m ∷ names) up (x ∷ olds) count bs n l e = record { all = e.0.all; ups = e.0.ups_are }

-- so they are where they are made of those of the player
taken-ups : (n : ℕ) (bs : List Bool) → n ≤ length bs → IsOfPlayer (take n bs) n bs
taken-ups n bs l = record { all = length-take-le n bs l; ups = fun_ext same }
  where
    same : (k : ℕ) → up_in (take n bs) k ≡ is_up n bs k
    same zero = refl
    same (suc k) = index-take n bs k

-- nothing at rest is at rest
rest-none : (A : ℕ → Block → Type 0) (up : List Bool) (known : List Known) (states : List StateView) → length states ≡ 0 → length known ≡ 0 → AreAtRest A up known states
rest-none A up [] [] m n = tt
rest-none A up [] (s ∷ states) m n = absurd (omega (arith, m))
rest-none A up (k ∷ known) [] m n = absurd (omega (arith, n))
rest-none A up (k ∷ known) (s ∷ states) m n = absurd (omega (arith, m))

-- ---- the first round

-- there are two replicas and no table
pub first-empty : (O : Shape → Block → Type 0) (g : Ground) → IsFirstGround g → IsEmptyPlayer (ground_view O g)
first-empty O g f =
    ap (λ (n : ℕ). record { replicas = n; up = g.cast.up; tables = (ground_view O g).tables }) f.replicas
    ∙ (ap (λ (bs : List Bool). record { replicas = 2; up = bs; tables = (ground_view O g).tables }) f.ups
    ∙ ap (λ (names : List (List ℕ)). record { replicas = 2; up = replicate 8 true; tables = named (seats_seen O) names (seats_of g.carried.up.items g.carried.known.items) }) f.names)

pub first-ground : (O : Shape → Block → Type 0) (g : Ground) → IsFirstGround g → IsGround O g
first-ground O g f =
    let none : length g.carried.known.items ≡ 0 = ap (λ (l : List Known). length l) f.known in
    let names : length g.cast.names.items ≡ 0 = ap (λ (l : List (List ℕ)). length l) f.names in
    let states : length g.carried.states.items ≡ 0 = ap (λ (l : List StateView). length l) f.states in
    let seats = seats-length g.carried.up.items g.carried.known.items in
    let taken : IsOfPlayer (replicate 2 true) 2 (replicate 8 true) = taken-ups 2 (replicate 8 true) (omega arith) in
    record {
      cast = record {
        player = subst (λ (p : PlayerView (seats_seen O)). IsSoundPlayer p) (sym (first-empty O g f)) (record { some = omega arith; few = omega arith; eight = refl; all = tt });
        lengths = omega (arith, none, names, seats);
      };
      few = omega (arith, names);
      rest = rest-none (offered_to O g.carried.states.items) g.carried.up.items g.carried.known.items g.carried.states.items states none;
      count = ap (λ (bs : List Bool). length bs) f.up ∙ sym f.replicas;
      ups = ap up_in f.up ∙ (taken.ups ∙ (ap (λ (n : ℕ). is_up n (replicate 8 true)) (sym f.replicas) ∙ ap (is_up g.cast.replicas) (sym f.ups)));
    }

-- the schema of what is known at a place
schemas-of : (A : ℕ → Block → Type 0) (up : List Bool) (ks : List Known) (ss : List StateView) (k : ℕ) → AreAtRest A up ks ss → k < length ks → (known_in ks k).schema ≡ (name_at (map (λ (s : StateView). names_of s.tree) ss) k).schema
schemas-of A up [] ss k a l = absurd (omega (arith, l))
schemas-of A up (x ∷ ks) [] k a l = absurd a
schemas-of A up (x ∷ ks) (y ∷ ss) zero a l = a.0.of.copy.schema
schemas-of A up (x ∷ ks) (y ∷ ss) (suc k) a l = schemas-of (λ j. A (suc j)) up ks ss k a.1 (omega (arith, l))

-- ---- what is left

module _ (O : Shape → Block → Type 0) (names : List NamesTable) (replicas : ℕ) (Offered : ℕ → Block → Type 0) (cast : Cast) (p : PassView) (closed after : Carried)
    (same : SameOffers O names Offered) (i : IsCast O cast (seats_of p.up p.tables)) (known : IsKnownAmong replicas names p) (few : length names ≤ 4)
    (n : map (λ (s : StateView). names_of s.tree) closed.states.items ≡ names) (r : AreAtRest Offered closed.up.items closed.known.items closed.states.items) (u : closed.up.items ≡ p.up) (s : HasSeenAll Offered p closed.known.items)
    (some : 0 < length closed.states.items → after ≡ closed)
    (none : length closed.states.items ≡ 0 → (after.states ≡ closed.states) × (after.known ≡ closed.known) × (after.up.items ≡ take cast.replicas cast.up)) where
  abbrev ground : Ground
  ground = record { cast = cast; carried = after }

  many : length p.tables ≡ length names
  many = sym (known-length replicas names p.tables known.known)

  -- what is known is what the crew left
  same-known : (m : ℕ) → length closed.states.items ≡ m → after.known.items ≡ closed.known.items
  same-known zero e = ap (λ v. v.items) (none e).1
  same-known (suc m) e = ap (λ (c : Carried). c.known.items) (some (omega (arith, e)))

  as-known : after.known.items ≡ closed.known.items
  as-known = same-known (length closed.states.items) refl

  same-states : (m : ℕ) → length closed.states.items ≡ m → after.states.items ≡ closed.states.items
  same-states zero e = ap (λ v. v.items) (none e).0
  same-states (suc m) e = ap (λ (c : Carried). c.states.items) (some (omega (arith, e)))

  as-left : after.states.items ≡ closed.states.items
  as-left = same-states (length closed.states.items) refl

  known-many : length closed.known.items ≡ length closed.states.items
  known-many = rest-length Offered closed.up.items closed.known.items closed.states.items r

  seen-many : length closed.known.items ≡ length p.tables
  seen-many = s.count

  names-many : length cast.names.items ≡ length p.tables
  names-many = i.lengths ∙ seats-length p.up p.tables

  -- which replicas are up
  ups-left : (m : ℕ) → length closed.states.items ≡ m → IsOfPlayer after.up.items cast.replicas cast.up
  ups-left zero e =
      let l = i.player.few in
      let k = i.player.eight in
      subst (λ (bs : List Bool). IsOfPlayer bs cast.replicas cast.up) (sym (none e).2) (taken-ups cast.replicas cast.up (omega (arith, l, k)))
  ups-left (suc m) e =
      let a = known-many in
      let b = seen-many in
      subst (λ (bs : List Bool). IsOfPlayer bs cast.replicas cast.up) (sym (ap (λ (c : Carried). c.up.items) (some (omega (arith, e))) ∙ u))
      (first-at-all O cast.names.items p.up p.tables cast.replicas cast.up names-many (omega (arith, a, b, e)) i.player.all)

  ups-are : IsOfPlayer after.up.items cast.replicas cast.up
  ups-are = ups-left (length closed.states.items) refl

  -- the schema of what is known at a place, before and after
  old-schema : (k : ℕ) → k < length p.tables → (known_in p.tables k).schema ≡ (name_at names k).schema
  old-schema k l = (known-at replicas names p.tables k (new_known no_schema 0) known.known l).copy.schema

  new-schema : (k : ℕ) → k < length closed.known.items → (known_in closed.known.items k).schema ≡ (name_at names k).schema
  new-schema k l = schemas-of Offered closed.up.items closed.known.items closed.states.items k r l ∙ ap (λ (ns : List NamesTable). (name_at ns k).schema) n

  keeps-states : (k : ℕ) → k < length p.tables → (t : TableState) → MayBe O (client_of (known_in p.tables k)) t → MayBe O (client_of (known_in closed.known.items k)) t
  keeps-states k l =
      let a = seen-many in
      maybe-stays O (Offered k) (name_at names k).schema (client_at p k) (client_of (known_in closed.known.items k)) (λ b h. (same k b).0 h) (λ b h. (same k b).1 h) (old-schema k l) (new-schema k (omega (arith, a, l))) (s.each k l)

  offers-left : AreAtRest (offered_to O closed.states.items) closed.up.items closed.known.items closed.states.items
  offers-left = all-rest-as Offered (offered_to O closed.states.items) closed.up.items closed.known.items closed.states.items
      (λ k l b h. subst (λ (ns : List NamesTable). O (name_at ns k).schema b) (sym n) ((same k b).0 h)) r

  rest-left : (m : ℕ) → length closed.states.items ≡ m → AreAtRest (offered_to O after.states.items) after.up.items after.known.items after.states.items
  rest-left zero e =
      let a = known-many in
      let b : length after.states.items ≡ length closed.states.items = ap (λ (l : List StateView). length l) as-left in
      let c : length after.known.items ≡ length closed.known.items = ap (λ (l : List Known). length l) as-known in
      rest-none (offered_to O after.states.items) after.up.items after.known.items after.states.items (omega (arith, b, e)) (omega (arith, c, a, e))
  rest-left (suc m) e = subst (λ (c : Carried). AreAtRest (offered_to O c.states.items) c.up.items c.known.items c.states.items) (sym (some (omega (arith, e)))) offers-left

  pub leaves-ground : LeavesGround O (cast_view O cast (seats_of p.up p.tables)) ground
  leaves-ground = record {
    stays = λ w z. record {
      replicas = z.replicas;
      up = z.up;
      tables = subst (λ (ks : List Known). ShowTables (named (seats_seen O) cast.names.items (seats_of after.up.items ks)) w.tables) (sym as-known)
          (shows-closed O cast.names.items p.up after.up.items p.tables closed.known.items w.tables seen-many keeps-states z.tables);
    };
    ground = record {
      cast = record {
        player = record {
          some = i.player.some;
          few = i.player.few;
          eight = i.player.eight;
          all = each-at-all O cast.names.items after.up.items after.known.items cast.replicas cast.up ups-are.all ups-are.ups;
        };
        lengths =
            let a = names-many in
            let b = seen-many in
            let c : length after.known.items ≡ length closed.known.items = ap (λ (l : List Known). length l) as-known in
            let d = seats-length after.up.items after.known.items in
            omega (arith, a, b, c, d);
      };
      few = let a = names-many in let b = many in omega (arith, a, b, few);
      rest = rest-left (length closed.states.items) refl;
      count = ups-are.all;
      ups = ups-are.ups;
    };
  }

-- ---- the end

-- what was shown of tables at rest: they rest into these
record Hands (states : List StateView) (ts : List Table) : Type 0 where
  tables : List Table
  rested : AreRested true ts tables
  shown : AreShownBy states tables

-- a replica at rest has what the table's state says
shows-replica : (O : Block → Type 0) (A : Block → Type 0) (up : List Bool) (k : Known) (s : StateView) (t : TableState) → Fits O (client_of k) t → (r : ReplicaView) → IsAtRestReplica A up k s.tree r → ShowsReplica t r
shows-replica O A up k s t f r i = record {
  fetching = i.fetches ∙ f.knows.fetching r.number;
  checked = subst (λ (l : List Entry). IsChecked l (t.known r.number) (part_names r.parts)) f.knows.log
      (subst (λ (m : ℕ → Bool). IsChecked k.log m (part_names r.parts)) (fun_ext (λ j. f.knows.known r.number j)) i.has_known);
}

-- its replicas stand beside its log
stand-among : (O A : Block → Type 0) → ((b : Block) → A b → O b) → (up : List Bool) (k : Known) (tree : Held) (n : ℕ) (rs : List ReplicaView) → AreNumbered tree n rs → Each (IsAtRestReplica A up k tree) rs → Each (λ r. StandsAmong O tree.schema tree.log (shown r)) rs
stand-among O A f up k tree n [] m e = tt
stand-among O A f up k tree n (r ∷ rs) m e = (
  stands-among O tree.schema tree.log r e.0.standing m.0.copy.schema m.0.copy.prefix (each-as (IsMadeOf A) (IsMadeOf O) (λ part h. each-as (λ b. A (without_kinds b.block)) (λ b. O (without_kinds b.block)) (λ b o. f (without_kinds b.block) o) part.blocks h) r.parts e.0.blocks.parts),
  stand-among O A f up k tree (n + 1) rs m.1 e.1,
)

agree-at-rest : (O A : Block → Type 0) → AreClear O → ((b : Block) → A b → O b) → (up : List Bool) (k : Known) (s : StateView) (t : TableState) → Fits O (client_of k) t → IsAtRest A up k s → AgreesOn (map shown s.replicas) t.blocks
agree-at-rest O A clear g up k s t f i =
    agree-here O clear s.tree.schema s.tree.log t.blocks i.lawful (subst (λ (l : List Entry). AreAccepted O l t.blocks) (sym f.knows.log ∙ i.sees.log) f.blocks) (map shown s.replicas)
    (λ x h. Each-at (StandsAmong O s.tree.schema s.tree.log) (map shown s.replicas) x (Each-mapped (StandsAmong O s.tree.schema s.tree.log) shown s.replicas (stand-among O A g up k s.tree 1 s.replicas i.state.numbered i.replicas)) h)

shows-state : (O A : Block → Type 0) → AreClear O → ((b : Block) → A b → O b) → (up : List Bool) (k : Known) (s : StateView) (t : TableState) → Fits O (client_of k) t → IsAtRest A up k s → ShowsState s t
shows-state O A clear g up k s t f i = record {
  schema = sym f.knows.schema ∙ i.sees.schema;
  log = sym f.knows.log ∙ i.sees.log;
  next = sym f.knows.next ∙ i.sees.next;
  quorum = sym f.knows.quorum ∙ i.sees.quorum;
  replicas = each-as (IsAtRestReplica A up k s.tree) (ShowsReplica t) (λ r h. shows-replica O A up k s t f r h) s.replicas i.replicas;
  agree = agree-at-rest O A clear g up k s t f i;
}

hands : (O : Shape → Block → Type 0) (A : ℕ → Block → Type 0) (names : List (List ℕ)) (up : List Bool) (known : List Known) (states : List StateView) (ts : List Table) → ((k : ℕ) → k < length known → (b : Block) → A k b → O (known_in known k).schema b) → length names ≡ length known → AreAtRest A up known states → ShowTables (named (seats_seen O) names (seats_of up known)) ts → Hands states ts
hands O A [] up [] [] [] g n a s = record { tables = []; rested = tt; shown = tt }
hands O A [] up [] [] (t ∷ ts) g n a s = absurd s
hands O A [] up [] (y ∷ states) ts g n a s = absurd a
hands O A [] up (x ∷ known) states ts g n a s = absurd (omega (arith, n))
hands O A (m ∷ names) up [] states ts g n a s = absurd (omega (arith, n))
hands O A (m ∷ names) up (x ∷ known) [] ts g n a s = absurd a
hands O A (m ∷ names) up (x ∷ known) (y ∷ states) [] g n a s = absurd s
hands O A (m ∷ names) up (x ∷ known) (y ∷ states) (t ∷ ts) g n a s =
    let rest = hands O (λ k. A (suc k)) names up known states ts (λ k l. g (suc k) (omega (arith, l))) (omega (arith, n)) a.1 s.1 in
    let h = s.0.shows in
    record {
      tables = record t { state = h.now } ∷ rest.tables;
      rested = (refl, h.rests, rest.rested);
      shown = (shows-state (O x.schema) (A 0) h.clear (g 0 (omega arith)) up x y h.now h.fits a.0, rest.shown);
    }

ups-handed : (A : ℕ → Block → Type 0) (up : List Bool) (known : List Known) (states : List StateView) (count : ℕ) (ups : ℕ → Bool) → length up ≡ count → up_in up ≡ ups → AreAtRest A up known states → Each (HasReplicasUp count ups) states
ups-handed A up [] [] count ups c e a = tt
ups-handed A up [] (y ∷ states) count ups c e a = absurd a
ups-handed A up (x ∷ known) [] count ups c e a = absurd a
ups-handed A up (x ∷ known) (y ∷ states) count ups c e a = (
  record {
    counted = a.0.all ∙ c;
    are_up = each-as (IsAtRestReplica (A 0) up x y.tree) (λ r. r.up ≡ ups r.number) (λ r i. i.ups ∙ ap (λ (f : ℕ → Bool). f r.number) e) y.replicas a.0.replicas;
  },
  ups-handed (λ k. A (suc k)) up known states count ups c e a.1,
)

-- the world that the script left rests into one whose tables are handed back
pub record IsHandedBackIn (states : List StateView) (w : World) : Type 0 where
  pub world : World
  pub rests : RestsAll true w world
  pub shown : AreShownBy states world.tables
  pub replicas : Each (HasReplicasUp world.replicas world.up) states

pub hands-back : (O : Shape → Block → Type 0) (g : Ground) (w : World) → IsGround O g → IsIn (ground_view O g) w → IsHandedBackIn g.carried.states.items w
hands-back O g w i z =
    let offers : (k : ℕ) → k < length g.carried.known.items → (b : Block) → offered_to O g.carried.states.items k b → O (known_in g.carried.known.items k).schema b =
    (λ k l b o. subst (λ (x : Shape). O x b) (sym (schemas-of (offered_to O g.carried.states.items) g.carried.up.items g.carried.known.items g.carried.states.items k i.rest l)) o) in
    let n = i.cast.lengths in
    let l = seats-length g.carried.up.items g.carried.known.items in
    let h = hands O (offered_to O g.carried.states.items) g.cast.names.items g.carried.up.items g.carried.known.items g.carried.states.items w.tables offers (n ∙ l) i.rest z.tables in
    record {
      world = record w { tables = h.tables };
      rests = record { tables = h.rested; rest = refl };
      shown = h.shown;
      replicas = ups-handed (offered_to O g.carried.states.items) g.carried.up.items g.carried.known.items g.carried.states.items w.replicas w.up (i.count ∙ sym z.replicas) (i.ups ∙ sym z.up) i.rest;
    }
