-- A table that is made between two rounds.
use Rattle.std.proofs.Common.{◌≡◌, ◌∙◌, ℕ, zero, suc, ◌+◌, ◌<◌, ◌≤◌, Bool, true, false, List, [], ◌∷◌, ◌++◌, length, map, replicate, get_or, inl, refl, sym, ap, subst, arith}
use Rattle.std.proofs.Math.Path.{fun_ext}
use Rattle.std.specs.Prelude.{slice_index_or}
use Rattle.rmt_values.specs.Rows.{Shape}
use Rattle.rmt_model.specs.Words.{Each}
use Rattle.rmt_queue.specs.Marks.{done_at}
use Rattle.rmt_events.specs.Views.{Block, Replica}
use Rattle.rmt_events.specs.Clusters.{Cluster}
use Rattle.rmt_replica.specs.SeenReplica.{shown}
use Rattle.rmt_state.specs.States.{StateView, cluster_of}
use Rattle.rmt_state.specs.NewStates.{IsNewState}
use Rattle.rmt_cluster.specs.NewClusters.{AreCounted, IsNewCluster}
use Rattle.rmt_cluster.proofs.NewClusterLemmas.{new-is-new}
use Rattle.rmt_statement_model.specs.TableStates.{empty_table}
use Rattle.rmt_statement_model.specs.Shows.{up_at}
use Rattle.rmt_clients.specs.Clients.{AreClear}
use Rattle.rmt_known.specs.KnownTables.{Known, client_of, fetching_at, marks_at, new_known}
use Rattle.rmt_pass.specs.Passes.{up_in}
use Rattle.rmt_shared.specs.SharedTables.{NamedTable as NamesTable, name_at, named as names_of}
use Rattle.rmt_workers.specs.Closing.{AreAtRest}
use Rattle.rmt_workers.proofs.CallerLemmas.{new-at-rest}
use Rattle.rmt_threaded.specs.ThreadedTables.{MayBe}
use Rattle.rmt_reply.specs.declared.line.Line.TheVariants as lines
use Rattle.rmt_play.specs.World.{new_table}
use Rattle.rmt_play.specs.Plays.{Creates}
use Rattle.rmt_play.specs.declared.threaded.ground.Ground.{Ground}
use Rattle.rmt_play.specs.PlayerSteps.{NamedTable, PlayerView, IsAtAll, IsIn, Moves, is_up, named}
use Rattle.rmt_play.specs.Seats.{Seat, IsCast, IsGround, ground_view, offered_to, seat_of, seats_of, seats_seen}
use Rattle.rmt_play.specs.ThreadedRounds.{AddsTo}
use Rattle.rmt_play.proofs.AtRestLemmas.{all-rest-as, all-rest-more}
use Rattle.rmt_play.proofs.CreateLemmas.{counted-up, none-below}
use Rattle.rmt_play.proofs.NamedLemmas.{named-more}
use Rattle.rmt_play.proofs.TableLemmas.{append-shown, each-more, rests-all-none}

-- ---- what is known of a new table

all-fetch : (n r : ℕ) → fetching_at (replicate n true) r ≡ true
all-fetch n zero = refl
all-fetch n (suc r) = among n r
  where
    among : (n r : ℕ) → slice_index_or (replicate n true) r true ≡ true
    among zero r = refl
    among (suc n) zero = refl
    among (suc n) (suc r) = among n r

abbrev nothing : List Bool
nothing = []

no-marks : (n r : ℕ) → marks_at (replicate n nothing) r ≡ nothing
no-marks n zero = refl
no-marks n (suc r) = among n r
  where
    among : (n r : ℕ) → slice_index_or (replicate n nothing) r nothing ≡ nothing
    among zero r = refl
    among (suc n) zero = refl
    among (suc n) (suc r) = among n r

none-done : (i : ℕ) → done_at nothing i ≡ false
none-done i = refl

-- it may be empty
pub new-may-be : (O : Shape → Block → Type 0) (schema : Shape) (n : ℕ) → AreClear (O schema) → MayBe O (client_of (new_known schema n)) (empty_table schema)
new-may-be O schema n clear = record {
  clear = clear;
  now = empty_table schema;
  rests = inl refl;
  fits = record {
    knows = record {
      schema = refl;
      log = refl;
      next = refl;
      quorum = refl;
      fetching = λ r. all-fetch n r;
      known = λ r i. ap (λ (m : List Bool). done_at m i) (no-marks n r) ∙ none-done i;
    };
    blocks = tt;
  };
}

-- ---- its cluster, as events see it

-- which of its replicas are up
ups-counted : (xs : List Replica) (ups : List Bool) → AreCounted 1 xs → map (λ r. r.up) xs ≡ ups → (j : ℕ) → up_at xs j ≡ up_in ups j
ups-counted xs ups n e zero = none-below xs 1 0 n (omega arith)
ups-counted xs ups n e (suc i) = ap (λ j. up_at xs j) (let m : suc i ≡ 1 + i = omega arith in m) ∙ (counted-up xs 1 i n ∙ ap (λ (bs : List Bool). slice_index_or bs i false) e)

pub length-mapped : {A B : Type 0} (f : A → B) (xs : List A) → length (map f xs) ≡ length xs
length-mapped f [] = refl
length-mapped f (x ∷ xs) = ap suc (length-mapped f xs)

is-new : (schema : Shape) (up : List Bool) (s : StateView) → IsNewState schema up s → IsNewCluster schema up (cluster_of s 0 [] [])
is-new schema up s n = new-is-new schema up s (record { made = 0; open_ones = []; room = 0 }) [] n refl refl refl

-- ---- lists

one-longer : {A : Type 0} (xs : List A) (x : A) → length (xs ++ x ∷ []) ≡ length xs + 1
one-longer [] x = refl
one-longer (y ∷ xs) x = let e = one-longer xs x in omega (arith, e)

map-more : {A B : Type 0} (f : A → B) (xs : List A) (x : A) → map f (xs ++ x ∷ []) ≡ map f xs ++ f x ∷ []
map-more f [] x = refl
map-more f (y ∷ xs) x = ap (λ l. f y ∷ l) (map-more f xs x)

get-front : {A : Type 0} (xs : List A) (y : A) (k : ℕ) (d : A) → k < length xs → get_or (xs ++ y ∷ []) k d ≡ get_or xs k d
get-front [] y k d l = absurd (omega (arith, l))
get-front (x ∷ xs) y zero d l = refl
get-front (x ∷ xs) y (suc k) d l = get-front xs y k d (omega (arith, l))

-- ---- the ground

module _ (O : Shape → Block → Type 0) (g h : Ground) (name : List ℕ) (schema : Shape) (i : IsGround O g) (a : AddsTo name schema g h) where
  abbrev ups : List Bool
  ups = g.carried.up.items

  abbrev own : Seat
  own = seat_of ups (new_known schema (length ups))

  seats-more : seats_of h.carried.up.items h.carried.known.items ≡ seats_of ups g.carried.known.items ++ own ∷ []
  seats-more =
      ap (λ (bs : List Bool). seats_of bs h.carried.known.items) a.carried.up
      ∙ (ap (seats_of ups) a.carried.known ∙ map-more (seat_of ups) g.carried.known.items (new_known schema (length ups)))

  tables-more : (ground_view O h).tables ≡ (ground_view O g).tables ++ record { name = name; table = own } ∷ []
  tables-more =
      ap (λ (ns : List (List ℕ)). named (seats_seen O) ns (seats_of h.carried.up.items h.carried.known.items)) a.names
      ∙ (ap (λ (ss : List Seat). named (seats_seen O) (g.cast.names.items ++ name ∷ []) ss) seats-more
      ∙ named-more (seats_seen O) g.cast.names.items (seats_of ups g.carried.known.items) name own i.cast.lengths)

  view-more : ground_view O h ≡ record { replicas = g.cast.replicas; up = g.cast.up; tables = (ground_view O g).tables ++ record { name = name; table = own } ∷ [] }
  view-more =
      ap (λ (n : ℕ). record { replicas = n; up = h.cast.up; tables = (ground_view O h).tables }) a.replicas
      ∙ (ap (λ (bs : List Bool). record { replicas = g.cast.replicas; up = bs; tables = (ground_view O h).tables }) a.ups
      ∙ ap (λ (ts : List (NamedTable (seats_seen O))). record { replicas = g.cast.replicas; up = g.cast.up; tables = ts }) tables-more)

  abbrev cluster : Cluster
  cluster = cluster_of a.carried.state 0 [] []

  cluster-new : IsNewCluster schema ups cluster
  cluster-new = is-new schema ups a.carried.state a.carried.is_new

  many : length cluster.replicas ≡ length ups
  many =
      let m = length-mapped shown a.carried.state.replicas in
      let n = length-mapped (λ r. r.up) a.carried.state.replicas in
      let e : length (map (λ r. r.up) a.carried.state.replicas) ≡ length ups = ap (λ (l : List Bool). length l) a.carried.is_new.up_ones in
      omega (arith, m, n, e)

  -- the CREATE is played
  pub adds-moves : AreClear (O schema) → Moves (ground_view O g) (λ w v. Creates w name schema lines.Okay v) (ground_view O h)
  adds-moves clear w z = record {
    world = record w { tables = w.tables ++ new_table name schema cluster ∷ [] };
    holds = record {
      at = w;
      rests = rests-all-none true w;
      change = record {
        cluster = cluster;
        ups_are = ups;
        is_new = cluster-new;
        counted = many ∙ (i.count ∙ sym z.replicas);
        are_up = fun_ext (ups-counted cluster.replicas ups cluster-new.numbered cluster-new.up_ones) ∙ (i.ups ∙ sym z.up);
        reply = refl;
        change = refl;
      };
    };
    is_in = subst (λ (p : PlayerView (seats_seen O)). IsIn p (record w { tables = w.tables ++ new_table name schema cluster ∷ [] })) (sym view-more) (record {
      replicas = z.replicas;
      up = z.up;
      tables = append-shown (ground_view O g).tables w.tables (record { name = name; table = own }) (new_table name schema cluster) z.tables (record { name = refl; cluster = λ e. absurd (cc); shows = new-may-be O schema (length ups) clear });
    });
  }

  -- the ground is sound still
  named-after : map (λ (s : StateView). names_of s.tree) h.carried.states.items ≡ map (λ (s : StateView). names_of s.tree) g.carried.states.items ++ names_of a.carried.state.tree ∷ []
  named-after = ap (map (λ (s : StateView). names_of s.tree)) a.carried.states ∙ map-more (λ (s : StateView). names_of s.tree) g.carried.states.items a.carried.state

  pub adds-cast : IsCast O h.cast (seats_of h.carried.up.items h.carried.known.items)
  adds-cast = record {
    player = record {
      some = subst (λ (n : ℕ). 0 < n) (sym a.replicas) i.cast.player.some;
      few = subst (λ (n : ℕ). n ≤ 8) (sym a.replicas) i.cast.player.few;
      eight = ap (λ (bs : List Bool). length bs) a.ups ∙ i.cast.player.eight;
      all = subst (λ (n : ℕ). Each (λ t. IsAtAll (seats_seen O) n h.cast.up t.table) (ground_view O h).tables) (sym a.replicas)
          (subst (λ (bs : List Bool). Each (λ t. IsAtAll (seats_seen O) g.cast.replicas bs t.table) (ground_view O h).tables) (sym a.ups)
          (subst (λ (ts : List (NamedTable (seats_seen O))). Each (λ t. IsAtAll (seats_seen O) g.cast.replicas g.cast.up t.table) ts) (sym tables-more)
          (each-more (λ t. IsAtAll (seats_seen O) g.cast.replicas g.cast.up t.table) (ground_view O g).tables (record { name = name; table = own }) i.cast.player.all
          (record { all = i.count; ups_are = i.ups; free = tt }))));
    };
    lengths =
        let x : length h.cast.names.items ≡ length (g.cast.names.items ++ name ∷ []) = ap (λ (l : List (List ℕ)). length l) a.names in
        let y : length (seats_of h.carried.up.items h.carried.known.items) ≡ length (seats_of ups g.carried.known.items ++ own ∷ []) = ap (λ (l : List Seat). length l) seats-more in
        let m = one-longer g.cast.names.items name in
        let n = one-longer (seats_of ups g.carried.known.items) own in
        let e = i.cast.lengths in
        omega (arith, x, y, m, n, e);
  }

  few-after : length h.cast.names.items ≤ 4
  few-after =
      let x : length h.cast.names.items ≡ length (g.cast.names.items ++ name ∷ []) = ap (λ (l : List (List ℕ)). length l) a.names in
      let m = one-longer g.cast.names.items name in
      let b = a.few in
      omega (arith, x, m, b)

  offers-before : (k : ℕ) → k < length g.carried.states.items → (b : Block) → offered_to O g.carried.states.items k b → offered_to O h.carried.states.items k b
  offers-before k l b o =
      let m = length-mapped (λ (s : StateView). names_of s.tree) g.carried.states.items in
      subst (λ (n : NamesTable). O n.schema b) (sym (ap (λ (ns : List NamesTable). name_at ns k) named-after ∙ get-front (map (λ (s : StateView). names_of s.tree) g.carried.states.items) (names_of a.carried.state.tree) k _ (omega (arith, m, l)))) o

  rest-after : AreAtRest (offered_to O h.carried.states.items) h.carried.up.items h.carried.known.items h.carried.states.items
  rest-after =
      let few = i.cast.player.few in
      let count = i.count in
      let before = all-rest-as (offered_to O g.carried.states.items) (offered_to O h.carried.states.items) ups g.carried.known.items g.carried.states.items offers-before i.rest in
      let new = new-at-rest (offered_to O h.carried.states.items (length g.carried.states.items)) schema ups (new_known schema (length ups)) a.carried.state a.carried.is_new (omega (arith, few, count)) refl in
      let all = all-rest-more (offered_to O h.carried.states.items) ups g.carried.known.items g.carried.states.items (new_known schema (length ups)) a.carried.state before new in
      subst (λ (bs : List Bool). AreAtRest (offered_to O h.carried.states.items) bs h.carried.known.items h.carried.states.items) (sym a.carried.up)
      (subst (λ (ks : List Known). AreAtRest (offered_to O h.carried.states.items) ups ks h.carried.states.items) (sym a.carried.known)
      (subst (λ (ss : List StateView). AreAtRest (offered_to O h.carried.states.items) ups (g.carried.known.items ++ new_known schema (length ups) ∷ []) ss) (sym a.carried.states) all))

  pub adds-ground : IsGround O h
  adds-ground = record {
    cast = adds-cast;
    few = few-after;
    rest = rest-after;
    count = ap (λ (bs : List Bool). length bs) a.carried.up ∙ (i.count ∙ sym a.replicas);
    ups = ap up_in a.carried.up ∙ (i.ups ∙ (ap (λ (n : ℕ). is_up n g.cast.up) (sym a.replicas) ∙ ap (is_up h.cast.replicas) (sym a.ups)));
  }
