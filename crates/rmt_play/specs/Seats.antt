-- Tables among workers, as a player sees them. No public clause cites this module.
use Rattle.std.specs.Prelude.{◌≡◌, ◌<◌, ◌≤◌, ℕ, Bool, true, List, [], length, map, cond, nat_eq}
use Rattle.std.specs.declared.option.Option.{Option}
use Rattle.std.specs.declared.option.Option.TheVariants.{Some, None}
use Rattle.rmt_values.specs.Rows.{Shape}
use Rattle.rmt_events.specs.Views.{Block}
use Rattle.rmt_clients.specs.Clients.{Client}
use Rattle.rmt_known.specs.KnownTables.{Known, client_of}
use Rattle.rmt_shared.specs.SharedTables.{NamedTable as NamesTable, name_at, named as names_of}
use Rattle.rmt_pass.specs.Passes.{AreKnownOf, PassView, up_in}
use Rattle.rmt_state.specs.States.{StateView}
use Rattle.rmt_workers.specs.Closing.{AreAtRest}
use Rattle.rmt_threaded.specs.ThreadedTables.{SameOffers, ThreadedView, sight_of}
use Rattle.rmt_acting.specs.Acting.{Sight}
use Rattle.rmt_play.specs.declared.threaded.cast.Cast.{Cast}
use Rattle.rmt_play.specs.declared.threaded.ground.Ground.{Ground}
use Rattle.rmt_play.specs.PlayerSteps.{Sights, PlayerView, IsSoundPlayer, is_up, named}

-- ---- tables

-- a table among workers: what its client knows of it, how many replicas it has, and which of them are up
pub record Seat : Type 0 where
  pub client : Client
  pub count : ℕ
  pub ups : ℕ → Bool

-- what is seen of it, where these blocks may come
abbrev pub seat_seen : (Shape → Block → Type 0) → Seat → Sight true
seat_seen Offers s = sight_of Offers s.client s.count s.ups 0 (λ k. None)

-- tables among workers
abbrev pub seats_seen : (Shape → Block → Type 0) → Sights
seats_seen Offers = record { Table = Seat; workers = true; offers = Offers; seen = seat_seen Offers }

-- the table that is known so, at replicas of which these are up
abbrev pub seat_of : List Bool → Known → Seat
seat_of up k = record { client = client_of k; count = length up; ups = up_in up }

-- the tables that are known so
abbrev pub seats_of : List Bool → List Known → List Seat
seats_of up known = map (seat_of up) known

-- those that a client knows, where it has not stopped halfway
abbrev pub seats_in : Option PassView → List Seat
seats_in None = []
seats_in (Some p) = seats_of p.up p.tables

-- the schemas of named tables
abbrev pub schemas_named : List NamesTable → List Shape
schemas_named names = map (λ (n : NamesTable). n.schema) names

-- what a client knows is of the named tables, at so many replicas
pub record IsKnownAmong (replicas : ℕ) (names : List NamesTable) (p : PassView) : Type 0 where
  pub known : AreKnownOf replicas names p.tables
  pub ups : length p.up ≡ replicas

-- it is of so many tables, at so many replicas
pub record IsSized (tables replicas : ℕ) (p : PassView) : Type 0 where
  pub count : length p.tables ≡ tables
  pub ups : length p.up ≡ replicas

-- the names of tables offer just these blocks, and these are their schemas
pub record IsAmong (Offers : Shape → Block → Type 0) (names : List NamesTable) (Offered : ℕ → Block → Type 0) (schemas : List Shape) : Type 0 where
  pub same : SameOffers Offers names Offered
  pub have : schemas ≡ schemas_named names

-- what the client knows is lent to the table at a place
pub record IsLent (tables replicas : ℕ) (pass : Option PassView) (place : ℕ) (t : ThreadedView) : Type 0 where
  pub known : pass ≡ Some t.pass
  pub at : t.table ≡ place
  pub there : t.table < length t.pass.tables
  pub sized : IsSized tables replicas t.pass

-- the client knows the replica as up, or as down, and knows the same of the tables
pub record TurnsPass (r : ℕ) (is_up : Bool) (p q : PassView) : Type 0 where
  pub tables : q.tables ≡ p.tables
  pub ups : (k : ℕ) → up_in q.up k ≡ cond (nat_eq r k) is_up (up_in p.up k)
  pub count : length q.up ≡ length p.up

-- ---- between rounds

-- which blocks may come to each of these tables, by its place
abbrev pub offered_to : (Shape → Block → Type 0) → List StateView → ℕ → Block → Type 0
offered_to Offers states k b = Offers (name_at (map (λ (s : StateView). names_of s.tree) states) k).schema b

-- what a player has of these tables
abbrev pub cast_view : (Offers : Shape → Block → Type 0) → Cast → List Seat → PlayerView (seats_seen Offers)
cast_view Offers c seats = record { replicas = c.replicas; up = c.up; tables = named (seats_seen Offers) c.names.items seats }

-- it is sound, each table has a name, and there are few
pub record IsCast (Offers : Shape → Block → Type 0) (c : Cast) (seats : List Seat) : Type 0 where
  pub player : IsSoundPlayer (cast_view Offers c seats)
  pub lengths : length c.names.items ≡ length seats

-- between two rounds
abbrev pub ground_view : (Offers : Shape → Block → Type 0) → Ground → PlayerView (seats_seen Offers)
ground_view Offers g = cast_view Offers g.cast (seats_of g.carried.up.items g.carried.known.items)

-- the player is sound, and its tables are at rest at its replicas
pub record IsGround (Offers : Shape → Block → Type 0) (g : Ground) : Type 0 where
  pub cast : IsCast Offers g.cast (seats_of g.carried.up.items g.carried.known.items)
  pub few : length g.cast.names.items ≤ 4
  pub rest : AreAtRest (offered_to Offers g.carried.states.items) g.carried.up.items g.carried.known.items g.carried.states.items
  pub count : length g.carried.up.items ≡ g.cast.replicas
  pub ups : up_in g.carried.up.items ≡ is_up g.cast.replicas g.cast.up
