-- What becomes of a world as a replica goes down, or comes up.
use Rattle.std.proofs.Common.{◌≡◌, ◌⊎◌, inl, inr, ◌∙◌, ℕ, zero, suc, ◌+◌, ◌<◌, ◌≤◌, ◌-◌, ◌&&◌, nat_eq, nat_lt, Bool, true, false, cond, List, [], ◌∷◌, length, map, refl, ap, sym, subst, arith}
use Rattle.std.proofs.Math.Path.{fun_ext}
use Rattle.std.proofs.lemmas.Bool.Decides.{nat_tests}
use Rattle.std.specs.Prelude.{nat_le, replicate, slice_get, slice_set, slice_index_or, MatchOption}
use Rattle.std.specs.declared.option.Option.{Option}
use Rattle.std.specs.declared.option.Option.TheVariants.{Some, None}
use Rattle.rmt_model.specs.Words.{Each}
use Rattle.rmt_model.proofs.Drops.{some-same}
use Rattle.rmt_reply.specs.declared.line.Line.TheVariants as lines
use Rattle.rmt_reply.specs.declared.refusal.Refusal.{Refusal}
use Rattle.rmt_reply.specs.declared.refusal.Refusal.TheVariants.{UnknownReplica, ReplicaDown, ReplicaUp}
use Rattle.rmt_play.specs.World.{Table, World, all_up, with_up}
use Rattle.rmt_play.specs.ActRefusals.{refused_down, refused_up}
use Rattle.rmt_play.specs.Checks.{first_of, replica_of, refused_name, kill_refusals, restart_refusals}
use Rattle.rmt_events.specs.Clusters.{Cluster}
use Rattle.rmt_events.specs.declared.event.Event.{Event}
use Rattle.rmt_acts.specs.StatementEvents.{Makes}
use Rattle.rmt_play.specs.Plays.{session_event, InEach, Turns, Refuses, Counts}
use Rattle.rmt_play.specs.PlayerSteps.{Sights, NamedTable, PlayerView, is_up, IsAtAll, IsIn, Moves, ShowTables, TurnsTable, TurnsEach, TurnsAll, ExecutesKill, ExecutesRestart}
use Rattle.rmt_play.proofs.TableLemmas.{each-get, get-below, rests-all-none, stays}

-- ---- which replicas are up

same-next : (i j : ℕ) (d : Bool) → nat_eq i j ≡ d → nat_eq i j ≡ nat_eq (suc i) (suc j)
same-next i j true e = let q : nat_eq (suc i) (suc j) ≡ true = grind (arith, nat_tests) in e ∙ sym q
same-next i j false e = let q : nat_eq (suc i) (suc j) ≡ false = grind (arith, nat_tests) in e ∙ sym q

index-set : (bs : List Bool) (i j : ℕ) (b : Bool) → i < length bs → slice_index_or (slice_set bs i b) j false ≡ cond (nat_eq i j) b (slice_index_or bs j false)
index-set [] i j b l = absurd (omega (arith, l))
index-set (c ∷ bs) zero zero b l = refl
index-set (c ∷ bs) zero (suc j) b l = let q : nat_eq 0 (suc j) ≡ false = grind (arith, nat_tests) in rw q refl
index-set (c ∷ bs) (suc i) zero b l = let q : nat_eq (suc i) 0 ≡ false = grind (arith, nat_tests) in rw q refl
index-set (c ∷ bs) (suc i) (suc j) b l = index-set bs i j b (omega (arith, l)) ∙ ap (λ (d : Bool). cond d b (slice_index_or bs j false)) (same-next i j (nat_eq i j) refl)

-- one replica is up, or down, then
pub up-set : (count : ℕ) (up : List Bool) (i : ℕ) (b : Bool) → i < count → i < length up → (k : ℕ) → is_up count (slice_set up i b) k ≡ with_up (is_up count up) (suc i) b k
up-set count up i b l m zero = let q : nat_eq (suc i) 0 ≡ false = grind (arith, nat_tests) in rw q refl
up-set count up i b l m (suc j) =
    ap (λ (c : Bool). nat_lt j count && c) (index-set up i j b m)
    ∙ (go (nat_eq i j) refl ∙ ap (λ (d : Bool). cond d b (nat_lt j count && slice_index_or up j false)) (same-next i j (nat_eq i j) refl))
  where
    go : (c : Bool) → nat_eq i j ≡ c → (nat_lt j count && cond c b (slice_index_or up j false)) ≡ cond c b (nat_lt j count && slice_index_or up j false)
    go true e = let n : nat_lt j count ≡ true = grind (arith, nat_tests) in rw n refl
    go false e = refl

-- ---- tables

-- tables that are shown, made of these by one event each
record AreTurned {e : Sights} (event : Event) (ds : List (NamedTable e)) (ts : List Table) : Type 0 where
  news : List Table
  events : InEach e.workers event ts news
  shown : ShowTables ds news

-- each table shows what it showed
shown-turned : {e : Sights} (r : ℕ) (b : Bool) (cs ds : List (NamedTable e)) (ts : List Table) → map (λ d. d.name) ds ≡ map (λ c. c.name) cs → ((j : ℕ) (t v : e.Table) → slice_get (map (λ c. c.table) cs) j ≡ Some t → slice_get (map (λ d. d.table) ds) j ≡ Some v → TurnsTable e r b t v) → ShowTables cs ts → AreTurned (session_event r b) ds ts
shown-turned r b [] [] [] n f h = record { news = []; events = tt; shown = tt }
shown-turned r b [] [] (t ∷ ts) n f h = absurd h
shown-turned r b [] (d ∷ ds) ts n f h = absurd (cc)
shown-turned r b (c ∷ cs) [] ts n f h = absurd (cc)
shown-turned r b (c ∷ cs) (d ∷ ds) [] n f h = absurd h
shown-turned {e} r b (c ∷ cs) (d ∷ ds) (t ∷ ts) n f h =
    let x = f 0 c.table d.table refl refl in
    let name : d.name ≡ c.name = cc in
    let names : map (λ d. d.name) ds ≡ map (λ c. c.name) cs = cc in
    let rest = shown-turned r b cs ds ts names (λ j s u p q. f (suc j) s u p q) h.1 in
    record {
      news = record t { cluster = (e.seen d.table).cluster } ∷ rest.news;
      events = (refl, λ q. subst (λ (s : Cluster). Makes s (session_event r b ∷ []) (e.seen d.table).cluster) (sym (h.0.cluster q)) (x.events q), rest.events);
      shown = (record { name = h.0.name ∙ sym name; cluster = λ q. refl; shows = x.shows t.state h.0.shows }, rest.shown);
    }

-- each table is at all replicas, of which the others are up
pub all-turned : (e : Sights) (count i : ℕ) (up : List Bool) (b : Bool) (cs ds : List e.Table) → i < count → i < length up → length ds ≡ length cs → ((j : ℕ) (t v : e.Table) → slice_get cs j ≡ Some t → slice_get ds j ≡ Some v → TurnsTable e (suc i) b t v) → Each (IsAtAll e count up) cs → Each (IsAtAll e count (slice_set up i b)) ds
all-turned e count i up b [] [] l m n f h = tt
all-turned e count i up b [] (d ∷ ds) l m n f h = absurd (omega (arith, n))
all-turned e count i up b (c ∷ cs) [] l m n f h = absurd (omega (arith, n))
all-turned e count i up b (c ∷ cs) (d ∷ ds) l m n f h =
    let x = f 0 c d refl refl in (
      record {
        all = x.all ∙ h.0.all;
        ups_are = fun_ext (λ k. x.turns.ups k ∙ (ap (λ (g : ℕ → Bool). cond (nat_eq (suc i) k) b (g k)) h.0.ups_are ∙ sym (up-set count up i b l m k)));
        free = x.turns.free h.0.free;
      },
      all-turned e count i up b cs ds l m (omega (arith, n)) (λ j s u p q. f (suc j) s u p q) h.1,
    )

-- the same by the replica's number
pub sound-turned : (e : Sights) (count r : ℕ) (up : List Bool) (b : Bool) (olds news : List e.Table) → 1 ≤ r → r ≤ count → count ≤ 8 → length up ≡ 8 → TurnsEach e r b olds news → Each (IsAtAll e count up) olds → Each (IsAtAll e count (slice_set up (r - 1) b)) news
sound-turned e count zero up b olds news some few eight n each all = absurd (omega (arith, some))
sound-turned e count (suc i) up b olds news some few eight n each all =
    subst (λ k. Each (IsAtAll e count (slice_set up k b)) news) (let q : i ≡ suc i - 1 = omega arith in q) (all-turned e count i up b olds news (omega (arith, few)) (omega (arith, few, eight, n)) each.all each.each all)

pub marks-set : (up : List Bool) (i : ℕ) (b : Bool) → length (slice_set up i b) ≡ length up
marks-set [] i b = refl
marks-set (c ∷ up) zero b = refl
marks-set (c ∷ up) (suc i) b = ap suc (marks-set up i b)

-- the replica is up in the table at a place, or down there, as it is for the player
pub up-at : (e : Sights) (count : ℕ) (up : List Bool) (tables : List e.Table) (i : ℕ) (x : e.Table) (r : ℕ) (b : Bool) → Each (IsAtAll e count up) tables → slice_get tables i ≡ Some x → is_up count up r ≡ b → (e.seen x).ups r ≡ b
up-at e count up tables i x r b all q h = ap (λ (f : ℕ → Bool). f r) (each-get (IsAtAll e count up) tables i x q all).ups_are ∙ h

-- no insert is under way there
pub free-at : (e : Sights) (count : ℕ) (up : List Bool) (tables : List e.Table) (i : ℕ) (x : e.Table) → Each (IsAtAll e count up) tables → slice_get tables i ≡ Some x → (e.seen x).free
free-at e count up tables i x all q = (each-get (IsAtAll e count up) tables i x q all).free

-- ---- table after table

-- those before a place are turned, the others are as they were
pub record IsTurning (e : Sights) (r : ℕ) (b : Bool) (olds : List e.Table) (i : ℕ) (news : List e.Table) : Type 0 where
  pub all : length news ≡ length olds
  pub turned_ones : (j : ℕ) (s u : e.Table) → j < i → slice_get olds j ≡ Some s → slice_get news j ≡ Some u → TurnsTable e r b s u
  pub rest : (j : ℕ) → i ≤ j → slice_get news j ≡ slice_get olds j

pub turning-none : (e : Sights) (r : ℕ) (b : Bool) (olds : List e.Table) → IsTurning e r b olds 0 olds
turning-none e r b olds = record { all = refl; turned_ones = λ j s u l p q. absurd (omega (arith, l)); rest = λ j l. refl }

length-set : {A : Type 0} (xs : List A) (i : ℕ) (x : A) → length (slice_set xs i x) ≡ length xs
length-set [] i x = refl
length-set (y ∷ xs) zero x = refl
length-set (y ∷ xs) (suc i) x = ap suc (length-set xs i x)

get-same : {A : Type 0} (xs : List A) (i : ℕ) (x : A) → i < length xs → slice_get (slice_set xs i x) i ≡ Some x
get-same [] i x l = absurd (omega (arith, l))
get-same (y ∷ xs) zero x l = refl
get-same (y ∷ xs) (suc i) x l = get-same xs i x (omega (arith, l))

get-other : {A : Type 0} (xs : List A) (i j : ℕ) (x : A) → (i ≡ j → ⊥) → slice_get (slice_set xs i x) j ≡ slice_get xs j
get-other [] i j x n = refl
get-other (y ∷ xs) zero zero x n = absurd (n refl)
get-other (y ∷ xs) zero (suc j) x n = refl
get-other (y ∷ xs) (suc i) zero x n = refl
get-other (y ∷ xs) (suc i) (suc j) x n = get-other xs i j x (λ e. n (ap suc e))

-- one more
pub turning-more : (e : Sights) (r : ℕ) (b : Bool) (olds news : List e.Table) (i : ℕ) (s u : e.Table) → IsTurning e r b olds i news → slice_get news i ≡ Some s → TurnsTable e r b s u → IsTurning e r b olds (i + 1) (slice_set news i u)
turning-more e r b olds news i s u f k t = record {
  all = length-set news i u ∙ f.all;
  turned_ones = λ j x y l p q. go j x y (cases j l) p q;
  rest = λ j l. get-other news i j u (λ q. absurd (omega (arith, q, l))) ∙ f.rest j (omega (arith, l));
}
  where
    cases : (j : ℕ) → j < i + 1 → (j < i) ⊎ (i ≡ j)
    cases j l = grind (arith, l)

    go : (j : ℕ) (x y : e.Table) → (j < i) ⊎ (i ≡ j) → slice_get olds j ≡ Some x → slice_get (slice_set news i u) j ≡ Some y → TurnsTable e r b x y
    go j x y (inl l) p q = f.turned_ones j x y l p (sym (get-other news i j u (λ m. absurd (omega (arith, l, m)))) ∙ q)
    go j x y (inr m) p q =
        let old : x ≡ s = some-same x s (sym p ∙ (ap (slice_get olds) (sym m) ∙ (sym (f.rest i (omega arith)) ∙ k))) in
        let new : u ≡ y = some-same u y (sym (get-same news i u (get-below news i s k)) ∙ (ap (slice_get (slice_set news i u)) m ∙ q)) in
        subst (λ (z : e.Table). TurnsTable e r b z y) (sym old) (subst (TurnsTable e r b s) new t)

-- all are turned
pub turning-ends : (e : Sights) (r : ℕ) (b : Bool) (olds news : List e.Table) (i : ℕ) → length olds ≤ i → IsTurning e r b olds i news → TurnsEach e r b olds news
turning-ends e r b olds news i l f = record { all = f.all; each = λ j s u p q. f.turned_ones j s u (let m = get-below olds j s p in omega (arith, l, m)) p q }

-- ---- the world

-- the tables of the world, once the replica is up, or down
tables-turned : {e : Sights} (p q : PlayerView e) (w : World) (r : ℕ) (b : Bool) → TurnsAll p r b q → IsIn p w → AreTurned (session_event r b) q.tables w.tables
tables-turned p q w r b f i = shown-turned r b p.tables q.tables w.tables f.names f.each.each i.tables

-- the player is in the world in which the replica is up, or down
turned : {e : Sights} (p q : PlayerView e) (w : World) (r : ℕ) (b : Bool) → 1 ≤ r → r ≤ p.replicas → p.replicas ≤ 8 → length p.up ≡ 8 → (f : TurnsAll p r b q) → (i : IsIn p w) → IsIn q (record w { up = with_up w.up r b; tables = (tables-turned p q w r b f i).news })
turned {e} p q w r b some few eight n f i = go r some few f.rest (tables-turned p q w r b f i).news (tables-turned p q w r b f i).shown
  where
    go : (r : ℕ) → 1 ≤ r → r ≤ p.replicas → q ≡ record p { up = slice_set p.up (r - 1) b; tables = q.tables } → (news : List Table) → ShowTables q.tables news → IsIn q (record w { up = with_up w.up r b; tables = news })
    go zero some few rest news shown = absurd (omega (arith, some))
    go (suc m) some few rest news shown = subst (λ (x : PlayerView e). IsIn x (record w { up = with_up w.up (suc m) b; tables = news })) (sym rest) (record {
      replicas = i.replicas;
      up = ap (λ (g : ℕ → Bool). with_up g (suc m) b) i.up ∙ subst (λ k. with_up (is_up p.replicas p.up) (suc m) b ≡ is_up p.replicas (slice_set p.up k b)) (let e : m ≡ suc m - 1 = omega arith in e) (sym (fun_ext (up-set p.replicas p.up m b (omega (arith, few)) (omega (arith, few, eight, n)))));
      tables = shown;
    })

alone : (o : Option Refusal) → first_of (o ∷ []) ≡ o
alone None = refl
alone (Some refusal) = refl

-- the replica of a name
there : {e : Sights} (p : PlayerView e) (w : World) (name : List ℕ) (r : ℕ) → IsIn p w → replica_of p.replicas name ≡ Some r → replica_of w.replicas name ≡ Some r
there p w name r i e = ap (λ n. replica_of n name) i.replicas ∙ e

kill-found : {e : Sights} (p : PlayerView e) (w : World) (name : List ℕ) (r : ℕ) → IsIn p w → replica_of p.replicas name ≡ Some r → first_of (kill_refusals w name) ≡ cond (is_up p.replicas p.up r) None (Some (ReplicaDown r))
kill-found p w name r i e =
    ap (λ (o : Option ℕ). first_of (refused_name o (Some name) ∷ refused_down w.up o ∷ [])) (there p w name r i e)
    ∙ (alone (refused_down w.up (Some r)) ∙ ap (λ (g : ℕ → Bool). cond (g r) None (Some (ReplicaDown r))) i.up)

restart-found : {e : Sights} (p : PlayerView e) (w : World) (name : List ℕ) (r : ℕ) → IsIn p w → replica_of p.replicas name ≡ Some r → first_of (restart_refusals w name) ≡ cond (is_up p.replicas p.up r) (Some (ReplicaUp r)) None
restart-found p w name r i e =
    ap (λ (o : Option ℕ). first_of (refused_name o (Some name) ∷ refused_up w.up o ∷ [])) (there p w name r i e)
    ∙ (alone (refused_up w.up (Some r)) ∙ ap (λ (g : ℕ → Bool). cond (g r) (Some (ReplicaUp r)) None) i.up)

-- KILL
pub kills : {e : Sights} (p q : PlayerView e) (name : List ℕ) (r : ℕ) → replica_of p.replicas name ≡ Some r → 1 ≤ r → r ≤ p.replicas → p.replicas ≤ 8 → length p.up ≡ 8 → is_up p.replicas p.up r ≡ true → TurnsAll p r false q → Moves p (ExecutesKill e.workers name lines.Okay) q
kills {e} p q name r k some few eight n up f w i = record {
  world = record w { up = with_up w.up r false; tables = (tables-turned p q w r false f i).news };
  holds = record {
    at = w;
    rests = rests-all-none e.workers w;
    change = subst (λ (o : Option Refusal). MatchOption o (Turns e.workers w name false lines.Okay (record w { up = with_up w.up r false; tables = (tables-turned p q w r false f i).news })) (λ refusal. Refuses w refusal lines.Okay (record w { up = with_up w.up r false; tables = (tables-turned p q w r false f i).news })))
        (sym (kill-found p w name r i k ∙ ap (λ (b : Bool). cond b None (Some (ReplicaDown r))) up))
        (record { replica = r; at = there p w name r i k; reply = refl; tables = (tables-turned p q w r false f i).news; events = (tables-turned p q w r false f i).events; change = refl });
  };
  is_in = turned p q w r false some few eight n f i;
}

pub kill-down : {e : Sights} (p : PlayerView e) (name : List ℕ) (r : ℕ) → replica_of p.replicas name ≡ Some r → is_up p.replicas p.up r ≡ false → Moves p (ExecutesKill e.workers name (lines.Refused (ReplicaDown r))) p
kill-down {e} p name r k down = stays p (ExecutesKill e.workers name (lines.Refused (ReplicaDown r))) (λ w i.
    subst (λ (o : Option Refusal). MatchOption o (Turns e.workers w name false (lines.Refused (ReplicaDown r)) w) (λ refusal. Refuses w refusal (lines.Refused (ReplicaDown r)) w)) (sym (kill-found p w name r i k ∙ ap (λ (b : Bool). cond b None (Some (ReplicaDown r))) down))
    (record { reply = refl; unchanged = refl }))

pub kill-unknown : {e : Sights} (p : PlayerView e) (name : List ℕ) → replica_of p.replicas name ≡ None → Moves p (ExecutesKill e.workers name (lines.Refused (UnknownReplica name))) p
kill-unknown {e} p name k = stays p (ExecutesKill e.workers name (lines.Refused (UnknownReplica name))) (λ w i.
    subst (λ (o : Option Refusal). MatchOption o (Turns e.workers w name false (lines.Refused (UnknownReplica name)) w) (λ refusal. Refuses w refusal (lines.Refused (UnknownReplica name)) w))
    (sym (ap (λ (o : Option ℕ). first_of (refused_name o (Some name) ∷ refused_down w.up o ∷ [])) (ap (λ n. replica_of n name) i.replicas ∙ k)))
    (record { reply = refl; unchanged = refl }))

-- RESTART
pub restarts : {e : Sights} (p q : PlayerView e) (name : List ℕ) (r : ℕ) → replica_of p.replicas name ≡ Some r → 1 ≤ r → r ≤ p.replicas → p.replicas ≤ 8 → length p.up ≡ 8 → is_up p.replicas p.up r ≡ false → TurnsAll p r true q → Moves p (ExecutesRestart e.workers name lines.Okay) q
restarts {e} p q name r k some few eight n down f w i = record {
  world = record w { up = with_up w.up r true; tables = (tables-turned p q w r true f i).news };
  holds = record {
    at = w;
    rests = rests-all-none e.workers w;
    change = subst (λ (o : Option Refusal). MatchOption o (Turns e.workers w name true lines.Okay (record w { up = with_up w.up r true; tables = (tables-turned p q w r true f i).news })) (λ refusal. Refuses w refusal lines.Okay (record w { up = with_up w.up r true; tables = (tables-turned p q w r true f i).news })))
        (sym (restart-found p w name r i k ∙ ap (λ (b : Bool). cond b (Some (ReplicaUp r)) None) down))
        (record { replica = r; at = there p w name r i k; reply = refl; tables = (tables-turned p q w r true f i).news; events = (tables-turned p q w r true f i).events; change = refl });
  };
  is_in = turned p q w r true some few eight n f i;
}

pub restart-up : {e : Sights} (p : PlayerView e) (name : List ℕ) (r : ℕ) → replica_of p.replicas name ≡ Some r → is_up p.replicas p.up r ≡ true → Moves p (ExecutesRestart e.workers name (lines.Refused (ReplicaUp r))) p
restart-up {e} p name r k up = stays p (ExecutesRestart e.workers name (lines.Refused (ReplicaUp r))) (λ w i.
    subst (λ (o : Option Refusal). MatchOption o (Turns e.workers w name true (lines.Refused (ReplicaUp r)) w) (λ refusal. Refuses w refusal (lines.Refused (ReplicaUp r)) w)) (sym (restart-found p w name r i k ∙ ap (λ (b : Bool). cond b (Some (ReplicaUp r)) None) up))
    (record { reply = refl; unchanged = refl }))

pub restart-unknown : {e : Sights} (p : PlayerView e) (name : List ℕ) → replica_of p.replicas name ≡ None → Moves p (ExecutesRestart e.workers name (lines.Refused (UnknownReplica name))) p
restart-unknown {e} p name k = stays p (ExecutesRestart e.workers name (lines.Refused (UnknownReplica name))) (λ w i.
    subst (λ (o : Option Refusal). MatchOption o (Turns e.workers w name true (lines.Refused (UnknownReplica name)) w) (λ refusal. Refuses w refusal (lines.Refused (UnknownReplica name)) w))
    (sym (ap (λ (o : Option ℕ). first_of (refused_name o (Some name) ∷ refused_up w.up o ∷ [])) (ap (λ n. replica_of n name) i.replicas ∙ k)))
    (record { reply = refl; unchanged = refl }))

-- REPLICAS
eight : (i : ℕ) → i < 8 → slice_index_or (replicate 8 true) i false ≡ true
eight zero l = refl
eight (suc zero) l = refl
eight (suc (suc zero)) l = refl
eight (suc (suc (suc zero))) l = refl
eight (suc (suc (suc (suc zero)))) l = refl
eight (suc (suc (suc (suc (suc zero))))) l = refl
eight (suc (suc (suc (suc (suc (suc zero)))))) l = refl
eight (suc (suc (suc (suc (suc (suc (suc zero))))))) l = refl
eight (suc (suc (suc (suc (suc (suc (suc (suc i)))))))) l = absurd (omega (arith, l))

all-up : (count : ℕ) → count ≤ 8 → (k : ℕ) → all_up count k ≡ is_up count (replicate 8 true) k
all-up count l zero = refl
all-up count l (suc i) = go (nat_lt i count) refl
  where
    go : (b : Bool) → nat_lt i count ≡ b → (nat_le 1 (suc i) && nat_le (suc i) count) ≡ (nat_lt i count && slice_index_or (replicate 8 true) i false)
    go true k =
        let first : nat_le 1 (suc i) ≡ true = grind (arith, nat_tests) in
        let here : nat_le (suc i) count ≡ true = grind (arith, nat_tests) in
        let below : i < 8 = grind (arith, nat_tests) in
        (ap (λ (b : Bool). b && nat_le (suc i) count) first ∙ here) ∙ sym (ap (λ (b : Bool). b && slice_index_or (replicate 8 true) i false) k ∙ eight i below)
    go false k =
        let first : nat_le 1 (suc i) ≡ true = grind (arith, nat_tests) in
        let here : nat_le (suc i) count ≡ false = grind (arith, nat_tests) in
        (ap (λ (b : Bool). b && nat_le (suc i) count) first ∙ here) ∙ sym (ap (λ (b : Bool). b && slice_index_or (replicate 8 true) i false) k)

pub counts : {e : Sights} (p q : PlayerView e) (count : ℕ) → count ≤ 8 → q ≡ record p { replicas = count; up = replicate 8 true } → Moves p (λ w v. Counts w count lines.Okay v) q
counts {e} p q count l k w i = record {
  world = record w { replicas = count; up = all_up count };
  holds = record { at = w; rests = rests-all-none e.workers w; change = record { reply = refl; change = refl } };
  is_in = subst (λ (x : PlayerView e). IsIn x (record w { replicas = count; up = all_up count })) (sym k) (record { replicas = refl; up = fun_ext (all-up count l); tables = i.tables });
}
