-- What becomes of a world as an act is done in one of its tables.
use Rattle.std.proofs.Common.{◌≡◌, ◌∙◌, ℕ, List, [], ◌∷◌, refl, ap, sym, subst}
use Rattle.std.specs.Prelude.{◌≢◌, ◌^◌, ◌&&◌, nat_le, nat_lt, Bool, true, false, cond, codes, MatchOption}
use Rattle.std.specs.declared.option.Option.{Option}
use Rattle.std.specs.declared.option.Option.TheVariants.{Some, None}
use Rattle.rmt_model.specs.Words.{Each}
use Rattle.rmt_events.specs.Clusters.{Cluster}
use Rattle.rmt_statements.specs.declared.act.Act.{Act}
use Rattle.rmt_statements.specs.declared.act.Act.TheVariants as acts
use Rattle.rmt_statements.specs.declared.sent.Sent.{Sent}
use Rattle.rmt_statement_model.specs.TableStates.{TableState}
use Rattle.rmt_reply.specs.declared.line.Line.{Line}
use Rattle.rmt_reply.specs.declared.line.Line.TheVariants as lines
use Rattle.rmt_reply.specs.declared.refusal.Refusal.{Refusal}
use Rattle.rmt_reply.specs.declared.refusal.Refusal.TheVariants.{UnknownTable, WrongType}
use Rattle.rmt_play.specs.World.{Table, World}
use Rattle.rmt_play.specs.ActRefusals.{act_refusal, act_refusals, down_refusal, id_refusal, stopped_refusal}
use Rattle.rmt_play.specs.Checks.{first_of, table_of, table_named, replica_at, unknown_replica, refused_without, refused_name, refused_act, sent_refusals, refused_turns, run_refusals}
use Rattle.rmt_cluster.specs.Runs.{RunsAll}
use Rattle.rmt_play.specs.ActEvents.{ActEvents}
use Rattle.rmt_play.specs.RunStatement.{RunsTurns}
use Rattle.rmt_play.specs.Plays.{ExecutesSent, PerformsSent, RunsIn, Refuses, with_table}
use Rattle.rmt_play.specs.WorldRests.{RestsAll}
use Rattle.rmt_play.specs.PlayerSteps.{Sights, NamedTable, PlayerView, IsAtAll, IsIn, ComesTo, RestsFirst, Moves, ActsAt, RunsAt, ExecutesRun}
use Rattle.rmt_play.proofs.FoundTables.{IsPlaceOf, HasNone}
use Rattle.rmt_play.specs.ActSteps.{DoesAct, Declines, refusal_there, held_refusal, ExecutesAct, ExecutesIn, ExecutesAt, ExecutesThere}
use Rattle.rmt_acting.specs.Acting.{Sight, LeadsTo, RestsThen}
use Rattle.rmt_play.specs.Acts.{Acts}
use Rattle.rmt_play.proofs.SightLemmas.{brings-on}
use Rattle.rmt_play.proofs.RefusedActs.{held-none, held-up}
use Rattle.rmt_play.proofs.TableLemmas.{stays, FoundIn, each-get, found-in, none-in, rests-one, found-put, with-again}

-- ---- acts at a replica

-- an act that its replica doesn't hold back is refused for its own cause
up-refusals : (up : ℕ → Bool) (t : TableState) (r : ℕ) (act : Act) → up r ≡ true → stopped_refusal t.fetching r act ≡ None → first_of (act_refusals up t r act) ≡ refusal_there t act
up-refusals up t r act h p = own act (down act) p
  where
    -- it isn't refused for the replica
    down : (act : Act) → down_refusal up r act ≡ None
    down (acts.Insert insert) = refl
    down (acts.Select table query mode) = rw h refl
    down (acts.Explain table query) = rw h refl
    down (acts.Mutate table command) = rw h refl
    down (acts.DropPartition table word) = rw h refl
    down (acts.Optimize table word) = rw h refl
    down (acts.ShowParts table) = rw h refl
    down (acts.CheckTable table) = rw h refl
    down (acts.WaitMutation table id) = rw h refl
    down (acts.SyncReplica table) = rw h refl
    down (acts.RestartReplica table) = rw h refl
    down (acts.StopFetches table) = rw h refl
    down (acts.StartFetches table) = rw h refl

    -- its own is the first, or the last
    two : (o d q : Option Refusal) → d ≡ None → q ≡ None → first_of (o ∷ d ∷ q ∷ None ∷ []) ≡ o
    two None d q e f = rw (e, f) refl
    two (Some why) d q e f = refl

    last : (o d q : Option Refusal) → d ≡ None → q ≡ None → first_of (None ∷ d ∷ q ∷ o ∷ []) ≡ o
    last None d q e f = rw (e, f) refl
    last (Some why) d q e f = rw (e, f) refl

    own : (act : Act) → down_refusal up r act ≡ None → stopped_refusal t.fetching r act ≡ None → first_of (act_refusals up t r act) ≡ refusal_there t act
    own (acts.Insert insert) d q = two (act_refusal t (acts.Insert insert)) None None refl refl
    own (acts.Select table query mode) d q = two (act_refusal t (acts.Select table query mode)) (down_refusal up r (acts.Select table query mode)) (stopped_refusal t.fetching r (acts.Select table query mode)) d q
    own (acts.Explain table query) d q = two (act_refusal t (acts.Explain table query)) (down_refusal up r (acts.Explain table query)) None d refl
    own (acts.Mutate table command) d q = two (act_refusal t (acts.Mutate table command)) (down_refusal up r (acts.Mutate table command)) None d refl
    own (acts.DropPartition table word) d q = two (act_refusal t (acts.DropPartition table word)) (down_refusal up r (acts.DropPartition table word)) None d refl
    own (acts.Optimize table word) d q = two (act_refusal t (acts.Optimize table word)) (down_refusal up r (acts.Optimize table word)) (stopped_refusal t.fetching r (acts.Optimize table word)) d q
    own (acts.ShowParts table) d q = two None (down_refusal up r (acts.ShowParts table)) None d refl
    own (acts.CheckTable table) d q = two None (down_refusal up r (acts.CheckTable table)) None d refl
    own (acts.WaitMutation table id) d q = last (id_refusal t (acts.WaitMutation table id)) (down_refusal up r (acts.WaitMutation table id)) (stopped_refusal t.fetching r (acts.WaitMutation table id)) d q
    own (acts.SyncReplica table) d q = two None (down_refusal up r (acts.SyncReplica table)) (stopped_refusal t.fetching r (acts.SyncReplica table)) d q
    own (acts.RestartReplica table) d q = two None (down_refusal up r (acts.RestartReplica table)) None d refl
    own (acts.StopFetches table) d q = two None (down_refusal up r (acts.StopFetches table)) None d refl
    own (acts.StartFetches table) d q = two None (down_refusal up r (acts.StartFetches table)) None d refl

-- so it does there what it does where nothing holds the replica
pub there-up : {w : Bool} (s u : Sight w) (r : ℕ) (act : Act) (line : Line) → held_refusal s r act ≡ None → ExecutesIn s r act line u → ExecutesThere s r act line u
there-up s u r act line e f =
    let free = held-none s r act e in
    brings-on s u (ExecutesAct s r act line u) (ExecutesAt s r act line u)
    (λ t v known shown c.
    let stopped : stopped_refusal t.fetching r act ≡ None = ap (λ (g : ℕ → Bool). stopped_refusal g r act) known.fetching ∙ (sym (held-up s r act free.up) ∙ e) in
    subst (λ (o : Option Refusal). MatchOption o (DoesAct s t r act line u v) (Declines s t line u v)) (sym (up-refusals s.ups t r act free.up stopped)) c) f

-- ---- in the world

alone : (o : Option Refusal) → first_of (o ∷ []) ≡ o
alone None = refl
alone (Some refusal) = refl

-- the refusals of what is sent to a table that is there
refusals-found : (w : World) (sent : Sent) (t : Table) → table_of w.tables (table_named sent.act) ≡ Some t → first_of (sent_refusals w sent) ≡ first_of (unknown_replica w.replicas sent.replica ∷ refused_act w.up (Some t) (replica_at w.replicas sent.replica) sent.act ∷ [])
refusals-found w sent t e = ap (λ (o : Option Table). first_of (refused_without o (table_named sent.act) ∷ unknown_replica w.replicas sent.replica ∷ refused_act w.up o (replica_at w.replicas sent.replica) sent.act ∷ [])) e

refusals-there : (w : World) (sent : Sent) (t : Table) (r : ℕ) → table_of w.tables (table_named sent.act) ≡ Some t → replica_at w.replicas sent.replica ≡ Some r → first_of (sent_refusals w sent) ≡ first_of (act_refusals w.up t.state r sent.act)
refusals-there w sent t r e at =
    refusals-found w sent t e
    ∙ (ap (λ (o : Option ℕ). first_of (refused_name o sent.replica ∷ refused_act w.up (Some t) o sent.act ∷ [])) at ∙ alone (first_of (act_refusals w.up t.state r sent.act)))

-- the table at the place of a name
pub found-at : {e : Sights} (p : PlayerView e) (w : World) (name : List ℕ) (place : ℕ) → IsIn p w → (f : IsPlaceOf p.tables name place) → FoundIn p.tables w.tables name place f.table
found-at p w name place i f = found-in p.tables w.tables name place f.table f.there f.named f.first i.tables

-- an act that is done in its table, once that rested
pub sends : {e : Sights} (old new : PlayerView e) (sent : Sent) (place replica : ℕ) (line : Line) → Each (λ t. IsAtAll e old.replicas old.up t.table) old.tables → IsPlaceOf old.tables (table_named sent.act) place → replica_at old.replicas sent.replica ≡ Some replica
    → ActsAt old place replica sent.act line new → Moves old (ExecutesSent e.workers sent line) new
sends {e} old new sent place replica line all p at a w i =
    go (first_of (act_refusals w.up rested replica sent.act)) refused (subst (λ (up : ℕ → Bool). MatchOption (first_of (act_refusals up rested replica sent.act)) (Acts e.workers up rested replica sent.act line led.state × (e.workers ≡ false → ActEvents s.cluster replica sent.act line u.cluster)) (Declines s rested line u led.state)) ups-are led.holds.change)
  where
    same : p.table ≡ a.table
    same = let q = sym p.there ∙ a.there in cc

    name : List ℕ
    name = table_named sent.act

    f : FoundIn old.tables w.tables (table_named sent.act) place a.table
    f = subst (FoundIn old.tables w.tables (table_named sent.act) place) same (found-at old w (table_named sent.act) place i p)

    s : Sight e.workers
    s = e.seen a.table.table

    u : Sight e.workers
    u = e.seen a.after

    led : LeadsTo u (RestsThen e.workers (ExecutesAt s replica sent.act line u) f.table.state)
    led = a.changes f.table.state f.is.shows

    rested : TableState
    rested = led.holds.at

    before : World
    before = record w { tables = with_table w.tables (table_named sent.act) (record f.table { state = rested }) }

    rests : RestsAll e.workers w before
    rests = rests-one e.workers w (table_named sent.act) f.table rested f.found led.holds.rests

    found : table_of before.tables (table_named sent.act) ≡ Some (record f.table { state = rested })
    found = found-put w.tables (table_named sent.act) f.table (record f.table { state = rested }) f.found refl

    here : replica_at w.replicas sent.replica ≡ Some replica
    here = ap (λ n. replica_at n sent.replica) i.replicas ∙ at

    ups-are : s.ups ≡ w.up
    ups-are = (each-get (λ (t : NamedTable e). IsAtAll e old.replicas old.up t.table) old.tables place a.table a.there all).ups_are ∙ sym i.up

    refused : first_of (sent_refusals before sent) ≡ first_of (act_refusals w.up rested replica sent.act)
    refused = refusals-there before sent (record f.table { state = rested }) replica found here

    is_in : (v : TableState) (x : Cluster) → (e.workers ≡ false → x ≡ u.cluster) → u.shows v → IsIn new (record w { tables = with_table w.tables (table_named sent.act) (record f.table { state = v; cluster = x }) })
    is_in v x n h = subst (λ (q : PlayerView e). IsIn q (record w { tables = with_table w.tables (table_named sent.act) (record f.table { state = v; cluster = x }) })) (sym a.rest)
        (record { replicas = i.replicas; up = i.up; tables = f.set a.after v x n h })

    go : (o : Option Refusal) → first_of (sent_refusals before sent) ≡ o → MatchOption o (Acts e.workers w.up rested replica sent.act line led.state × (e.workers ≡ false → ActEvents s.cluster replica sent.act line u.cluster)) (Declines s rested line u led.state)
        → ComesTo new (RestsFirst e.workers (ExecutesSent e.workers sent line) w)
    go None q k = record {
      world = record w { tables = with_table w.tables (table_named sent.act) (record f.table { state = led.state; cluster = u.cluster }) };
      holds = record {
        at = before;
        rests = rests;
        change = subst (λ (o : Option Refusal). MatchOption o (PerformsSent e.workers before sent line (record w { tables = with_table w.tables (table_named sent.act) (record f.table { state = led.state; cluster = u.cluster }) })) (λ refusal. Refuses before refusal line (record w { tables = with_table w.tables (table_named sent.act) (record f.table { state = led.state; cluster = u.cluster }) }))) (sym q) (record {
          replica = replica;
          at = here;
          acts = record {
            table = record f.table { state = rested };
            found = found;
            after = led.state;
            changes = k.0;
            cluster = u.cluster;
            events = λ n. subst (λ (x : Cluster). ActEvents x replica sent.act line u.cluster) (sym (f.is.cluster n)) (k.1 n);
            rest = ap (λ (ts : List Table). record w { tables = ts }) (sym (with-again w.tables (table_named sent.act) f.table (record f.table { state = rested }) (record f.table { state = led.state; cluster = u.cluster }) f.found refl));
          };
        });
      };
      is_in = is_in led.state u.cluster (λ n. refl) led.shows;
    }
    go (Some refusal) q k = record {
      world = before;
      holds = record {
        at = before;
        rests = rests;
        change = subst (λ (o : Option Refusal). MatchOption o (PerformsSent e.workers before sent line before) (λ refusal. Refuses before refusal line before)) (sym q) (record { reply = k.0; unchanged = refl });
      };
      is_in = is_in rested f.table.cluster (λ n. f.is.cluster n ∙ sym (k.2 n)) (subst u.shows k.1 led.shows);
    }

-- a table that isn't there
pub no-table : {e : Sights} (p : PlayerView e) (sent : Sent) (line : Line) → HasNone p.tables (table_named sent.act) → line ≡ lines.Refused (UnknownTable (table_named sent.act)) → Moves p (ExecutesSent e.workers sent line) p
no-table {e} p sent line none q = stays p (ExecutesSent e.workers sent line) (λ w i.
    subst (λ (o : Option Refusal). MatchOption o (PerformsSent e.workers w sent line w) (λ refusal. Refuses w refusal line w))
    (sym (ap (λ (o : Option Table). first_of (refused_without o (table_named sent.act) ∷ unknown_replica w.replicas sent.replica ∷ refused_act w.up o (replica_at w.replicas sent.replica) sent.act ∷ [])) (none-in p.tables w.tables (table_named sent.act) none i.tables)))
    (record { reply = q; unchanged = refl }))

-- a replica that isn't there
pub no-replica : {e : Sights} (p : PlayerView e) (sent : Sent) (place : ℕ) (refusal : Refusal) (line : Line) → IsPlaceOf p.tables (table_named sent.act) place → unknown_replica p.replicas sent.replica ≡ Some refusal → line ≡ lines.Refused refusal → Moves p (ExecutesSent e.workers sent line) p
no-replica {e} p sent place refusal line f unknown q = stays p (ExecutesSent e.workers sent line) (λ w i.
    let t = found-at p w (table_named sent.act) place i f in
    subst (λ (o : Option Refusal). MatchOption o (PerformsSent e.workers w sent line w) (λ refusal. Refuses w refusal line w))
    (sym (refusals-found w sent t.table t.found
    ∙ ap (λ (o : Option Refusal). first_of (o ∷ refused_act w.up (Some t.table) (replica_at w.replicas sent.replica) sent.act ∷ [])) (ap (λ n. unknown_replica n sent.replica) i.replicas ∙ unknown)))
    (record { reply = q; unchanged = refl }))

-- ---- RUN

-- the refusals of a RUN in a table that is there
pub runs-found : (w : World) (name : List ℕ) (turns seed : ℕ) (t : Table) → table_of w.tables name ≡ Some t → first_of (run_refusals w name turns seed) ≡ refused_turns turns seed
runs-found w name turns seed t q =
    ap (λ (o : Option Table). first_of (refused_without o name ∷ refused_turns turns seed ∷ [])) q ∙ alone (refused_turns turns seed)

-- background work that is done in its table
pub runs : {e : Sights} (old new : PlayerView e) (name : List ℕ) (turns seed place : ℕ) (line : Line) → Each (λ t. IsAtAll e old.replicas old.up t.table) old.tables → IsPlaceOf old.tables name place → refused_turns turns seed ≡ None → RunsAt old place turns seed line new → Moves old (ExecutesRun e.workers name turns seed line) new
runs {e} old new name turns seed place line all p q a w i = record {
  world = after;
  holds = record {
    at = before;
    rests = rests-one e.workers w name f.table led.holds.at f.found led.holds.rests;
    change = subst (λ (o : Option Refusal). MatchOption o (RunsIn e.workers before name turns seed line after) (λ refusal. Refuses before refusal line after)) (sym (runs-found before name turns seed (record f.table { state = led.holds.at }) found ∙ q)) (record {
      table = record f.table { state = led.holds.at };
      found = found;
      after = led.state;
      changes = subst (λ (up : ℕ → Bool). RunsTurns e.workers up led.holds.at turns line led.state) ups-are led.holds.change;
      cluster = u.cluster;
      events = λ n. subst (λ (x : Cluster). RunsAll x seed turns u.cluster) (sym (f.is.cluster n)) (a.changes.events n);
      rest = ap (λ (ts : List Table). record w { tables = ts }) (sym (with-again w.tables name f.table (record f.table { state = led.holds.at }) (record f.table { state = led.state; cluster = u.cluster }) f.found refl));
    });
  };
  is_in = subst (λ (x : PlayerView e). IsIn x after) (sym a.rest) (record { replicas = i.replicas; up = i.up; tables = f.set a.after led.state u.cluster (λ n. refl) led.shows });
}
  where
    f : FoundIn old.tables w.tables name place a.table
    f = subst (FoundIn old.tables w.tables name place) (let x = sym p.there ∙ a.there in cc) (found-at old w name place i p)

    s : Sight e.workers
    s = e.seen a.table.table

    u : Sight e.workers
    u = e.seen a.after

    led : LeadsTo u (RestsThen e.workers (λ t v. RunsTurns e.workers s.ups t turns line v) f.table.state)
    led = a.changes.turns_made f.table.state f.is.shows

    before : World
    before = record w { tables = with_table w.tables name (record f.table { state = led.holds.at }) }

    after : World
    after = record w { tables = with_table w.tables name (record f.table { state = led.state; cluster = u.cluster }) }

    found : table_of before.tables name ≡ Some (record f.table { state = led.holds.at })
    found = found-put w.tables name f.table (record f.table { state = led.holds.at }) f.found refl

    ups-are : s.ups ≡ w.up
    ups-are = (each-get (λ (t : NamedTable e). IsAtAll e old.replicas old.up t.table) old.tables place a.table a.there all).ups_are ∙ sym i.up

-- a table that isn't there
pub no-run-table : {e : Sights} (p : PlayerView e) (name : List ℕ) (turns seed : ℕ) → HasNone p.tables name → Moves p (ExecutesRun e.workers name turns seed (lines.Refused (UnknownTable name))) p
no-run-table {e} p name turns seed none = stays p (ExecutesRun e.workers name turns seed (lines.Refused (UnknownTable name))) (λ w i.
    subst (λ (o : Option Refusal). MatchOption o (RunsIn e.workers w name turns seed (lines.Refused (UnknownTable name)) w) (λ refusal. Refuses w refusal (lines.Refused (UnknownTable name)) w))
    (sym (ap (λ (o : Option Table). first_of (refused_without o name ∷ refused_turns turns seed ∷ [])) (none-in p.tables w.tables name none i.tables)))
    (record { reply = refl; unchanged = refl }))

-- turns or a seed out of range
pub no-turns : {e : Sights} (p : PlayerView e) (name : List ℕ) (turns seed place : ℕ) (why : Refusal) (line : Line) → IsPlaceOf p.tables name place → refused_turns turns seed ≡ Some why → line ≡ lines.Refused why → Moves p (ExecutesRun e.workers name turns seed line) p
no-turns {e} p name turns seed place why line f q x = stays p (ExecutesRun e.workers name turns seed line) (λ w i.
    let t = found-at p w name place i f in
    subst (λ (o : Option Refusal). MatchOption o (RunsIn e.workers w name turns seed line w) (λ refusal. Refuses w refusal line w)) (sym (runs-found w name turns seed t.table t.found ∙ q))
    (record { reply = x; unchanged = refl }))

-- the word of that refusal
pub turns-word : (turns seed : ℕ) → refused_turns turns seed ≢ None → refused_turns turns seed ≡ Some (WrongType (codes "RUN"))
turns-word turns seed n = go (nat_le turns 1000000 && nat_lt seed (2 ^ 31)) n
  where
    go : (b : Bool) → ◌≢◌ {A = Option Refusal} (cond b None (Some (WrongType (codes "RUN")))) None → ◌≡◌ {A = Option Refusal} (cond b None (Some (WrongType (codes "RUN")))) (Some (WrongType (codes "RUN")))
    go true m = absurd (m refl)
    go false m = refl
