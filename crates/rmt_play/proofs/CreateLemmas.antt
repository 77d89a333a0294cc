-- What becomes of a world as a table is made, or isn't.
use Rattle.std.proofs.Common.{◌≡◌, ◌∙◌, ℕ, zero, suc, ◌+◌, ◌<◌, ◌≤◌, ◌&&◌, inl, inr, nat_eq, nat_lt, Bool, true, false, cond, List, [], ◌∷◌, ◌++◌, length, map, refl, ap, sym, subst, arith}
use Rattle.std.proofs.Math.Path.{fun_ext}
use Rattle.std.proofs.lemmas.Bool.Decides.{nat_tests}
use Rattle.std.specs.Prelude.{MatchOption, MatchResult, IfOk, IfErr, cond, is_some, slice_index_or, take}
use Rattle.std.specs.declared.result.Result.{Result}
use Rattle.std.specs.declared.result.Result.TheVariants.{Ok, Err}
use Rattle.std.specs.declared.option.Option.{Option}
use Rattle.std.specs.declared.option.Option.TheVariants.{Some, None}
use Rattle.std.specs.declared.alloc.AllocError.{AllocError}
use Rattle.rmt_values.specs.Rows.{Shape}
use Rattle.rmt_values.specs.declared.schema_error.SchemaError.{SchemaError}
use Rattle.rmt_reply.specs.declared.line.Line.{Line}
use Rattle.rmt_reply.specs.declared.line.Line.TheVariants as lines
use Rattle.rmt_reply.specs.declared.refusal.Refusal.{Refusal}
use Rattle.rmt_reply.specs.declared.refusal.Refusal.TheVariants.{TableExists, Syntax}
use Rattle.rmt_model.specs.Words.{Has}
use Rattle.rmt_events.specs.Views.{Replica}
use Rattle.rmt_events.specs.Clusters.{Cluster, accepted}
use Rattle.rmt_events.specs.Starts.{new_replica}
use Rattle.rmt_cluster.specs.NewClusters.{AreCounted, IsNewCluster}
use Rattle.rmt_statement_model.specs.Shows.{Knows, up_at, fetching_at}
use Rattle.rmt_play.specs.declared.answer.Answer.{Answer}
use Rattle.rmt_play.specs.declared.answer.Answer.TheVariants as answers
use Rattle.rmt_play.specs.World.{Table, World, new_table}
use Rattle.rmt_play.specs.Checks.{first_of, refused_with, refused_schema, refused_columns, too_many_tables, create_refusals, is_played, refusals, refusal_of}
use Rattle.rmt_statements.specs.declared.statement.Statement.{Statement}
use Rattle.rmt_statements.specs.declared.statement.Statement.TheVariants as statements
use Rattle.rmt_play.specs.Plays.{Creates, Performs, Refuses, OneLine, ExecutesStatement, RepliesTo}
use Rattle.rmt_play.specs.PlayerSteps.{Sights, clusters_seen, NamedTable, PlayerView, IsIn, Moves, IsNewTable, is_up, Answers, CreatesNone, HandsOut, IsReplied, refusals_told, ExecutesCreate, ExecutesLine, ExecutesPlayed}
use Rattle.rmt_play.proofs.FoundTables.{IsPlaceOf, HasNone, IsFound}
use Rattle.rmt_play.specs.WorldRests.{RestsAll}
use Rattle.rmt_play.proofs.TableLemmas.{length-shown, append-shown, none-in, none-named, length-named, about-rested, rests-all-none, stays}
use Rattle.rmt_play.proofs.SendLemmas.{found-at}
use Rattle.rmt_play.proofs.ScriptLemmas.{one-refused}

-- a table is added
pub adds : (p : PlayerView clusters_seen) (name : List ℕ) (schema : Shape) (c : Cluster) → IsNewTable schema p.replicas p.up c → Moves p (λ w v. Creates w name schema lines.Okay v) (record p { tables = p.tables ++ record { name = name; table = c } ∷ [] })
adds p name schema c h w i = record {
  world = record w { tables = w.tables ++ new_table name schema c ∷ [] };
  holds = record {
    at = w;
    rests = rests-all-none false w;
    change = record { cluster = c; ups_are = h.ups_given; is_new = h.is_new; counted = h.all ∙ sym i.replicas; are_up = h.ups_are ∙ sym i.up; reply = refl; change = refl };
  };
  is_in = record { replicas = i.replicas; up = i.up; tables = append-shown p.tables w.tables (record { name = name; table = c }) (new_table name schema c) i.tables (record { name = refl; cluster = λ n. refl; shows = h.shows }) };
}

-- a CREATE does so, whatever schema was made or refused
abbrev pub CreatesMade : {e : Sights} → PlayerView e → List ℕ → Result Shape SchemaError → Answer → PlayerView e → Type 0
CreatesMade p name made a q = MatchResult made (λ schema. Answers p (OneLine (ExecutesCreate name None schema)) a q) (λ x. Answers p (OneLine (CreatesNone name x)) a q)

-- what a statement comes to by one relation it comes to by another that follows
pub answers-weaker : {e : Sights} (p q : PlayerView e) (Does More : Line → World → World → Type 0) → ((line : Line) (w at v : World) → IsIn p w → RestsAll e.workers w at → Does line at v → More line at v) → (a : Answer) → Answers p (OneLine Does) a q → Answers p (OneLine More) a q
answers-weaker p q Does More f (answers.Reply line) m = λ w i.
    let x = m w i in
    record { world = x.world; holds = record { at = x.holds.at; rests = x.holds.rests; change = f line w x.holds.at x.world i x.holds.rests x.holds.change }; is_in = x.is_in }
answers-weaker {e} p q Does More f (answers.Lanes reply) m = λ w i.
    let x = m w i in
    record { world = x.world; holds = record { at = x.holds.at; rests = x.holds.rests; change = one reply w x.holds.at x.world i x.holds.rests x.holds.change }; is_in = x.is_in }
  where
    one : (reply : List Line) (w at v : World) → IsIn p w → RestsAll e.workers w at → OneLine Does reply at v → OneLine More reply at v
    one [] w at v i r h = h
    one (line ∷ []) w at v i r h = f line w at v i r h
    one (line ∷ other ∷ more) w at v i r h = h
answers-weaker p q Does More f (answers.Creates table schema) m = (m.0, λ line w at v i r c. f line w at v i r (m.1 line w at v i r c))

-- the name is taken
exists-holds : {e : Sights} (p : PlayerView e) (w : World) (name : List ℕ) (refusal : Option SchemaError) (schema : Shape) (line : Line) (place : ℕ) → IsIn p w → IsPlaceOf p.tables name place → line ≡ lines.Refused (TableExists name) → ExecutesCreate name refusal schema line w w
exists-holds p w name refusal schema line place i f q =
    let t = found-at p w name place i f in
    subst (λ (o : Option Refusal). MatchOption o (Creates w name schema line w) (λ why. Refuses w why line w))
    (sym (ap (λ (o : Option Table). first_of (refused_with o name ∷ refused_schema refusal ∷ too_many_tables (length w.tables) ∷ refused_columns refusal ∷ [])) t.found))
    (record { reply = q; unchanged = refl })

pub exists-already : {e : Sights} (p : PlayerView e) (name : List ℕ) (made : Result Shape SchemaError) (line : Line) (place : ℕ) → IsPlaceOf p.tables name place → line ≡ lines.Refused (TableExists name) → CreatesMade p name made (answers.Reply line) p
exists-already p name (Ok schema) line place f q = stays p (ExecutesCreate name None schema line) (λ w i. exists-holds p w name None schema line place i f q)
exists-already p name (Err refusal) line place f q = stays p (CreatesNone name refusal line) (λ w i schema. exists-holds p w name (Some refusal) schema line place i f q)

-- the refusals of a CREATE whose name is free
free : {e : Sights} (p : PlayerView e) (w at : World) (name : List ℕ) (refusal : Option SchemaError) → IsIn p w → RestsAll e.workers w at → HasNone p.tables name
    → first_of (create_refusals at name refusal) ≡ first_of (refused_schema refusal ∷ too_many_tables (length p.tables) ∷ refused_columns refusal ∷ [])
free {e} p w at name refusal i r none =
    let names = (about-rested e.workers w at r).names in
    ap (λ (o : Option Table). first_of (refused_with o name ∷ refused_schema refusal ∷ too_many_tables (length at.tables) ∷ refused_columns refusal ∷ [])) (none-named w.tables at.tables name names (none-in p.tables w.tables name none i.tables))
    ∙ ap (λ n. first_of (refused_schema refusal ∷ too_many_tables n ∷ refused_columns refusal ∷ [])) (length-named w.tables at.tables names ∙ length-shown p.tables w.tables i.tables)

-- the schema is refused, or there are as many tables as there may be
refused-holds : {e : Sights} (p : PlayerView e) (w : World) (name : List ℕ) (refusal : Option SchemaError) (schema : Shape) (line : Line) (why : Refusal) → IsIn p w → HasNone p.tables name
    → first_of (refused_schema refusal ∷ too_many_tables (length p.tables) ∷ refused_columns refusal ∷ []) ≡ Some why → line ≡ lines.Refused why → ExecutesCreate name refusal schema line w w
refused-holds {e} p w name refusal schema line why i none q k =
    subst (λ (o : Option Refusal). MatchOption o (Creates w name schema line w) (λ why. Refuses w why line w)) (sym (free p w w name refusal i (rests-all-none e.workers w) none ∙ q)) (record { reply = k; unchanged = refl })

-- the schema is refused
pub schema-refused : {e : Sights} (p : PlayerView e) (name : List ℕ) (refusal : SchemaError) (line : Line) (why : Refusal) → HasNone p.tables name
    → first_of (refused_schema (Some refusal) ∷ too_many_tables (length p.tables) ∷ refused_columns (Some refusal) ∷ []) ≡ Some why → line ≡ lines.Refused why
    → Moves p (CreatesNone name refusal line) p
schema-refused p name refusal line why none q k = stays p (CreatesNone name refusal line) (λ w i schema. refused-holds p w name (Some refusal) schema line why i none q k)

full-first : (o : Option Refusal) → first_of (None ∷ o ∷ None ∷ []) ≡ o
full-first None = refl
full-first (Some refusal) = refl

-- there are as many tables as there may be
pub full-refused : {e : Sights} (p : PlayerView e) (name : List ℕ) (schema : Shape) (line : Line) (why : Refusal) → HasNone p.tables name → too_many_tables (length p.tables) ≡ Some why → line ≡ lines.Refused why → Moves p (ExecutesCreate name None schema line) p
full-refused p name schema line why none q k =
    stays p (ExecutesCreate name None schema line) (λ w i. refused-holds p w name None schema line why i none (full-first (too_many_tables (length p.tables)) ∙ q) k)

-- whoever makes the table has played it
pub created : {e : Sights} (p : PlayerView e) (name : List ℕ) (schema : Shape) → HasNone p.tables name → too_many_tables (length p.tables) ≡ None → HandsOut p (OneLine (ExecutesCreate name None schema)) name schema
created p name schema none room line w at v i r m =
    subst (λ (o : Option Refusal). MatchOption o (Creates at name schema line v) (λ why. Refuses at why line v))
    (sym (free p w at name None i r none ∙ (full-first (too_many_tables (length p.tables)) ∙ room))) m

-- ---- by what was made of the columns

pub made-refused : {e : Sights} (p : PlayerView e) (name : List ℕ) (made : Result Shape SchemaError) (refusal : SchemaError) (line : Line) (why : Refusal) → made ≡ Err refusal → HasNone p.tables name
    → first_of (refused_schema (Some refusal) ∷ too_many_tables (length p.tables) ∷ refused_columns (Some refusal) ∷ []) ≡ Some why → line ≡ lines.Refused why → CreatesMade p name made (answers.Reply line) p
made-refused p name made refusal line why m none q k =
    subst (λ (r : Result Shape SchemaError). CreatesMade p name r (answers.Reply line) p) (sym m) (schema-refused p name refusal line why none q k)

pub made-full : {e : Sights} (p : PlayerView e) (name : List ℕ) (made : Result Shape SchemaError) (schema : Shape) (line : Line) (why : Refusal) → made ≡ Ok schema → HasNone p.tables name
    → too_many_tables (length p.tables) ≡ Some why → line ≡ lines.Refused why → CreatesMade p name made (answers.Reply line) p
made-full p name made schema line why m none q k =
    subst (λ (r : Result Shape SchemaError). CreatesMade p name r (answers.Reply line) p) (sym m) (full-refused p name schema line why none q k)

pub made-created : {e : Sights} (p : PlayerView e) (name : List ℕ) (made : Result Shape SchemaError) (schema : Shape) → made ≡ Ok schema → HasNone p.tables name → too_many_tables (length p.tables) ≡ None → CreatesMade p name made (answers.Creates name schema) p
made-created p name made schema m none room =
    subst (λ (r : Result Shape SchemaError). CreatesMade p name r (answers.Creates name schema) p) (sym m) (refl, created p name schema none room)

-- a CREATE of which this schema or this refusal is known
pub create-played : {e : Sights} (p q : PlayerView e) (name : List ℕ) (refusal : Option SchemaError) (schema : Shape) (made : Result Shape SchemaError) (a : Answer) → IfOk made (λ s. s ≡ schema) → IfOk made (λ s. refusal ≡ None)
    → IfErr made (λ x. refusal ≡ Some x) → CreatesMade p name made a q → Answers p (OneLine (ExecutesCreate name refusal schema)) a q
create-played p q name refusal schema (Ok s) a o k f m =
    subst (λ (x : Option SchemaError). Answers p (OneLine (ExecutesCreate name x schema)) a q) (sym k) (subst (λ (x : Shape). Answers p (OneLine (ExecutesCreate name None x)) a q) o m)
create-played p q name refusal schema (Err x) a o k f m =
    answers-weaker p q (CreatesNone name x) (ExecutesCreate name refusal schema) (λ line w at v i r h. subst (λ (y : Option SchemaError). ExecutesCreate name y schema line at v) (sym f) (h schema)) a m

-- a statement that was played
pub replied-answers : {e : Sights} (p q : PlayerView e) (Does : List Line → World → World → Type 0) (r : Result Line AllocError) (s : Result Answer AllocError) → IsReplied r s → IfOk r (λ line. Moves p (Does (line ∷ [])) q) → IfOk s (λ a. Answers p Does a q)
replied-answers p q Does (Ok line) s k m = subst (λ (x : Result Answer AllocError). IfOk x (λ a. Answers p Does a q)) (sym k) m
replied-answers p q Does (Err x) (Ok a) k m = absurd (cc)
replied-answers p q Does (Err x) (Err y) k m = tt

-- and no more of its lines tell of a refusal than one
pub replied-few : (n : ℕ) (r : Result Line AllocError) (s : Result Answer AllocError) → IsReplied r s → 1 ≤ n → IfOk s (λ a. refusals_told a ≤ n)
replied-few n (Ok line) s k most = subst (λ (x : Result Answer AllocError). IfOk x (λ a. refusals_told a ≤ n)) (sym k) (let one = one-refused line in omega (arith, one, most))
replied-few n (Err x) (Ok a) k most = absurd (cc)
replied-few n (Err x) (Err y) k most = tt

-- ---- a statement out of place

pub unplayed-refused : {e : Sights} (p : PlayerView e) (statement : Statement) (first : ℕ) → is_played (length p.tables) statement ≡ false → Moves p (RepliesTo e.workers statement first (lines.Refused (Syntax first) ∷ [])) p
unplayed-refused {e} p (statements.Replicas count) first k = stays p (λ w v. ExecutesStatement e.workers w (statements.Replicas count) first (lines.Refused (Syntax first)) v) (λ w i.
    let refused : refusal_of w (statements.Replicas count) first ≡ Some (Syntax first) =
    ap (λ (b : Bool). first_of (cond b None (Some (Syntax first)) ∷ [])) (ap (λ n. is_played n (statements.Replicas count)) (length-shown p.tables w.tables i.tables) ∙ k) in
    subst (λ (o : Option Refusal). MatchOption o (Performs e.workers w (statements.Replicas count) (lines.Refused (Syntax first)) w) (λ why. Refuses w why (lines.Refused (Syntax first)) w)) (sym refused)
    (record { reply = refl; unchanged = refl }))
unplayed-refused p (statements.Create table columns partition key granularity window) first k = absurd (cc)
unplayed-refused p (statements.Kill name) first k = absurd (cc)
unplayed-refused p (statements.Restart name) first k = absurd (cc)
unplayed-refused p (statements.Run table turns seed) first k = absurd (cc)
unplayed-refused p (statements.Lanes lanes) first k = absurd (cc)
unplayed-refused p (statements.At sent) first k = absurd (cc)

-- ---- one that is played

played-line : {e : Sights} (p q : PlayerView e) (statement : Statement) (first : ℕ) (a : Answer) → is_played (length p.tables) statement ≡ true → Answers p (OneLine (ExecutesLine e.workers statement)) a q → Answers p (OneLine (λ line w v. ExecutesStatement e.workers w statement first line v)) a q
played-line {e} p q statement first a k m =
    answers-weaker p q (ExecutesLine e.workers statement) (λ line w v. ExecutesStatement e.workers w statement first line v)
    (λ line w at v i r h. subst (λ (o : Option Refusal). MatchOption o (Performs e.workers at statement line v) (λ why. Refuses at why line v)) (sym (same w at i r)) h) a m
  where
    same : (w at : World) → IsIn p w → RestsAll e.workers w at → refusal_of at statement first ≡ first_of (refusals at statement)
    same w at i r =
        ap (λ (b : Bool). first_of (cond b None (Some (Syntax first)) ∷ refusals at statement))
        (ap (λ n. is_played n statement) (length-named w.tables at.tables (about-rested e.workers w at r).names ∙ length-shown p.tables w.tables i.tables) ∙ k)

pub played : {e : Sights} (p q : PlayerView e) (statement : Statement) (first : ℕ) (a : Answer) → is_played (length p.tables) statement ≡ true → Answers p (ExecutesPlayed e.workers statement) a q → Answers p (RepliesTo e.workers statement first) a q
played p q (statements.Replicas count) first a k m = played-line p q (statements.Replicas count) first a k m
played p q (statements.Create table columns partition key granularity window) first a k m = played-line p q (statements.Create table columns partition key granularity window) first a k m
played p q (statements.Kill name) first a k m = played-line p q (statements.Kill name) first a k m
played p q (statements.Restart name) first a k m = played-line p q (statements.Restart name) first a k m
played p q (statements.Run table turns seed) first a k m = played-line p q (statements.Run table turns seed) first a k m
played p q (statements.At sent) first a k m = played-line p q (statements.At sent) first a k m
played p q (statements.Lanes lanes) first a k m = m

-- ---- whether a name is taken

pub place-there : {e : Sights} (tables : List (NamedTable e)) (name : List ℕ) (o : Option ℕ) → is_some o ≡ true → IsFound tables name o → (place : ℕ) × IsPlaceOf tables name place
place-there tables name None t m = absurd (cc)
place-there tables name (Some place) t m = (place, m)

pub nothing-there : {e : Sights} (tables : List (NamedTable e)) (name : List ℕ) (o : Option ℕ) → is_some o ≡ false → IsFound tables name o → HasNone tables name
nothing-there tables name None t m = m
nothing-there tables name (Some place) t m = absurd (cc)

-- ---- the cluster of a new table

nothing-known : (number : ℕ) (up : Bool) → Knows (new_replica number up) (λ i. false)
nothing-known number up = record {
  within = λ i l. refl;
  fair = record { apart = tt; made_here = tt; kept = tt; answered = λ a m. absurd m };
}

-- each replica may fetch
all-fetch : (xs : List Replica) → ((x : Replica) → Has xs x → x.fetches ≡ true) → (k : ℕ) → true ≡ fetching_at xs k
all-fetch [] f k = refl
all-fetch (x ∷ xs) f k = go (nat_eq x.number k) x.fetches (f x (inl refl)) (all-fetch xs (λ y h. f y (inr h)) k)
  where
    go : (b c : Bool) → c ≡ true → true ≡ fetching_at xs k → true ≡ cond b c (fetching_at xs k)
    go true c e m = sym e
    go false c e m = m

-- ---- which replicas of a new cluster are up

-- one below all
pub none-below : (xs : List Replica) (k j : ℕ) → AreCounted k xs → j < k → up_at xs j ≡ false
none-below [] k j n l = refl
none-below (x ∷ xs) k j n l =
    let e = n.0 in
    let q : nat_eq x.number j ≡ false = grind (arith, nat_tests) in
    rw q (none-below xs (k + 1) j n.1 (omega (arith, l)))

pub counted-up : (xs : List Replica) (k i : ℕ) → AreCounted k xs → up_at xs (k + i) ≡ slice_index_or (map (λ r. r.up) xs) i false
counted-up [] k i n = refl
counted-up (x ∷ xs) k zero n = let e = n.0 in let q : nat_eq x.number (k + 0) ≡ true = grind (arith, nat_tests) in rw q refl
counted-up (x ∷ xs) k (suc i) n =
    let e = n.0 in
    let q : nat_eq x.number (k + suc i) ≡ false = grind (arith, nat_tests) in
    let m : k + suc i ≡ k + 1 + i = omega arith in
    rw q (ap (λ j. up_at xs j) m ∙ counted-up xs (k + 1) i n.1)

pub index-take : (n : ℕ) (bs : List Bool) (i : ℕ) → slice_index_or (take n bs) i false ≡ (nat_lt i n && slice_index_or bs i false)
index-take zero bs i = let q : nat_lt i 0 ≡ false = grind (arith, nat_tests) in rw q refl
index-take (suc n) [] i = none (nat_lt i (suc n))
  where
    none : (b : Bool) → false ≡ (b && false)
    none true = refl
    none false = refl
index-take (suc n) (b ∷ bs) zero = let q : nat_lt 0 (suc n) ≡ true = grind (arith, nat_tests) in rw q refl
index-take (suc n) (b ∷ bs) (suc i) = index-take n bs i ∙ ap (λ (c : Bool). c && slice_index_or bs i false) (below (nat_lt i n) refl)
  where
    below : (c : Bool) → nat_lt i n ≡ c → nat_lt i n ≡ nat_lt (suc i) (suc n)
    below true e = let q : nat_lt (suc i) (suc n) ≡ true = grind (arith, nat_tests) in e ∙ sym q
    below false e = let q : nat_lt (suc i) (suc n) ≡ false = grind (arith, nat_tests) in e ∙ sym q

ups-new : (xs : List Replica) (count : ℕ) (up : List Bool) → AreCounted 1 xs → map (λ r. r.up) xs ≡ take count up → (j : ℕ) → up_at xs j ≡ is_up count up j
ups-new xs count up n e zero = none-below xs 1 0 n (omega arith)
ups-new xs count up n e (suc i) = ap (λ j. up_at xs j) (let m : suc i ≡ 1 + i = omega arith in m) ∙ (counted-up xs 1 i n ∙ (ap (λ (bs : List Bool). slice_index_or bs i false) e ∙ index-take count up i))

new-table : (schema : Shape) (count : ℕ) (up : List Bool) (c : Cluster) → IsNewCluster schema (take count up) c → length c.replicas ≡ count → IsNewTable schema count up c
new-table schema count up c k n = record {
  ups_given = take count up;
  is_new = k;
  shows = record {
    table = record {
      schema = sym (ap (λ (d : Cluster). d.table.schema) k.is_new);
      log = sym (ap (λ (d : Cluster). d.table.log) k.is_new);
      next = sym (ap (λ (d : Cluster). d.table.next) k.is_new);
      quorum = sym (ap (λ (d : Cluster). d.table.quorum) k.is_new);
      fetching = fun_ext (all-fetch c.replicas (λ x h. ap (λ (y : Replica). y.fetches) (k.replicas.each x h).0));
      knows = λ x h. subst (λ (y : Replica). Knows y (λ i. false)) (sym (k.replicas.each x h).0) (nothing-known x.number x.up);
    };
    blocks = sym (ap accepted k.is_new);
  };
  all = n;
  ups_are = fun_ext (ups-new c.replicas count up k.numbered k.up_ones);
  free = ap (λ (d : Cluster). d.table.locks) k.is_new;
}

pub new-tables : {E : Type 0} (r : Result Cluster E) (made schema : Shape) (count : ℕ) (up front : List Bool) → made ≡ schema → front ≡ take count up → length front ≡ count
    → IfOk r (IsNewCluster made front) → IfOk r (λ c. length c.replicas ≡ length front) → IfOk r (IsNewTable schema count up)
new-tables (Ok c) made schema count up front m f n k l = subst (λ (s : Shape). IsNewTable s count up c) m (new-table made count up c (subst (λ (bs : List Bool). IsNewCluster made bs c) f k) (l ∙ n))
new-tables (Err e) made schema count up front m f n k l = tt
