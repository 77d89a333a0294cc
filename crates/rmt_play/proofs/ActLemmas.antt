-- What queries and inserts do, by what executes them.
use Rattle.std.proofs.Common.{◌≡◌, ◌∙◌, ℕ, Bool, true, false, inl, inr, List, map, refl, ap, sym, subst}
use Rattle.std.proofs.lemmas.List.Elements.{All-filter, All-weaker}
use Rattle.std.specs.Prelude.{IfOk, MatchOption}
use Rattle.std.specs.List.{All}
use Rattle.std.specs.declared.result.Result.{Result}
use Rattle.std.specs.declared.result.Result.TheVariants.{Ok, Err}
use Rattle.std.specs.declared.option.Option.{Option}
use Rattle.std.specs.declared.option.Option.TheVariants.{Some, None}
use Rattle.rmt_values.specs.declared.cell.Cell.{Cell}
use Rattle.rmt_values.specs.declared.query.Query.{Query}
use Rattle.rmt_values.specs.declared.checked_query.CheckedQuery.{CheckedQuery}
use Rattle.rmt_values.specs.Rows.{Shape, fits}
use Rattle.rmt_block.specs.Blocks.{BlockView}
use Rattle.rmt_block.specs.Splits.{is_in, IsBlockOf, IsSplit}
use Rattle.rmt_expr.specs.Queries.{IsCheckedQuery, query_refusal}
use Rattle.rmt_names.specs.Names.{Name}
use Rattle.rmt_model.specs.Content.{Row}
use Rattle.rmt_model.specs.Fair.{AreFair}
use Rattle.rmt_granules.specs.Granules.{PartView}
use Rattle.rmt_partset.specs.Snapshots.{NamedData, names_in, data_in, all_rows}
use Rattle.rmt_query.specs.Answers.{answer_of}
use Rattle.rmt_query.specs.Explained.{AreExplained}
use Rattle.rmt_events.specs.Clusters.{Cluster, without_kinds}
use Rattle.rmt_statement_model.specs.TableStates.{TableState, data_at, plain_rows, synced, shown_at}
use Rattle.rmt_statement_model.specs.Inserts.{Asked, asked_at, InsertsAll}
use Rattle.rmt_statement_model.specs.Reads.{KnowsAll}
use Rattle.rmt_statement_model.proofs.ReadLaws.{synced-knows}
use Rattle.rmt_acting.specs.Acting.{Sight, Brings, Stays}
use Rattle.rmt_statement_model.specs.ActOutcomes.{SyncsOr}
use Rattle.rmt_statements.specs.declared.act.Act.TheVariants as acts
use Rattle.rmt_statements.specs.declared.insert.Insert.{Insert}
use Rattle.rmt_reply.specs.declared.line.Line.{Line}
use Rattle.rmt_reply.specs.declared.line.Line.TheVariants as lines
use Rattle.rmt_reply.specs.declared.piece.Piece.{Piece}
use Rattle.rmt_reply.specs.declared.refusal.Refusal.{Refusal}
use Rattle.rmt_play.specs.ActRefusals.{refused_query}
use Rattle.rmt_play.specs.InsertStatement.{InsertsRows, need_of}
use Rattle.rmt_play.specs.SelectStatement.{Syncs, Reads}
use Rattle.rmt_play.specs.ExplainStatement.{Explains}
use Rattle.rmt_acts.specs.StatementEvents.{SyncEvents}
use Rattle.rmt_play.specs.ActEvents.{InsertsBy, refusal_told}
use Rattle.rmt_play.specs.QueryAnswers.{Selects, CountsGranules}
use Rattle.rmt_play.specs.PlayerSteps.{insert_refusal, HasRows, RefusesRows}
use Rattle.rmt_play.specs.ActSteps.{DoesAct, Declines, AnswersBy, ExecutesAct, ExecutesIn, ExecutesQuery}
use Rattle.rmt_play.proofs.SightLemmas.{IsKnown, brings-on, brings-none}
use Rattle.rmt_play.proofs.CommandLemmas.{acts-in}

-- ---- queries

-- a query that isn't refused
pub answers : {w : Bool} (s u : Sight w) (query : Query) (Answers : TableState → Line → TableState → Type 0) (Events : Line → Cluster → Type 0) (line : Line) (Change : TableState → TableState → Type 0) → query_refusal s.shape query ≡ None
    → ((t v : TableState) → IsKnown s t → u.shows v → Change t v → Answers t line v) → (w ≡ false → Events line u.cluster) → Brings s Change u → ExecutesQuery s query Answers Events line u
answers {w} s u query Answers Events line Change q f m k =
    brings-on s u Change (λ t v. MatchOption (refused_query (query_refusal t.schema query)) (AnswersBy Answers Events line u t v) (Declines s t line u v))
    (λ t v known shown c. subst (λ (o : Option Refusal). MatchOption o (AnswersBy Answers Events line u t v) (Declines s t line u v))
    (sym (ap (λ (x : Shape). refused_query (query_refusal x query)) known.schema ∙ ap refused_query q)) (f t v known shown c, m)) k

-- one that is
pub query-refused : {w : Bool} (s : Sight w) (query : Query) (Answers : TableState → Line → TableState → Type 0) (Events : Line → Cluster → Type 0) (why : Refusal) → refused_query (query_refusal s.shape query) ≡ Some why → ExecutesQuery s query Answers Events (lines.Refused why) s
query-refused {w} s query Answers Events why q =
    brings-none s (λ t v. MatchOption (refused_query (query_refusal t.schema query)) (AnswersBy Answers Events (lines.Refused why) s t v) (Declines s t (lines.Refused why) s v))
    (λ t known. subst (λ (o : Option Refusal). MatchOption o (AnswersBy Answers Events (lines.Refused why) s t t) (Declines s t (lines.Refused why) s t))
    (sym (ap (λ (x : Shape). refused_query (query_refusal x query)) known.schema ∙ q)) (refl, refl, λ _. refl))

pub checked-in : {w : Bool} (s : Sight w) (t : TableState) (query : Query) (checked : CheckedQuery) → IsKnown s t → IsCheckedQuery s.shape query checked → IsCheckedQuery t.schema query checked
checked-in s t query checked known is = subst (λ (c : Shape). IsCheckedQuery c query checked) (sym known.schema) is

-- the answer over parts whose names are these
pub answer-same : {w : Bool} (s : Sight w) (t : TableState) (checked : CheckedQuery) (cells : List (List Cell)) (names : List Name) (parts : List NamedData) → IsKnown s t → names ≡ names_in parts → data_in parts ≡ map (data_at t) (names_in parts)
    → cells ≡ answer_of s.shape checked (all_rows (data_in parts)) → cells ≡ answer_of t.schema checked (all_rows (map (data_at t) names))
answer-same s t checked cells names parts known e d a =
    a ∙ (ap (λ (c : Shape). answer_of c checked (all_rows (data_in parts))) (sym known.schema)
    ∙ (ap (λ (x : List PartView). answer_of t.schema checked (all_rows x)) d ∙ ap (λ (ns : List Name). answer_of t.schema checked (all_rows (map (data_at t) ns))) (sym e)))

-- what parts answer, in the words of a state
pub reads-of : {w : Bool} (s : Sight w) (t v : TableState) (r : ℕ) (query : Query) (checked : CheckedQuery) (names : List Name) (cells : List (List Cell)) → IsKnown s t → IsCheckedQuery s.shape query checked → Selects s.shape r checked names cells t v → Reads t r query (lines.Read names cells) v
reads-of s t v r query checked names cells known is a = record {
  checked = checked;
  is = checked-in s t query checked known is;
  names = names;
  fair = subst (AreFair t.log (t.known r)) (sym a.named) a.reads.reading.fair;
  reply = ap (λ (x : List (List Cell)). lines.Read names x) (answer-same s t checked cells names a.parts known a.named a.reads.reading.holds a.answered);
  change = subst (λ (ns : List Name). v ≡ shown_at r ns t) (sym a.named) a.reads.change;
}

-- ---- what a call found

-- the query was checked over the table's schema
pub found-checked : {E : Type 0} (found : Result CheckedQuery E) (checked : CheckedQuery) (c schema : Shape) (query : Query) → c ≡ schema → found ≡ Ok checked → IfOk found (IsCheckedQuery c query) → IsCheckedQuery schema query checked
found-checked {E} found checked c schema query e f k =
    subst (λ (x : Shape). IsCheckedQuery x query checked) e (subst (λ (r : Result CheckedQuery E). IfOk r (IsCheckedQuery c query)) f k)

-- it isn't refused
pub found-known : {E : Type 0} (found : Result CheckedQuery E) (checked : CheckedQuery) (c schema : Shape) (query : Query) → c ≡ schema → found ≡ Ok checked → IfOk found (λ _. query_refusal c query ≡ None) → query_refusal schema query ≡ None
found-known {E} found checked c schema query e f k =
    subst (λ (x : Shape). query_refusal x query ≡ None) e (subst (λ (r : Result CheckedQuery E). IfOk r (λ _. query_refusal c query ≡ None)) f k)

-- the rows were read over the table's schema
pub found-rows : {A E : Type 0} (found : Result A E) (items : A → List Row) (rows : A) (c schema : Shape) (insert : Insert) → c ≡ schema → found ≡ Ok rows → IfOk found (λ a. HasRows c insert (items a)) → HasRows schema insert (items rows)
found-rows {A} {E} found items rows c schema insert e f k =
    subst (λ (x : Shape). HasRows x insert (items rows)) e (subst (λ (r : Result A E). IfOk r (λ a. HasRows c insert (items a))) f k)

-- nothing was told
pub none-of : (o : Option Refusal) → ((x : Refusal) → o ≡ Some x → ⊥) → o ≡ None
none-of None f = refl
none-of (Some x) f = absurd (f x refl)

-- SELECT .. SYNC
pub syncs-in : {w : Bool} (s m u : Sight w) (r : ℕ) (query : Query) (checked : CheckedQuery) (cells : List (List Cell)) → query_refusal s.shape query ≡ None → IsCheckedQuery s.shape query checked
    → Brings s (SyncsOr s.ups r None) m → (w ≡ false → SyncEvents s.cluster r None m.cluster) → Stays m u → (w ≡ false → u.cluster ≡ m.cluster)
    → ((t : TableState) → m.shows t → KnowsAll t r → cells ≡ answer_of t.schema checked (plain_rows t))
    → ExecutesQuery s query (λ t. Syncs s.ups t r query) (λ line. SyncEvents s.cluster r (refusal_told line)) (lines.Rows cells) u
syncs-in {w} s m u r query checked cells q is k e y n a =
    answers s u query (λ t. Syncs s.ups t r query) (λ line. SyncEvents s.cluster r (refusal_told line)) (lines.Rows cells) (λ t v. (v ≡ synced r t) × m.shows v) q
    (λ t v known shown c. inl (record {
      checked = checked;
      is = checked-in s t query checked known is;
      reply = ap (λ (x : List (List Cell)). lines.Rows x)
          (subst (λ (x : TableState). cells ≡ answer_of x.schema checked (plain_rows x)) c.0 (a v c.1 (subst (λ (x : TableState). KnowsAll x r) (sym c.0) (synced-knows t r))));
      change = c.0;
    }))
    (λ f. subst (λ (c : Cluster). SyncEvents s.cluster r None c) (sym (n f)) (e f))
    (λ t h. let l = k t h in record { state = l.state; holds = record { at = l.holds.at; rests = l.holds.rests; change = (l.holds.change, l.shows) }; shows = y l.state l.shows })

-- the replica lacks a part
pub sync-lacks : {w : Bool} (s u : Sight w) (r : ℕ) (query : Query) (why : Refusal) → query_refusal s.shape query ≡ None → Brings s (SyncsOr s.ups r (Some why)) u → (w ≡ false → SyncEvents s.cluster r (Some why) u.cluster)
    → ExecutesQuery s query (λ t. Syncs s.ups t r query) (λ line. SyncEvents s.cluster r (refusal_told line)) (lines.Refused why) u
sync-lacks s u r query why q k m =
    answers s u query (λ t. Syncs s.ups t r query) (λ line. SyncEvents s.cluster r (refusal_told line)) (lines.Refused why) (SyncsOr s.ups r (Some why)) q
    (λ t v known shown c. inr (record { refusal = why; lacks = c; reply = refl })) m k

-- a plain SELECT
pub reads-in : {w : Bool} (s u : Sight w) (r : ℕ) (query : Query) (checked : CheckedQuery) (names : List Name) (cells : List (List Cell)) → query_refusal s.shape query ≡ None → IsCheckedQuery s.shape query checked
    → Brings s (Selects s.shape r checked names cells) u → (w ≡ false → u.cluster ≡ s.cluster) → ExecutesQuery s query (λ t. Reads t r query) (λ line c. c ≡ s.cluster) (lines.Read names cells) u
reads-in s u r query checked names cells q is k m =
    answers s u query (λ t. Reads t r query) (λ line c. c ≡ s.cluster) (lines.Read names cells) (Selects s.shape r checked names cells) q
    (λ t v known shown a. reads-of s t v r query checked names cells known is a) m k

-- EXPLAIN
pub explains-in : {w : Bool} (s u : Sight w) (r : ℕ) (query : Query) (checked : CheckedQuery) (all : List (Name × ℕ × ℕ)) → query_refusal s.shape query ≡ None → IsCheckedQuery s.shape query checked
    → Brings s (CountsGranules r checked all) u → (w ≡ false → u.cluster ≡ s.cluster) → ExecutesQuery s query (λ t. Explains t r query) (λ line c. c ≡ s.cluster) (lines.Granules all) u
explains-in s u r query checked all q is k m =
    answers s u query (λ t. Explains t r query) (λ line c. c ≡ s.cluster) (lines.Granules all) (CountsGranules r checked all) q
    (λ t v known shown a. record {
      checked = checked;
      is = checked-in s t query checked known is;
      names = names_in a.parts;
      fair = a.reads.reading.fair;
      counts = all;
      counted = subst (λ (x : List PartView). AreExplained checked.filter (names_in a.parts) x all) a.reads.reading.holds a.counted;
      reply = refl;
      change = a.reads.change;
    }) m k

-- ---- INSERT

-- rows that are inserted
pub inserts-in : {w : Bool} (s u : Sight w) (r need : ℕ) (insert : Insert) (rows : List Row) (line : Line) → need ≡ need_of insert.quorum → s.ups r ≡ true → HasRows s.shape insert rows
    → Brings s (λ t v. InsertsRows w s.ups t (asked_at r need) rows line v) u → (w ≡ false → InsertsBy s.cluster (asked_at r need) line u.cluster) → ExecutesIn s r (acts.Insert insert) line u
inserts-in {w} s u r need insert rows line e up k f m =
    acts-in s u r (acts.Insert insert) line (λ t v. InsertsRows w s.ups t (asked_at r need) rows line v)
    (λ t v known shown c.
    let here = subst (λ (x : Shape). HasRows x insert rows) (sym known.schema) k in
    (here.known, inl (up, record { rows = rows; read = here.read; inserts = subst (λ n. InsertsRows w s.ups t (asked_at r n) rows line v) e c })))
    (λ n. subst (λ x. InsertsBy s.cluster (asked_at r x) line u.cluster) e (m n)) f

-- the same of a call
pub inserts-all-in : {w : Bool} {E : Type 0} (result : Result Line E) (s u : Sight w) (r need : ℕ) (insert : Insert) (rows : List Row) → need ≡ need_of insert.quorum → s.ups r ≡ true → HasRows s.shape insert rows
    → IfOk result (λ line. Brings s (λ t v. InsertsRows w s.ups t (asked_at r need) rows line v) u) → (w ≡ false → IfOk result (λ line. InsertsBy s.cluster (asked_at r need) line u.cluster)) → IfOk result (λ line. ExecutesIn s r (acts.Insert insert) line u)
inserts-all-in (Ok line) s u r need insert rows e up k f m = inserts-in s u r need insert rows line e up k f m
inserts-all-in (Err x) s u r need insert rows e up k f m = tt

-- the rows of each block fit
pub split-fits : (shape : Shape) (rows : List Row) (blocks : List BlockView) → IsSplit shape rows blocks → All (λ row. fits shape.columns row ≡ true) rows → All (λ b. All (λ row. fits shape.columns row ≡ true) b.rows) blocks
split-fits shape rows blocks s f = All-weaker _ _ (λ b k. of b k) blocks s.each
  where
    of : (b : BlockView) → IsBlockOf shape rows b → All (λ row. fits shape.columns row ≡ true) b.rows
    of b k = subst (λ (x : BlockView). All (λ row. fits shape.columns row ≡ true) x.rows) (sym k.whole) (All-filter (is_in shape.partition b.partition) (λ row. fits shape.columns row ≡ true) rows f)

-- blocks of rows that are inserted
pub inserts-split : {w : Bool} (s u : Sight w) (a : Asked) (rows : List Row) (blocks : List BlockView) (all : List Piece) (refused : Option Refusal) → IsSplit s.shape rows blocks
    → Brings s (λ t. InsertsAll w s.ups t a (map without_kinds blocks) all refused) u → Brings s (λ t v. InsertsRows w s.ups t a rows (lines.Inserted all refused) v) u
inserts-split {w} s u a rows blocks all refused p k =
    brings-on s u (λ t. InsertsAll w s.ups t a (map without_kinds blocks) all refused) (λ t v. InsertsRows w s.ups t a rows (lines.Inserted all refused) v)
    (λ t v known shown c. record { blocks = blocks; split = subst (λ (x : Shape). IsSplit x rows blocks) (sym known.schema) p; all = all; refused = refused; inserts = c; reply = refl }) k

-- rows that are refused
pub rows-refused : {w : Bool} (s : Sight w) (r : ℕ) (insert : Insert) (why : Refusal) → RefusesRows s.shape insert why → ExecutesIn s r (acts.Insert insert) (lines.Refused why) s
rows-refused {w} s r insert why k = brings-none s (ExecutesAct s r (acts.Insert insert) (lines.Refused why) s) (λ t known. go t (subst (λ (c : Shape). RefusesRows c insert why) (sym known.schema) k))
  where
    go : (t : TableState) → RefusesRows t.schema insert why → MatchOption (insert_refusal t.schema insert) (DoesAct s t r (acts.Insert insert) (lines.Refused why) s t) (Declines s t (lines.Refused why) s t)
    go t (inl q) = subst (λ (o : Option Refusal). MatchOption o (DoesAct s t r (acts.Insert insert) (lines.Refused why) s t) (Declines s t (lines.Refused why) s t)) (sym q) (refl, refl, λ _. refl)
    go t (inr b) =
        subst (λ (o : Option Refusal). MatchOption o (DoesAct s t r (acts.Insert insert) (lines.Refused why) s t) (Declines s t (lines.Refused why) s t)) (sym b.known)
        (inr (inl (record { row = b.row; refused = b.refused; reply = ap (λ (x : Refusal). lines.Refused x) b.is; unchanged = refl })), λ _. refl)
