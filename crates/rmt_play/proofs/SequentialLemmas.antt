-- What a SELECT with a number of `select_sequential_consistency` does.
use Rattle.std.proofs.Common.{◌≡◌, ◌∙◌, ℕ, zero, suc, Bool, false, inl, inr, List, refl, ap, sym, subst}
use Rattle.std.specs.declared.option.Option.{Option}
use Rattle.std.specs.declared.option.Option.TheVariants.{Some, None}
use Rattle.rmt_values.specs.declared.cell.Cell.{Cell}
use Rattle.rmt_values.specs.declared.query.Query.{Query}
use Rattle.rmt_values.specs.declared.checked_query.CheckedQuery.{CheckedQuery}
use Rattle.rmt_values.specs.Rows.{Shape}
use Rattle.rmt_expr.specs.declared.check_error.CheckError.{CheckError}
use Rattle.rmt_expr.specs.Queries.{IsCheckedQuery, query_refusal}
use Rattle.rmt_names.specs.Names.{Name}
use Rattle.rmt_statements.specs.declared.act.Act.TheVariants as acts
use Rattle.rmt_statements.specs.declared.mode.Mode.TheVariants as modes
use Rattle.rmt_statement_model.specs.TableStates.{TableState, covered_by, shown_at}
use Rattle.rmt_acting.specs.Acting.{Sight, Brings}
use Rattle.rmt_reply.specs.declared.line.Line.{Line}
use Rattle.rmt_reply.specs.declared.line.Line.TheVariants as lines
use Rattle.rmt_reply.specs.declared.refusal.Refusal.{Refusal}
use Rattle.rmt_play.specs.ActRefusals.{or_else, refused_query, refused_setting}
use Rattle.rmt_play.specs.QueryAnswers.{SelectsWith}
use Rattle.rmt_play.specs.SelectStatement.{ReadsWith}
use Rattle.rmt_play.specs.ActSteps.{refusal_there, ExecutesIn}
use Rattle.rmt_play.proofs.SightLemmas.{IsKnown}
use Rattle.rmt_play.proofs.ActLemmas.{checked-in, answer-same, reads-of}
use Rattle.rmt_play.proofs.CommandLemmas.{acts-in, act-refused}

-- the query is refused
pub query-declined : {w : Bool} (s : Sight w) (r : ℕ) (table : List ℕ) (query : Query) (n : ℕ) (why : Refusal) → refused_query (query_refusal s.shape query) ≡ Some why → ExecutesIn s r (acts.Select table query (modes.Sequential n)) (lines.Refused why) s
query-declined s r table query n why q = act-refused s r (acts.Select table query (modes.Sequential n)) why (λ t known.
    ap (λ (c : Shape). or_else (refused_query (query_refusal c query)) (refused_setting n)) known.schema ∙ ap (λ (o : Option Refusal). or_else o (refused_setting n)) q)

-- a query that isn't is refused with its setting
setting-there : {w : Bool} (s : Sight w) (t : TableState) (table : List ℕ) (query : Query) (n : ℕ) (why : Option Refusal) → IsKnown s t → query_refusal s.shape query ≡ None → refused_setting n ≡ why → refusal_there t (acts.Select table query (modes.Sequential n)) ≡ why
setting-there s t table query n why known q e =
    ap (λ (c : Shape). or_else (refused_query (query_refusal c query)) (refused_setting n)) known.schema
    ∙ (ap (λ (o : Option CheckError). or_else (refused_query o) (refused_setting n)) q ∙ e)

-- the setting is refused
pub setting-declined : {w : Bool} (s : Sight w) (r : ℕ) (table : List ℕ) (query : Query) (n : ℕ) (why : Refusal) → query_refusal s.shape query ≡ None → refused_setting n ≡ Some why → ExecutesIn s r (acts.Select table query (modes.Sequential n)) (lines.Refused why) s
setting-declined s r table query n why q e = act-refused s r (acts.Select table query (modes.Sequential n)) why (λ t known. setting-there s t table query n (Some why) known q e)

-- what was read, in the words of a state
reads-with-of : {w : Bool} (s : Sight w) (t v : TableState) (r n : ℕ) (query : Query) (checked : CheckedQuery) (line : Line) → IsKnown s t → IsCheckedQuery s.shape query checked → SelectsWith n s.shape r checked line t v → ReadsWith n t r query line v
reads-with-of s t v r zero query checked (lines.Read names cells) known is a = reads-of s t v r query checked names cells known is a
reads-with-of s t v r zero query checked line known is a = absurd a
reads-with-of s t v r (suc n) query checked (lines.Read names cells) known is a = inl (record {
  checked = checked;
  is = checked-in s t query checked known is;
  names = names;
  active = a.reads.reading.active;
  fair = a.reads.reading.fair;
  read = a.named ∙ a.reads.reading.read;
  last = λ part l. ap (λ (ns : List Name). covered_by ns (Some part)) a.named ∙ a.reads.reading.last part l;
  reply = ap (λ (x : List (List Cell)). lines.Read names x) (answer-same s t checked cells names a.parts known a.named a.reads.reading.holds a.answered);
  change = subst (λ (ns : List Name). v ≡ shown_at r ns t) (sym a.named) a.reads.change;
})
reads-with-of s t v r (suc n) query checked (lines.Refused why) known is a = inr (record { refusal = why; lacks = a.lacks; reply = refl; unchanged = a.unchanged })
reads-with-of s t v r (suc n) query checked line known is a = absurd a

-- a SELECT that isn't refused
pub reads-with : {w : Bool} (s u : Sight w) (r n : ℕ) (table : List ℕ) (query : Query) (checked : CheckedQuery) (line : Line) → query_refusal s.shape query ≡ None → IsCheckedQuery s.shape query checked → refused_setting n ≡ None
    → Brings s (SelectsWith n s.shape r checked line) u → (w ≡ false → u.cluster ≡ s.cluster) → ExecutesIn s r (acts.Select table query (modes.Sequential n)) line u
reads-with s u r n table query checked line q is e k m =
    acts-in s u r (acts.Select table query (modes.Sequential n)) line (SelectsWith n s.shape r checked line)
    (λ t v known shown a. (setting-there s t table query n None known q e, reads-with-of s t v r n query checked line known is a)) m k
