-- Whole statements are read exactly.
use Rattle.std.proofs.Common.{◌≡◌, ℕ, List, [], ◌∷◌, ◌++◌, refl, Bool, true, false, cond, Some}
use Rattle.std.specs.Prelude.{codes}
use Rattle.rmt_sql_tokens.specs.declared.symbol_kind.SymbolKind.TheVariants as symbols
use Rattle.rmt_sql_tokens.specs.Tokens.{Token, Number, Spot, spot}
use Rattle.rmt_sql_tokens.specs.Classes.{Class, Keyword, AnyNumber, Sign, End, among}
use Rattle.rmt_sql_tokens.specs.Exact.{IsExact, Stops, never, Rule, always}
use Rattle.rmt_sql_tokens.proofs.Apart.{disjoint}
use Rattle.rmt_sql_tokens.proofs.Closed.{exact_gives, on_many}
use Rattle.rmt_sql_tokens.proofs.Laws.{Law, head_stops, law_token, law_then, law_gives, law_either, law_maybe, law_chain, law_item, step, step_on, exact_gives_on, on_last, last_apart}
use Rattle.rmt_sql_tokens.proofs.SingleLaws.{keyword_law, symbol_law, word_law, number_law, end_law, semicolon_law}
use Rattle.rmt_statements.specs.declared.act.Act.{Act}
use Rattle.rmt_statements.specs.declared.sent.Sent.{Sent}
use Rattle.rmt_statements.specs.declared.statement.Statement.{Statement}
use Rattle.rmt_sql_acts.specs.Phrases.{word}
use Rattle.rmt_sql_acts.specs.Acts.{row_act, row_act_firsts, act}
use Rattle.rmt_sql.specs.Grammar.{replica, sent, lane_statement, lane_firsts, lane, may_follow, some_lanes, lanes, a_count, closed, replicas, kill, restart, run, at_replica, later_statement, statement}
use Rattle.rmt_sql_acts.proofs.PhraseLaws.{ended_law}
use Rattle.rmt_sql.proofs.CreateLaws.{create_law}
use Rattle.rmt_sql_acts.proofs.SelectLaws.{service_firsts}
use Rattle.rmt_sql_acts.proofs.ActLaws.{row_act_law, act_law}

replica_law : Law replica never (Sign symbols.At ∷ [])
unfolding replica
replica_law = law_then _ _ never _ (symbol_law symbols.At refl) (λ _. step _ _ never _ word_law (λ name. exact_gives name))

pub sent_law : (acts : Rule (Act × ℕ)) (cs : List Class) → Law acts never cs → disjoint cs (Sign symbols.At ∷ []) ≡ true → disjoint cs [] ≡ true → Law (sent acts) never (Sign symbols.At ∷ cs)
sent_law acts cs law apart none =
    law_maybe _ _ never never (Sign symbols.At ∷ []) cs replica_law (λ name. law_gives _ (λ a. _) never never _ (λ _. refl) law) apart (λ _. none)

pub lane_statement_law : Law lane_statement never lane_firsts
unfolding lane_statement
lane_statement_law = law_gives _ (λ s. s.0) never never _ (λ _. refl) (sent_law (row_act false) row_act_firsts (row_act_law false) refl refl)

abbrev pub on_lane : List Sent → List Class
on_lane = on_many always lane_firsts (on_last never)

nothing_more : {A : Type 0} (all : List A) → disjoint lane_firsts (on_last never all) ≡ true
nothing_more all = last_apart lane_firsts never refl (λ _. refl) all

pub lane_law : Law lane on_lane (word (codes "lane"))
unfolding lane
lane_law =
    law_chain _ always lane_firsts _ (on_last never) _
    (law_then _ _ (on_last never) _ (keyword_law (codes "lane") refl) (λ _. step _ _ (on_last never) _ end_law (λ _. exact_gives_on [] (on_last never) refl)))
    (λ all may. (law_item lane_statement all never _ lane_statement_law).exact) (λ all. (law_item lane_statement all never _ lane_statement_law).starts) nothing_more

lane_apart : (ds : List Class) → disjoint ds lane_firsts ≡ true → (all : List Sent) → disjoint ds (on_lane all) ≡ true
lane_apart ds some [] = some
lane_apart ds some (a ∷ []) = some
lane_apart ds some (a ∷ b ∷ more) = lane_apart ds some (b ∷ more)

abbrev pub on_lanes : List (List Sent) → List Class
on_lanes = on_many may_follow (word (codes "lane")) (on_last on_lane)

lanes_list_law : Law some_lanes on_lanes (word (codes "lane"))
unfolding some_lanes
lanes_list_law =
    law_chain _ may_follow (word (codes "lane")) _ (on_last on_lane) _ (law_item lane [] on_lane _ lane_law)
    (λ all may. (law_item lane all on_lane _ lane_law).exact) (λ all. (law_item lane all on_lane _ lane_law).starts)
    (last_apart (word (codes "lane")) on_lane refl (lane_apart (word (codes "lane")) refl))

lanes_apart : (all : List (List Sent)) → disjoint (word (codes "end")) (on_lanes all) ≡ true
lanes_apart all = go (may_follow all) (on_last on_lane all) (last_apart (word (codes "end")) on_lane refl (lane_apart (word (codes "end")) refl) all)
  where
    go : (b : Bool) (cs : List Class) → disjoint (word (codes "end")) cs ≡ true → disjoint (word (codes "end")) (cond b (word (codes "lane") ++ cs) cs) ≡ true
    go true cs h = h
    go false cs h = h

pub lanes_law : Law lanes never (word (codes "lanes"))
unfolding lanes
lanes_law =
    law_then _ _ never _ (keyword_law (codes "lanes") refl) (λ _. step _ _ never _ end_law (λ _.
    step_on _ _ on_lanes never _ (λ _. word (codes "end")) lanes_list_law (λ all. law_then _ _ never _ (keyword_law (codes "end") refl) (λ _. (ended_law _).exact)) lanes_apart))

count_reads : (t : Token) (left n : ℕ) → a_count (spot t left) ≡ Some n → among (AnyNumber ∷ []) (spot t left) ≡ true
count_reads (Number m) left n h = refl
count_reads _ left n h = absurd cc

closed_law : {A : Type 0} (a : A) → Law (closed a) never (End ∷ [])
closed_law a = law_then _ _ never _ semicolon_law (λ left. exact_gives (a, left))

replicas_law : Law replicas never (word (codes "replicas"))
unfolding replicas
replicas_law =
    law_then _ _ never _ (keyword_law (codes "replicas") refl) (λ _. step _ _ never _ (law_token a_count (AnyNumber ∷ []) (spot (Number 1) 0) 1 refl (λ s n h. count_reads s.token s.left n h)) (λ n. (closed_law _).exact))

kill_law : Law kill never (word (codes "kill"))
unfolding kill
kill_law = law_then _ _ never _ (keyword_law (codes "kill") refl) (λ _. step _ _ never _ word_law (λ name. (ended_law _).exact))

restart_law : Law restart never (word (codes "restart"))
unfolding restart
restart_law = law_then _ _ never _ (keyword_law (codes "restart") refl) (λ _. step _ _ never _ word_law (λ name. (ended_law _).exact))

run_law : Law run never (word (codes "run"))
unfolding run
run_law =
    law_then _ _ never _ (keyword_law (codes "run") refl) (λ _. step _ _ never _ word_law (λ table. step _ _ never _ number_law (λ turns. step _ _ never _ (keyword_law (codes "seed") refl) (λ _.
    step _ _ never _ number_law (λ seed. (ended_law _).exact)))))

abbrev pub at_firsts : List Class
at_firsts = Sign symbols.At ∷ row_act_firsts ++ service_firsts

at_replica_law : Law at_replica never at_firsts
unfolding at_replica
at_replica_law = law_gives _ (λ s. _) never never _ (λ _. refl) (sent_law act (row_act_firsts ++ service_firsts) act_law refl refl)

abbrev pub later_firsts : List Class
later_firsts = Keyword (codes "create") ∷ Keyword (codes "kill") ∷ Keyword (codes "restart") ∷ Keyword (codes "run") ∷ Keyword (codes "lanes") ∷ at_firsts

later_statement_law : Law later_statement never later_firsts
unfolding later_statement
later_statement_law =
    law_either _ _ never (word (codes "create")) _ create_law (law_either _ _ never (word (codes "kill")) _ kill_law (law_either _ _ never (word (codes "restart")) _ restart_law
    (law_either _ _ never (word (codes "run")) _ run_law (law_either _ _ never (word (codes "lanes")) at_firsts lanes_law at_replica_law refl) refl) refl) refl) refl

-- the first tokens of statements
abbrev pub statement_firsts : Bool → List Class
statement_firsts true = word (codes "replicas") ++ later_firsts
statement_firsts false = later_firsts

pub statement_law : (first : Bool) → Law (statement first) never (statement_firsts first)
unfolding statement
statement_law true = law_either _ _ never (word (codes "replicas")) later_firsts replicas_law later_statement_law refl
statement_law false = later_statement_law

-- each statement is read exactly
pub statement_exact : (first : Bool) → IsExact (statement first) never
statement_exact first = (statement_law first).exact

-- no statement begins with the end of one
pub no_end : (first : Bool) (prefix more : List Spot) (a : Statement × ℕ) → (statement first).form prefix a → Stops (End ∷ []) (prefix ++ more)
no_end first prefix more a is = head_stops (statement_firsts first) (End ∷ []) (apart first) (prefix ++ more) ((statement_law first).starts prefix more a is)
  where
    apart : (first : Bool) → disjoint (statement_firsts first) (End ∷ []) ≡ true
    apart true = refl
    apart false = refl
