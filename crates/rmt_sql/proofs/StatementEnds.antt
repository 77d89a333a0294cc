-- A line of a statement ends with a token, after which as many bytes are left as the line says.
use Rattle.std.proofs.Common.{ℕ, List, refl, Bool, true, false, Option}
use Rattle.rmt_sql_tokens.specs.Singles.{a_semicolon}
use Rattle.rmt_sql_tokens.specs.Exact.{Rule}
use Rattle.rmt_statements.specs.declared.act.Act.{Act}
use Rattle.rmt_values.specs.declared.column.Column.{Column}
use Rattle.rmt_sql.specs.Grammar.{create_settings, create_order, create_engine, create, sent, lanes, closed, replicas, kill, restart, run, at_replica, later_statement, statement}
use Rattle.rmt_sql_acts.specs.Acts.{act}
use Rattle.rmt_sql_acts.proofs.Ends.{Ends, ended_ends, one_ends, semicolon_place, ends_then, ends_gives, ends_either}
use Rattle.rmt_sql_acts.proofs.ActEnds.{act_ends}

create_settings_ends : (table : List ℕ) (columns : List Column) (partition : Option (List ℕ × ℕ)) (key : List (List ℕ)) → Ends (create_settings table columns partition key).form
unfolding create_settings
create_settings_ends table columns partition key = ends_then _ _ (λ s. ended_ends _)

create_order_ends : (table : List ℕ) (columns : List Column) (partition : Option (List ℕ × ℕ)) → Ends (create_order table columns partition).form
unfolding create_order
create_order_ends table columns partition = ends_then _ _ (λ _. ends_then _ _ (λ _. ends_then _ _ (λ key. create_settings_ends _ _ _ _)))

create_engine_ends : (table : List ℕ) (columns : List Column) → Ends (create_engine table columns).form
unfolding create_engine
create_engine_ends table columns =
    ends_then _ _ (λ _. ends_then _ _ (λ _. ends_then _ _ (λ _. ends_then _ _ (λ _. ends_then _ _ (λ partition. create_order_ends _ _ _)))))

create_ends : Ends create.form
unfolding create
create_ends =
    ends_then _ _ (λ _. ends_then _ _ (λ _. ends_then _ _ (λ table. ends_then _ _ (λ _. ends_then _ _ (λ all. ends_then _ _ (λ _. create_engine_ends _ _))))))

pub sent_ends : (acts : Rule (Act × ℕ)) → Ends acts.form → Ends (sent acts).form
sent_ends acts ends = ends_then _ _ (λ name. ends_gives _ (λ a. _) (λ _. refl) ends)

at_replica_ends : Ends at_replica.form
unfolding at_replica
at_replica_ends = ends_gives _ (λ s. _) (λ _. refl) (sent_ends act act_ends)

closed_ends : {A : Type 0} (a : A) → Ends (closed a).form
closed_ends a = one_ends a_semicolon (λ s left h. semicolon_place s.token s.left left h) a

replicas_ends : Ends replicas.form
unfolding replicas
replicas_ends = ends_then _ _ (λ _. ends_then _ _ (λ n. closed_ends _))

kill_ends : Ends kill.form
unfolding kill
kill_ends = ends_then _ _ (λ _. ends_then _ _ (λ name. ended_ends _))

restart_ends : Ends restart.form
unfolding restart
restart_ends = ends_then _ _ (λ _. ends_then _ _ (λ name. ended_ends _))

run_ends : Ends run.form
unfolding run
run_ends = ends_then _ _ (λ _. ends_then _ _ (λ table. ends_then _ _ (λ turns. ends_then _ _ (λ _. ends_then _ _ (λ seed. ended_ends _)))))

lanes_ends : Ends lanes.form
unfolding lanes
lanes_ends = ends_then _ _ (λ _. ends_then _ _ (λ _. ends_then _ _ (λ all. ends_then _ _ (λ _. ended_ends _))))

later_ends : Ends later_statement.form
unfolding later_statement
later_ends = ends_either _ _ create_ends (ends_either _ _ kill_ends (ends_either _ _ restart_ends (ends_either _ _ run_ends (ends_either _ _ lanes_ends at_replica_ends))))

-- each line of a statement ends with the token after which reading goes on
pub statement_ends : (first : Bool) → Ends (statement first).form
unfolding statement
statement_ends true = ends_either _ _ replicas_ends later_ends
statement_ends false = later_ends
