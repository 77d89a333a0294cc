-- A line of an act ends with a token, after which as many bytes are left as the line says.
use Rattle.std.proofs.Common.{ℕ, List, Bool, true, false, Option}
use Rattle.rmt_sql_tokens.specs.Exact.{Rule}
use Rattle.rmt_statements.specs.declared.act.Act.{Act}
use Rattle.rmt_values.specs.declared.query.Query.{Query}
use Rattle.rmt_statements.specs.declared.act.Act.TheVariants.{Explain}
use Rattle.rmt_sql_acts.specs.Phrases.{ended}
use Rattle.rmt_sql_acts.specs.Acts.{values, csv, insert_rows, quorum_and_rows, into, into_table, insert, mode_and_end, sync_and_end, selected, select, explain, update, delete, drop_partition, alter, optimize, show_parts, check_table, wait_mutation, sync_replica, restart_replica, stop_fetches, start_fetches, system_command, system, service, row_act, act}
use Rattle.rmt_sql_acts.proofs.Ends.{Ends, ended_ends, ends_then, ends_either}

values_ends : (table : List ℕ) (columns : Option (List (List ℕ))) (quorum : Option ℕ) → Ends (values table columns quorum).form
unfolding values
values_ends table columns quorum = ends_then _ _ (λ _. ends_then _ _ (λ all. ended_ends _))

csv_ends : (table : List ℕ) (columns : Option (List (List ℕ))) (quorum : Option ℕ) → Ends (csv table columns quorum).form
unfolding csv
csv_ends table columns quorum = ends_then _ _ (λ _. ends_then _ _ (λ _. ends_then _ _ (λ bytes. ended_ends _)))

insert_rows_ends : (table : List ℕ) (columns : Option (List (List ℕ))) (quorum : Option ℕ) → Ends (insert_rows table columns quorum).form
unfolding insert_rows
insert_rows_ends table columns quorum = ends_either _ _ (values_ends table columns quorum) (csv_ends table columns quorum)

rows_ends : (may_set : Bool) (table : List ℕ) (columns : Option (List (List ℕ))) → Ends (quorum_and_rows may_set table columns).form
rows_ends true table columns = ends_then _ _ (λ quorum. insert_rows_ends _ _ _)
rows_ends false table columns = insert_rows_ends _ _ _

into_ends : (may_set : Bool) → Ends (into may_set).form
unfolding into
into_ends may_set = ends_then _ _ (λ table. ends_then _ _ (λ columns. rows_ends may_set table columns))

into_table_ends : (may_set : Bool) → Ends (into_table may_set).form
unfolding into_table
into_table_ends may_set = ends_then _ _ (λ _. into_ends may_set)

insert_ends : (may_set : Bool) → Ends (insert may_set).form
unfolding insert
insert_ends may_set = ends_then _ _ (λ _. ends_then _ _ (λ _. ends_either _ _ (into_table_ends may_set) (into_ends may_set)))

mode_ends : (table : List ℕ) (query : Query) → Ends (mode_and_end table query).form
unfolding mode_and_end
mode_ends table query = ends_then _ _ (λ mode. ended_ends _)

sync_ends : (table : List ℕ) (query : Query) → Ends (sync_and_end table query).form
unfolding sync_and_end
sync_ends table query = ends_then _ _ (λ mode. ended_ends _)

selected_ends : (later : List ℕ → Query → Rule (Act × ℕ)) → ((table : List ℕ) (query : Query) → Ends (later table query).form) → Ends (selected later).form
selected_ends later ends =
    ends_then _ _ (λ _. ends_then _ _ (λ list. ends_then _ _ (λ table. ends_then _ _ (λ filter. ends_then _ _ (λ group. ends table _)))))

select_ends : (may_set : Bool) → Ends (select may_set).form
unfolding select
select_ends true = selected_ends mode_and_end mode_ends
select_ends false = selected_ends sync_and_end sync_ends

explain_ends : Ends explain.form
unfolding explain
explain_ends = ends_then _ _ (λ _. ends_then _ _ (λ _. selected_ends (λ table query. ended (Explain table query)) (λ table query. ended_ends _)))

update_ends : (table : List ℕ) → Ends (update table).form
unfolding update
update_ends table = ends_then _ _ (λ _. ends_then _ _ (λ sets. ends_then _ _ (λ f. ended_ends _)))

delete_ends : (table : List ℕ) → Ends (delete table).form
unfolding delete
delete_ends table = ends_then _ _ (λ _. ends_then _ _ (λ f. ended_ends _))

drop_ends : (table : List ℕ) → Ends (drop_partition table).form
unfolding drop_partition
drop_ends table = ends_then _ _ (λ _. ends_then _ _ (λ partition. ended_ends _))

alter_ends : Ends alter.form
unfolding alter
alter_ends =
    ends_then _ _ (λ _. ends_then _ _ (λ _. ends_then _ _ (λ table. ends_either _ _ (update_ends table) (ends_either _ _ (delete_ends table) (drop_ends table)))))

optimize_ends : Ends optimize.form
unfolding optimize
optimize_ends = ends_then _ _ (λ _. ends_then _ _ (λ _. ends_then _ _ (λ table. ends_then _ _ (λ partition. ends_then _ _ (λ _. ended_ends _)))))

show_ends : Ends show_parts.form
unfolding show_parts
show_ends = ends_then _ _ (λ _. ends_then _ _ (λ _. ends_then _ _ (λ _. ends_then _ _ (λ table. ended_ends _))))

check_ends : Ends check_table.form
unfolding check_table
check_ends = ends_then _ _ (λ _. ends_then _ _ (λ _. ends_then _ _ (λ table. ended_ends _)))

wait_ends : Ends wait_mutation.form
unfolding wait_mutation
wait_ends = ends_then _ _ (λ _. ends_then _ _ (λ _. ends_then _ _ (λ table. ends_then _ _ (λ id. ended_ends _))))

sync_replica_ends : Ends sync_replica.form
unfolding sync_replica
sync_replica_ends = ends_then _ _ (λ _. ends_then _ _ (λ _. ends_then _ _ (λ table. ended_ends _)))

restart_replica_ends : Ends restart_replica.form
unfolding restart_replica
restart_replica_ends = ends_then _ _ (λ _. ends_then _ _ (λ _. ends_then _ _ (λ table. ended_ends _)))

stop_ends : Ends stop_fetches.form
unfolding stop_fetches
stop_ends = ends_then _ _ (λ _. ends_then _ _ (λ _. ends_then _ _ (λ table. ended_ends _)))

start_ends : Ends start_fetches.form
unfolding start_fetches
start_ends = ends_then _ _ (λ _. ends_then _ _ (λ _. ends_then _ _ (λ table. ended_ends _)))

command_ends : Ends system_command.form
unfolding system_command
command_ends = ends_either _ _ sync_replica_ends (ends_either _ _ restart_replica_ends (ends_either _ _ stop_ends start_ends))

system_ends : Ends system.form
unfolding system
system_ends = ends_then _ _ (λ _. command_ends)

service_ends : Ends service.form
unfolding service
service_ends =
    ends_either _ _ explain_ends (ends_either _ _ optimize_ends (ends_either _ _ show_ends (ends_either _ _ check_ends (ends_either _ _ wait_ends system_ends))))

pub row_act_ends : (may_set : Bool) → Ends (row_act may_set).form
unfolding row_act
row_act_ends may_set = ends_either _ _ (insert_ends may_set) (ends_either _ _ (select_ends may_set) alter_ends)

pub act_ends : Ends act.form
unfolding act
act_ends = ends_either _ _ (row_act_ends true) service_ends
