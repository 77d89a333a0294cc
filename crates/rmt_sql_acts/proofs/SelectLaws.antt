-- SELECT, EXPLAIN, ALTER and the other statements at a replica are read exactly, INSERT apart.
use Rattle.std.proofs.Common.{◌≡◌, ℕ, List, [], ◌∷◌, ◌++◌, refl, Bool, true, false, Option, Some, None}
use Rattle.std.specs.Prelude.{codes}
use Rattle.rmt_values.specs.declared.item.Item.{Item}
use Rattle.rmt_values.specs.declared.right.Right.{Right}
use Rattle.rmt_values.specs.declared.right.Right.TheVariants as rights
use Rattle.rmt_sql_tokens.specs.declared.symbol_kind.SymbolKind.{SymbolKind}
use Rattle.rmt_sql_tokens.specs.declared.symbol_kind.SymbolKind.TheVariants as symbols
use Rattle.rmt_sql_tokens.specs.Tokens.{Token, Number, Symbol, spot, is_keyword}
use Rattle.rmt_sql_tokens.specs.Classes.{Class, Keyword, Exactly, AnyWord, AnyNumber, Sign, End, among}
use Rattle.rmt_sql_tokens.specs.Singles.{this_number}
use Rattle.rmt_sql_tokens.specs.Exact.{never, Rule}
use Rattle.rmt_sql_tokens.proofs.Apart.{disjoint}
use Rattle.rmt_sql_tokens.proofs.Closed.{exact_gives, exact_map, on_maybe}
use Rattle.rmt_sql_tokens.proofs.Laws.{Law, law_token, law_then, law_on, law_gives, law_either, law_maybe, step, step_on, step_maybe, exact_maybe_last}
use Rattle.rmt_sql_tokens.proofs.SingleLaws.{keyword_law, exactly_law, symbol_law, word_law, number_law, text_law}
use Rattle.rmt_statements.specs.declared.partition_word.PartitionWord.TheVariants as partitions
use Rattle.rmt_values.specs.declared.filter.Filter.{Filter}
use Rattle.rmt_statements.specs.declared.act.Act.{Act}
use Rattle.rmt_values.specs.declared.query.Query.{Query}
use Rattle.rmt_statements.specs.declared.act.Act.TheVariants.{Explain}
use Rattle.rmt_sql_acts.specs.Phrases.{word, opening, comma, Called}
use Rattle.rmt_sql_acts.specs.declared.operator.Operator.{Operator}
use Rattle.rmt_sql_acts.specs.declared.operator.Operator.TheVariants as operators
use Rattle.rmt_sql_acts.specs.Acts.{is_function, count_call, aggregate_call, function_call, select_item, some_items, items_from, star_from, select_list_from, group_by, query_of, selected, sequential, synchronous, mode_and_end, sync_and_end, select, indexes, explain, an_operator, operator_of, change_of, change, column_right, literal_right, right, assignment, assignments, update, delete, tuple_word, id_word, partition_word, partition_named, drop_partition, alter, optimize, show_parts, check_table, wait_mutation, sync_replica, restart_replica, stop_fetches, start_fetches, system_command, system, service}
use Rattle.rmt_sql_acts.proofs.PhraseLaws.{open_law, close_law, literal_firsts, literal_law, law_listed, on_list, list_apart, names_law, on_called, law_called, tuple_call_law, on_disj, where_law, ended_law, called_apart}

-- ---- the select list

count_call_law : Law count_call never opening
unfolding count_call
count_call_law =
    law_then _ _ never _ open_law (λ _.
    step_maybe _ _ never never (Sign symbols.Star ∷ []) (Sign symbols.Close ∷ []) (symbol_law symbols.Star refl) (λ _. law_gives _ (λ _. _) never never _ (λ _. refl) close_law) refl (λ _. refl))

aggregate_call_law : (w : List ℕ) → Law (aggregate_call w) never opening
unfolding aggregate_call
aggregate_call_law w = law_then _ _ never _ open_law (λ _. step _ _ never _ word_law (λ column. step _ _ never _ close_law (λ _. exact_gives _)))

function_call_law : (b : Bool) (w : List ℕ) → Law (function_call b w) never opening
function_call_law true w = count_call_law
function_call_law false w = aggregate_call_law w

abbrev pub on_select_item : Called Item → List Class
on_select_item = on_called is_function

pub select_item_law : Law select_item on_select_item (AnyWord ∷ [])
unfolding select_item
select_item_law = law_called is_function _ (λ w. function_call_law (is_keyword w (codes "count")) w)

some_items_law : Law some_items (on_list on_select_item) (AnyWord ∷ [])
unfolding some_items
some_items_law = law_listed select_item on_select_item _ select_item_law (called_apart is_function comma refl refl)

items_apart : (all : List (Called Item)) → disjoint (word (codes "from")) (on_list on_select_item all) ≡ true
items_apart [] = refl
items_apart (a ∷ []) = called_apart is_function (word (codes "from")) refl refl a
items_apart (a ∷ b ∷ more) = items_apart (b ∷ more)

items_from_law : Law items_from never (AnyWord ∷ [])
unfolding items_from
items_from_law = law_on _ _ (on_list on_select_item) never _ (λ _. word (codes "from")) some_items_law (λ all. law_gives _ (λ _. all) never never _ (λ _. refl) (keyword_law (codes "from") refl)) items_apart

star_from_law : Law star_from never (Sign symbols.Star ∷ [])
unfolding star_from
star_from_law = law_then _ _ never _ (symbol_law symbols.Star refl) (λ _. step _ _ never _ (keyword_law (codes "from") refl) (λ _. exact_gives _))

select_list_from_law : Law select_list_from never (Sign symbols.Star ∷ AnyWord ∷ [])
unfolding select_list_from
select_list_from_law = law_either _ _ never (Sign symbols.Star ∷ []) (AnyWord ∷ []) star_from_law items_from_law refl

group_by_law : Law group_by (on_list never) (word (codes "group"))
unfolding group_by
group_by_law = law_then _ _ (on_list never) _ (keyword_law (codes "group") refl) (λ _. step _ _ (on_list never) _ (keyword_law (codes "by") refl) (λ _. names_law.exact))

-- a query before what begins with none of its own words
selected_law : (later : List ℕ → Query → Rule (Act × ℕ)) (ds : List Class) → ((table : List ℕ) (query : Query) → Law (later table query) never ds)
    → disjoint ds (word (codes "group")) ≡ true → disjoint ds comma ≡ true → disjoint (word (codes "group") ++ ds) (word (codes "where")) ≡ true → ((f : Filter) → disjoint (word (codes "group") ++ ds) (on_disj f) ≡ true)
    → Law (selected later) never (word (codes "select"))
selected_law later ds law no_group no_comma no_where no_filter =
    law_then _ _ never _ (keyword_law (codes "select") refl) (λ _.
    step _ _ never _ select_list_from_law (λ list. step _ _ never _ word_law (λ table.
    step_maybe _ _ on_disj never (word (codes "where")) (word (codes "group") ++ ds) where_law (λ filter.
    law_maybe _ _ (on_list never) never (word (codes "group")) ds group_by_law (λ group. law table (query_of list filter group)) no_group (list_apart ds no_comma))
    no_where no_filter)))

sequential_law : Law sequential never (word (codes "settings"))
unfolding sequential
sequential_law =
    law_then _ _ never _ (keyword_law (codes "settings") refl) (λ _. step _ _ never _ (exactly_law (codes "select_sequential_consistency") refl) (λ _.
    step _ _ never _ (symbol_law symbols.Equal refl) (λ _. step _ _ never _ number_law (λ n. exact_gives _))))

synchronous_law : Law synchronous never (word (codes "sync"))
unfolding synchronous
synchronous_law = law_then _ _ never _ (keyword_law (codes "sync") refl) (λ _. exact_gives _)

mode_and_end_law : (table : List ℕ) (query : Query) → Law (mode_and_end table query) never (Keyword (codes "sync") ∷ Keyword (codes "settings") ∷ End ∷ [])
unfolding mode_and_end
mode_and_end_law table query =
    law_maybe _ _ never never (Keyword (codes "sync") ∷ Keyword (codes "settings") ∷ []) (End ∷ []) (law_either _ _ never (word (codes "sync")) (word (codes "settings")) synchronous_law sequential_law refl) (λ mode. ended_law _) refl (λ _. refl)

sync_and_end_law : (table : List ℕ) (query : Query) → Law (sync_and_end table query) never (Keyword (codes "sync") ∷ End ∷ [])
unfolding sync_and_end
sync_and_end_law table query = law_maybe _ _ never never (word (codes "sync")) (End ∷ []) synchronous_law (λ mode. ended_law _) refl (λ _. refl)

pub select_law : (may_set : Bool) → Law (select may_set) never (word (codes "select"))
unfolding select
select_law true = selected_law mode_and_end _ mode_and_end_law refl refl refl (λ f. refl)
select_law false = selected_law sync_and_end _ sync_and_end_law refl refl refl (λ f. refl)

one_reads : (t : Token) (left : ℕ) (u : Unit {0}) → this_number 1 (spot t left) ≡ Some u → among (AnyNumber ∷ []) (spot t left) ≡ true
one_reads (Number n) left u h = refl
one_reads _ left u h = absurd cc

indexes_law : Law indexes never (Exactly (codes "indexes") ∷ [])
unfolding indexes
indexes_law =
    law_then _ _ never _ (exactly_law (codes "indexes") refl) (λ _. step _ _ never _ (symbol_law symbols.Equal refl) (λ _.
    step _ _ never _ (law_token (this_number 1) (AnyNumber ∷ []) (spot (Number 1) 0) tt refl (λ s u h. one_reads s.token s.left u h)) (λ _. exact_gives _)))

explain_law : Law explain never (word (codes "explain"))
unfolding explain
explain_law =
    law_then _ _ never _ (keyword_law (codes "explain") refl) (λ _.
    step_maybe _ _ never never (Exactly (codes "indexes") ∷ []) (word (codes "select")) indexes_law
    (λ _. selected_law (λ table query. _) (End ∷ []) (λ table query. ended_law (Explain table query)) refl refl refl (λ f. refl)) refl (λ _. refl))

-- ---- ALTER

abbrev pub signs : List Class
signs = Sign symbols.Plus ∷ Sign symbols.Minus ∷ []

symbol_reads : (m : SymbolKind) (left : ℕ) (b : Operator) → operator_of m ≡ Some b → among signs (spot (Symbol m) left) ≡ true
symbol_reads symbols.Plus left b h = refl
symbol_reads symbols.Minus left b h = refl
symbol_reads _ left b h = absurd cc

operator_reads : (t : Token) (left : ℕ) (b : Operator) → an_operator (spot t left) ≡ Some b → among signs (spot t left) ≡ true
operator_reads (Symbol m) left b h = symbol_reads m left b h
operator_reads _ left b h = absurd cc

change_law : Law change never signs
unfolding change
change_law = law_then _ _ never _ (law_token an_operator signs (spot (Symbol symbols.Plus) 0) operators.Plus refl (λ s b h. operator_reads s.token s.left b h)) (λ plus. step _ _ never _ number_law (λ n. exact_gives _))

abbrev pub on_right : Right → List Class
on_right (rights.Column column) = signs
on_right _ = []

change_is : (column : List ℕ) (o : Option (Operator × ℕ)) → on_right (change_of column o) ≡ on_maybe signs never o
change_is column None = refl
change_is column (Some (operators.Plus, n)) = refl
change_is column (Some (operators.Minus, n)) = refl

column_right_law : Law column_right on_right (AnyWord ∷ [])
unfolding column_right
column_right_law = law_then _ _ on_right _ word_law (λ column. exact_map (change_of column) _ _ (on_maybe signs never) on_right (change_is column) (exact_maybe_last change never signs change_law))

literal_right_law : Law literal_right on_right literal_firsts
unfolding literal_right
literal_right_law = law_gives _ (λ value. rights.Literal value) never on_right _ (λ _. refl) literal_law

right_law : Law right on_right (AnyWord ∷ literal_firsts)
unfolding right
right_law = law_either _ _ on_right (AnyWord ∷ []) literal_firsts column_right_law literal_right_law refl

abbrev pub on_assignment : List ℕ × Right → List Class
on_assignment a = on_right a.1

pub assignment_law : Law assignment on_assignment (AnyWord ∷ [])
unfolding assignment
assignment_law =
    law_then _ _ on_assignment _ word_law (λ column. step _ _ on_assignment _ (symbol_law symbols.Equal refl) (λ _.
    exact_map (λ r. (column, r)) _ _ on_right on_assignment (λ _. refl) right_law.exact))

right_apart : (ds : List Class) → disjoint ds signs ≡ true → disjoint ds [] ≡ true → (r : Right) → disjoint ds (on_right r) ≡ true
right_apart ds some none (rights.Column column) = some
right_apart ds some none (rights.Literal value) = none
right_apart ds some none (rights.Plus column by) = none
right_apart ds some none (rights.Minus column by) = none

assignments_law : Law assignments (on_list on_assignment) (AnyWord ∷ [])
unfolding assignments
assignments_law = law_listed assignment on_assignment _ assignment_law (λ a. right_apart comma refl refl a.1)

assignments_apart : (all : List (List ℕ × Right)) → disjoint (word (codes "where")) (on_list on_assignment all) ≡ true
assignments_apart [] = refl
assignments_apart ((column, rights.Column c) ∷ []) = refl
assignments_apart ((column, rights.Literal value) ∷ []) = refl
assignments_apart ((column, rights.Plus c by) ∷ []) = refl
assignments_apart ((column, rights.Minus c by) ∷ []) = refl
assignments_apart (a ∷ b ∷ more) = assignments_apart (b ∷ more)

update_law : (table : List ℕ) → Law (update table) never (word (codes "update"))
unfolding update
update_law table =
    law_then _ _ never _ (keyword_law (codes "update") refl) (λ _.
    step_on _ _ (on_list on_assignment) never _ (λ _. word (codes "where")) assignments_law (λ sets.
    law_on _ _ on_disj never _ (λ _. End ∷ []) where_law (λ f. ended_law _) (λ f. refl)) assignments_apart)

delete_law : (table : List ℕ) → Law (delete table) never (word (codes "delete"))
unfolding delete
delete_law table =
    law_then _ _ never _ (keyword_law (codes "delete") refl) (λ _. step_on _ _ on_disj never _ (λ _. End ∷ []) where_law (λ f. ended_law _) (λ f. refl))

tuple_word_law : Law tuple_word never (Exactly (codes "tuple") ∷ [])
unfolding tuple_word
tuple_word_law = law_then _ _ never _ (exactly_law (codes "tuple") refl) (λ _. (tuple_call_law partitions.Tuple).exact)

id_word_law : Law id_word never (word (codes "id"))
unfolding id_word
id_word_law = law_then _ _ never _ (keyword_law (codes "id") refl) (λ _. step _ _ never _ text_law (λ text. exact_gives _))

partition_word_law : Law partition_word never (AnyNumber ∷ Exactly (codes "tuple") ∷ Keyword (codes "id") ∷ [])
unfolding partition_word
partition_word_law =
    law_either _ _ never (AnyNumber ∷ []) (Exactly (codes "tuple") ∷ Keyword (codes "id") ∷ []) (law_gives _ (λ n. partitions.Number n) never never _ (λ _. refl) number_law)
    (law_either _ _ never (Exactly (codes "tuple") ∷ []) (word (codes "id")) tuple_word_law id_word_law refl) refl

partition_named_law : Law partition_named never (word (codes "partition"))
unfolding partition_named
partition_named_law = law_then _ _ never _ (keyword_law (codes "partition") refl) (λ _. partition_word_law.exact)

drop_partition_law : (table : List ℕ) → Law (drop_partition table) never (word (codes "drop"))
unfolding drop_partition
drop_partition_law table = law_then _ _ never _ (keyword_law (codes "drop") refl) (λ _. step _ _ never _ partition_named_law (λ partition. (ended_law _).exact))

pub alter_law : Law alter never (word (codes "alter"))
unfolding alter
alter_law =
    law_then _ _ never _ (keyword_law (codes "alter") refl) (λ _. step _ _ never _ (keyword_law (codes "table") refl) (λ _. step _ _ never _ word_law (λ table.
    (law_either _ _ never (word (codes "update")) (Keyword (codes "delete") ∷ Keyword (codes "drop") ∷ []) (update_law table)
    (law_either _ _ never (word (codes "delete")) (word (codes "drop")) (delete_law table) (drop_partition_law table) refl) refl).exact)))

optimize_law : Law optimize never (word (codes "optimize"))
unfolding optimize
optimize_law =
    law_then _ _ never _ (keyword_law (codes "optimize") refl) (λ _. step _ _ never _ (keyword_law (codes "table") refl) (λ _. step _ _ never _ word_law (λ table.
    step_maybe _ _ never never (word (codes "partition")) (word (codes "final")) partition_named_law
    (λ partition. law_then _ _ never _ (keyword_law (codes "final") refl) (λ _. (ended_law _).exact)) refl (λ _. refl))))

-- ---- the other statements

show_parts_law : Law show_parts never (word (codes "show"))
unfolding show_parts
show_parts_law =
    law_then _ _ never _ (keyword_law (codes "show") refl) (λ _. step _ _ never _ (keyword_law (codes "parts") refl) (λ _. step _ _ never _ (keyword_law (codes "from") refl) (λ _.
    step _ _ never _ word_law (λ table. (ended_law _).exact))))

check_table_law : Law check_table never (word (codes "check"))
unfolding check_table
check_table_law =
    law_then _ _ never _ (keyword_law (codes "check") refl) (λ _. step _ _ never _ (keyword_law (codes "table") refl) (λ _. step _ _ never _ word_law (λ table. (ended_law _).exact)))

wait_mutation_law : Law wait_mutation never (word (codes "wait"))
unfolding wait_mutation
wait_mutation_law =
    law_then _ _ never _ (keyword_law (codes "wait") refl) (λ _. step _ _ never _ (keyword_law (codes "mutation") refl) (λ _. step _ _ never _ word_law (λ table.
    step _ _ never _ number_law (λ id. (ended_law _).exact))))

sync_replica_law : Law sync_replica never (word (codes "sync"))
unfolding sync_replica
sync_replica_law = law_then _ _ never _ (keyword_law (codes "sync") refl) (λ _. step _ _ never _ (keyword_law (codes "replica") refl) (λ _. step _ _ never _ word_law (λ table. (ended_law _).exact)))

restart_replica_law : Law restart_replica never (word (codes "restart"))
unfolding restart_replica
restart_replica_law = law_then _ _ never _ (keyword_law (codes "restart") refl) (λ _. step _ _ never _ (keyword_law (codes "replica") refl) (λ _. step _ _ never _ word_law (λ table. (ended_law _).exact)))

stop_fetches_law : Law stop_fetches never (word (codes "stop"))
unfolding stop_fetches
stop_fetches_law = law_then _ _ never _ (keyword_law (codes "stop") refl) (λ _. step _ _ never _ (keyword_law (codes "fetches") refl) (λ _. step _ _ never _ word_law (λ table. (ended_law _).exact)))

start_fetches_law : Law start_fetches never (word (codes "start"))
unfolding start_fetches
start_fetches_law = law_then _ _ never _ (keyword_law (codes "start") refl) (λ _. step _ _ never _ (keyword_law (codes "fetches") refl) (λ _. step _ _ never _ word_law (λ table. (ended_law _).exact)))

system_command_law : Law system_command never (Keyword (codes "sync") ∷ Keyword (codes "restart") ∷ Keyword (codes "stop") ∷ Keyword (codes "start") ∷ [])
unfolding system_command
system_command_law =
    law_either _ _ never (word (codes "sync")) (Keyword (codes "restart") ∷ Keyword (codes "stop") ∷ Keyword (codes "start") ∷ []) sync_replica_law
    (law_either _ _ never (word (codes "restart")) (Keyword (codes "stop") ∷ Keyword (codes "start") ∷ []) restart_replica_law
    (law_either _ _ never (word (codes "stop")) (word (codes "start")) stop_fetches_law start_fetches_law refl) refl) refl

system_law : Law system never (word (codes "system"))
unfolding system
system_law = law_then _ _ never _ (keyword_law (codes "system") refl) (λ _. system_command_law.exact)

abbrev pub service_firsts : List Class
service_firsts = Keyword (codes "explain") ∷ Keyword (codes "optimize") ∷ Keyword (codes "show") ∷ Keyword (codes "check") ∷ Keyword (codes "wait") ∷ Keyword (codes "system") ∷ []

pub service_law : Law service never service_firsts
unfolding service
service_law =
    law_either _ _ never (word (codes "explain")) _ explain_law (law_either _ _ never (word (codes "optimize")) _ optimize_law (law_either _ _ never (word (codes "show")) _ show_parts_law
    (law_either _ _ never (word (codes "check")) _ check_table_law (law_either _ _ never (word (codes "wait")) _ wait_mutation_law system_law refl) refl) refl) refl) refl
