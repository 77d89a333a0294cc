-- What a replica executes, as in ClickHouse's SQL reference: INSERT INTO, SELECT, ALTER, EXPLAIN, OPTIMIZE, CHECK
-- TABLE, SYSTEM. WAIT and SYNC are this program's own.
use Rattle.std.specs.Prelude.{ℕ, ◌||◌, map, List, [], ◌∷◌, Bool, true, false, codes, if◌then◌else◌, Option, Some, None}
use Rattle.rmt_values.specs.declared.literal.Literal.{Literal}
use Rattle.rmt_values.specs.declared.literal.Literal.TheVariants as literals
use Rattle.rmt_values.specs.declared.item.Item.{Item}
use Rattle.rmt_values.specs.declared.item.Item.TheVariants as items
use Rattle.rmt_values.specs.declared.right.Right.{Right}
use Rattle.rmt_values.specs.declared.right.Right.TheVariants as rights
use Rattle.rmt_sql_tokens.specs.declared.symbol_kind.SymbolKind.{SymbolKind}
use Rattle.rmt_sql_tokens.specs.declared.symbol_kind.SymbolKind.TheVariants as symbols
use Rattle.rmt_sql_tokens.specs.Tokens.{Token, Symbol, Spot, is_keyword}
use Rattle.rmt_sql_tokens.specs.Classes.{Class, Keyword, Exactly, AnyWord, AnyNumber, Sign}
use Rattle.rmt_sql_tokens.specs.Singles.{a_word, a_number, this_number, a_text, some_data}
use Rattle.rmt_sql_tokens.specs.Exact.{Rule, token, ◌then◌, gives, maybe, either, many, always, item, longest}
use Rattle.rmt_sql_acts.specs.declared.operator.Operator.{Operator}
use Rattle.rmt_sql_acts.specs.declared.operator.Operator.TheVariants as operators
use Rattle.rmt_statements.specs.declared.offered.Offered.{Offered}
use Rattle.rmt_statements.specs.declared.offered.Offered.TheVariants.{Values, Csv}
use Rattle.rmt_statements.specs.declared.mode.Mode.{Mode}
use Rattle.rmt_statements.specs.declared.mode.Mode.TheVariants as modes
use Rattle.rmt_statements.specs.declared.partition_word.PartitionWord.{PartitionWord}
use Rattle.rmt_statements.specs.declared.partition_word.PartitionWord.TheVariants as partitions
use Rattle.rmt_values.specs.declared.filter.Filter.{Filter}
use Rattle.rmt_statements.specs.declared.act.Act.{Act}
use Rattle.rmt_values.specs.declared.query.Query.{Query}
use Rattle.rmt_values.specs.declared.mutation.Mutation.TheVariants.{Update, Delete}
use Rattle.rmt_statements.specs.declared.act.Act.TheVariants.{Insert, Select, Explain, Mutate, DropPartition, Optimize, ShowParts, CheckTable, WaitMutation, SyncReplica, RestartReplica, StopFetches, StartFetches}
use Rattle.rmt_expr.specs.Sizes.{IsSmallCommand}
use Rattle.rmt_sql_acts.specs.Phrases.{the, very, the_symbol, opening, comma, word, listed, Called, called, literal, names, names_in_parentheses, tuple_call, group, filter, where_filter, ended, Bare, Call}

-- ---- INSERT

-- ( literal { , literal } )
unfoldable pub row : Rule (List Literal)
row = the_symbol symbols.Open then λ _. listed literal then λ all. the_symbol symbols.Close then λ _. gives all

-- [ , ] row
unfoldable pub further_row : List (List Literal) → Rule (List (List Literal))
further_row all = maybe comma (the_symbol symbols.Comma) then λ _. item row all

-- a further row begins with `,` or `(`
abbrev pub row_firsts : List Class
row_firsts = Sign symbols.Comma ∷ Sign symbols.Open ∷ []

-- row { [ , ] row }
unfoldable pub rows : Rule (List (List Literal))
rows = item row [] then λ first. many always row_firsts further_row first

-- the INSERT of what was read
abbrev pub insertion : List ℕ → Option (List (List ℕ)) → Option ℕ → Offered → Act
insertion table columns quorum insert_rows = Insert (record { table = table; columns = columns; quorum = quorum; rows = insert_rows })

-- VALUES rows ;
unfoldable pub values : List ℕ → Option (List (List ℕ)) → Option ℕ → Rule (Act × ℕ)
values table columns quorum = the (codes "values") then λ _. rows then λ all. ended (insertion table columns quorum (Values all))

-- FORMAT CSV data ;
unfoldable pub csv : List ℕ → Option (List (List ℕ)) → Option ℕ → Rule (Act × ℕ)
csv table columns quorum = the (codes "format") then λ _. the (codes "csv") then λ _. token some_data then λ bytes. ended (insertion table columns quorum (Csv bytes))

-- VALUES rows | FORMAT CSV data
unfoldable pub insert_rows : List ℕ → Option (List (List ℕ)) → Option ℕ → Rule (Act × ℕ)
insert_rows table columns quorum = either (word (codes "values")) (values table columns quorum) (csv table columns quorum)

-- SETTINGS insert_quorum = number
unfoldable pub quorum_setting : Rule ℕ
quorum_setting = the (codes "settings") then λ _. very (codes "insert_quorum") then λ _. the_symbol symbols.Equal then λ _. token a_number then λ n. gives n

-- [ SETTINGS insert_quorum = number ], where it may come, and the rows
abbrev pub quorum_and_rows : Bool → List ℕ → Option (List (List ℕ)) → Rule (Act × ℕ)
quorum_and_rows true table columns = maybe (word (codes "settings")) quorum_setting then λ quorum. insert_rows table columns quorum
quorum_and_rows false table columns = insert_rows table columns None

-- table [ ( names ) ] and the rows
unfoldable pub into : Bool → Rule (Act × ℕ)
into may_set = token a_word then λ table. maybe opening names_in_parentheses then λ columns. quorum_and_rows may_set table columns

-- TABLE table and so on
unfoldable pub into_table : Bool → Rule (Act × ℕ)
into_table may_set = the (codes "table") then λ _. into may_set

-- INSERT INTO [ TABLE ] table and so on: the longer line is meant
unfoldable pub insert : Bool → Rule (Act × ℕ)
insert may_set = the (codes "insert") then λ _. the (codes "into") then λ _. longest (into_table may_set) (into may_set)

-- ---- SELECT

-- COUNT, SUM, MIN or MAX, in any case
abbrev pub is_function : List ℕ → Bool
is_function w = (is_keyword w (codes "count") || is_keyword w (codes "sum")) || (is_keyword w (codes "min") || is_keyword w (codes "max"))

-- the aggregate of this word over a column
abbrev pub aggregate : List ℕ → List ℕ → Item
aggregate w column = if is_keyword w (codes "sum") then items.Sum column else (if is_keyword w (codes "min") then items.Min column else items.Max column)

-- ( [ * ] )
unfoldable pub count_call : Rule Item
count_call = the_symbol symbols.Open then λ _. maybe (Sign symbols.Star ∷ []) (the_symbol symbols.Star) then λ _. the_symbol symbols.Close then λ _. gives items.Count

-- ( column )
unfoldable pub aggregate_call : List ℕ → Rule Item
aggregate_call w = the_symbol symbols.Open then λ _. token a_word then λ column. the_symbol symbols.Close then λ _. gives (aggregate w column)

-- what comes after COUNT, or else after another aggregate
abbrev pub function_call : Bool → List ℕ → Rule Item
function_call true w = count_call
function_call false w = aggregate_call w

-- column | count ( [ * ] ) | sum ( column ) | min ( column ) | max ( column )
unfoldable pub select_item : Rule (Called Item)
select_item = called is_function (λ w. function_call (is_keyword w (codes "count")) w)

-- a word alone is a column
abbrev pub item_of : Called Item → Item
item_of (Bare column) = items.Column column
item_of (Call i) = i

-- item { , item }
unfoldable pub some_items : Rule (List (Called Item))
some_items = listed select_item

-- item { , item } FROM
unfoldable pub items_from : Rule (List (Called Item))
items_from = some_items then λ all. the (codes "from") then λ _. gives all

-- * FROM
unfoldable pub star_from : Rule (List (Called Item))
star_from = the_symbol symbols.Star then λ _. the (codes "from") then λ _. gives []

-- the select list, and FROM; `*` stands for all columns
unfoldable pub select_list_from : Rule (List (Called Item))
select_list_from = either (Sign symbols.Star ∷ []) star_from items_from

-- GROUP BY names
unfoldable pub group_by : Rule (List (List ℕ))
group_by = the (codes "group") then λ _. the (codes "by") then λ _. names

-- no names where none are written
abbrev pub names_or : Option (List (List ℕ)) → List (List ℕ)
names_or None = []
names_or (Some all) = all

-- the query of what was read
abbrev pub query_of : List (Called Item) → Option Filter → Option (List (List ℕ)) → Query
query_of list filter group = record { items = map item_of list; filter = filter; group = names_or group }

-- SELECT items FROM table [ WHERE filter ] [ GROUP BY names ], and what comes after it
abbrev pub selected : (List ℕ → Query → Rule (Act × ℕ)) → Rule (Act × ℕ)
selected later =
    the (codes "select") then λ _. select_list_from then λ list. token a_word then λ table.
    maybe (word (codes "where")) where_filter then λ filter. maybe (word (codes "group")) group_by then λ group. later table (query_of list filter group)

-- SETTINGS select_sequential_consistency = number
unfoldable pub sequential : Rule Mode
sequential = the (codes "settings") then λ _. very (codes "select_sequential_consistency") then λ _. the_symbol symbols.Equal then λ _. token a_number then λ n. gives (modes.Sequential n)

-- SYNC
unfoldable pub synchronous : Rule Mode
synchronous = the (codes "sync") then λ _. gives modes.Sync

-- a plain SELECT where nothing is written
abbrev pub mode_of : Option Mode → Mode
mode_of None = modes.Plain
mode_of (Some mode) = mode

-- [ SYNC | SETTINGS .. ] ;
unfoldable pub mode_and_end : List ℕ → Query → Rule (Act × ℕ)
mode_and_end table query = maybe (Keyword (codes "sync") ∷ Keyword (codes "settings") ∷ []) (either (word (codes "sync")) synchronous sequential) then λ mode. ended (Select table query (mode_of mode))

-- [ SYNC ] ;
unfoldable pub sync_and_end : List ℕ → Query → Rule (Act × ℕ)
sync_and_end table query = maybe (word (codes "sync")) synchronous then λ mode. ended (Select table query (mode_of mode))

-- a SELECT, with SETTINGS where they may come
unfoldable pub select : Bool → Rule (Act × ℕ)
select true = selected mode_and_end
select false = selected sync_and_end

-- indexes = 1
unfoldable pub indexes : Rule (Unit {0})
indexes = very (codes "indexes") then λ _. the_symbol symbols.Equal then λ _. token (this_number 1) then λ _. gives tt

-- EXPLAIN [ indexes = 1 ] SELECT .. ;
unfoldable pub explain : Rule (Act × ℕ)
explain = the (codes "explain") then λ _. maybe (Exactly (codes "indexes") ∷ []) indexes then λ _. selected (λ table query. ended (Explain table query))

-- ---- ALTER, OPTIMIZE

-- the operator that a symbol is
abbrev pub operator_of : SymbolKind → Option Operator
operator_of symbols.Plus = Some operators.Plus
operator_of symbols.Minus = Some operators.Minus
operator_of _ = None

-- the operator that a token is
abbrev pub operator_in : Token → Option Operator
operator_in (Symbol m) = operator_of m
operator_in _ = None

-- + or -
abbrev pub an_operator : Spot → Option Operator
an_operator s = operator_in s.token

-- a column as it is, or with a number added or taken away
abbrev pub change_of : List ℕ → Option (Operator × ℕ) → Right
change_of column None = rights.Column column
change_of column (Some (operators.Plus, n)) = rights.Plus column (literals.Number false n)
change_of column (Some (operators.Minus, n)) = rights.Minus column (literals.Number false n)

-- + number | - number
unfoldable pub change : Rule (Operator × ℕ)
change = token an_operator then λ operator. token a_number then λ n. gives (operator, n)

-- column | column + number | column - number
unfoldable pub column_right : Rule Right
column_right = token a_word then λ column. maybe (Sign symbols.Plus ∷ Sign symbols.Minus ∷ []) change then λ c. gives (change_of column c)

-- a literal
unfoldable pub literal_right : Rule Right
literal_right = literal then λ value. gives (rights.Literal value)

-- what a column is set to: a literal, or a column with or without a change
unfoldable pub right : Rule Right
right = either (AnyWord ∷ []) column_right literal_right

-- column = right
unfoldable pub assignment : Rule (List ℕ × Right)
assignment = token a_word then λ column. the_symbol symbols.Equal then λ _. right then λ r. gives (column, r)

-- assignment { , assignment }
unfoldable pub assignments : Rule (List (List ℕ × Right))
assignments = listed assignment

-- UPDATE assignments WHERE filter ;
unfoldable pub update : List ℕ → Rule (Act × ℕ)
update table = the (codes "update") then λ _. assignments then λ sets. where_filter then λ f. ended (Mutate table (Update sets f))

-- DELETE WHERE filter ;
unfoldable pub delete : List ℕ → Rule (Act × ℕ)
delete table = the (codes "delete") then λ _. where_filter then λ f. ended (Mutate table (Delete f))

-- tuple ( )
unfoldable pub tuple_word : Rule PartitionWord
tuple_word = very (codes "tuple") then λ _. tuple_call partitions.Tuple

-- ID text
unfoldable pub id_word : Rule PartitionWord
id_word = the (codes "id") then λ _. token a_text then λ text. gives (partitions.Id text)

-- number | tuple ( ) | ID text
unfoldable pub partition_word : Rule PartitionWord
partition_word = either (AnyNumber ∷ []) (token a_number then λ n. gives (partitions.Number n)) (either (Exactly (codes "tuple") ∷ []) tuple_word id_word)

-- PARTITION partition
unfoldable pub partition_named : Rule PartitionWord
partition_named = the (codes "partition") then λ _. partition_word

-- DROP PARTITION partition ;
unfoldable pub drop_partition : List ℕ → Rule (Act × ℕ)
drop_partition table = the (codes "drop") then λ _. partition_named then λ partition. ended (DropPartition table partition)

-- ALTER TABLE table and what is done
unfoldable pub alter : Rule (Act × ℕ)
alter =
    the (codes "alter") then λ _. the (codes "table") then λ _. token a_word then λ table.
    either (word (codes "update")) (update table) (either (word (codes "delete")) (delete table) (drop_partition table))

-- OPTIMIZE TABLE table [ PARTITION partition ] FINAL ;
unfoldable pub optimize : Rule (Act × ℕ)
optimize =
    the (codes "optimize") then λ _. the (codes "table") then λ _. token a_word then λ table.
    maybe (word (codes "partition")) partition_named then λ partition. the (codes "final") then λ _. ended (Optimize table partition)

-- ---- the other statements

-- SHOW PARTS FROM table ;
unfoldable pub show_parts : Rule (Act × ℕ)
show_parts = the (codes "show") then λ _. the (codes "parts") then λ _. the (codes "from") then λ _. token a_word then λ table. ended (ShowParts table)

-- CHECK TABLE table ;
unfoldable pub check_table : Rule (Act × ℕ)
check_table = the (codes "check") then λ _. the (codes "table") then λ _. token a_word then λ table. ended (CheckTable table)

-- WAIT MUTATION table number ;
unfoldable pub wait_mutation : Rule (Act × ℕ)
wait_mutation = the (codes "wait") then λ _. the (codes "mutation") then λ _. token a_word then λ table. token a_number then λ id. ended (WaitMutation table id)

-- SYNC REPLICA table ;
unfoldable pub sync_replica : Rule (Act × ℕ)
sync_replica = the (codes "sync") then λ _. the (codes "replica") then λ _. token a_word then λ table. ended (SyncReplica table)

-- RESTART REPLICA table ;
unfoldable pub restart_replica : Rule (Act × ℕ)
restart_replica = the (codes "restart") then λ _. the (codes "replica") then λ _. token a_word then λ table. ended (RestartReplica table)

-- STOP FETCHES table ;
unfoldable pub stop_fetches : Rule (Act × ℕ)
stop_fetches = the (codes "stop") then λ _. the (codes "fetches") then λ _. token a_word then λ table. ended (StopFetches table)

-- START FETCHES table ;
unfoldable pub start_fetches : Rule (Act × ℕ)
start_fetches = the (codes "start") then λ _. the (codes "fetches") then λ _. token a_word then λ table. ended (StartFetches table)

-- SYNC REPLICA | RESTART REPLICA | STOP FETCHES | START FETCHES
unfoldable pub system_command : Rule (Act × ℕ)
system_command = either (word (codes "sync")) sync_replica (either (word (codes "restart")) restart_replica (either (word (codes "stop")) stop_fetches start_fetches))

-- SYSTEM and what is done
unfoldable pub system : Rule (Act × ℕ)
system = the (codes "system") then λ _. system_command

-- what a statement does at a replica, apart from rows and commands
unfoldable pub service : Rule (Act × ℕ)
service =
    either (word (codes "explain")) explain (either (word (codes "optimize")) optimize (either (word (codes "show")) show_parts
    (either (word (codes "check")) check_table (either (word (codes "wait")) wait_mutation system))))

-- an INSERT, a SELECT or an ALTER, of which the first two have SETTINGS where they may
unfoldable pub row_act : Bool → Rule (Act × ℕ)
row_act may_set = either (word (codes "insert")) (insert may_set) (either (word (codes "select")) (select may_set) alter)

-- an act on rows begins with INSERT, SELECT or ALTER
abbrev pub row_act_firsts : List Class
row_act_firsts = Keyword (codes "insert") ∷ Keyword (codes "select") ∷ Keyword (codes "alter") ∷ []

-- what a statement does at a replica
unfoldable pub act : Rule (Act × ℕ)
act = either row_act_firsts (row_act true) service

-- ---- the size of commands

-- the command of an ALTER is small: its filter nests at most 320 deep, as the limits of a filter bring about
abbrev pub HasSmallCommand : Act → Type 0
HasSmallCommand (Mutate table command) = IsSmallCommand 320 command
HasSmallCommand act = Unit {0}
