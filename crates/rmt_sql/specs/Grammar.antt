-- The grammar of scripts, as in ClickHouse's SQL reference: CREATE TABLE; what a replica executes is in `rmt_sql_acts`.
-- REPLICAS, KILL, RESTART, RUN, LANES and `@replica` are this program's own.
use Rattle.std.specs.Prelude.{ℕ, ◌||◌, ◌&&◌, nat_lt, nat_le, not, List, [], ◌∷◌, length, Bool, true, false, codes, if◌then◌else◌, Option, Some, None}
use Rattle.std.specs.Option.{is_some}
use Rattle.std.specs.Str.{bytes_eq}
use Rattle.rmt_values.specs.declared.column.Column.{Column}
use Rattle.rmt_values.specs.declared.kind.Kind.{Kind}
use Rattle.rmt_values.specs.declared.kind.Kind.TheVariants as kinds
use Rattle.rmt_sql_tokens.specs.declared.symbol_kind.SymbolKind.TheVariants as symbols
use Rattle.rmt_sql_tokens.specs.Tokens.{Token, Word, Number, Spot}
use Rattle.rmt_sql_tokens.specs.Classes.{Class, AnyText, Sign}
use Rattle.rmt_sql_tokens.specs.Singles.{a_word, a_number, a_text, an_end, a_semicolon}
use Rattle.rmt_sql_tokens.specs.Exact.{Rule, token, ◌then◌, gives, maybe, either, many, always, item}
use Rattle.rmt_sql.specs.declared.settings.Settings.{Settings}
use Rattle.rmt_sql.specs.declared.setting_name.SettingName.{SettingName}
use Rattle.rmt_sql.specs.declared.setting_name.SettingName.TheVariants as settings_of_create
use Rattle.rmt_statements.specs.declared.act.Act.{Act}
use Rattle.rmt_statements.specs.declared.sent.Sent.{Sent}
use Rattle.rmt_statements.specs.declared.statement.Statement.{Statement}
use Rattle.rmt_statements.specs.declared.statement.Statement.TheVariants.{Replicas, Create, Kill, Restart, Run, Lanes, At}
use Rattle.rmt_sql_acts.specs.Phrases.{the, very, the_symbol, opening, comma, word, listed, Called, called, names_in_parentheses, tuple_call, ended, Bare, Call}
use Rattle.rmt_sql_acts.specs.Acts.{row_act, row_act_firsts, act}

-- ---- CREATE

-- the type of this name
abbrev pub kind_of_word : List ℕ → Option Kind
kind_of_word w =
    if bytes_eq w (codes "UInt64") then Some kinds.UInt64 else (if bytes_eq w (codes "Int64") then Some kinds.Int64 else
    (if bytes_eq w (codes "String") then Some kinds.Text else None))

-- the type that a token names
abbrev pub kind_in : Token → Option Kind
kind_in (Word w) = kind_of_word w
kind_in _ = None

-- UInt64 | Int64 | String
abbrev pub a_kind : Spot → Option Kind
a_kind s = kind_in s.token

-- column type
unfoldable pub column : Rule Column
column = token a_word then λ name. token a_kind then λ kind. gives (record { name = name; kind = kind })

-- column { , column }
unfoldable pub columns : Rule (List Column)
columns = listed column

-- text , text
unfoldable pub two_texts : Rule (Unit {0})
two_texts = token a_text then λ _. the_symbol symbols.Comma then λ _. token a_text then λ _. gives tt

-- ( [ text , text ] )
unfoldable pub engine_arguments : Rule (Unit {0})
engine_arguments = the_symbol symbols.Open then λ _. maybe (AnyText ∷ []) two_texts then λ _. the_symbol symbols.Close then λ _. gives tt

-- words that take parentheses in a partition rule
abbrev pub takes_rule : List ℕ → Bool
takes_rule w = bytes_eq w (codes "tuple") || bytes_eq w (codes "intDiv")

-- ( column , number )
unfoldable pub division : Rule (Option (List ℕ × ℕ))
division =
    the_symbol symbols.Open then λ _. token a_word then λ column. the_symbol symbols.Comma then λ _. token a_number then λ divisor. the_symbol symbols.Close then λ _.
    gives (Some (column, divisor))

-- what is in the parentheses of `tuple`, or else of `intDiv`
abbrev pub rule_call : Bool → Rule (Option (List ℕ × ℕ))
rule_call true = tuple_call None
rule_call false = division

-- tuple ( ) | column | intDiv ( column , number )
unfoldable pub partition_rule : Rule (Called (Option (List ℕ × ℕ)))
partition_rule = called takes_rule (λ w. rule_call (bytes_eq w (codes "tuple")))

-- a column alone has the divisor 1
abbrev pub rule_of : Called (Option (List ℕ × ℕ)) → Option (List ℕ × ℕ)
rule_of (Bare column) = Some (column, 1)
rule_of (Call rule) = rule

-- no rule where none is written
abbrev pub partition_of : Option (Called (Option (List ℕ × ℕ))) → Option (List ℕ × ℕ)
partition_of None = None
partition_of (Some rule) = rule_of rule

-- PARTITION BY rule
unfoldable pub partition_by : Rule (Called (Option (List ℕ × ℕ)))
partition_by = the (codes "partition") then λ _. the (codes "by") then λ _. partition_rule

-- the word is `tuple`
abbrev pub is_tuple : List ℕ → Bool
is_tuple w = bytes_eq w (codes "tuple")

-- tuple ( ) | column | ( names )
unfoldable pub order : Rule (Called (List (List ℕ)))
order = either opening (names_in_parentheses then λ all. gives (Call all)) (called is_tuple (λ _. tuple_call []))

-- a column alone is a key of one column
abbrev pub key_of : Called (List (List ℕ)) → List (List ℕ)
key_of (Bare column) = column ∷ []
key_of (Call all) = all

-- no setting is set
abbrev pub unset : Settings
unset = record { granularity = None; window = None }

-- the setting of this name; each at most once
abbrev pub setting_word : Settings → List ℕ → Option SettingName
setting_word s w =
    if bytes_eq w (codes "index_granularity") && not (is_some s.granularity) then Some settings_of_create.Granularity
    else (if bytes_eq w (codes "replicated_deduplication_window") && not (is_some s.window) then Some settings_of_create.Window else None)

-- the setting that a token names
abbrev pub setting_in : Settings → Token → Option SettingName
setting_in s (Word w) = setting_word s w
setting_in s _ = None

-- a setting that is not set yet
abbrev pub a_setting : Settings → Spot → Option SettingName
a_setting s t = setting_in s t.token

-- the settings with one more set
abbrev pub with_setting : SettingName → ℕ → Settings → Settings
with_setting settings_of_create.Granularity n s = record { granularity = Some n; window = s.window }
with_setting settings_of_create.Window n s = record { granularity = s.granularity; window = Some n }

-- a setting is left to set
abbrev pub may_set : Settings → Bool
may_set s = not (is_some s.granularity) || not (is_some s.window)

-- setting = number
unfoldable pub setting : Settings → Rule Settings
setting s = token (a_setting s) then λ name. the_symbol symbols.Equal then λ _. token a_number then λ n. gives (with_setting name n s)

-- , setting
abbrev pub further_setting : Settings → Rule Settings
further_setting s = the_symbol symbols.Comma then λ _. setting s

-- SETTINGS setting { , setting }
unfoldable pub settings : Rule Settings
settings = the (codes "settings") then λ _. setting unset then λ first. many may_set comma further_setting first

-- no setting where none is written
abbrev pub settings_of : Option Settings → Settings
settings_of None = unset
settings_of (Some s) = s

-- [ SETTINGS setting { , setting } ] and the end of the CREATE
unfoldable pub create_settings : List ℕ → List Column → Option (List ℕ × ℕ) → List (List ℕ) → Rule (Statement × ℕ)
create_settings table columns partition key = maybe (word (codes "settings")) settings then λ s. ended (Create table columns partition key (settings_of s).granularity (settings_of s).window)

-- ORDER BY order and what comes after it
unfoldable pub create_order : List ℕ → List Column → Option (List ℕ × ℕ) → Rule (Statement × ℕ)
create_order table columns partition = the (codes "order") then λ _. the (codes "by") then λ _. order then λ key. create_settings table columns partition (key_of key)

-- ENGINE = ReplicatedMergeTree [ ( [ text , text ] ) ] and what comes after it
unfoldable pub create_engine : List ℕ → List Column → Rule (Statement × ℕ)
create_engine table columns =
    the (codes "engine") then λ _. the_symbol symbols.Equal then λ _. very (codes "ReplicatedMergeTree") then λ _. maybe opening engine_arguments then λ _.
    maybe (word (codes "partition")) partition_by then λ partition. create_order table columns (partition_of partition)

-- CREATE TABLE table ( column type { , column type } ) ENGINE .. [ PARTITION BY .. ] ORDER BY .. [ SETTINGS .. ] ;
unfoldable pub create : Rule (Statement × ℕ)
create =
    the (codes "create") then λ _. the (codes "table") then λ _. token a_word then λ table. the_symbol symbols.Open then λ _. columns then λ all.
    the_symbol symbols.Close then λ _. create_engine table all

-- ---- the other statements

-- @ replica
unfoldable pub replica : Rule (List ℕ)
replica = the_symbol symbols.At then λ _. token a_word then λ name. gives name

-- [ @ replica ] act
abbrev pub sent : Rule (Act × ℕ) → Rule (Sent × ℕ)
sent acts = maybe (Sign symbols.At ∷ []) replica then λ name. acts then λ a. gives (record { replica = name; act = a.0 }, a.1)

-- a statement of a lane, which is an INSERT or a SELECT without SETTINGS, or an ALTER
unfoldable pub lane_statement : Rule Sent
lane_statement = sent (row_act false) then λ s. gives s.0

-- a statement of a lane begins with `@` or as an act on rows
abbrev pub lane_firsts : List Class
lane_firsts = Sign symbols.At ∷ row_act_firsts

-- LANE ; { statement ; }
unfoldable pub lane : Rule (List Sent)
lane = (the (codes "lane") then λ _. token an_end then λ _. gives []) then λ none. many always lane_firsts (item lane_statement) none

-- fewer than 8 lanes come before
abbrev pub may_follow : {A : Type 0} → List A → Bool
may_follow lanes = nat_lt (length lanes) 8

-- lane { lane }, at most 8
unfoldable pub some_lanes : Rule (List (List Sent))
some_lanes = item lane [] then λ first. many may_follow (word (codes "lane")) (item lane) first

-- LANES ; lanes END ;
unfoldable pub lanes : Rule (Statement × ℕ)
lanes = the (codes "lanes") then λ _. token an_end then λ _. some_lanes then λ all. the (codes "end") then λ _. ended (Lanes all)

-- a number of replicas, 1 to 8
abbrev pub count_of : ℕ → Option ℕ
count_of n = if nat_le 1 n && nat_le n 8 then Some n else None

-- the number of replicas that a token is
abbrev pub count_in : Token → Option ℕ
count_in (Number n) = count_of n
count_in _ = None

-- 1 to 8
abbrev pub a_count : Spot → Option ℕ
a_count s = count_in s.token

-- the `;` of a statement, which the script's end doesn't stand for, and how many bytes there are after it
abbrev pub closed : {A : Type 0} → A → Rule (A × ℕ)
closed a = token a_semicolon then λ left. gives (a, left)

-- REPLICAS number ; of which the `;` is owed even where the script ends
unfoldable pub replicas : Rule (Statement × ℕ)
replicas = the (codes "replicas") then λ _. token a_count then λ n. closed (Replicas n)

-- KILL replica ;
unfoldable pub kill : Rule (Statement × ℕ)
kill = the (codes "kill") then λ _. token a_word then λ name. ended (Kill name)

-- RESTART replica ;
unfoldable pub restart : Rule (Statement × ℕ)
restart = the (codes "restart") then λ _. token a_word then λ name. ended (Restart name)

-- RUN table number SEED number ;
unfoldable pub run : Rule (Statement × ℕ)
run = the (codes "run") then λ _. token a_word then λ table. token a_number then λ turns. the (codes "seed") then λ _. token a_number then λ seed. ended (Run table turns seed)

-- an act at a replica
unfoldable pub at_replica : Rule (Statement × ℕ)
at_replica = sent act then λ s. gives (At s.0, s.1)

-- a statement that may come anywhere
unfoldable pub later_statement : Rule (Statement × ℕ)
later_statement =
    either (word (codes "create")) create (either (word (codes "kill")) kill (either (word (codes "restart")) restart (either (word (codes "run")) run
    (either (word (codes "lanes")) lanes at_replica))))

-- a whole statement with its end, and how many bytes there are after it; REPLICAS only as the first
unfoldable pub statement : Bool → Rule (Statement × ℕ)
statement true = either (word (codes "replicas")) replicas later_statement
statement false = later_statement
