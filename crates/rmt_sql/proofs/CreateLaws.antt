-- CREATE is read exactly.
use Rattle.std.proofs.Common.{◌≡◌, ℕ, List, [], ◌∷◌, refl, Bool, true, false, cond, Option, Some, None}
use Rattle.std.specs.Prelude.{codes}
use Rattle.std.specs.Str.{bytes_eq}
use Rattle.rmt_values.specs.declared.kind.Kind.{Kind}
use Rattle.rmt_values.specs.declared.kind.Kind.TheVariants as kinds
use Rattle.rmt_sql_tokens.specs.declared.symbol_kind.SymbolKind.TheVariants as symbols
use Rattle.rmt_sql_tokens.specs.Tokens.{Token, Word, Spot, spot}
use Rattle.rmt_sql_tokens.specs.Classes.{Class, Keyword, AnyWord, AnyText, Sign, End, among}
use Rattle.rmt_sql_tokens.specs.Exact.{never, token}
use Rattle.rmt_sql_tokens.proofs.Apart.{disjoint}
use Rattle.rmt_sql_tokens.proofs.Closed.{exact_gives, on_many}
use Rattle.rmt_sql_tokens.proofs.Laws.{Law, law_token, law_then, law_gives, law_either, law_maybe, law_chain, starts_then, step, step_on, step_maybe}
use Rattle.rmt_sql_tokens.proofs.SingleLaws.{keyword_law, exactly_law, symbol_law, word_law, number_law, text_law}
use Rattle.rmt_sql.specs.declared.settings.Settings.{Settings}
use Rattle.rmt_values.specs.declared.column.Column.{Column}
use Rattle.rmt_sql_acts.specs.Phrases.{word, opening, comma, Call}
use Rattle.rmt_sql.specs.declared.setting_name.SettingName.{SettingName}
use Rattle.rmt_sql.specs.declared.setting_name.SettingName.TheVariants as settings_of_create
use Rattle.rmt_sql.specs.Grammar.{a_kind, column, columns, two_texts, engine_arguments, takes_rule, division, rule_call, partition_rule, partition_of, partition_by, is_tuple, order, key_of, unset, a_setting, may_set, setting, settings, create_settings, create_order, create_engine, create}
use Rattle.rmt_sql_acts.proofs.PhraseLaws.{open_law, close_law, comma_law, law_listed, on_list, list_apart, names_in_parentheses_law, on_called, law_called, tuple_call_law, ended_law, called_apart}

any_word : (t : Token) (left : ℕ) (k : Kind) → a_kind (spot t left) ≡ Some k → among (AnyWord ∷ []) (spot t left) ≡ true
any_word (Word w) left k h = refl
any_word _ left k h = absurd cc

kind_law : Law (token a_kind) never (AnyWord ∷ [])
kind_law = law_token a_kind (AnyWord ∷ []) (spot (Word (codes "UInt64")) 0) kinds.UInt64 refl (λ s k h. any_word s.token s.left k h)

pub column_law : Law column never (AnyWord ∷ [])
unfolding column
column_law = law_then _ _ never _ word_law (λ name. step _ _ never _ kind_law (λ kind. exact_gives _))

pub columns_law : Law columns (on_list never) (AnyWord ∷ [])
unfolding columns
columns_law = law_listed column never _ column_law (λ _. refl)

two_texts_law : Law two_texts never (AnyText ∷ [])
unfolding two_texts
two_texts_law = law_then _ _ never _ text_law (λ _. step _ _ never _ comma_law (λ _. step _ _ never _ text_law (λ _. exact_gives _)))

engine_arguments_law : Law engine_arguments never opening
unfolding engine_arguments
engine_arguments_law =
    law_then _ _ never _ open_law (λ _.
    step_maybe _ _ never never (AnyText ∷ []) (Sign symbols.Close ∷ []) two_texts_law (λ _. law_gives _ (λ _. tt) never never _ (λ _. refl) close_law) refl (λ _. refl))

division_law : Law division never opening
unfolding division
division_law =
    law_then _ _ never _ open_law (λ _. step _ _ never _ word_law (λ column. step _ _ never _ comma_law (λ _. step _ _ never _ number_law (λ divisor. step _ _ never _ close_law (λ _. exact_gives _)))))

rule_call_law : (b : Bool) → Law (rule_call b) never opening
rule_call_law true = tuple_call_law None
rule_call_law false = division_law

partition_rule_law : Law partition_rule (on_called takes_rule) (AnyWord ∷ [])
unfolding partition_rule
partition_rule_law = law_called takes_rule _ (λ w. rule_call_law (bytes_eq w (codes "tuple")))

pub partition_by_law : Law partition_by (on_called takes_rule) (word (codes "partition"))
unfolding partition_by
partition_by_law = law_then _ _ _ _ (keyword_law (codes "partition") refl) (λ _. step _ _ _ _ (keyword_law (codes "by") refl) (λ _. partition_rule_law.exact))

order_law : Law order (on_called is_tuple) (Sign symbols.Open ∷ AnyWord ∷ [])
unfolding order
order_law =
    law_either _ _ (on_called is_tuple) opening (AnyWord ∷ [])
    (law_gives _ (λ all. Call all) never (on_called is_tuple) _ (λ _. refl) names_in_parentheses_law)
    (law_called is_tuple _ (λ w. tuple_call_law [])) refl

-- ---- settings

setting_reads : (s : Settings) (t : Token) (left : ℕ) (b : SettingName) → a_setting s (spot t left) ≡ Some b → among (AnyWord ∷ []) (spot t left) ≡ true
setting_reads s (Word w) left b h = refl
setting_reads s _ left b h = absurd cc

-- a setting that may still be set
example_of : (s : Settings) → may_set s ≡ true → (t : Spot) × (b : SettingName) × (a_setting s t ≡ Some b)
example_of s may = go s.granularity s.window may
  where
    go : (g w : Option ℕ) → may_set (record { granularity = g; window = w }) ≡ true → (t : Spot) × (b : SettingName) × (a_setting (record { granularity = g; window = w }) t ≡ Some b)
    go None w may = (spot (Word (codes "index_granularity")) 0, settings_of_create.Granularity, refl)
    go (Some n) None may = (spot (Word (codes "replicated_deduplication_window")) 0, settings_of_create.Window, refl)
    go (Some n) (Some m) may = absurd cc

pub setting_law : (s : Settings) → may_set s ≡ true → Law (setting s) never (AnyWord ∷ [])
unfolding setting
setting_law s may =
    let (t, b, is) = example_of s may in
    law_then _ _ never _ (law_token (a_setting s) (AnyWord ∷ []) t b is (λ u c h. setting_reads s u.token u.left c h)) (λ which.
    step _ _ never _ (symbol_law symbols.Equal refl) (λ _. step _ _ never _ number_law (λ n. exact_gives _)))

abbrev pub on_settings : Settings → List Class
on_settings = on_many may_set comma never

pub settings_law : Law settings on_settings (word (codes "settings"))
unfolding settings
settings_law =
    law_then _ _ on_settings _ (keyword_law (codes "settings") refl) (λ _.
    (law_chain (setting unset) may_set comma _ never (AnyWord ∷ []) (setting_law unset refl)
    (λ s may. (law_then _ _ never comma comma_law (λ _. (setting_law s may).exact)).exact)
    (λ s. starts_then _ (λ _. setting s) never comma comma_law)
    (λ s. refl)).exact)

-- ---- the statement

settings_apart : (ds : List Class) → disjoint ds comma ≡ true → disjoint ds [] ≡ true → (s : Settings) → disjoint ds (on_settings s) ≡ true
settings_apart ds some none s = go (may_set s)
  where
    go : (b : Bool) → disjoint ds (cond b comma []) ≡ true
    go true = some
    go false = none

create_settings_law : (table : List ℕ) (columns : List Column) (partition : Option (List ℕ × ℕ)) (key : List (List ℕ)) → Law (create_settings table columns partition key) never (Keyword (codes "settings") ∷ End ∷ [])
unfolding create_settings
create_settings_law table all partition key =
    law_maybe _ _ on_settings never (word (codes "settings")) (End ∷ []) settings_law (λ s. ended_law _) refl (settings_apart (End ∷ []) refl refl)

create_order_law : (table : List ℕ) (columns : List Column) (partition : Option (List ℕ × ℕ)) → Law (create_order table columns partition) never (word (codes "order"))
unfolding create_order
create_order_law table all partition =
    law_then _ _ never _ (keyword_law (codes "order") refl) (λ _. step _ _ never _ (keyword_law (codes "by") refl) (λ _.
    step_on _ _ (on_called is_tuple) never _ (λ _. Keyword (codes "settings") ∷ End ∷ []) order_law (λ key. create_settings_law table all partition (key_of key))
    (called_apart is_tuple (Keyword (codes "settings") ∷ End ∷ []) refl refl)))

create_engine_law : (table : List ℕ) (columns : List Column) → Law (create_engine table columns) never (word (codes "engine"))
unfolding create_engine
create_engine_law table all =
    law_then _ _ never _ (keyword_law (codes "engine") refl) (λ _. step _ _ never _ (symbol_law symbols.Equal refl) (λ _. step _ _ never _ (exactly_law (codes "ReplicatedMergeTree") refl) (λ _.
    step_maybe _ _ never never opening (Keyword (codes "partition") ∷ Keyword (codes "order") ∷ []) engine_arguments_law (λ _.
    law_maybe _ _ (on_called takes_rule) never (word (codes "partition")) (word (codes "order")) partition_by_law (λ partition. create_order_law table all (partition_of partition)) refl
    (called_apart takes_rule (word (codes "order")) refl refl))
    refl (λ _. refl))))

pub create_law : Law create never (word (codes "create"))
unfolding create
create_law =
    law_then _ _ never _ (keyword_law (codes "create") refl) (λ _. step _ _ never _ (keyword_law (codes "table") refl) (λ _. step _ _ never _ word_law (λ table. step _ _ never _ open_law (λ _.
    step_on _ _ (on_list never) never _ (λ _. Sign symbols.Close ∷ []) columns_law (λ all.
    law_then _ _ never _ close_law (λ _. (create_engine_law table all).exact))
    (list_apart (Sign symbols.Close ∷ []) refl)))))
