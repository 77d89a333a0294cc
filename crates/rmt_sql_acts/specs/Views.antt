-- What the code's values are in the forms of acts. No public clause cites this module.
use Rattle.std.specs.Prelude.{ℕ, List, Bool, true, false, codes}
use Rattle.rmt_values.specs.declared.item.Item.{Item}
use Rattle.rmt_values.specs.declared.item.Item.TheVariants as items
use Rattle.rmt_values.specs.declared.query.Query.{Query}
use Rattle.rmt_statements.specs.declared.act.Act.{Act}
use Rattle.rmt_sql_tokens.specs.Singles.{a_word}
use Rattle.rmt_sql_tokens.specs.Exact.{Rule, token, ◌then◌, gives, maybe}
use Rattle.rmt_sql_acts.specs.Phrases.{the, word, where_filter, Called, Bare, Call}
use Rattle.rmt_sql_acts.specs.Acts.{select_list_from, group_by, query_of, mode_and_end, sync_and_end}

-- an item as its form calls it
abbrev pub called_item : Item → Called Item
called_item (items.Column column) = Bare column
called_item items.Count = Call items.Count
called_item (items.Sum column) = Call (items.Sum column)
called_item (items.Min column) = Call (items.Min column)
called_item (items.Max column) = Call (items.Max column)

-- SELECT items FROM table [ WHERE filter ] [ GROUP BY names ]
unfoldable pub selection : Rule (List ℕ × Query)
selection =
    the (codes "select") then λ _. select_list_from then λ list. token a_word then λ table.
    maybe (word (codes "where")) where_filter then λ filter. maybe (word (codes "group")) group_by then λ group. gives (table, query_of list filter group)

-- the mode of a SELECT and its end, with SETTINGS where they may come
abbrev pub select_end : Bool → List ℕ → Query → Rule (Act × ℕ)
select_end true = mode_and_end
select_end false = sync_and_end
