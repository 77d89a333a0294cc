-- What the code's values are in the grammar. No public clause cites this module.
use Rattle.std.specs.Prelude.{◌≡◌, ◌<◌, ℕ, List, true, false, length, MatchOption}
use Rattle.std.specs.declared.option.Option.{Option}
use Rattle.std.specs.declared.option.Option.TheVariants.{Some, None}
use Rattle.rmt_sql.specs.declared.partition_rule.PartitionRule.{PartitionRule}
use Rattle.rmt_sql.specs.declared.partition_rule.PartitionRule.TheVariants as rules
use Rattle.rmt_sql.specs.declared.order.Order.{Order}
use Rattle.rmt_sql.specs.declared.order.Order.TheVariants as orders
use Rattle.rmt_sql_tokens.specs.declared.cursor.Cursor.{Cursor}
use Rattle.rmt_sql_tokens.specs.Tokens.{Spot}
use Rattle.rmt_sql_tokens.specs.Lexing.{tokens}
use Rattle.rmt_sql_acts.specs.Phrases.{Called, Bare, Call}
use Rattle.rmt_sql.specs.Script.{empty_next, passed}

-- a partition rule as its form calls it
abbrev pub called_rule : PartitionRule → Called (Option (List ℕ × ℕ))
called_rule (rules.Column column) = Bare column
called_rule rules.Tuple = Call None
called_rule (rules.Division column divisor) = Call (Some (column, divisor))

-- a sorting key as its form calls it
abbrev pub called_order : Order → Called (List (List ℕ))
called_order (orders.Column column) = Bare column
called_order (orders.Names all) = Call all

-- what comes after a `;` of the script, where one comes next
abbrev pub PassesEmpty : List Spot → Option Cursor → Type 0
PassesEmpty ts found = MatchOption found (empty_next ts ≡ false) (λ rest. (empty_next ts ≡ true) × (passed ts ≡ passed (tokens rest)) × (length (tokens rest) < length ts))
