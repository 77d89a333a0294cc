-- A CREATE that is read has a column, the command of an ALTER that is read is small, and at most 8 lanes are read.
use Rattle.std.proofs.Common.{◌⊎◌, ℕ, List, [], ◌∷◌, inl, inr, sym, subst, Bool, true, false, cond, Option}
use Rattle.rmt_values.specs.declared.column.Column.{Column}
use Rattle.rmt_statements.specs.declared.statement.Statement.{Statement}
use Rattle.rmt_statements.specs.declared.statement.Statement.TheVariants.{Replicas, Create, Kill, Restart, Run, Lanes}
use Rattle.rmt_sql_tokens.specs.declared.context.Context.TheVariants.{Plain}
use Rattle.rmt_sql_tokens.specs.Tokens.{Spot}
use Rattle.rmt_sql_acts.specs.Acts.{HasSmallCommand, act}
use Rattle.rmt_sql_acts.proofs.LineFacts.{AreWithin, parts_within, spots_within, Every, every_then, every_after, every_gives, every_ended, listed_some, IsSome}
use Rattle.rmt_sql_acts.proofs.ActSizes.{IsSmallAct, act_small}
use Rattle.rmt_sql.specs.Grammar.{column, columns, create_settings, create_order, create_engine, create, sent, lanes, replicas, kill, restart, run, at_replica, later_statement, statement, settings_of, key_of, partition_of}
use Rattle.rmt_sql.specs.Script.{is_empty, passed, tokens_at, is_first, IsStatementAt, KeepsLimits}
use Rattle.rmt_sql.proofs.LaneLimits.{lanes_keep}

-- it is another statement than LANES, and keeps the limits of its form
abbrev KeepsOther : Statement → Type 0
KeepsOther (Lanes all) = ⊥
KeepsOther found = KeepsLimits found

-- such a statement, whatever its place
abbrev Keeps : Statement × ℕ → Type 0
Keeps s = KeepsOther s.0

columns_some : Every IsSome columns.form
unfolding columns
columns_some = listed_some column

settings_keep : (table : List ℕ) (all : List Column) (partition : Option (List ℕ × ℕ)) (key : List (List ℕ)) → IsSome all → Every Keeps (create_settings table all partition key).form
unfolding create_settings
settings_keep table all partition key some =
    every_after _ _ _ (λ s. every_ended KeepsOther (Create table all partition key (settings_of s).granularity (settings_of s).window) some)

order_keeps : (table : List ℕ) (all : List Column) (partition : Option (List ℕ × ℕ)) → IsSome all → Every Keeps (create_order table all partition).form
unfolding create_order
order_keeps table all partition some =
    every_after _ _ _ (λ _. every_after _ _ _ (λ _. every_after _ _ _ (λ key. settings_keep table all partition (key_of key) some)))

engine_keeps : (table : List ℕ) (all : List Column) → IsSome all → Every Keeps (create_engine table all).form
unfolding create_engine
engine_keeps table all some =
    every_after _ _ _ (λ _. every_after _ _ _ (λ _. every_after _ _ _ (λ _. every_after _ _ _ (λ _. every_after _ _ _ (λ partition.
    order_keeps table all (partition_of partition) some)))))

create_keeps : Every Keeps create.form
unfolding create
create_keeps =
    every_after _ _ _ (λ _. every_after _ _ _ (λ _. every_after _ _ _ (λ table. every_after _ _ _ (λ _.
    every_then IsSome _ _ _ columns_some (λ all some. every_after _ _ _ (λ _. engine_keeps table all some))))))

at_keeps : Every Keeps at_replica.form
unfolding at_replica
at_keeps =
    every_then (λ s. HasSmallCommand s.0.act) _ (sent act).form _
    (every_after _ _ _ (λ name. every_then IsSmallAct _ act.form _ act_small (λ a small. every_gives _ _ small)))
    (λ s small. every_gives _ _ small)

-- a line of LANES, or of another statement, which keeps its limits
abbrev pub IsLanesOrKeeps : List Spot → Statement × ℕ → Type 0
IsLanesOrKeeps ts s = lanes.form ts s ⊎ KeepsOther s.0

later_is : (ts : List Spot) (s : Statement × ℕ) → AreWithin ts → later_statement.form ts s → IsLanesOrKeeps ts s
unfolding later_statement kill restart run
later_is ts s within (inl h) = inr (create_keeps.each ts s within h)
later_is ts s within (inr (inl h)) =
    inr ((every_after Keeps _ _ (λ _. every_after _ _ _ (λ name. every_ended KeepsOther (Kill name) tt))).each ts s within h)
later_is ts s within (inr (inr (inl h))) =
    inr ((every_after Keeps _ _ (λ _. every_after _ _ _ (λ name. every_ended KeepsOther (Restart name) tt))).each ts s within h)
later_is ts s within (inr (inr (inr (inl h)))) =
    inr ((every_after Keeps _ _ (λ _. every_after _ _ _ (λ table. every_after _ _ _ (λ turns. every_after _ _ _ (λ _. every_after _ _ _ (λ seed.
    every_ended KeepsOther (Run table turns seed) tt)))))).each ts s within h)
later_is ts s within (inr (inr (inr (inr (inl h))))) = inl h
later_is ts s within (inr (inr (inr (inr (inr h))))) = inr (at_keeps.each ts s within h)

statement_is : (first : Bool) (ts : List Spot) (s : Statement × ℕ) → AreWithin ts → (statement first).form ts s → IsLanesOrKeeps ts s
unfolding statement replicas
statement_is true ts s within (inl h) =
    inr ((every_after Keeps _ _ (λ _. every_after _ _ _ (λ n. every_after _ _ _ (λ left. every_gives _ (Replicas n, left) tt)))).each ts s within h)
statement_is true ts s within (inr h) = later_is ts s within h
statement_is false ts s within h = later_is ts s within h

-- tokens after empty statements
passed_within : (ts : List Spot) → AreWithin ts → AreWithin (passed ts)
passed_within [] within = tt
passed_within (s ∷ ss) within = go (is_empty s) (passed_within ss within.1)
  where
    go : (b : Bool) → AreWithin (passed ss) → AreWithin (cond b (passed ss) (s ∷ ss))
    go true rest = rest
    go false rest = within

-- the tokens of a statement that is read are within the limits
line_within : (script : List ℕ) (at : ℕ) (found : Statement) (start end : ℕ) (h : IsStatementAt script at found start end) → AreWithin h.prefix
line_within script at found start end h = (parts_within h.prefix h.more (subst AreWithin (sym h.parts) (passed_within (tokens_at script at) (spots_within 0 Plain _)))).0

-- a statement that is read is LANES, or another one, which keeps its limits
pub read_is : (script : List ℕ) (at : ℕ) (found : Statement) (start end : ℕ) (h : IsStatementAt script at found start end) → IsLanesOrKeeps h.prefix (found, h.left)
read_is script at found start end h = statement_is (is_first script at) h.prefix (found, h.left) (line_within script at found start end h) h.line

-- the limits of another statement than LANES
other_keeps : (found : Statement) → KeepsOther found → KeepsLimits found
other_keeps (Lanes all) h = absurd h
other_keeps _ h = h

-- a statement that is read keeps the limits of its form
pub read_keeps : (script : List ℕ) (at : ℕ) (found : Statement) (start end : ℕ) → IsStatementAt script at found start end → KeepsLimits found
read_keeps script at found start end h = elim (read_is script at found start end h) [
  | inl line ↦ lanes_keep.each h.prefix (found, h.left) (line_within script at found start end h) line
  | inr kept ↦ other_keeps found kept
]
