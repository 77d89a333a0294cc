-- An ALTER that is read has a small command: its filter nests at most 320 deep, and an UPDATE sets a column at least.
use Rattle.std.proofs.Common.{◌≡◌, ◌∙◌, ℕ, zero, suc, ◌+◌, ◌-◌, ◌≤◌, ◌<◌, List, [], ◌∷◌, max, nat_lt, refl, ap, sym, arith, Bool, true, false, cond, Option, Some, None}
use Rattle.std.proofs.Math.Nat.{max-le}
use Rattle.std.proofs.lemmas.Bool.{ltb-true}
use Rattle.std.specs.Prelude.{codes}
use Rattle.rmt_values.specs.declared.literal.Literal.{Literal}
use Rattle.rmt_values.specs.declared.cmp.Cmp.{Cmp}
use Rattle.rmt_values.specs.declared.query.Query.{Query}
use Rattle.rmt_values.specs.declared.filter.Filter.{Filter}
use Rattle.rmt_values.specs.declared.filter.Filter.TheVariants.{Test, Both, Either, Not, rolls-Test, rolls-Both, rolls-Either, rolls-Not}
use Rattle.rmt_values.specs.declared.filter.Filter.TheOpen as level
use Rattle.rmt_values.specs.declared.filter.Filter.TheFolds.{fold-roll-Filter}
use Rattle.rmt_values.specs.declared.mutation.Mutation.TheVariants.{Update, Delete}
use Rattle.rmt_expr.specs.Sizes.{level_nesting, nesting}
use Rattle.rmt_statements.specs.declared.act.Act.{Act}
use Rattle.rmt_statements.specs.declared.act.Act.TheVariants.{Select, Explain, Mutate, DropPartition, Optimize, ShowParts, CheckTable, WaitMutation, SyncReplica, RestartReplica, StopFetches, StartFetches}
use Rattle.rmt_statements.specs.declared.offered.Offered.TheVariants.{Values, Csv}
use Rattle.rmt_sql_tokens.specs.Tokens.{Spot}
use Rattle.rmt_sql_tokens.specs.Singles.{a_word, a_column}
use Rattle.rmt_sql_tokens.specs.Exact.{Rule, One, token, ◌then◌, always}
use Rattle.rmt_sql_acts.specs.Phrases.{the, ended, tests_at, tests_in, column_after, beyond_in, and_unary, or_conj, comparison, conj, disj, unary, filter, where_filter}
use Rattle.rmt_sql_acts.specs.Acts.{HasSmallCommand, insertion, values, csv, insert_rows, quorum_and_rows, into, into_table, insert, selected, mode_and_end, sync_and_end, mode_of, select, explain, assignment, assignments, update, delete, drop_partition, alter, optimize, show_parts, check_table, wait_mutation, sync_replica, restart_replica, stop_fetches, start_fetches, system_command, system, service, row_act, act}
use Rattle.rmt_sql_acts.proofs.FilterReads.{tests_in-Both, tests_in-Either, beyond_none}
use Rattle.rmt_sql_acts.proofs.LineFacts.{AreWithin, Every, every_then, every_after, every_gives, every_either, every_many, every_ended, listed_some, IsSome}

-- ---- filters

-- It has a comparison, with those before it at most 256, and it nests no deeper than the NOTs and parentheses that may
-- be open and its comparisons together.
record IsShallow (depth before : ℕ) (f : Filter) : Type 0 where
  some : 1 ≤ tests_in f
  few : before + tests_in f ≤ 256
  flat : nesting f ≤ depth + tests_in f

test_shallow : (depth before : ℕ) (column : List ℕ) (cmp : Cmp) (value : Literal) → before < 256 → IsShallow depth before (Test column cmp value)
test_shallow depth before column cmp value less =
    let tests : tests_in (Test column cmp value) ≡ 1 = ap tests_in (sym (rolls-Test column cmp value)) ∙ fold-roll-Filter ℕ tests_at (level.Test column cmp value) in
    let nests : nesting (Test column cmp value) ≡ 1 = ap nesting (sym (rolls-Test column cmp value)) ∙ fold-roll-Filter ℕ level_nesting (level.Test column cmp value) in
    record { some = omega (arith, tests); few = omega (arith, tests, less); flat = omega (arith, tests, nests) }

nesting-Both : (f g : Filter) → nesting (Both f g) ≡ max (nesting f) (nesting g) + 1
nesting-Both f g = ap nesting (sym (rolls-Both f g)) ∙ fold-roll-Filter ℕ level_nesting (level.Both f g)

nesting-Either : (f g : Filter) → nesting (Either f g) ≡ max (nesting f) (nesting g) + 1
nesting-Either f g = ap nesting (sym (rolls-Either f g)) ∙ fold-roll-Filter ℕ level_nesting (level.Either f g)

joined_shallow : (depth before : ℕ) (f g h : Filter) → IsShallow depth before f → IsShallow depth (before + tests_in f) g
    → tests_in h ≡ tests_in f + tests_in g → nesting h ≡ max (nesting f) (nesting g) + 1 → IsShallow depth before h
joined_shallow depth before f g h p q tests nests =
    let one : nesting f ≤ depth + tests_in f + tests_in g - 1 = omega (arith, p.flat, q.some) in
    let other : nesting g ≤ depth + tests_in f + tests_in g - 1 = omega (arith, q.flat, p.some) in
    let most = max-le one other in
    record { some = omega (arith, tests, p.some); few = omega (arith, tests, q.few); flat = omega (arith, tests, nests, most, p.some) }

not_shallow : (depth before : ℕ) (f : Filter) → IsShallow depth before f → IsShallow (suc depth) before (Not f)
not_shallow depth before f p =
    let tests : tests_in (Not f) ≡ tests_in f = ap tests_in (sym (rolls-Not f)) ∙ fold-roll-Filter ℕ tests_at (level.Not f) in
    let nests : nesting (Not f) ≡ nesting f + 1 = ap nesting (sym (rolls-Not f)) ∙ fold-roll-Filter ℕ level_nesting (level.Not f) in
    record { some = omega (arith, tests, p.some); few = omega (arith, tests, p.few); flat = omega (arith, tests, nests, p.flat) }

group_shallow : (depth before : ℕ) (f : Filter) → IsShallow depth before f → IsShallow (suc depth) before f
group_shallow depth before f p = record { some = p.some; few = p.few; flat = omega (arith, p.flat) }

column_few : (before : ℕ) (ts : List Spot) (column : List ℕ) → AreWithin ts → One (column_after before) ts column → before < 256
column_few before [] column within h = absurd h
column_few before (s ∷ t ∷ ts) column within h = absurd h
column_few before (s ∷ []) column within h = go (nat_lt before 256) (ltb-true before 256) h
  where
    go : (b : Bool) → (b ≡ true → before < 256) → cond b (a_column s) (beyond_in s.token) ≡ Some column → before < 256
    go true less h = less refl
    go false less h = absurd (let none = beyond_none s.token within.0 in cc)

comparison_shallow : (depth before : ℕ) → Every (IsShallow depth before) (comparison before).form
unfolding comparison
comparison_shallow depth before =
    every_then (λ column. before < 256) _ (One (column_after before)) _ (record { each = column_few before }) (λ column less.
    every_after _ _ _ (λ cmp. every_after _ _ _ (λ value. every_gives _ _ (test_shallow depth before column cmp value less))))

conj_shallow : (depth : ℕ) (u : ℕ → Rule Filter) → ((before : ℕ) → Every (IsShallow depth before) (u before).form) → (before : ℕ) → Every (IsShallow depth before) (conj u before).form
conj_shallow depth u each before =
    every_then (IsShallow depth before) _ (u before).form _ (each before) (λ first p.
    every_many (IsShallow depth before) always (λ f. (and_unary u before f).form) first (λ f q. every_after _ _ _ (λ _.
    every_then (IsShallow depth (before + tests_in f)) _ (u (before + tests_in f)).form _ (each (before + tests_in f)) (λ g r.
    every_gives _ _ (joined_shallow depth before f g (Both f g) q r (tests_in-Both f g) (nesting-Both f g))))) p)

disj_shallow : (depth : ℕ) (u : ℕ → Rule Filter) → ((before : ℕ) → Every (IsShallow depth before) (u before).form) → (before : ℕ) → Every (IsShallow depth before) (disj u before).form
disj_shallow depth u each before =
    every_then (IsShallow depth before) _ (conj u before).form _ (conj_shallow depth u each before) (λ first p.
    every_many (IsShallow depth before) always (λ f. (or_conj u before f).form) first (λ f q. every_after _ _ _ (λ _.
    every_then (IsShallow depth (before + tests_in f)) _ (conj u (before + tests_in f)).form _ (conj_shallow depth u each (before + tests_in f)) (λ g r.
    every_gives _ _ (joined_shallow depth before f g (Either f g) q r (tests_in-Either f g) (nesting-Either f g))))) p)

unary_shallow : (depth before : ℕ) → Every (IsShallow depth before) (unary depth before).form
unfolding unary
unary_shallow zero before = comparison_shallow zero before
unary_shallow (suc depth) before =
    every_either _ _ _ (every_after _ _ _ (λ _. every_then (IsShallow depth before) _ _ _ (unary_shallow depth before) (λ f p.
    every_gives _ _ (not_shallow depth before f p))))
    (every_either _ _ _ (every_after _ _ _ (λ _. every_then (IsShallow depth before) _ _ _ (disj_shallow depth (unary depth) (unary_shallow depth) before) (λ f p.
    every_after _ _ _ (λ _. every_gives _ _ (group_shallow depth before f p)))))
    (comparison_shallow (suc depth) before))

where_small : Every (λ f. nesting f ≤ 320) where_filter.form
unfolding where_filter filter
where_small = record {
  each = λ ts f within h.
      let p = (every_after (IsShallow 64 0) _ _ (λ _. disj_shallow 64 (unary 64) (unary_shallow 64) 0)).each ts f within h in
      omega (arith, p.few, p.flat);
}

-- ---- acts

-- an act is what it says, and its place doesn't matter
abbrev pub IsSmallAct : Act × ℕ → Type 0
IsSmallAct a = HasSmallCommand a.0

assignments_some : Every IsSome assignments.form
unfolding assignments
assignments_some = listed_some assignment

update_small : (table : List ℕ) → Every IsSmallAct (update table).form
unfolding update
update_small table =
    every_after _ _ _ (λ _. every_then IsSome _ _ _ assignments_some (λ sets some. every_then (λ f. nesting f ≤ 320) _ _ _ where_small (λ f deep.
    every_ended HasSmallCommand (Mutate table (Update sets f)) (some, deep))))

delete_small : (table : List ℕ) → Every IsSmallAct (delete table).form
unfolding delete
delete_small table =
    every_after _ _ _ (λ _. every_then (λ f. nesting f ≤ 320) _ _ _ where_small (λ f deep. every_ended HasSmallCommand (Mutate table (Delete f)) deep))

drop_small : (table : List ℕ) → Every IsSmallAct (drop_partition table).form
unfolding drop_partition
drop_small table = every_after _ _ _ (λ _. every_after _ _ _ (λ partition. every_ended HasSmallCommand (DropPartition table partition) tt))

alter_small : Every IsSmallAct alter.form
unfolding alter
alter_small = every_after _ _ _ (λ _. every_after _ _ _ (λ _. every_after _ _ _ (λ table. every_either _ _ _ (update_small table) (every_either _ _ _ (delete_small table) (drop_small table)))))

rows_small : (table : List ℕ) (columns : Option (List (List ℕ))) (quorum : Option ℕ) → Every IsSmallAct (insert_rows table columns quorum).form
unfolding insert_rows values csv
rows_small table columns quorum =
    every_either _ _ _ (every_after _ _ _ (λ _. every_after _ _ _ (λ all. every_ended HasSmallCommand (insertion table columns quorum (Values all)) tt)))
    (every_after _ _ _ (λ _. every_after _ _ _ (λ _. every_after _ _ _ (λ bytes. every_ended HasSmallCommand (insertion table columns quorum (Csv bytes)) tt))))

quorum_small : (may_set : Bool) (table : List ℕ) (columns : Option (List (List ℕ))) → Every IsSmallAct (quorum_and_rows may_set table columns).form
quorum_small true table columns = every_after _ _ _ (λ quorum. rows_small table columns quorum)
quorum_small false table columns = rows_small table columns None

into_small : (may_set : Bool) → Every IsSmallAct (into may_set).form
unfolding into
into_small may_set = every_after _ _ _ (λ table. every_after _ _ _ (λ columns. quorum_small may_set table columns))

insert_small : (may_set : Bool) → Every IsSmallAct (insert may_set).form
unfolding insert into_table
insert_small may_set = every_after _ _ _ (λ _. every_after _ _ _ (λ _. every_either _ _ _ (every_after _ _ _ (λ _. into_small may_set)) (into_small may_set)))

selected_small : (later : List ℕ → Query → Rule (Act × ℕ)) → ((table : List ℕ) (query : Query) → Every IsSmallAct (later table query).form) → Every IsSmallAct (selected later).form
selected_small later each =
    every_after _ _ _ (λ _. every_after _ _ _ (λ list. every_after _ _ _ (λ table. every_after _ _ _ (λ f. every_after _ _ _ (λ g. each table _)))))

select_small : (may_set : Bool) → Every IsSmallAct (select may_set).form
unfolding select mode_and_end sync_and_end
select_small true = selected_small mode_and_end (λ table query. every_after _ _ _ (λ mode. every_ended HasSmallCommand (Select table query (mode_of mode)) tt))
select_small false = selected_small sync_and_end (λ table query. every_after _ _ _ (λ mode. every_ended HasSmallCommand (Select table query (mode_of mode)) tt))

row_small : (may_set : Bool) → Every IsSmallAct (row_act may_set).form
unfolding row_act
row_small may_set = every_either _ _ _ (insert_small may_set) (every_either _ _ _ (select_small may_set) alter_small)

explain_small : Every IsSmallAct explain.form
unfolding explain
explain_small = every_after _ _ _ (λ _. every_after _ _ _ (λ _. selected_small (λ table query. ended (Explain table query)) (λ table query. every_ended HasSmallCommand (Explain table query) tt)))

optimize_small : Every IsSmallAct optimize.form
unfolding optimize
optimize_small = every_after _ _ _ (λ _. every_after _ _ _ (λ _. every_after _ _ _ (λ table. every_after _ _ _ (λ partition. every_after _ _ _ (λ _. every_ended HasSmallCommand (Optimize table partition) tt)))))

-- two words, a table, and the end
table_small : (made : List ℕ → Act) → ((table : List ℕ) → HasSmallCommand (made table)) → (first second : List ℕ) → Every IsSmallAct (the first then λ _. the second then λ _. token a_word then λ table. ended (made table)).form
table_small made each first second = every_after _ _ _ (λ _. every_after _ _ _ (λ _. every_after _ _ _ (λ table. every_ended HasSmallCommand (made table) (each table))))

service_small : Every IsSmallAct service.form
unfolding service show_parts check_table wait_mutation system system_command sync_replica restart_replica stop_fetches start_fetches
service_small =
    every_either _ _ _ explain_small (every_either _ _ _ optimize_small
    (every_either _ _ _ (every_after _ _ _ (λ _. table_small (λ table. ShowParts table) (λ table. tt) (codes "parts") (codes "from")))
    (every_either _ _ _ (table_small (λ table. CheckTable table) (λ table. tt) (codes "check") (codes "table"))
    (every_either _ _ _ (every_after _ _ _ (λ _. every_after _ _ _ (λ _. every_after _ _ _ (λ table. every_after _ _ _ (λ id. every_ended HasSmallCommand (WaitMutation table id) tt)))))
    (every_after _ _ _ (λ _. every_either _ _ _ (table_small (λ table. SyncReplica table) (λ table. tt) (codes "sync") (codes "replica"))
    (every_either _ _ _ (table_small (λ table. RestartReplica table) (λ table. tt) (codes "restart") (codes "replica"))
    (every_either _ _ _ (table_small (λ table. StopFetches table) (λ table. tt) (codes "stop") (codes "fetches")) (table_small (λ table. StartFetches table) (λ table. tt) (codes "start") (codes "fetches"))))))))))

-- an ALTER that is read has a small command
pub act_small : Every IsSmallAct act.form
unfolding act
act_small = every_either _ _ _ (row_small true) service_small
