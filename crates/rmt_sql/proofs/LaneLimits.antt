-- At most 8 lanes are read, and the commands of their statements are small.
use Rattle.std.specs.List.{All}
use Rattle.std.proofs.Common.{◌≡◌, ℕ, zero, suc, ◌≤◌, ◌<◌, List, [], ◌∷◌, ◌++◌, length, inl, inr, sym, subst, arith, Bool, true, false, Option, None}
use Rattle.std.proofs.lemmas.Bool.{ltb-true}
use Rattle.std.proofs.lemmas.List.{length-append}
use Rattle.std.proofs.lemmas.List.Elements.{All-nil, All-push}
use Rattle.rmt_statements.specs.declared.act.Act.TheVariants.{Select}
use Rattle.rmt_statements.specs.declared.offered.Offered.TheVariants.{Values, Csv}
use Rattle.rmt_statements.specs.declared.sent.Sent.{Sent}
use Rattle.rmt_statements.specs.declared.statement.Statement.TheVariants.{Lanes}
use Rattle.rmt_sql_tokens.specs.Tokens.{Spot}
use Rattle.rmt_sql_tokens.specs.Exact.{Rule, Times, Many, always, item}
use Rattle.rmt_sql_acts.specs.Acts.{HasSmallCommand, insertion, values, csv, insert_rows, into, into_table, insert, query_of, sync_and_end, mode_of, select, alter, row_act, act}
use Rattle.rmt_sql_acts.proofs.LineFacts.{AreWithin, parts_within, Every, every_then, every_after, every_gives, every_either, every_many, every_ended}
use Rattle.rmt_sql_acts.proofs.ActSizes.{IsSmallAct, act_small}
use Rattle.rmt_sql.specs.Grammar.{sent, lane_statement, lane, may_follow, some_lanes, lanes}
use Rattle.rmt_sql.specs.Script.{KeepsLimits}

-- ---- the statements of a lane

-- the rows of an INSERT without SETTINGS
rows_small : (table : List ℕ) (columns : Option (List (List ℕ))) → Every IsSmallAct (insert_rows table columns None).form
unfolding insert_rows values csv
rows_small table columns =
    every_either _ _ _ (every_after _ _ _ (λ _. every_after _ _ _ (λ all. every_ended HasSmallCommand (insertion table columns None (Values all)) tt)))
    (every_after _ _ _ (λ _. every_after _ _ _ (λ _. every_after _ _ _ (λ bytes. every_ended HasSmallCommand (insertion table columns None (Csv bytes)) tt))))

-- what comes after INTO
into_small : Every IsSmallAct (into false).form
unfolding into
into_small = every_after _ _ _ (λ table. every_after _ _ _ (λ columns. rows_small table columns))

-- an INSERT without SETTINGS
insert_small : Every IsSmallAct (insert false).form
unfolding insert into_table
insert_small = every_after _ _ _ (λ _. every_after _ _ _ (λ _. every_either _ _ _ (every_after _ _ _ (λ _. into_small)) into_small))

-- a SELECT without SETTINGS
select_small : Every IsSmallAct (select false).form
unfolding select sync_and_end
select_small =
    every_after _ _ _ (λ _. every_after _ _ _ (λ list. every_after _ _ _ (λ table. every_after _ _ _ (λ f. every_after _ _ _ (λ g.
    every_after _ _ _ (λ mode. every_ended HasSmallCommand (Select table (query_of list f g) (mode_of mode)) tt))))))

-- an ALTER, which is an act
alter_small : Every IsSmallAct alter.form
unfolding act row_act
alter_small = record { each = λ ts a within h. act_small.each ts a within (inl (inr (inr h))) }

-- an act without SETTINGS
row_small : Every IsSmallAct (row_act false).form
unfolding row_act
row_small = every_either _ _ _ insert_small (every_either _ _ _ select_small alter_small)

-- the command of a statement is small
abbrev HasSmallAct : Sent → Type 0
HasSmallAct sent = HasSmallCommand sent.act

-- a statement of a lane
sent_small : Every HasSmallAct lane_statement.form
unfolding lane_statement
sent_small =
    every_then (λ s. HasSmallCommand s.0.act) _ (sent (row_act false)).form _
    (every_after _ _ _ (λ name. every_then IsSmallAct _ (row_act false).form _ row_small (λ a small. every_gives _ _ small)))
    (λ s small. every_gives _ _ small)

-- ---- lanes

-- one item more
item_all : {A : Type 0} (P : A → Type 0) (R : Rule A) → Every P R.form → (all : List A) → All P all → Every (All P) (item R all).form
item_all P R each all have = every_then P (All P) R.form _ each (λ a p. every_gives (All P) (all ++ a ∷ []) (All-push P all a have p))

-- a lane
lane_small : Every (All HasSmallAct) lane.form
unfolding lane
lane_small =
    every_then (All HasSmallAct) (All HasSmallAct) _ _
    (every_after _ _ _ (λ _. every_after _ _ _ (λ _. every_gives (All HasSmallAct) [] (All-nil HasSmallAct))))
    (λ none p. every_many (All HasSmallAct) always (λ all. (item lane_statement all).form) none (λ all q. item_all HasSmallAct lane_statement sent_small all q) p)

-- so many turns, each of which begins only where the guard lets it
turns_have : {S : Type 0} (P : S → Type 0) (may : S → Bool) (L : S → List Spot → S → Type 0) → ((m : S) → may m ≡ true → P m → Every P (L m))
    → (n : ℕ) (s : S) → P s → (ts : List Spot) (e : S) → AreWithin ts → Times may L n s ts e → P e
turns_have P may L each zero s p ts e within h = subst P (sym h.1) p
turns_have P may L each (suc n) s p ts e within h =
    let t = h.1 in
    let (one, two) = parts_within t.prefix t.rest (subst AreWithin (sym t.parts) within) in
    turns_have P may L each n t.value ((each s h.0 p).each t.prefix t.value one t.first) t.rest e two t.second

-- any number of such turns
every_guarded : {S : Type 0} (P : S → Type 0) (may : S → Bool) (L : S → List Spot → S → Type 0) (s : S) → ((m : S) → may m ≡ true → P m → Every P (L m)) → P s → Every P (Many may L s)
every_guarded P may L s each p = record { each = λ ts e within h. turns_have P may L each h.0 s p ts e within h.1 }

-- at most 8 lanes, in which the commands are small
abbrev KeepsLanes : List (List Sent) → Type 0
KeepsLanes lanes = (length lanes ≤ 8) × All (All HasSmallAct) lanes

-- one lane more
next_keeps : (all : List (List Sent)) → length all < 8 → All (All HasSmallAct) all → Every KeepsLanes (item lane all).form
next_keeps all few small =
    every_then (All HasSmallAct) KeepsLanes lane.form _ lane_small (λ one p.
    every_gives KeepsLanes (all ++ one ∷ []) (omega (arith, few, length-append all (one ∷ [])), All-push (All HasSmallAct) all one small p))

-- lane { lane }
some_keep : Every KeepsLanes some_lanes.form
unfolding some_lanes
some_keep =
    every_then KeepsLanes KeepsLanes (item lane []).form _ (next_keeps [] (omega arith) (All-nil (All HasSmallAct))) (λ first p.
    every_guarded KeepsLanes may_follow (λ all. (item lane all).form) first (λ all more q. next_keeps all (ltb-true (length all) 8 more) q.1) p)

-- LANES keeps the limits of its form
pub lanes_keep : Every (λ s. KeepsLimits s.0) lanes.form
unfolding lanes
lanes_keep =
    every_after _ _ _ (λ _. every_after _ _ _ (λ _. every_then KeepsLanes _ some_lanes.form _ some_keep (λ all p. every_after _ _ _ (λ _. every_ended KeepsLimits (Lanes all) p))))
