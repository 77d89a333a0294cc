-- A SELECT is read as its selection, and then what comes after it.
use Rattle.std.proofs.Common.{◌≡◌, ℕ, List, ◌∷◌, [], refl, Bool, true, false, Result, Ok, Err}
use Rattle.std.specs.Prelude.{codes}
use Rattle.rmt_values.specs.declared.query.Query.{Query}
use Rattle.rmt_statements.specs.declared.act.Act.{Act}
use Rattle.rmt_statements.specs.declared.act.Act.TheVariants.{Explain}
use Rattle.rmt_sql_tokens.specs.Tokens.{Spot}
use Rattle.rmt_sql_tokens.specs.Classes.{Exactly}
use Rattle.rmt_sql_tokens.specs.Singles.{a_word}
use Rattle.rmt_sql_tokens.specs.Exact.{◌>>=◌, Rule, token, maybe}
use Rattle.rmt_sql_acts.specs.Phrases.{the, word, where_filter, ended}
use Rattle.rmt_sql_acts.specs.Acts.{select_list_from, group_by, mode_and_end, sync_and_end, selected, select, indexes, explain}
use Rattle.rmt_sql_acts.specs.Views.{select_end, selection}

-- the next reader of one chain is that of another with a last reader after it
step : {A B C : Type 0} (m : Result A (List Spot)) (f : A → Result C (List Spot)) (g : A → Result B (List Spot)) (k : B → Result C (List Spot))
    → ((x : A) → f x ≡ (g x >>= k)) → (m >>= f) ≡ ((m >>= g) >>= k)
step (Ok x) f g k same = same x
step (Err e) f g k same = refl

-- readers that are alike may stand after the same one
alike : {A B : Type 0} (m : Result A (List Spot)) (f g : A → Result B (List Spot)) → ((x : A) → f x ≡ g x) → (m >>= f) ≡ (m >>= g)
alike (Ok x) f g same = same x
alike (Err e) f g same = refl

selected_read : (later : List ℕ → Query → Rule (Act × ℕ)) (ts : List Spot) → (selected later).read ts ≡ (selection.read ts >>= λ x. (later x.0.0 x.0.1).read x.1)
unfolding selection
selected_read later ts =
    step ((the (codes "select")).read ts) _ _ _ (λ a. step (select_list_from.read a.1) _ _ _ (λ b. step ((token a_word).read b.1) _ _ _ (λ c.
    step ((maybe (word (codes "where")) where_filter).read c.1) _ _ _ (λ d. step ((maybe (word (codes "group")) group_by).read d.1) _ _ _ (λ e. refl)))))

pub select_read : (may_set : Bool) (ts : List Spot) → (select may_set).read ts ≡ (selection.read ts >>= λ x. (select_end may_set x.0.0 x.0.1).read x.1)
unfolding select
select_read true ts = selected_read mode_and_end ts
select_read false ts = selected_read sync_and_end ts

pub explain_read : (ts : List Spot) → explain.read ts
    ≡ ((the (codes "explain")).read ts >>= λ a. ((maybe (Exactly (codes "indexes") ∷ []) indexes).read a.1 >>= λ b. (selection.read b.1 >>= λ x. (ended (Explain x.0.0 x.0.1)).read x.1)))
unfolding explain
explain_read ts =
    alike ((the (codes "explain")).read ts) _ _ (λ a. alike ((maybe (Exactly (codes "indexes") ∷ []) indexes).read a.1) _ _ (λ b. selected_read (λ table query. ended (Explain table query)) b.1))
