use Rattle.std.proofs.Common.{◌≡◌, ◌∙◌, Ok, sym, Bool, true, false, refl}
use Rattle.std.specs.Prelude.{◌&&◌}
use Rattle.std.proofs.lemmas.Result.{err_from_is_err_and}
use Rattle.rmt_sql_tokens.specs.Lexing.{tokens}
use Rattle.rmt_sql_tokens.specs.Classes.{next_among}
use Rattle.rmt_sql_tokens.specs.Exact.{never, Fails}
use Rattle.rmt_sql_tokens.proofs.Laws.{Law, law_then}
use Rattle.rmt_sql_tokens.proofs.Loops.{left_stop, left_fails, left_on, takes_some}
use Rattle.rmt_sql.specs.declared.settings.Settings.{Settings}
use Rattle.rmt_sql.specs.Grammar.{may_set, further_setting}
use Rattle.rmt_sql_acts.specs.Phrases.{comma}
use Rattle.rmt_sql_acts.proofs.PhraseLaws.{comma_law}
use Rattle.rmt_sql.proofs.CreateLaws.{setting_law}
use Rattle.rmt_sql.proofs.creates.more_settings.Goals as goal

first_false : (a b : Bool) → a ≡ false → a && b ≡ false
first_false a b h = rw h refl

second_false : (a b : Bool) → b ≡ false → a && b ≡ false
second_false true b h = h
second_false false b h = refl

both_true : (a b : Bool) → a ≡ true → b ≡ true → a && b ≡ true
both_true a b h k = rw h k

further_law : (s : Settings) → may_set s ≡ true → Law (further_setting s) never comma
further_law s may = law_then _ _ never comma comma_law (λ _. (setting_law s may).exact)

pub returns-then-not-may_go_on : goal.returns-then-not-may_go_on
returns-then-not-may_go_on c =
    left_stop may_set comma (λ s. (further_setting s).read) c.settings.settings (tokens c.settings.rest) _ c.settings.invariant
    (first_false (may_set c.settings.settings) (next_among comma (tokens c.settings.rest)) (sym c.may_go_on.ensures ∙ c.if-not-may_go_on.true))

pub returns-in_default : goal.returns-in_default
returns-in_default c =
    left_stop may_set comma (λ s. (further_setting s).read) c.settings.settings (tokens c.settings.rest) _ c.settings.invariant
    (second_false (may_set c.settings.settings) (next_among comma (tokens c.settings.rest)) c.in_default.ensures)

pub returns-in_err-set : goal.returns-in_err-set
returns-in_err-set c =
    let p = err_from_is_err_and c.from_residual.result c.from_residual.ensures.1 in
    let fails : Fails c.in_err-set.field-0.0 ((further_setting c.settings.settings).read (tokens c.settings.rest)) = rw c.in-Some.ensures.1 c.in_err-set.ensures in
    rw (p.1, p.2) (left_fails may_set comma (λ s. (further_setting s).read) c.settings.settings (tokens c.settings.rest) _ c.in_err-set.field-0.0 c.settings.invariant
    (both_true (may_set c.settings.settings) (next_among comma (tokens c.settings.rest)) (sym c.may_go_on.ensures ∙ c.if-not-may_go_on.false) c.in-Some.ensures.0) fails)

pub settings-smaller : goal.settings-smaller
settings-smaller c =
    let read : (further_setting c.settings.settings).read (tokens c.settings.rest) ≡ Ok (c.in_ok-set.set, tokens c.in_ok-set.later) = rw c.in-Some.ensures.1 c.in_ok-set.ensures in
    takes_some (further_setting c.settings.settings) never comma (further_law c.settings.settings (sym c.may_go_on.ensures ∙ c.if-not-may_go_on.false)) (tokens c.settings.rest) c.in_ok-set.set (tokens c.in_ok-set.later) read

pub settings-preserved : goal.settings-preserved
settings-preserved c =
    let may = sym c.may_go_on.ensures ∙ c.if-not-may_go_on.false in
    let read : (further_setting c.settings.settings).read (tokens c.settings.rest) ≡ Ok (c.in_ok-set.set, tokens c.in_ok-set.later) = rw c.in-Some.ensures.1 c.in_ok-set.ensures in
    let less = takes_some (further_setting c.settings.settings) never comma (further_law c.settings.settings may) (tokens c.settings.rest) c.in_ok-set.set (tokens c.in_ok-set.later) read in
    left_on may_set comma (λ s. (further_setting s).read) c.settings.settings (tokens c.settings.rest) c.in_ok-set.set (tokens c.in_ok-set.later) _ c.settings.invariant less
    (both_true (may_set c.settings.settings) (next_among comma (tokens c.settings.rest)) may c.in-Some.ensures.0) read
