use Rattle.std.proofs.Common.{◌≡◌, ◌<◌, length, arith, Ok}
use Rattle.std.proofs.lemmas.Result.{err_from_is_err_and}
use Rattle.rmt_sql_tokens.specs.Lexing.{tokens}
use Rattle.rmt_sql_tokens.specs.Exact.{always, Fails}
use Rattle.rmt_sql_tokens.proofs.Loops.{left_stop, left_fails, left_on}
use Rattle.rmt_sql_acts.specs.Phrases.{further, comma}
use Rattle.rmt_sql_acts.proofs.PhraseLaws.{comma_takes}
use Rattle.rmt_sql_acts.proofs.list_item.more.Goals as goal

pub returns-in_default : goal.returns-in_default
returns-in_default g c = left_stop always comma (λ all. (further g.T.ListItem.rule all).read) c.items.all.items (tokens c.items.rest) _ c.items.invariant c.in_default.ensures

pub returns-in_err-rest : goal.returns-in_err-rest
returns-in_err-rest g c =
    let p = err_from_is_err_and c.from_residual.result c.from_residual.ensures.1 in
    let fails : Fails c.in_err-rest.field-0.0 ((further g.T.ListItem.rule c.items.all.items).read (tokens c.items.rest)) = rw c.in-Some.ensures.1 c.in_err-rest.ensures.reads in
    rw (p.1, p.2) (left_fails always comma (λ all. (further g.T.ListItem.rule all).read) c.items.all.items (tokens c.items.rest) _ c.in_err-rest.field-0.0 c.items.invariant c.in-Some.ensures.0 fails)

pub items-smaller : goal.items-smaller
items-smaller g c = omega (arith, comma_takes (tokens c.items.rest) (tokens c.in-Some.after) c.in-Some.ensures.1, c.in_ok-rest.ensures.takes)

pub items-preserved : goal.items-preserved
items-preserved g c =
    let read : (further g.T.ListItem.rule c.items.all.items).read (tokens c.items.rest) ≡ Ok (c.item.new.all.items, tokens c.in_ok-rest.rest) = rw c.in-Some.ensures.1 c.in_ok-rest.ensures.reads in
    let less : length (tokens c.in_ok-rest.rest) < length (tokens c.items.rest) = omega (arith, comma_takes (tokens c.items.rest) (tokens c.in-Some.after) c.in-Some.ensures.1, c.in_ok-rest.ensures.takes) in
    left_on always comma (λ all. (further g.T.ListItem.rule all).read) c.items.all.items (tokens c.items.rest) c.item.new.all.items (tokens c.in_ok-rest.rest) _ c.items.invariant less c.in-Some.ensures.0 read
